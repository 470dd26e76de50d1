-- The node and what is lent with it: a berth's own settings, a fresh berth, berth k's part of the node, and each record with one
-- part anew. The rules build a berth, a node and what is lent here and at set-up and nowhere else, so that a new field is one line; the
-- tables and examples write their own starts out.
use Rattle.std.specs.Prelude.{ℕ, List, get_or, set, replicate}
use Rattle.rules.specs.Numbers.{berth_count}
use Rattle.rules.specs.declared.BerthSettings.{BerthSettings}
use Rattle.rules.specs.declared.Rx.{Rx}
use Rattle.rules.specs.declared.Tx.{Tx}
use Rattle.rules.specs.declared.Berth.{Berth}
use Rattle.rules.specs.declared.Node.{Node}
use Rattle.rules.specs.declared.Card.{Card}

-- ---- a berth's own settings

-- settings 0, and settings with one of the two anew
abbrev pub zero_settings : BerthSettings
zero_settings = record { block = 0; stmin = 0 }

abbrev pub with_block : BerthSettings → ℕ → BerthSettings
with_block s block = record { block = block; stmin = s.stmin }

abbrev pub with_stmin : BerthSettings → ℕ → BerthSettings
with_stmin s stmin = record { block = s.block; stmin = stmin }

-- ---- one berth

-- a berth with these settings, both sides idle and nothing arrived; and with settings 0
abbrev pub fresh_with : BerthSettings → Berth
fresh_with s = record { rx = Rx.Idle; last = 0; tx = Tx.Idle; settings = s }

abbrev pub fresh : Berth
fresh = fresh_with zero_settings

-- a berth with its receive side and last length anew, with its send side anew, and with its settings anew
abbrev pub with_rx : Berth → Rx → ℕ → Berth
with_rx b rx last = record { rx = rx; last = last; tx = b.tx; settings = b.settings }

abbrev pub with_tx : Berth → Tx → Berth
with_tx b tx = record { rx = b.rx; last = b.last; tx = tx; settings = b.settings }

abbrev pub with_settings : Berth → BerthSettings → Berth
with_settings b s = record { rx = b.rx; last = b.last; tx = b.tx; settings = s }

-- ---- the node

-- a node that no set-up has filled: settings 0, ten fresh berths
abbrev pub blank_node : Node
blank_node = record { settings = record { area = 0 }; served = 0; berths = replicate berth_count fresh }

-- berth k's part of the node
unfoldable pub berth_at : Node → ℕ → Berth
berth_at n k = get_or n.berths k fresh

-- the node with its berths anew, with one berth anew, and with the berth served last anew
abbrev pub with_berths : Node → List Berth → Node
with_berths n bs = record { settings = n.settings; served = n.served; berths = bs }

unfoldable pub with_berth : Node → ℕ → Berth → Node
with_berth n k b = with_berths n (set n.berths k b)

abbrev pub with_served : Node → ℕ → Node
with_served n k = record { settings = n.settings; served = k; berths = n.berths }

-- ---- what the calls are lent: the node, the two stores and the cards

pub record Held : Type 0 where
  pub node : Node
  pub incoming : List ℕ
  pub outgoing : List ℕ
  pub cards : List Card

-- with one of the four anew
abbrev pub with_node : Held → Node → Held
with_node h n = record { node = n; incoming = h.incoming; outgoing = h.outgoing; cards = h.cards }

abbrev pub with_incoming : Held → List ℕ → Held
with_incoming h store = record { node = h.node; incoming = store; outgoing = h.outgoing; cards = h.cards }

abbrev pub with_outgoing : Held → List ℕ → Held
with_outgoing h store = record { node = h.node; incoming = h.incoming; outgoing = store; cards = h.cards }

abbrev pub with_cards : Held → List Card → Held
with_cards h cards = record { node = h.node; incoming = h.incoming; outgoing = h.outgoing; cards = cards }
