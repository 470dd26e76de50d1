-- One berth alone: its part of the node, of the two stores and of the cards, its own events, and what a run of them leaves and says.
use Rattle.std.specs.Prelude.{ℕ, List, [], ◌∷◌, length}
use Rattle.std.proofs.lemmas.List.Edits.{sets}
use Rattle.rules.specs.Nodes.{berth_at, Held}
use Rattle.rules.specs.Arrivals.{frame_came}
use Rattle.rules.specs.Ticks.{ticked, rx_code, tx_code, tx_party}
use Rattle.rules.specs.Turns.{hand_over, sent}
use Rattle.rules.specs.Changes.{changed}
use Rattle.rules.specs.Stores.{area_of}
use Rattle.rules.specs.Events.{Event, arrives, ticks, sends, turns, changes}
use Rattle.rules.specs.Cards.{card_at, added, adds}
use Rattle.rules.specs.declared.Settings.{Settings}
use Rattle.rules.specs.declared.Party.{Party}
use Rattle.rules.specs.declared.Berth.{Berth}
use Rattle.rules.specs.declared.Card.{Card}
use Rattle.rules.specs.Words.{Word}

-- berth k's state, its two areas and its card
pub record Part : Type 0 where
  pub berth : Berth
  pub incoming : List ℕ
  pub outgoing : List ℕ
  pub card : Card

unfoldable pub part_of : ℕ → Held → Part
part_of k h =
    record {
      berth = berth_at h.node k;
      incoming = area_of h.node.settings.area k h.incoming;
      outgoing = area_of h.node.settings.area k h.outgoing;
      card = card_at h.cards k;
    }

-- what a berth says at an event: old code and word; the codes of its two sides, and the party; that it takes the message; frame, code and
-- party; that it takes the setting
pub data Says : Type 0 where
  hears : ℕ → Word → Says
  expires : ℕ → ℕ → Party → Says
  accepts : Says
  hands : List ℕ → ℕ → Party → Says
  adopts : Says

-- a part with its state anew, with one of its areas anew, and with its card anew
abbrev pub with_state : Part → Berth → Part
with_state p b = record { berth = b; incoming = p.incoming; outgoing = p.outgoing; card = p.card }

abbrev pub with_incoming_area : Part → List ℕ → Part
with_incoming_area p area = record { berth = p.berth; incoming = area; outgoing = p.outgoing; card = p.card }

abbrev pub with_outgoing_area : Part → List ℕ → Part
with_outgoing_area p area = record { berth = p.berth; incoming = p.incoming; outgoing = area; card = p.card }

abbrev pub with_card : Part → Card → Part
with_card p card = record { berth = p.berth; incoming = p.incoming; outgoing = p.outgoing; card = card }

-- the state and the areas after an event
unfoldable pub state_after : Settings → Part → Event → Part
state_after s p (arrives d) =
    with_incoming_area (with_state p (frame_came s p.berth d).berth)
    (sets p.incoming (frame_came s p.berth d).place (frame_came s p.berth d).bytes)
state_after s p ticks = with_state p (ticked p.berth)
state_after s p (sends party m) = with_outgoing_area (with_state p (sent p.berth (length m) party)) (sets p.outgoing 0 m)
state_after s p turns = with_state p (hand_over p.berth p.outgoing).berth
state_after s p (changes parameter value) = with_state p (changed p.berth parameter value)

-- and the card with what the event adds
unfoldable pub part_after : Settings → Part → Event → Part
part_after s p e = with_card (state_after s p e) (added p.card (adds s p.berth p.outgoing e))

unfoldable pub says : Settings → Part → Event → Says
says s p (arrives d) = hears (frame_came s p.berth d).old (frame_came s p.berth d).word
says s p ticks = expires (rx_code p.berth.rx) (tx_code p.berth.tx) (tx_party p.berth.tx)
says s p (sends party m) = accepts
says s p turns =
    hands (hand_over p.berth p.outgoing).frame (hand_over p.berth p.outgoing).code (hand_over p.berth p.outgoing).party
says s p (changes parameter value) = adopts

-- a run of events on the berth alone
unfoldable pub alone : Settings → Part → List Event → Part
alone s p [] = p
alone s p (e ∷ es) = alone s (part_after s p e) es

unfoldable pub says_all : Settings → Part → List Event → List Says
says_all s p [] = []
says_all s p (e ∷ es) = says s p e ∷ says_all s (part_after s p e) es

-- what holds of the berth's part before each event of a run
unfoldable pub AtEach : (Settings → Part → Event → Type 0) → Settings → Part → List Event → Type 0
AtEach P s p [] = Unit {0}
AtEach P s p (e ∷ es) = P s p e × AtEach P s (part_after s p e) es
