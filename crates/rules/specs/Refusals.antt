-- "Refusal numbers": for each call its needs in the order in which they are
-- tested, as tests and as plain conditions. That a refusal is n if and only if condition n is the first of the call's list that holds is
-- proved (proofs/Exact).
use Rattle.std.specs.Prelude.{ℕ, ◌+◌, ◌*◌, ◌≤◌, ◌<◌, ◌≡◌, ◌⊎◌, true, not, ◌&&◌, List, [], ◌∷◌, ◌++◌, length, ltb, leb}
use Rattle.rules.specs.Tests.{Need, need, first_unmet}
use Rattle.rules.specs.Numbers.{berth_count, from_berth, most_data, least_buffer, out_of_order, wrong_store, wrong_identifier, too_many_bytes, no_such_berth, empty_message, message_too_long, already_sending, short_buffer, bad_setting, wrong_cards, unknown_parameter, value_outside, already_receiving, no_such_party}
use Rattle.rules.specs.Parties.{party_allowed}
use Rattle.rules.specs.Nodes.{berth_at, Held}
use Rattle.rules.specs.Ranges.{settings_allowed, SettingsRange, in_order, InOrder}
use Rattle.rules.specs.Turns.{busy}
use Rattle.rules.specs.Changes.{known, value_allowed, ValueRange}
use Rattle.rules.specs.Events.{Call, frame, tick, send, turn, show, change}
use Rattle.rules.specs.Stores.{right_store}
use Rattle.rules.specs.Cards.{right_cards, under_way}
use Rattle.rules.specs.declared.Node.{Node}

-- what frame, send and turn need first: the node is in order, and the store has ten areas
abbrev pub order_and_store : Node → List ℕ → List Need
order_and_store n store = need out_of_order (in_order n) ∷ need wrong_store (right_store n store) ∷ []

-- the needs of each call; show has none, it answers with an empty part
unfoldable pub needs : Held → Call → List Need
needs h (frame id d) =
    order_and_store h.node h.incoming
    ++ (need wrong_cards (right_cards h.cards)
    ∷ need wrong_identifier (leb from_berth id && ltb id (from_berth + berth_count))
    ∷ need too_many_bytes (leb (length d) most_data)
    ∷ [])
needs h tick = need out_of_order (in_order h.node) ∷ need wrong_cards (right_cards h.cards) ∷ []
needs h (send k party m) =
    order_and_store h.node h.outgoing
    ++ (need no_such_berth (ltb k berth_count)
    ∷ need no_such_party (party_allowed party)
    ∷ need empty_message (ltb 0 (length m))
    ∷ need message_too_long (leb (length m) h.node.settings.area)
    ∷ need already_sending (not (busy (berth_at h.node k).tx))
    ∷ [])
needs h (turn buffer) =
    order_and_store h.node h.outgoing
    ++ (need wrong_cards (right_cards h.cards) ∷ need short_buffer (leb least_buffer (length buffer)) ∷ [])
needs h (show k choice) = []
needs h (change k parameter value) =
    need out_of_order (in_order h.node)
    ∷ need no_such_berth (ltb k berth_count)
    ∷ need unknown_parameter (known parameter)
    ∷ need value_outside (value_allowed parameter value)
    ∷ need already_receiving (not (under_way (berth_at h.node k).rx))
    ∷ []

unfoldable pub refusal : Held → Call → ℕ
refusal h c = first_unmet (needs h c)

unfoldable pub set_up_refusal : ℕ → ℕ → ℕ → ℕ
set_up_refusal a bs stmin = first_unmet (need bad_setting (settings_allowed a bs stmin) ∷ [])

-- ---- the same table in plain conditions: number and when

pub record Condition : Type 1 where
  pub number : ℕ
  pub when : Type 0

abbrev pub condition : ℕ → Type 0 → Condition
condition n P = record { number = n; when = P }

abbrev pub conditions : Held → Call → List Condition
conditions h (frame id d) =
    condition 1 (InOrder h.node → ⊥)
    ∷ condition 2 (length h.incoming ≡ 10 * h.node.settings.area → ⊥)
    ∷ condition 12 (length h.cards ≡ 10 → ⊥)
    ∷ condition 3 ((0x640 ≤ id) × (id ≤ 0x649) → ⊥)
    ∷ condition 4 (8 < length d)
    ∷ []
conditions h tick = condition 1 (InOrder h.node → ⊥) ∷ condition 12 (length h.cards ≡ 10 → ⊥) ∷ []
conditions h (send k party m) =
    condition 1 (InOrder h.node → ⊥)
    ∷ condition 2 (length h.outgoing ≡ 10 * h.node.settings.area → ⊥)
    ∷ condition 5 (9 < k)
    ∷ condition 18 (1 < party)
    ∷ condition 6 (length m ≡ 0)
    ∷ condition 7 (h.node.settings.area < length m)
    ∷ condition 8 (busy (berth_at h.node k).tx ≡ true)
    ∷ []
conditions h (turn buffer) =
    condition 1 (InOrder h.node → ⊥)
    ∷ condition 2 (length h.outgoing ≡ 10 * h.node.settings.area → ⊥)
    ∷ condition 12 (length h.cards ≡ 10 → ⊥)
    ∷ condition 9 (length buffer < 8)
    ∷ []
conditions h (show k choice) = []
conditions h (change k parameter value) =
    condition 1 (InOrder h.node → ⊥)
    ∷ condition 5 (9 < k)
    ∷ condition 13 (1 < parameter)
    ∷ condition 14 (ValueRange parameter value → ⊥)
    ∷ condition 15 (under_way (berth_at h.node k).rx ≡ true)
    ∷ []

abbrev pub set_up_conditions : ℕ → ℕ → ℕ → List Condition
set_up_conditions a bs stmin = condition 10 (SettingsRange a bs stmin → ⊥) ∷ []

-- condition n of a call's list holds
abbrev pub Holds : List Condition → ℕ → Type 0
Holds [] n = ⊥
Holds (c ∷ cs) n = ((n ≡ c.number) × c.when) ⊎ Holds cs n

-- condition n holds and no earlier one of the list does
abbrev pub Refuses : List Condition → ℕ → Type 0
Refuses [] n = ⊥
Refuses (c ∷ cs) n = ((n ≡ c.number) × c.when) ⊎ ((c.when → ⊥) × Refuses cs n)
