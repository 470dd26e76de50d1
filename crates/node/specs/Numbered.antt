-- A refusal hangs on plain numbers alone: whether the node is in order, the area, lengths and numbers given, of a send the send side, of a
-- change the receive side. At a node these are the refusals of the papers (proofs/Numbered).
use Rattle.std.specs.Prelude.{ℕ, ◌+◌, ◌*◌, Bool, not, ◌&&◌, List, [], ◌∷◌, ◌++◌, ltb, leb, eqb}
use Rattle.rules.specs.Tests.{Need, need, first_unmet}
use Rattle.rules.specs.Numbers.{berth_count, from_berth, most_data, least_buffer, out_of_order, wrong_store, wrong_identifier, too_many_bytes, no_such_berth, empty_message, message_too_long, already_sending, short_buffer, wrong_cards, unknown_parameter, value_outside, already_receiving, no_such_party}
use Rattle.rules.specs.Parties.{party_allowed}
use Rattle.rules.specs.Turns.{busy}
use Rattle.rules.specs.Changes.{known, value_allowed}
use Rattle.rules.specs.Cards.{under_way}
use Rattle.rules.specs.declared.Rx.{Rx}
use Rattle.rules.specs.declared.Tx.{Tx}

-- ---- refusals: of a store and a message only the lengths count

-- a store is exactly 10 x A bytes
abbrev pub is_store : ℕ → ℕ → Bool
is_store area store = eqb store (berth_count * area)

abbrev pub order_and_store_needs : Bool → ℕ → ℕ → List Need
order_and_store_needs ordered area store = need out_of_order ordered ∷ need wrong_store (is_store area store) ∷ []

-- a list is exactly ten cards
abbrev pub are_ten : ℕ → Bool
are_ten cards = eqb cards berth_count

unfoldable pub frame_refusal : Bool → (area store cards id size : ℕ) → ℕ
frame_refusal ordered area store cards id size =
    first_unmet
    (order_and_store_needs ordered area store
    ++ (need wrong_cards (are_ten cards)
    ∷ need wrong_identifier (leb from_berth id && ltb id (from_berth + berth_count))
    ∷ need too_many_bytes (leb size most_data)
    ∷ []))

unfoldable pub tick_refusal : Bool → ℕ → ℕ
tick_refusal ordered cards = first_unmet (need out_of_order ordered ∷ need wrong_cards (are_ten cards) ∷ [])

unfoldable pub send_refusal : Bool → ℕ → Tx → (store k party length : ℕ) → ℕ
send_refusal ordered area tx store k party length =
    first_unmet
    (order_and_store_needs ordered area store
    ++ (need no_such_berth (ltb k berth_count)
    ∷ need no_such_party (party_allowed party)
    ∷ need empty_message (ltb 0 length)
    ∷ need message_too_long (leb length area)
    ∷ need already_sending (not (busy tx))
    ∷ []))

unfoldable pub turn_refusal : Bool → (area store cards room : ℕ) → ℕ
turn_refusal ordered area store cards room =
    first_unmet
    (order_and_store_needs ordered area store ++ (need wrong_cards (are_ten cards) ∷ need short_buffer (leb least_buffer room) ∷ []))

unfoldable pub change_refusal : Bool → Rx → (k parameter value : ℕ) → ℕ
change_refusal ordered rx k parameter value =
    first_unmet
    (need out_of_order ordered
    ∷ need no_such_berth (ltb k berth_count)
    ∷ need unknown_parameter (known parameter)
    ∷ need value_outside (value_allowed parameter value)
    ∷ need already_receiving (not (under_way rx))
    ∷ [])

unfoldable pub can_show : Bool → (area incoming outgoing k : ℕ) → Bool
can_show ordered area incoming outgoing k = ordered && (is_store area incoming && (is_store area outgoing && ltb k berth_count))
