-- What a refusal hangs on: over plain numbers it is what the rules ask of the node that they are of, need by need.
use Prim.Native.Nat.{ℕ, ◌≤◌, ◌<◌}
use mathlib.Core.Path.{◌≡◌, refl}
use mathlib.Core.List.{List}
use lib.ListN.{length}
use lib.Dec.{ltb}
use Rattle.rules.specs.Tests.{first_unmet}
use Rattle.rules.specs.Numbers.{berth_count}
use Rattle.rules.specs.Nodes.{berth_at}
use Rattle.rules.specs.Ranges.{in_order}
use Rattle.rules.specs.Stores.{right_store}
use Rattle.rules.specs.Cards.{right_cards}
use Rattle.rules.specs.Events.{frame, tick, send, turn, change}
use Rattle.rules.specs.Refusals.{refusal, needs}
use Rattle.rules.specs.Calls.{showable}
use Rattle.rules.specs.declared.Node.{Node}
use Rattle.rules.specs.declared.Card.{Card}
use Rattle.rules.specs.declared.Rx.{Rx}
use Rattle.rules.specs.declared.Tx.{Tx}
use Rattle.rules.proofs.Cases.{Tested, holds, fails, ltb-cases}
use Rattle.node.specs.Promises.{lent}
use Rattle.node.specs.Numbered.{frame_refusal, tick_refusal, send_refusal, turn_refusal, change_refusal, can_show}

module _ (n : Node) where
  pub frame_found : (cards : List Card) (incoming outgoing : List ℕ) (id : ℕ) (d : List ℕ)
      → frame_refusal (in_order n) n.settings.area (length incoming) (length cards) id (length d)
      ≡ refusal (lent n cards incoming outgoing) (frame id d)
  unfolding frame_refusal refusal needs right_store right_cards
  frame_found cards incoming outgoing id d = refl

  pub tick-found : (cards : List Card) (incoming outgoing : List ℕ)
      → tick_refusal (in_order n) (length cards) ≡ refusal (lent n cards incoming outgoing) tick
  unfolding tick_refusal refusal needs right_cards
  tick-found cards incoming outgoing = refl

  -- the send side is berth k's, where there is one
  pub send-found : (tx : Tx) (k party : ℕ) (outgoing m : List ℕ) → (k < berth_count → tx ≡ (berth_at n k).tx) → (cards : List Card) (incoming : List ℕ)
      → send_refusal (in_order n) n.settings.area tx (length outgoing) k party (length m) ≡ refusal (lent n cards incoming outgoing) (send k party m)
  unfolding send_refusal refusal needs right_store first_unmet
  send-found tx k party outgoing m side cards incoming = go (ltb-cases k berth_count)
    where
      go : Tested (ltb k berth_count) (k < berth_count) (berth_count ≤ k)
          → send_refusal (in_order n) n.settings.area tx (length outgoing) k party (length m) ≡ refusal (lent n cards incoming outgoing) (send k party m)
      go (holds e l) = rw (side l)
      go (fails e l) = rw e

  pub turn-found : (cards : List Card) (incoming outgoing buffer : List ℕ)
      → turn_refusal (in_order n) n.settings.area (length outgoing) (length cards) (length buffer)
      ≡ refusal (lent n cards incoming outgoing) (turn buffer)
  unfolding turn_refusal refusal needs right_store right_cards
  turn-found cards incoming outgoing buffer = refl

  -- the receive side is berth k's, where there is one
  pub change-found : (rx : Rx) (k parameter value : ℕ) → (k < berth_count → rx ≡ (berth_at n k).rx) → (cards : List Card) (incoming outgoing : List ℕ)
      → change_refusal (in_order n) rx k parameter value ≡ refusal (lent n cards incoming outgoing) (change k parameter value)
  unfolding change_refusal refusal needs first_unmet
  change-found rx k parameter value side cards incoming outgoing = go (ltb-cases k berth_count)
    where
      go : Tested (ltb k berth_count) (k < berth_count) (berth_count ≤ k)
          → change_refusal (in_order n) rx k parameter value ≡ refusal (lent n cards incoming outgoing) (change k parameter value)
      go (holds e l) = rw (side l)
      go (fails e l) = rw e

  pub show-found : (cards : List Card) (incoming outgoing : List ℕ) (k : ℕ)
      → can_show (in_order n) n.settings.area (length incoming) (length outgoing) k ≡ showable (lent n cards incoming outgoing) k
  unfolding can_show showable right_store
  show-found cards incoming outgoing k = refl
