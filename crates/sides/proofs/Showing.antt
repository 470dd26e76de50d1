-- Where a message can be shown, the part of a store that is taken lies within the berth's area, and is what the rules show.
use Prim.Native.Nat.{ℕ, ◌+◌, ◌-◌, ◌*◌, ◌≤◌}
use mathlib.Core.Path.{◌≡◌}
use mathlib.Core.Bool.{true}
use mathlib.Core.List.{List, []}
use lib.ListN.{length, take, drop}
use Rattle.rules.specs.Numbers.{berth_count}
use Rattle.rules.specs.Nodes.{berth_at}
use Rattle.rules.specs.Turns.{length_sending}
use Rattle.rules.specs.Calls.{showable, chosen}
use Rattle.rules.specs.declared.Choice.{Choice}
use Rattle.rules.specs.declared.Node.{Node}
use Rattle.rules.specs.declared.Card.{Card}
use Rattle.node.specs.Promises.{lent, ShowPromise}
use Rattle.node.proofs.Shows.{shown-fits, Able, able, shows}

module _ (n : Node) (incoming outgoing : List ℕ) (k : ℕ) (choice : Choice)
    (yes : (cards : List Card) → showable (lent n cards incoming outgoing) k ≡ true)
    (len : ℕ) (is : len ≡ chosen choice (berth_at n k).last (length_sending (berth_at n k).tx)) where
  can : Able n incoming outgoing k
  can = able n incoming outgoing k [] (yes [])

  within : len ≤ n.settings.area
  within = rw is (shown-fits n.settings (berth_at n k) choice can.order.settings.area-least (can.order.berth k can.mine))

  pub fits : (len ≤ n.settings.area) × (length incoming ≡ berth_count * n.settings.area) × (length outgoing ≡ berth_count * n.settings.area)
  fits = (within, can.incoming-right, can.outgoing-right)

  -- the part of the store that is chosen, from where the area starts
  pub part : (in_at out_at : ℕ × ℕ) (one : Choice) → choice ≡ one → (start : ℕ) → start ≡ k * n.settings.area
      → ShowPromise n incoming outgoing k choice (take (start + len - start) (drop start (chosen one incoming outgoing)))
      in_at out_at ((chosen one in_at out_at).0, start + (chosen one in_at out_at).1)
  part in_at out_at one same start e = shows n incoming outgoing k in_at out_at choice one start len same e yes is within
