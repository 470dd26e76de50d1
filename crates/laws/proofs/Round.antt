-- The round while berth k is due: some berth is reached, and after a turn of another berth k is nearer.
use mathlib.Core.Path.{◌≡◌}
use Prim.Native.Nat.{ℕ, ◌+◌, ◌%◌, ◌≤◌, ◌<◌}
use native.Mathlib.Omega.{arith}
use lib.Dec.{T}
use Rattle.rules.specs.Numbers.{berth_count}
use Rattle.rules.specs.Nodes.{berth_at}
use Rattle.rules.specs.Ranges.{InOrder}
use Rattle.rules.specs.Turns.{due}
use Rattle.rules.specs.Stores.{distance, passed_over, reached}
use Rattle.rules.specs.declared.Node.{Node}
use Rattle.rules.proofs.Round.{near, passed-most}

falls : (served k p : ℕ) → served < berth_count → k < berth_count → p ≤ distance served k
    → ((served + 1 + p) % berth_count ≡ k → ⊥) → distance ((served + 1 + p) % berth_count) k < distance served k
unfolding distance
falls served k p a b h ne = omega arith

module _ (n : Node) (o : InOrder n) (k : ℕ) (small : k < berth_count) (is-due : T (due (berth_at n k))) where
  pub some-reached : passed_over n < berth_count
  some-reached = omega (arith, passed-most n o k small is-due, near n.served k)

  pub nearer : (reached n ≡ k → ⊥) → distance (reached n) k < distance n.served k
  unfolding reached
  nearer ne = falls n.served k (passed_over n) o.served small (passed-most n o k small is-due) ne
