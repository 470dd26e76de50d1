-- The round: passed over is the least distance of a due berth, so it is at most that of each due berth, it is that of the berth
-- reached, and a turn starts after the berth served last.
use mathlib.Core.Path.{◌≡◌, sym, ap, ◌∙◌}
use Prim.Native.Nat.{ℕ, zero, suc, ◌+◌, ◌-◌, ◌%◌, ◌≤◌, ◌<◌}
use native.Mathlib.Omega.{arith}
use native.Mathlib.Nat.{mod-lt, zero-add, add-zero}
use mathlib.Core.Bool.{not}
use mathlib.Core.List.{List, [], ◌∷◌}
use lib.ListN.{length, get_or}
use lib.Dec.{T, ltb, lit<}
use Rattle.rules.specs.Tests.{pick}
use Rattle.rules.specs.Numbers.{berth_count}
use Rattle.rules.specs.Nodes.{fresh, berth_at}
use Rattle.rules.specs.Ranges.{InOrder}
use Rattle.rules.specs.Turns.{due}
use Rattle.rules.specs.Stores.{distance, least_distance, passed_over, reached}
use Rattle.rules.specs.declared.Berth.{Berth}
use Rattle.rules.specs.declared.Node.{Node}
use Rattle.rules.proofs.Cases.{Tested, holds, fails, test-cases, ltb-cases, is_true}

-- ---- arithmetic of the circle

pub near : (served k : ℕ) → distance served k < berth_count
unfolding distance
near served k = mod-lt (k + 9 - served) (lit< tt)

-- the berth at its distance from the one served last is the berth itself
pub there : (served k : ℕ) → served < berth_count → k < berth_count → (served + 1 + distance served k) % berth_count ≡ k
unfolding distance
there served k a b = omega arith

-- and the berth that is probed after so many stands at that distance
pub stands : (served p : ℕ) → served < berth_count → p < berth_count → distance served ((served + 1 + p) % berth_count) ≡ p
unfolding distance
stands served p a b = omega arith

-- ---- the least distance

least-most : (served : ℕ) (bs : List Berth) (k j : ℕ) → j < length bs → T (due (get_or bs j fresh))
    → least_distance served k bs ≤ distance served (k + j)
unfolding least_distance
least-most served [] k j h t = absurd (omega arith)
least-most served (b ∷ bs) k zero h t =
    let e : distance served (k + 0) ≡ distance served k = ap (distance served) (omega arith) in
    rw (is_true (due b) t) (omega arith)
least-most served (b ∷ bs) k (suc j) h t =
    let i = least-most served bs (suc k) j (omega arith) t in
    let e : distance served (k + suc j) ≡ distance served (suc k + j) = ap (distance served) (omega arith) in
    omega arith

-- where a berth is due, the least distance is that of a due berth
record Found (served k : ℕ) (bs : List Berth) : Type 0 where
  at : ℕ
  among : at < length bs
  is-due : T (due (get_or bs at fresh))
  is-least : least_distance served k bs ≡ distance served (k + at)

found : (served : ℕ) (bs : List Berth) (k : ℕ) → least_distance served k bs < berth_count → Found served k bs
unfolding least_distance
found served [] k h = absurd (omega arith)
found served (b ∷ bs) k h = go (test-cases (due b)) (ltb-cases (least_distance served (suc k) bs) (pick (due b) (distance served k) berth_count)) (found served bs (suc k))
  where
    go : Tested (due b) (T (due b)) (T (not (due b)))
        → Tested (ltb (least_distance served (suc k) bs) (pick (due b) (distance served k) berth_count)) (least_distance served (suc k) bs < pick (due b) (distance served k) berth_count) (pick (due b) (distance served k) berth_count ≤ least_distance served (suc k) bs)
        → (least_distance served (suc k) bs < berth_count → Found served (suc k) bs) → Found served k (b ∷ bs)
    go w (holds e l) ih =
        let f = ih (omega arith) in
        let q : distance served (k + suc f.at) ≡ distance served (suc k + f.at) = ap (distance served) (omega arith) in
        let z = f.is-least in
        record { at = suc f.at; among = omega (arith, f.among); is-due = f.is-due; is-least = omega arith }
    go (holds t u) (fails e l) ih =
        let q : distance served (k + 0) ≡ distance served k = ap (distance served) (omega arith) in
        let m : pick (due b) (distance served k) berth_count ≡ distance served k = rw t in
        record { at = 0; among = omega arith; is-due = u; is-least = omega arith }
    go (fails t u) (fails e l) ih =
        let m : pick (due b) (distance served k) berth_count ≡ berth_count = rw t in
        absurd (omega arith)

pub least-ten : (served k : ℕ) (bs : List Berth) → least_distance served k bs ≤ berth_count
unfolding least_distance
least-ten served k [] = omega arith
least-ten served k (b ∷ bs) = let l = least-ten served (suc k) bs in omega arith

-- ---- the node

-- at most ten are passed over, so None passes over ten
pub passed-ten : (n : Node) → passed_over n ≤ berth_count
unfolding passed_over
passed-ten n = least-ten _ 0 n.berths

module _ (n : Node) (o : InOrder n) where
  -- PASSED OVER is at most the distance of any due berth
  pub passed-most : (k : ℕ) → k < berth_count → T (due (berth_at n k)) → passed_over n ≤ distance n.served k
  unfolding passed_over berth_at
  passed-most k h t = let ten = o.ten in rw zero-add at (least-most n.served n.berths 0 k (omega arith) t)

  -- THE BERTH REACHED is due, and passed over is its distance
  pub reached-due : passed_over n < berth_count → T (due (berth_at n (reached n))) × (passed_over n ≡ distance n.served (reached n))
  unfolding passed_over reached berth_at
  reached-due h =
      let f = found n.served n.berths 0 h in
      let ten = o.ten in
      let among = f.among in
      let least : passed_over n ≡ distance n.served f.at = rw zero-add at f.is-least in
      let e : reached n ≡ f.at = ap (λ (x : ℕ). (n.served + 1 + x) % berth_count) least ∙ there n.served f.at o.served (omega arith) in
      (rw e f.is-due, least ∙ ap (distance n.served) (sym e))

  -- THE TURN STARTS AFTER THE BERTH SERVED LAST: where the next one is due it is served, and none is passed over
  pub next-first : T (due (berth_at n ((n.served + 1) % berth_count)))
      → (passed_over n ≡ 0) × (reached n ≡ (n.served + 1) % berth_count)
  unfolding reached
  next-first t =
      let m = passed-most ((n.served + 1) % berth_count) (mod-lt (n.served + 1) (lit< tt)) t in
      let z : distance n.served ((n.served + 1) % berth_count) ≡ 0 = rw add-zero at (stands n.served 0 o.served (lit< tt)) in
      let e : passed_over n ≡ 0 = omega arith in
      (e, omega arith)
