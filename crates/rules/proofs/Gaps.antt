-- What gap each STmin gives: from the branches of `ticks_meant`, and one more where it is above 0.
use mathlib.Core.Path.{◌≡◌, refl}
use mathlib.Core.Logic.{inl, inr}
use Prim.Native.Nat.{ℕ, ◌+◌, ◌≤◌, ◌<◌}
use native.Mathlib.Omega.{arith}
use mathlib.Core.Bool.{◌&&◌}
use lib.Dec.{eqb, leb}
use Rattle.rules.specs.Numbers.{longest_gap, most_millis, least_fraction, most_fraction}
use Rattle.rules.specs.Ranges.{StminRange}
use Rattle.rules.specs.Frames.{ticks_meant, gap_of}
use Rattle.rules.proofs.Cases.{eqb-not, leb-is, leb-not, split, tests, pick-either}

-- a peer's STmin means at most 127 ticks
pub meant-most : (stmin : ℕ) → ticks_meant stmin ≤ most_millis
unfolding ticks_meant
meant-most stmin =
    pick-either (λ (k : ℕ). k ≤ most_millis) (leb stmin most_millis) _ _ (λ t. omega tests)
    (λ t. pick-either (λ (k : ℕ). k ≤ most_millis) (leb least_fraction stmin && leb stmin most_fraction) _ _ (λ u. omega arith) (λ u. omega arith))

-- so its gap is at most the longest
pub gap-small : (stmin : ℕ) → gap_of stmin ≤ longest_gap
unfolding gap_of
gap-small stmin =
    pick-either (λ (k : ℕ). k ≤ longest_gap) (eqb (ticks_meant stmin) 0) _ _ (λ t. omega arith) (λ t. omega (arith, meant-most stmin))

-- A GAP OF n TICKS ABOVE 0 IS n + 1
pub gap-longer : (stmin : ℕ) → 0 < ticks_meant stmin → gap_of stmin ≡ ticks_meant stmin + 1
unfolding gap_of
gap-longer stmin some = rw (eqb-not (ticks_meant stmin) 0 (λ e. omega arith))

-- THE GAP OF EACH STmin: 00 stays 0, 01 to 7F give 02 to 80 hex, F1 to F9 give 2, reserved values 128
pub gap-values : (gap_of 0x00 ≡ 0)
    × ((stmin : ℕ) → 0x01 ≤ stmin → stmin ≤ 0x7F → gap_of stmin ≡ stmin + 1)
    × ((stmin : ℕ) → 0xF1 ≤ stmin → stmin ≤ 0xF9 → gap_of stmin ≡ 2)
    × ((stmin : ℕ) → (StminRange stmin → ⊥) → gap_of stmin ≡ 128)
unfolding gap_of ticks_meant
gap-values = (
  refl,
  λ stmin least most. rw (leb-is stmin 0x7F most, eqb-not stmin 0 (λ e. omega arith)),
  λ stmin least most. rw (leb-not stmin 0x7F (omega arith), leb-is 0xF1 stmin least, leb-is stmin 0xF9 most),
  λ stmin reserved. split stmin 0x7F (λ l. absurd (reserved (inl l)))
      (λ m. split 0xF1 stmin
      (λ l. split stmin 0xF9 (λ n. absurd (reserved (inr (l, n)))) (λ n. rw (leb-not stmin 0x7F m, leb-is 0xF1 stmin l, leb-not stmin 0xF9 n)))
      (λ l. rw (leb-not stmin 0x7F m, leb-not 0xF1 stmin l))),
)
