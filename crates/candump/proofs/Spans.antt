-- Bytes of a class at the front of a list, and a byte that stands at a place.
use mathlib.Core.Path.{◌≡◌, refl, sym, ap, ◌∙◌}
use Prim.Native.Nat.{ℕ, suc, ◌+◌, ◌≤◌, ◌<◌}
use native.Mathlib.Omega.{arith}
use mathlib.Core.Bool.{Bool, true, false, not, cond}
use Rattle.std.specs.List.{prefix_len}
use mathlib.Core.List.{List, [], ◌∷◌, ◌++◌}
use lib.ListN.{length, get_or, take, drop, get_or-eq_default}
use lib.Seq.{take-length, get_or-take, get_or-drop, length-take-le}
use lib.Dec.{T, eqb}
use mir.Facts.{eqb_yes, yes_and}
use Rattle.rules.specs.Tests.{pick, each}
use Rattle.rules.proofs.Cases.{Tested, holds, fails, test-cases, split, is_true, yes_of, and_left, and_right, each_at, eqb_is, eqb-not}
use Rattle.candump.specs.Digits.{is_of, span, stands}
use Rattle.candump.specs.declared.digits.Class.{Class}

module _ (class : Class) where
  -- the first byte is of the class, or it is not
  pub span_more : (b : ℕ) (l : List ℕ) → is_of class b ≡ true → span class (b ∷ l) ≡ suc (span class l)
  unfolding span
  span_more b l e = rw e

  pub span_none : (b : ℕ) (l : List ℕ) → is_of class b ≡ false → span class (b ∷ l) ≡ 0
  unfolding span
  span_none b l e = rw e

  -- each byte of the span is of the class
  pub span-each : (l : List ℕ) → T (each (is_of class) (take (span class l) l))
  unfolding span
  span-each [] = tt
  span-each (b ∷ l) = go (test-cases (is_of class b)) (span-each l)
    where
      go : Tested (is_of class b) (T (is_of class b)) (T (not (is_of class b)))
          → T (each (is_of class) (take (span class l) l))
          → T (each (is_of class) (take (pick (is_of class b) (suc (span class l)) 0) (b ∷ l)))
      go (holds e u) ih = rw (e, e) ih
      go (fails e u) ih = rw e tt

  pub span-within : (l : List ℕ) → span class l ≤ length l
  unfolding span
  span-within [] = omega arith
  span-within (b ∷ l) = go (test-cases (is_of class b)) (span-within l)
    where
      go : Tested (is_of class b) (T (is_of class b)) (T (not (is_of class b))) → span class l ≤ length l
          → pick (is_of class b) (suc (span class l)) 0 ≤ suc (length l)
      go (holds e u) ih = rw e (omega arith)
      go (fails e u) ih = rw e (omega arith)

  -- bytes of the class end at one that is not of it
  pub span-ends : (xs : List ℕ) (b : ℕ) (ys : List ℕ) → T (each (is_of class) xs) → is_of class b ≡ false → span class (xs ++ b ∷ ys) ≡ length xs
  unfolding span
  span-ends [] b ys t e = rw e
  span-ends (x ∷ xs) b ys t e =
      let h : is_of class x ≡ true = is_true (is_of class x) (and_left (is_of class x) (each (is_of class) xs) t) in
      rw h (ap suc (span-ends xs b ys (and_right (is_of class x) (each (is_of class) xs) t) e))

  -- all bytes are of the class just where the span is the whole
  pub span-whole : (xs : List ℕ) → T (each (is_of class) xs) → span class xs ≡ length xs
  unfolding span
  span-whole [] t = refl
  span-whole (x ∷ xs) t =
      let h : is_of class x ≡ true = is_true (is_of class x) (and_left (is_of class x) (each (is_of class) xs) t) in
      rw h (ap suc (span-whole xs (and_right (is_of class x) (each (is_of class) xs) t)))

  pub whole-span : (xs : List ℕ) → eqb (span class xs) (length xs) ≡ each (is_of class) xs
  whole-span xs = go (test-cases (each (is_of class) xs))
    where
      go : Tested (each (is_of class) xs) (T (each (is_of class) xs)) (T (not (each (is_of class) xs))) → eqb (span class xs) (length xs) ≡ each (is_of class) xs
      go (holds e t) = rw e (eqb_is _ _ (span-whole xs t))
      go (fails e t) =
          rw e
          (eqb-not (span class xs) (length xs)
          (λ h.
          let w = rw (h, take-length xs, e) at (span-each xs) in
          absurd w))

  -- each byte of the span, by its place
  pub span-at : (l : List ℕ) (i : ℕ) → i < span class l → is_of class (get_or l i 0) ≡ true
  span-at l i h =
      is_true _
      (rw (get_or-take (span class l) l i 0 h) at (each_at (is_of class) (take (span class l) l) i 0 (rw (length-take-le (span class l) l (span-within l)) h) (span-each l)))

  pub span-at-drop : (l : List ℕ) (from i : ℕ) → i < span class (drop from l) → is_of class (get_or l (from + i) 0) ≡ true
  span-at-drop l from i h = rw (get_or-drop from l i 0) at (span-at (drop from l) i h)

  -- std's word for it
  pub prefix-span : (l : List ℕ) → prefix_len (is_of class) l ≡ span class l
  unfolding span
  prefix-span [] = refl
  prefix-span (b ∷ l) = go (is_of class b) (prefix-span l)
    where
      go : (t : Bool) → prefix_len (is_of class) l ≡ span class l → cond t (1 + prefix_len (is_of class) l) 0 ≡ pick t (suc (span class l)) 0
      go true e = omega (arith, e)
      go false e = refl

pub each_append : (f : ℕ → Bool) (xs ys : List ℕ) → T (each f xs) → T (each f ys) → T (each f (xs ++ ys))
each_append f [] ys t u = u
each_append f (x ∷ xs) ys t u = yes_and (f x) (each f (xs ++ ys)) (and_left (f x) (each f xs) t) (each_append f xs ys (and_right (f x) (each f xs) t) u)

-- a byte that is no zero stands within the list
pub stands_at : (l : List ℕ) (at b : ℕ) → stands l at b ≡ true → get_or l at 0 ≡ b
unfolding stands
stands_at l at b e = eqb_yes (yes_of e)

pub stands-within : (l : List ℕ) (at b : ℕ) → stands l at b ≡ true → 0 < b → at < length l
stands-within l at b e h =
    split (length l) at (λ k. absurd (omega (arith, sym (stands_at l at b e) ∙ get_or-eq_default l 0 k))) (λ k. k)

pub stands_beyond : (l : List ℕ) (at b : ℕ) → length l ≤ at → 0 < b → stands l at b ≡ false
unfolding stands
stands_beyond l at b k h = rw (get_or-eq_default l 0 k) (eqb-not 0 b (λ e. omega (arith, e)))
