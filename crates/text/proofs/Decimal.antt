-- Decimal: one more digit behind those of a tenth. So the digits' value is the number, and no zero leads but for 0 itself.
use mathlib.Core.Path.{◌≡◌, refl}
use Prim.Native.Nat.{ℕ, zero, suc, ◌+◌, ◌-◌, ◌*◌, ◌/◌, ◌%◌, ◌^◌, ◌≤◌, ◌<◌}
use native.Mathlib.Omega.{arith}
use native.Mathlib.Numerals.{sub-one}
use native.Mathlib.Nat.{pow-zero, pow-suc}
use mathlib.Core.Bool.{Bool, true, false}
use mathlib.Core.List.{List, [], ◌∷◌, ◌++◌}
use lib.ListN.{length, get_or, length-append}
use lib.Dec.{ltb}
use borrow.Author.Tests.{lt-ltb, le-ltb, ltb-true, ltb-false}
use Rattle.text.specs.Building.{decimal, value_after}

module _ (places n : ℕ) where
  pub decimal-one : n < 10 → decimal (suc places) n ≡ (48 + n) ∷ []
  unfolding decimal
  decimal-one h = rw (lt-ltb n 10 h)

  pub decimal-more : 10 ≤ n → decimal (suc places) n ≡ decimal places (n / 10) ++ ((48 + n % 10) ∷ [])
  unfolding decimal
  decimal-more h = rw (le-ltb n 10 h)

  -- what holds of a digit alone and of digits before a last one holds of decimal
  pub decimal-by : (P : List ℕ → Type 0) → (n < 10 → P ((48 + n) ∷ [])) → (10 ≤ n → P (decimal places (n / 10) ++ ((48 + n % 10) ∷ []))) → P (decimal (suc places) n)
  decimal-by P one more = by (ltb n 10) refl
    where
      by : (t : Bool) → ltb n 10 ≡ t → P (decimal (suc places) n)
      by true e = rw (decimal-one (ltb-true n 10 e)) (one (ltb-true n 10 e))
      by false e = rw (decimal-more (ltb-false n 10 e)) (more (ltb-false n 10 e))

-- where there is a place at all
pub decimal-last : (places n : ℕ) → (places ≡ 0 → ⊥) → n < 10 → decimal places n ≡ (48 + n) ∷ []
decimal-last zero n f h = absurd (f refl)
decimal-last (suc places) n f h = decimal-one places n h

pub decimal-next : (places n : ℕ) → (places ≡ 0 → ⊥) → 10 ≤ n → decimal places n ≡ decimal (places - 1) (n / 10) ++ ((48 + n % 10) ∷ [])
decimal-next zero n f h = absurd (f refl)
decimal-next (suc places) n f h = rw (sub-one) (decimal-more places n h)

-- ---- the law

value-append : (v : ℕ) (a b : List ℕ) → value_after v (a ++ b) ≡ value_after (value_after v a) b
unfolding value_after
value-append v [] b = refl
value-append v (x ∷ a) b = value-append (v * 10 + (x - 48)) a b

tenth : (places n : ℕ) → n < 10 ^ suc places → n / 10 < 10 ^ places
tenth places n h = let e : 10 ^ suc places ≡ 10 ^ places * 10 = pow-suc 10 places in omega arith

pub decimal-value : (places n : ℕ) → n < 10 ^ places → value_after 0 (decimal places n) ≡ n
unfolding decimal value_after
decimal-value zero n h = omega (arith, pow-zero 10)
decimal-value (suc places) n h =
    decimal-by places n (λ l. value_after 0 l ≡ n) (λ k. omega arith)
    (λ k. rw (value-append, decimal-value places (n / 10) (tenth places n h)) (omega arith))

pub decimal-leads : (places n : ℕ) → 0 < n → n < 10 ^ places → 48 < get_or (decimal places n) 0 0
decimal-leads zero n k h = omega (arith, pow-zero 10)
decimal-leads (suc places) n k h =
    decimal-by places n (λ l. 48 < get_or l 0 0) (λ j. omega arith)
    (λ j. front (decimal places (n / 10)) _ (decimal-leads places (n / 10) (omega arith) (tenth places n h)))
  where
    front : (a b : List ℕ) → 48 < get_or a 0 0 → 48 < get_or (a ++ b) 0 0
    front [] b f = omega arith
    front (x ∷ a) b f = f

pub decimal-zero : (places : ℕ) → decimal (suc places) 0 ≡ 48 ∷ []
decimal-zero places = decimal-one places 0 (omega arith)

-- at most so many digits
pub decimal-length : (places n : ℕ) → length (decimal places n) ≤ places
unfolding decimal
decimal-length zero n = omega arith
decimal-length (suc places) n =
    decimal-by places n (λ l. length l ≤ suc places) (λ k. omega arith)
    (λ k. rw length-append (omega (arith, decimal-length places (n / 10))))
