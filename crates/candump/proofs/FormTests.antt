-- The form of a line's parts, as the code tests it: the same tests in another order.
use mathlib.Core.Path.{◌≡◌, refl, sym, ◌∙◌}
use Prim.Native.Nat.{ℕ, suc, ◌+◌, ◌-◌, ◌*◌, ◌%◌, ◌≤◌, ◌<◌}
use native.Mathlib.Omega.{arith}
use native.Mathlib.Nat.{add-zero}
use native.Mathlib.Numerals.{add-one}
use mathlib.Core.Bool.{Bool, true, false, not, ◌&&◌, ◌||◌}
use mathlib.Core.List.{List}
use lib.ListN.{length, get_or, take, drop, length-drop}
use lib.Seq.{get_or-drop}
use lib.Dec.{eqb}
use Rattle.rules.proofs.Cases.{yes_of, leb-is, leb-not, and-false, eqb_is, eqb-not}
use Rattle.candump.specs.Digits.{between, is_hex, is_of, span, stands, digit_value, number_after, number_of}
use Rattle.candump.specs.Lines.{most_seconds, most_name, most_data_digits, decimal_digits, identifier_digits, most_identifier, hash, dot, opens, closes, space, LF}
use Rattle.candump.specs.Reading.{seconds_count, time_form, name_form, identifier_form, data_form}
use Rattle.candump.proofs.Spans.{span-within, span-at-drop, stands-within}
use Rattle.records.proofs.Gets.{gets, gets-range}
use Rattle.candump.specs.declared.digits.Class.{Class}

-- a byte behind a place
pub stands-drop : (l : List ℕ) (from at b : ℕ) → stands (drop from l) at b ≡ stands l (from + at) b
unfolding stands
stands-drop l from at b = rw (get_or-drop from l at 0)

-- ---- the time

second-fails : (a b r : Bool) → b ≡ false → (a && (b && r)) ≡ false
second-fails a b r e = rw e (and-false a)

fourth-fails : (a b c d r : Bool) → d ≡ false → (a && (b && (c && (d && r)))) ≡ false
fourth-fails a b c d r e = rw (e, and-false c, and-false b) (and-false a)

the_rest : (a b c d e f : Bool) → b ≡ true → d ≡ true → (a && (b && (c && (d && (e && f))))) ≡ ((a && c) && (e && f))
the_rest true b true d e f p q = rw (p, q)
the_rest true b false d e f p q = rw p
the_rest false b c d e f p q = refl

module _ (l : List ℕ) (s : ℕ) (counted : s ≡ span Class.Digit (drop 1 l)) where
  pub seconds-outside : between 1 most_seconds s ≡ false → time_form l ≡ false
  unfolding time_form seconds_count
  seconds-outside e = rw (← counted) (second-fails (stands l 0 opens) (between 1 most_seconds s) _ e)

  pub decimals-outside : (n : ℕ) → n ≡ span Class.Digit (drop (s + 2) l) → (n ≡ decimal_digits → ⊥) → time_form l ≡ false
  unfolding time_form seconds_count
  decimals-outside n k f =
      rw (← counted)
      (fourth-fails (stands l 0 opens) (between 1 most_seconds s) (stands l (s + 1) dot) (eqb (span Class.Digit (drop (s + 2) l)) decimal_digits) _
      (rw (← k) (eqb-not n decimal_digits f)))

  pub time-tested : (n : ℕ) → between 1 most_seconds s ≡ true → n ≡ span Class.Digit (drop (s + 2) l) → n ≡ decimal_digits
      → time_form l ≡ ((stands l 0 opens && stands l (s + 1) dot) && (stands l (s + 8) closes && stands l (s + 9) space))
  unfolding time_form seconds_count
  time-tested n e k f =
      rw (← counted)
      (the_rest (stands l 0 opens) (between 1 most_seconds s) (stands l (s + 1) dot) (eqb (span Class.Digit (drop (s + 2) l)) decimal_digits)
      (stands l (s + 8) closes) (stands l (s + 9) space) e (eqb_is _ decimal_digits (sym k ∙ f)))

-- ---- the name

module _ (l : List ℕ) (from n : ℕ) (counted : n ≡ span Class.Letter (drop from l)) where
  pub name-outside : between 1 most_name n ≡ false → name_form (drop from l) ≡ false
  unfolding name_form
  name-outside e = rw (← counted, e)

  pub name-tested : between 1 most_name n ≡ true → name_form (drop from l) ≡ stands l (from + n) space
  unfolding name_form
  name-tested e = rw (← counted, e) (stands-drop l from n space)

-- ---- the data

either-fails : (a b r : Bool) → (not a || not b) ≡ true → (a && (b && r)) ≡ false
either-fails true true r e = absurd (yes_of e)
either-fails true false r e = refl
either-fails false b r e = refl

both_hold : (a b : Bool) → (not a || not b) ≡ false → (a ≡ true) × (b ≡ true)
both_hold true true e = (refl, refl)
both_hold true false e = absurd (yes_of (sym e))
both_hold false b e = absurd (yes_of (sym e))

module _ (l : List ℕ) (from n : ℕ) (counted : n ≡ span Class.Hex (drop from l)) where
  pub data-long : most_data_digits < n → data_form (drop from l) ≡ false
  unfolding data_form
  data-long h = rw (← counted, leb-not n most_data_digits h)

  module _ (few : n ≤ most_data_digits) (t : Bool) (seen : t ≡ stands l (from + n) LF) where
    data-from : data_form (drop from l) ≡ (eqb (n % 2) 0 && (t && eqb (length l - from) (n + 1)))
    unfolding data_form
    data-from = rw (← counted, leb-is n most_data_digits few, stands-drop l from n LF, ← seen, length-drop from l)

    pub data-fails : (not (eqb (n % 2) 0) || not t) ≡ true → data_form (drop from l) ≡ false
    data-fails e = data-from ∙ either-fails (eqb (n % 2) 0) t _ e

    module _ (e : (not (eqb (n % 2) 0) || not t) ≡ false) where
      pub data-holds : length l ≡ from + n + 1 → data_form (drop from l) ≡ true
      data-holds h =
          let f = both_hold (eqb (n % 2) 0) t e in
          data-from ∙ rw (f.0, f.1) (eqb_is (length l - from) (n + 1) (omega arith))

      pub data-goes-on : (length l ≡ from + n + 1 → ⊥) → data_form (drop from l) ≡ false
      data-goes-on h =
          let f = both_hold (eqb (n % 2) 0) t e in
          let w = stands-within l (from + n) LF (sym seen ∙ f.1) (omega arith) in
          data-from ∙ rw (f.0, f.1) (eqb-not (length l - from) (n + 1) (λ k. h (omega (arith, w, k))))

-- ---- the identifier

module _ (l : List ℕ) (from n : ℕ) (counted : n ≡ span Class.Hex (drop from l)) where
  pub digits-differ : (n ≡ identifier_digits → ⊥) → identifier_form (drop from l) ≡ false
  unfolding identifier_form
  digits-differ f = rw (← counted, eqb-not n identifier_digits f)

  module _ (three : n ≡ identifier_digits) where
    identifier-digit : (i : ℕ) → i < 3 → is_hex (get_or l (from + i) 0) ≡ true
    unfolding is_of
    identifier-digit i h = span-at-drop Class.Hex l from i (omega (arith, counted, three))

    pub first-digit : is_hex (get_or l from 0) ≡ true
    first-digit = rw (add-zero from) at (identifier-digit 0 (omega arith))

    pub second-digit : is_hex (get_or l (from + 1) 0) ≡ true
    second-digit = identifier-digit 1 (omega arith)

    pub third-digit : is_hex (get_or l (from + 2) 0) ≡ true
    third-digit = identifier-digit 2 (omega arith)

    pub no-hash : stands l (from + identifier_digits) hash ≡ false → identifier_form (drop from l) ≡ false
    unfolding identifier_form
    no-hash e = rw (← counted, three, stands-drop l from identifier_digits hash, e)

    digits-within : from + 3 ≤ length l
    digits-within = omega (arith, span-within Class.Hex (drop from l), length-drop from l, counted, three)

    pub identifier-value : number_of 16 (take identifier_digits (drop from l))
        ≡ (digit_value (get_or l from 0) * 16 + digit_value (get_or l (from + 1) 0)) * 16 + digit_value (get_or l (from + 2) 0)
    unfolding number_after gets
    identifier-value =
        let two : from + 2 ≡ suc (suc from) = omega arith in
        rw (gets-range 3 from l digits-within, add-one, two) (omega arith)

    module _ (hashed : stands l (from + identifier_digits) hash ≡ true) (v : ℕ) (valued : number_of 16 (take identifier_digits (drop from l)) ≡ v) where
      pub identifier-large : most_identifier < v → identifier_form (drop from l) ≡ false
      unfolding identifier_form
      identifier-large h = rw (← counted, three, stands-drop l from identifier_digits hash, hashed, valued, leb-not v most_identifier h)

      pub identifier-good : v ≤ most_identifier → identifier_form (drop from l) ≡ true
      unfolding identifier_form
      identifier-good h = rw (← counted, three, stands-drop l from identifier_digits hash, hashed, valued, leb-is v most_identifier h)
