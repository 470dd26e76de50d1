-- A name's letters are a text: each is a byte below 128.
use Rattle.std.proofs.Common.{◌≡◌, ℕ, zero, suc, ◌<◌, true, List, [], ◌∷◌, ◌&&◌, ◌||◌, length, arith}
use mathlib.Core.Logic.{inl, inr}
use lib.Dec.{T}
use Rattle.std.specs.Str.{IsUtf8, IsAscii}
use Rattle.std.proofs.lemmas.Str.{IsUtf8-from_ascii}
use Rattle.rules.specs.Tests.{all, each}
use Rattle.rules.proofs.Cases.{yes_of, and_left, and_right, or_cases}
use Rattle.candump.specs.Digits.{between, is_letter, is_digit}
use Rattle.candump.specs.Lines.{most_name, is_name}
use Rattle.candump.proofs.Values.{between-range}

letter_below : (b : ℕ) → T (is_letter b) → b < 128
unfolding is_letter is_digit
letter_below b t =
    elim (or_cases (between 48 57 b) (between 65 90 b || between 97 122 b) t) [
      | inl u ↦ omega (arith, between-range 48 57 b u)
      | inr u ↦ elim (or_cases (between 65 90 b) (between 97 122 b) u) [
        | inl v ↦ omega (arith, between-range 65 90 b v)
        | inr v ↦ omega (arith, between-range 97 122 b v)
      ]
    ]

letters_below : (bs : List ℕ) → T (each is_letter bs) → IsAscii bs
letters_below [] t i = omega arith
letters_below (b ∷ bs) t zero = letter_below b (and_left (is_letter b) (each is_letter bs) t)
letters_below (b ∷ bs) t (suc i) = letters_below bs (and_right (is_letter b) (each is_letter bs) t) i

pub name_is_text : (name : List ℕ) → is_name name ≡ true → IsUtf8 name
unfolding is_name all
name_is_text name e =
    let named = yes_of e in
    IsUtf8-from_ascii name (letters_below name (and_left (each is_letter name) true (and_right (between 1 most_name (length name)) (each is_letter name && true) named)))
