-- Nine digits are a text, and its number is what `parse` reads of it.
use mathlib.Core.Path.{◌≡◌, refl, sym, ap, ◌∙◌}
use Prim.Native.Nat.{ℕ, zero, suc, ◌≤◌}
use native.Mathlib.Omega.{arith}
use mathlib.Core.Bool.{true, ◌&&◌}
use mathlib.Core.List.{List, [], ◌∷◌}
use lib.ListN.{length}
use lib.Dec.{leb}
use mir.Facts.{leb_yes}
use Rattle.std.specs.Prelude.{Result}
use Rattle.std.specs.Int.{IsInRange}
use Rattle.std.specs.Result.{result_ok}
use Rattle.std.specs.Char.{is_ascii_digit}
use Rattle.std.specs.List.{list_all}
use Rattle.std.specs.Str.{IsAscii, IsUtf8, all_ascii_digits}
use Rattle.std.specs.Str.Parse.{ParsesUnsigned}
use Rattle.std.proofs.lemmas.Str.{IsUtf8-from_ascii}
use Rattle.std.proofs.lemmas.Str.Parse.{FoldsDigits, IsNumeralModel, tells_all_ascii_digits, numerals_by_fold, parse_gives, digits_value_short}
use Rattle.rules.proofs.Cases.{yes_of, is_true, and_left, and_right}
use Rattle.text.specs.Building.{value_after}
use Rattle.plain_ladder.specs.Asked.{most_digits, is_number, value_of, number_in}

folds : FoldsDigits value_after
folds = record { empty = λ n. unfold value_after in refl; more = λ n c cs h. unfold value_after in refl }

numerals : IsNumeralModel (λ ds. all_ascii_digits ds ≡ true) value_of
numerals = numerals_by_fold (λ ds. all_ascii_digits ds ≡ true) tells_all_ascii_digits value_after folds

as-digits : (word : List ℕ) → list_all is_ascii_digit word ≡ all_ascii_digits word
as-digits [] = refl
as-digits (c ∷ cs) = ap (λ b. is_ascii_digit c && b) (as-digits cs)

digits_ascii : (word : List ℕ) → all_ascii_digits word ≡ true → IsAscii word
digits_ascii [] e i = omega arith
digits_ascii (c ∷ cs) e zero =
    let digit : IsInRange 48 57 c = (tells_all_ascii_digits.parts c cs e).0 in
    omega (arith, digit.1)
digits_ascii (c ∷ cs) e (suc i) = digits_ascii cs (tells_all_ascii_digits.parts c cs e).1 i

module _ (word : List ℕ) (e : is_number word ≡ true) where
  parts : (1 ≤ length word) × (length word ≤ most_digits) × (all_ascii_digits word ≡ true)
  unfolding is_number
  parts =
      let t = yes_of e in
      let size = and_left (leb 1 (length word) && leb (length word) most_digits) (list_all is_ascii_digit word) t in (
        leb_yes (and_left (leb 1 (length word)) (leb (length word) most_digits) size),
        leb_yes (and_right (leb 1 (length word)) (leb (length word) most_digits) size),
        sym (as-digits word) ∙ is_true _ (and_right (leb 1 (length word) && leb (length word) most_digits) (list_all is_ascii_digit word) t),
      )

  pub digits_utf8 : IsUtf8 word
  digits_utf8 = IsUtf8-from_ascii word (digits_ascii word parts.2)

  pub parsed : {E : Type 0} (r : Result ℕ E) → ParsesUnsigned 32 10 word r → result_ok r ≡ number_in word
  parsed r h =
      let small = digits_value_short numerals word most_digits parts.2 parts.1 in
      let gives = parse_gives numerals 32 word r h parts.2 parts.0 (omega (arith, small)) in
      rw (e, gives)
