-- What `Display` writes of a line's numbers: the seconds in their places, six decimals, and three hex digits of an identifier.
use Rattle.std.proofs.Common.{◌≡◌, ℕ, zero, suc, ◌+◌, ◌-◌, ◌/◌, ◌%◌, ◌^◌, ◌<◌, ◌≤◌, true, false, List, [], ◌∷◌, ◌++◌, length, replicate, refl, sym, ap, ◌∙◌, append_assoc, append-nil, length-append, ltb, arith}
use Rattle.std.specs.Fmt.{decimal as printed}
use Rattle.std.specs.Fmt.{padded_integral, format_spec, char_count}
use Rattle.std.proofs.lemmas.Fmt.{decimal_digit, decimal_step, decimal_from_appends, length-decimal-le}
use Rattle.std.proofs.lemmas.List.{replicate_more}
use Rattle.rules.proofs.Cases.{split, ltb-is}
use Rattle.text.specs.Building.{decimal, hex_digit}
use Rattle.text.proofs.Decimal.{decimal-one, decimal-more}
use Rattle.candump.specs.Lines.{most_seconds, most_identifier}
use Rattle.candump.specs.Writing.{second, eleven_digits, six_digits}

pub seconds_printed : (t : ℕ) → t < eleven_digits → printed (t / second) ≡ decimal most_seconds (t / second)
seconds_printed t early =
    let few : t / second < 10 ^ 10 = omega arith in
    sym (decimal_from_appends decimal (record { one = decimal-one; more = decimal-more }) 10 (t / second) (omega arith) (length-decimal-le 10 (t / second) (omega arith) few (omega arith)))

-- ---- zeros in front

-- so many digits of a number, the last ones
in_places : ℕ → ℕ → List ℕ
in_places zero n = []
in_places (suc w) n = in_places w (n / 10) ++ ((48 + n % 10) ∷ [])

zeros : (w : ℕ) → in_places w 0 ≡ replicate w 48
unfolding in_places
zeros zero = refl
zeros (suc w) = let e : w + 1 ≡ suc w = omega arith in ap (λ l. l ++ (48 ∷ [])) (zeros w) ∙ rw e at (replicate_more {X = ℕ} w 48)

-- what `{}` writes, with zeros in front
abbrev filled : ℕ → ℕ → List ℕ
filled w n = replicate (w - length (printed n)) 48 ++ printed n

filled_one : (w n : ℕ) → n < 10 → filled (suc w) n ≡ in_places w (n / 10) ++ ((48 + n % 10) ∷ [])
filled_one w n h =
    let d : n / 10 ≡ 0 = omega arith in
    let m : n % 10 ≡ n = omega arith in
    let k : suc w - 1 ≡ w = omega arith in
    rw (decimal_digit n h, d, m, k) (ap (λ l. l ++ ((48 + n) ∷ [])) (sym (zeros w)))

filled_more : (w n : ℕ) → 10 ≤ n → n < 2 ^ 64 → filled w (n / 10) ≡ in_places w (n / 10) → filled (suc w) n ≡ in_places w (n / 10) ++ ((48 + n % 10) ∷ [])
filled_more w n h fits front =
    let last : List ℕ = (48 + n % 10) ∷ [] in
    let k : suc w - length (printed (n / 10) ++ last) ≡ w - length (printed (n / 10)) = omega (arith, length-append (printed (n / 10)) last) in
    rw (decimal_step n h fits, k)
    (sym (append_assoc (replicate (w - length (printed (n / 10))) 48) (printed (n / 10)) last) ∙ ap (λ l. l ++ last) front)

in_places_filled : (w n : ℕ) → n < 10 ^ w → n < 2 ^ 64 → 0 < w → filled w n ≡ in_places w n
unfolding in_places
in_places_filled zero n small fits some = absurd (omega arith)
in_places_filled (suc zero) n small fits some = filled_one 0 n (omega arith)
in_places_filled (suc (suc w)) n small fits some =
    split 10 n (λ h. filled_more (suc w) n h fits (in_places_filled (suc w) (n / 10) (omega arith) (omega arith) (omega arith))) (λ h. filled_one (suc w) n h)

pub decimals_printed : (n : ℕ) → n < second → padded_integral (format_spec 32 0 4 6 (2 ^ 64 - 1)) false [] (printed n) ≡ six_digits n
unfolding padded_integral six_digits in_places char_count
decimals_printed n small =
    let one : n / 10 / 10 ≡ n / 100 = omega arith in
    let two : n / 10 / 10 / 10 ≡ n / 1000 = omega arith in
    let three : n / 10 / 10 / 10 / 10 ≡ n / 10000 = omega arith in
    let four : n / 10 / 10 / 10 / 10 / 10 ≡ n / 100000 = omega arith in
    let all : filled 6 n ≡ six_digits n = rw (four, three, two, one) at (in_places_filled 6 n small (omega arith) (omega arith)) in
    let none : 6 - length (printed n) - 0 - 0 ≡ 6 - length (printed n) = omega arith in
    rw (append-nil, none) all

-- ---- an identifier

-- the first of three hex digits is at most 7, and so a decimal one
pub high_printed : (n : ℕ) → n ≤ most_identifier → printed (n / 256) ≡ hex_digit (n / 256) ∷ []
unfolding hex_digit
high_printed n low =
    let small : ltb (n / 256) 10 ≡ true = ltb-is (n / 256) 10 (omega arith) in
    decimal_digit (n / 256) (omega arith) ∙ rw small refl
