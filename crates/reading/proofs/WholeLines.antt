-- What an output of lines writes for room ends with an LF, and no LF stands behind it: it is all the whole lines that wait.
use Rattle.std.proofs.Common.{◌≡◌, ◌==◌, false, not, ℕ, ◌-◌, ◌<◌, ◌≤◌, List, length, reverse, get_or, sym, ap, ◌∙◌, arith}
use Rattle.std.specs.List.{position_or_len}
use Rattle.std.proofs.lemmas.List.{get_or-reverse, length-reverse}
use Rattle.std.proofs.lemmas.List.Sums.{prefix_len_stops, fails_before_first}
use Rattle.std.proofs.lemmas.Bool.Decides.{nat_tests}
use Rattle.reading.specs.Input.{LF}
use Rattle.reading.specs.Output.{lines_length}

is_LF : (n : ℕ) → not (n == LF) ≡ false → n ≡ LF
is_LF n e = grind (arith, nat_tests)

pub ends_line : (bytes : List ℕ) → 0 < lines_length bytes → get_or bytes (lines_length bytes - 1) 0 ≡ LF
unfolding lines_length
ends_line bytes some =
    let k : ℕ = position_or_len (λ (b : ℕ). b == LF) (reverse bytes) in
    let long : length (reverse bytes) ≡ length bytes = length-reverse bytes in
    let few : k < length bytes = omega arith in
    let here : get_or (reverse bytes) k 0 ≡ LF = is_LF _ (prefix_len_stops (λ (b : ℕ). not (b == LF)) (reverse bytes) 0 (omega arith)) in
    let place : length bytes - k - 1 ≡ length bytes - 1 - k = omega arith in
    ap (λ (i : ℕ). get_or bytes i 0) place ∙ sym (get_or-reverse bytes k 0 few) ∙ here

pub none_behind : (bytes : List ℕ) (k : ℕ) → lines_length bytes ≤ k → k < length bytes → (get_or bytes k 0 == LF) ≡ false
unfolding lines_length
none_behind bytes k behind within =
    let p : ℕ = position_or_len (λ (b : ℕ). b == LF) (reverse bytes) in
    let j : ℕ = length bytes - 1 - k in
    let before : j < p = omega arith in
    let place : length bytes - 1 - j ≡ k = omega arith in
    let other : get_or (reverse bytes) j 0 ≡ get_or bytes k 0 = get_or-reverse bytes j 0 (omega arith) ∙ ap (λ (i : ℕ). get_or bytes i 0) place in
    ap (λ (b : ℕ). b == LF) (sym other) ∙ fails_before_first (λ (b : ℕ). b == LF) (reverse bytes) j 0 before
