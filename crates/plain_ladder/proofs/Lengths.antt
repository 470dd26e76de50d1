-- Every line has room in a text.
use mathlib.Core.Path.{◌≡◌}
use Prim.Native.Nat.{ℕ, ◌+◌, ◌*◌, ◌/◌, ◌%◌, ◌≤◌}
use native.Mathlib.Omega.{arith}
use mathlib.Core.List.{List, [], ◌∷◌, ◌++◌}
use lib.ListN.{length, take, drop, length-append, length-drop}
use lib.Seq.{take_all}
use lib.Dec.{eqb}
use Rattle.rules.specs.Frames.{byte_at}
use Rattle.rules.proofs.Cases.{pick-either}
use Rattle.plain.specs.Engine.{row_size}
use Rattle.text.specs.Building.{clipped, decimal, number_places, hex_text}
use Rattle.text.proofs.Clip.{clip-short}
use Rattle.text.proofs.Decimal.{decimal-length}
use Rattle.text.proofs.Lengths.{hex-length}
use Rattle.plain_ladder.specs.declared.asked.Name.{Name}
use Rattle.plain_ladder.specs.declared.asked.Refusal.{Refusal}
use Rattle.text.specs.Answers.{LF}
use Rattle.plain_ladder.specs.Line.{direction_word, flow_words, frame_words, line_of, delivered_text}
use Rattle.plain_ladder.specs.Refusals.{name_word, range_word, refusal_words, refusal_text}

-- ---- a row's line

abbrev Short : ℕ → List ℕ → Type 0
Short most l = length l ≤ most

direction-short : (mark : ℕ) → Short 7 (direction_word mark)
unfolding direction_word
direction-short mark = pick-either (Short 7) (eqb mark 0) _ _ (λ t. omega arith) (λ t. omega arith)

frame-short : (first second third : ℕ) → Short 40 (frame_words first second third)
unfolding frame_words flow_words
frame-short first second third =
    pick-either (Short 40) (eqb (first / 16) 0) _ _ (λ t. simp length-append (omega (arith, decimal-length 3 (first % 16))))
    (λ t.
    pick-either (Short 40) (eqb (first / 16) 1) _ _ (λ t. simp length-append (omega (arith, decimal-length 10 (first % 16 * 256 + second))))
    (λ t.
    pick-either (Short 40) (eqb (first / 16) 2) _ _ (λ t. simp length-append (omega (arith, decimal-length 3 (first % 16))))
    (λ t.
    pick-either (Short 40) (eqb first 0x30) _ _ (λ t. simp length-append (omega (arith, decimal-length 3 second, decimal-length 3 third))) (λ t. omega arith))))

-- all that stands behind the direction is eight bytes
pub line-whole : (number : ℕ) (row : List ℕ) → length row ≡ row_size
    → clipped
    (decimal number_places number
    ++ (direction_word (byte_at row 0) ++ (hex_text (take 8 (drop 1 row)) ++ (frame_words (byte_at row 1) (byte_at row 2) (byte_at row 3) ++ (LF ∷ [])))))
    ≡ line_of number row
unfolding line_of
line-whole number row e =
    rw (take_all 8 (drop 1 row) (omega (arith, length-drop 1 row)))
    (clip-short _
    (simp length-append
    (omega (arith, decimal-length 20 number, direction-short (byte_at row 0), hex-length (drop 1 row), length-drop 1 row, frame-short (byte_at row 1) (byte_at row 2) (byte_at row 3)))))

-- and so the line itself has room
pub row-whole : (number : ℕ) (row : List ℕ) → length row ≡ row_size → clipped (line_of number row) ≡ line_of number row
unfolding line_of
row-whole number row e =
    clip-short _
    (simp length-append
    (omega (arith, decimal-length 20 number, direction-short (byte_at row 0), hex-length (drop 1 row), length-drop 1 row, frame-short (byte_at row 1) (byte_at row 2) (byte_at row 3))))

-- ---- a refusal's line

name-short : (name : Name) → Short 6 (name_word name)
unfolding name_word
name-short Name.Length = omega arith
name-short Name.Bs = omega arith
name-short Name.Stmin = omega arith

range-short : (name : Name) → Short 22 (range_word name)
unfolding range_word
range-short Name.Length = omega arith
range-short Name.Bs = omega arith
range-short Name.Stmin = omega arith

pub refusal-whole : (refusal : Refusal) → clipped (refusal_text refusal) ≡ refusal_text refusal
unfolding refusal_text refusal_words
refusal-whole Refusal.Count = clip-short _ (omega arith)
refusal-whole (Refusal.NoNumber name) = clip-short _ (simp length-append (omega (arith, name-short name)))
refusal-whole (Refusal.Outside name) = clip-short _ (simp length-append (omega (arith, name-short name, range-short name)))

-- ---- what is delivered

pub delivered-whole : (bytes : ℕ) → clipped (delivered_text bytes) ≡ delivered_text bytes
unfolding delivered_text
delivered-whole bytes = clip-short _ (simp length-append (omega (arith, decimal-length 20 bytes)))
