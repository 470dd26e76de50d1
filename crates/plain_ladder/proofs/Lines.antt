-- The line of a row, as it is written, and the lines of a list's rows, one after the other.
use mathlib.Core.Path.{◌≡◌, refl, sym, ap, ◌∙◌}
use Prim.Native.Nat.{ℕ, zero, suc, ◌+◌, ◌^◌, ◌<◌}
use native.Mathlib.Omega.{arith}
use mathlib.Core.List.{List, [], ◌∷◌, ◌++◌, append_assoc, append-nil}
use lib.ListN.{length, get_or, take, drop, length-drop}
use Rattle.std.specs.Fmt.{decimal as printed}
use Rattle.std.specs.List.{concat}
use Rattle.std.specs.Simd.{first_chunks}
use Rattle.std.proofs.lemmas.List.{take_all, take_more, length-take-le}
use Rattle.rules.specs.Frames.{byte_at}
use Rattle.text.specs.Building.{hex_text}
use Rattle.text.proofs.Numbers.{number}
use Rattle.plain.specs.Engine.{row_size}
use Rattle.plain_ladder.specs.Line.{direction_word, frame_words, line_of}
use Rattle.plain_ladder.specs.Ladder.{row_lines}

pub line_is : (n : ℕ) (row : List ℕ) → n < 2 ^ 64 → length row ≡ row_size
    → printed n ++ (direction_word (byte_at row 0) ++ (hex_text (take 8 (drop 1 row)) ++ (frame_words (byte_at row 1) (byte_at row 2) (byte_at row 3) ++ (10 ∷ [])))) ≡ line_of n row
unfolding line_of
line_is n row small size = rw (number n small, take_all 8 (drop 1 row) (omega (arith, length-drop 1 row, size)))

-- the lines of rows, numbered from this number on
abbrev pub numbered : ℕ → List (List ℕ) → List ℕ
numbered n [] = []
numbered n (r ∷ rs) = line_of n r ++ numbered (n + 1) rs

numbered-more : (n : ℕ) (rs : List (List ℕ)) (r : List ℕ) → numbered n (rs ++ r ∷ []) ≡ numbered n rs ++ line_of (n + length rs) r
numbered-more n [] r = let e : n + 0 ≡ n = omega arith in rw e (append-nil (line_of n r))
numbered-more n (x ∷ rs) r =
    let e : n + 1 + length rs ≡ n + suc (length rs) = omega arith in
    rw (numbered-more (n + 1) rs r, e) (sym (append_assoc (line_of n x) (numbered (n + 1) rs) (line_of (n + suc (length rs)) r)))

pub numbered-rows : (n k : ℕ) (list : List ℕ) → numbered n (first_chunks row_size k list) ≡ concat (row_lines n k list)
unfolding row_lines
numbered-rows n zero list = refl
numbered-rows n (suc k) list = ap (λ (l : List ℕ). line_of n (take row_size list) ++ l) (numbered-rows (n + 1) k (drop row_size list))

-- one row more
pub one-more : (rows : List (List ℕ)) (before : ℕ) (d : List ℕ) → before < length rows
    → numbered 1 (take (before + 1) rows) ≡ numbered 1 (take before rows) ++ line_of (before + 1) (get_or rows before d)
one-more rows before d h =
    let size : length (take before rows) ≡ before = length-take-le before rows (omega arith) in
    let next : 1 + before ≡ before + 1 = omega arith in
    ap (numbered 1) (take_more rows before d h) ∙ numbered-more 1 (take before rows) (get_or rows before d) ∙ rw (size, next)
