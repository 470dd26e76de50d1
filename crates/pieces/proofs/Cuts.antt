-- How bytes are cut: a whole record comes off the front, and what is shorter is the last piece.
use Rattle.std.proofs.Common.{◌≡◌, ◌==◌, nat_lt, true, false, ℕ, zero, suc, ◌+◌, ◌<◌, ◌≤◌, List, [], ◌∷◌, ◌++◌, length, take, drop, Option, Some, None, Result, Ok, Err, refl, ap, ◌∙◌, arith, length-drop, length-append}
use Rattle.std.proofs.Math.Seq.{take-append_seam, drop-append_seam}
use Rattle.std.proofs.lemmas.Bool.{false≢true, true≢false}
use Rattle.std.proofs.lemmas.Bool.Decides.{nat_tests}
use Rattle.std.specs.declared.option.Option.{Option}
use Rattle.pieces.specs.declared.Piece.{Piece}
use Rattle.pieces.specs.declared.Piece.TheVariants.{Whole, Short}
use Rattle.pieces.specs.Pieces.{cut, pieces_of, known_pieces, GivesNext, TakesPiece, is_whole}

-- the bound is none where it is no less than the bytes
cut_same : (n j k : ℕ) (xs : List ℕ) → 0 < n → length xs ≤ j → length xs ≤ k → cut n j xs ≡ cut n k xs
unfolding cut
cut_same n zero zero xs some p q = refl
cut_same n zero (suc k) [] some p q = refl
cut_same n zero (suc k) (x ∷ xs) some p q = absurd (omega arith)
cut_same n (suc j) zero [] some p q = refl
cut_same n (suc j) zero (x ∷ xs) some p q = absurd (omega arith)
cut_same n (suc j) (suc k) xs some p q =
    let l = length-drop n xs in
    rw (cut_same n j k (drop n xs) some (omega arith) (omega arith))

pub pieces_whole : (n : ℕ) (whole rest : List ℕ) → 0 < n → length whole ≡ n → pieces_of n (whole ++ rest) ≡ Whole whole ∷ pieces_of n rest
unfolding cut pieces_of
pieces_whole zero w rest some long = absurd (omega arith)
pieces_whole (suc m) w rest some long =
    let n = suc m in
    let all : length (w ++ rest) ≡ suc (m + length rest) = length-append w rest ∙ omega arith in
    let first : take n (w ++ rest) ≡ w = rw long at (take-append_seam w rest) in
    let behind : drop n (w ++ rest) ≡ rest = rw long at (drop-append_seam w rest) in
    let few : (length (w ++ rest) == 0) ≡ false = grind (arith, nat_tests) in
    let short : nat_lt (length (w ++ rest)) n ≡ false = grind (arith, nat_tests) in
    cut_same n (length (w ++ rest)) (suc (m + length rest)) (w ++ rest) some (omega arith) (omega arith)
    ∙ rw (few, short, first, behind) (ap (λ ps. Whole w ∷ ps) (cut_same n (m + length rest) (length rest) rest some (omega arith) (omega arith)))

pub pieces_none : (n : ℕ) (xs : List ℕ) → (0 < n → xs ≡ []) → pieces_of n xs ≡ []
unfolding cut pieces_of
pieces_none zero xs e = refl
pieces_none (suc n) xs e = rw (e (omega arith)) refl

pub pieces_short : (n : ℕ) (xs : List ℕ) → 0 < length xs → length xs < n → pieces_of n xs ≡ Short ∷ []
unfolding cut pieces_of
pieces_short zero xs some few = absurd (omega arith)
pieces_short (suc n) [] some few = absurd (omega arith)
pieces_short (suc n) (x ∷ xs) some few =
    let one : (length (x ∷ xs) == 0) ≡ false = grind (arith, nat_tests) in
    let short : nat_lt (length (x ∷ xs)) (suc n) ≡ true = grind (arith, nat_tests) in
    rw (one, short) refl

-- what the reader took is the first of the pieces that it had
pub given_whole : {E : Type 0} (n : ℕ) (a b : Option (List ℕ)) (r : Option (Result (Piece n) E)) → TakesPiece n a r b → is_whole r ≡ true → GivesNext (known_pieces n a) r (known_pieces n b)
given_whole n None b r h whole = tt
given_whole n (Some xs) None (Some (Ok (Whole w))) (some, long, took) whole = absurd took
given_whole n (Some xs) (Some ys) (Some (Ok (Whole w))) (some, long, took) whole = (pieces_of n ys, refl, rw took (pieces_whole n w ys some long))
given_whole n (Some xs) b None h whole = absurd (false≢true whole)
given_whole n (Some xs) b (Some (Err e)) h whole = absurd (false≢true whole)
given_whole n (Some xs) b (Some (Ok Short)) h whole = absurd (false≢true whole)

-- behind the end, a short piece and an error nothing comes
pub given_last : {E : Type 0} (n : ℕ) (a b : Option (List ℕ)) (r : Option (Result (Piece n) E)) → TakesPiece n a r b → is_whole r ≡ false → GivesNext (known_pieces n a) r (Some [])
given_last n None b r h last = tt
given_last n (Some xs) b None h last = pieces_none n xs h
given_last n (Some xs) b (Some (Err e)) h last = tt
given_last n (Some xs) b (Some (Ok (Whole w))) h last = absurd (true≢false last)
given_last n (Some xs) b (Some (Ok Short)) (few, end) last = ([], refl, pieces_short n xs few.0 few.1)
