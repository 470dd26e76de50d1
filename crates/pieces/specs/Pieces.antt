-- The pieces of an input, and what an iterator over them gives.
use Rattle.std.specs.Prelude.{◌≡◌, ℕ, zero, suc, ◌<◌, Bool, List, [], ◌∷◌, length, take, drop, Option, Some, None, Result, Ok, true, false, MatchOption, IfOk, IfSome, ⊤, if◌then◌else◌, ◌==◌, nat_lt}
use Rattle.std.specs.Io.KnownBytes.{Consumes, IsAtEnd}
use Rattle.pieces.specs.declared.Piece.{Piece}
use Rattle.pieces.specs.declared.Piece.TheVariants.{Whole, Short}
use Rattle.pieces.specs.declared.Records.{Records}

abbrev pub record_size : ℕ
record_size = 16

-- at most so many pieces of some bytes, of n bytes each
unfoldable pub cut : (n : ℕ) → ℕ → List ℕ → List (Piece n)
cut n zero bytes = []
cut n (suc k) bytes =
    if length bytes == 0 then [] else (if nat_lt (length bytes) n then Short ∷ [] else Whole (take n bytes) ∷ cut n k (drop n bytes))

-- n bytes each, and what is left of them as a short one; there is no piece of no bytes
unfoldable pub pieces_of : (n : ℕ) → List ℕ → List (Piece n)
pieces_of zero bytes = []
pieces_of (suc n) bytes = cut (suc n) (length bytes) bytes

-- those of an input, where its bytes are known
abbrev pub known_pieces : (n : ℕ) → Option (List ℕ) → Option (List (Piece n))
known_pieces n None = None
known_pieces n (Some bytes) = Some (pieces_of n bytes)

-- what still comes of an iterator: nothing behind the end or an error
abbrev pub pieces_left : {R : Type 0} → (R → Option (List ℕ)) → Records R → Option (List (Piece record_size))
pieces_left remaining s = if s.turns == 0 then Some [] else known_pieces record_size (remaining s.input)

-- `Some(Ok(x))` is the first of those known to be left, which loses it; `None` comes only where none is left
abbrev pub GivesNext : {A E : Type 0} → Option (List A) → Option (Result A E) → Option (List A) → Type 0
GivesNext None r new = ⊤
GivesNext (Some xs) r new = MatchOption r (xs ≡ []) (λ item. IfOk item (λ x. (ys : _) × (new ≡ Some ys) × (xs ≡ x ∷ ys)))

-- a whole record was taken; or what was there is shorter, and the end is reached
abbrev pub Takes : (n : ℕ) → Option (List ℕ) → Piece n → Option (List ℕ) → Type 0
Takes n old (Whole bytes) new = (0 < n) × (length bytes ≡ n) × Consumes old new bytes
Takes n old Short new = IfSome old (λ xs. (0 < length xs) × (length xs < n)) × IsAtEnd new

abbrev pub TakesPiece : {E : Type 0} → (n : ℕ) → Option (List ℕ) → Option (Result (Piece n) E) → Option (List ℕ) → Type 0
TakesPiece n old r new = MatchOption r (0 < n → IsAtEnd old) (λ item. IfOk item (λ piece. Takes n old piece new))

-- it is a whole one; behind another nothing comes
abbrev pub is_whole : {n : ℕ} {E : Type 0} → Option (Result (Piece n) E) → Bool
is_whole (Some (Ok (Whole bytes))) = true
is_whole _ = false

-- its bytes; of a short one none are kept
abbrev pub bytes_of : {n : ℕ} → Piece n → List ℕ
bytes_of (Whole bytes) = bytes
bytes_of Short = []
