-- The pieces of an input, in small: each case by computing the definition.
use Rattle.std.proofs.Common.{◌≡◌, [], ◌∷◌, refl}
use Rattle.pieces.specs.Pieces.{cut, pieces_of}
use Rattle.pieces.specs.declared.Piece.TheVariants.{Whole, Short}

-- a record, one that the input cuts off, and no record
pub records :
    (pieces_of 4 (1 ∷ 2 ∷ 3 ∷ 4 ∷ []) ≡ Whole (1 ∷ 2 ∷ 3 ∷ 4 ∷ []) ∷ [])
    × (pieces_of 4 (1 ∷ 2 ∷ 3 ∷ 4 ∷ 5 ∷ []) ≡ Whole (1 ∷ 2 ∷ 3 ∷ 4 ∷ []) ∷ Short ∷ [])
    × (pieces_of 4 [] ≡ [])
unfolding cut pieces_of
records = (refl, refl, refl)
