-- What the reader writes of an input, over its whole run.
use Rattle.std.specs.Prelude.{◌≡◌, ℕ, List, map, Option, Some, None, IfSome, if◌then◌else◌}
use Rattle.std.specs.Io.KnownBytes.{Appends}
use Rattle.pieces.specs.Pieces.{record_size, pieces_of, bytes_of}
use Rattle.pieces.specs.declared.Piece.{Piece}
use Rattle.journal.specs.Records.{entry_in, accepts}
use Rattle.journal.specs.declared.Entry.{Entry}
use Rattle.journal_reader.specs.Lines.{texts_of}

-- the entry of a whole record that is accepted; what is too short for a record counts as none
abbrev pub good_entry : {n : ℕ} → Piece n → Option Entry
good_entry piece = if accepts (bytes_of piece) then Some (entry_in (bytes_of piece)) else None

-- the lines of some pieces, from the first record on
abbrev pub lines_from : ℕ → List (Piece record_size) → List ℕ
lines_from number pieces = texts_of number (map bytes_of pieces)

-- Some pieces came, and their lines were written and nothing else. Where the input's bytes are known these are its pieces.
abbrev pub WritesLines : Option (List ℕ) → Option (List ℕ) → Option (List ℕ) → Type 0
WritesLines input old new =
    (pieces : List (Piece record_size)) × IfSome input (λ bytes. pieces ≡ pieces_of record_size bytes) × Appends old new (lines_from 1 pieces)
