-- What the converter does with an input, over its whole run.
use Rattle.std.specs.Prelude.{◌≡◌, ℕ, List, map, Option, Some, None, IfSome}
use Rattle.std.specs.Io.KnownBytes.{Appends}
use Rattle.pieces.specs.Pieces.{record_size, pieces_of, bytes_of}
use Rattle.candump.specs.Lines.{error_number}
use Rattle.candump.specs.Reading.{empty_log}
use Rattle.candump.specs.Files.{Outcome}
use Rattle.candump_converter.specs.declared.asked.Way.{Way}
use Rattle.candump_converter.specs.declared.asked.Refusal.{Refusal}
use Rattle.candump_converter.specs.Files.{outcome}

-- the records of a file; of a last part that is too short for one no bytes are kept, and it is refused as it would be with them
unfoldable pub records_of : List ℕ → List (List ℕ)
records_of bytes = map bytes_of (pieces_of record_size bytes)

-- what a run put out, and the refusal at which it stopped, if it did
abbrev pub came_of : List ℕ → Option Refusal → Outcome
came_of output None = record { output = output; refused = 0; number = 0 }
came_of output (Some r) = record { output = output; refused = error_number r.error; number = r.number }

-- Some lines or records came, and what comes of them was written and nothing else. Where the input's bytes are known, these are its own.
abbrev pub Converts : Way → List ℕ → (List ℕ → List (List ℕ)) → Option (List ℕ) → Option (List ℕ) → Option (List ℕ) → Option Refusal → Type 0
Converts way name cut input old new stop =
    (parts : List (List ℕ)) × (output : List ℕ) × IfSome input (λ bytes. parts ≡ cut bytes) × Appends old new output
    × (outcome way name 1 empty_log 0 parts ≡ came_of output stop)
    × IfSome stop (λ r. r.way ≡ way)
