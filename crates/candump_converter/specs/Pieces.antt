-- What is put out for a line, piece by piece: its records, and with turns a turn record behind each.
use Rattle.std.specs.Prelude.{ℕ, Bool, List, [], ◌∷◌, ◌++◌, replicate}
use Rattle.rules.specs.Tests.{pick}
use Rattle.records.specs.Made.{tick_record, turn_record}

-- a record, with a turn record behind it where turns are asked for
unfoldable pub with_turn : Bool → List ℕ → List ℕ
with_turn turns d = pick turns (d ++ turn_record) d

-- a line's records: its ticks, and its frame
abbrev pub line_records : ℕ → List ℕ → List (List ℕ)
line_records ticks frame = replicate ticks tick_record ++ (frame ∷ [])
