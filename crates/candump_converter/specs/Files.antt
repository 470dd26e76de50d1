-- What the converter makes of a list of lines or records, step by step; and of lines with a turn record behind each of their
-- records.
use Rattle.std.specs.Prelude.{ℕ, Bool, List, [], ◌∷◌, ◌++◌, map, ◌==◌, Option}
use Rattle.rules.specs.Tests.{pick}
use Rattle.candump.specs.Reading.{read_refusal, reads}
use Rattle.candump.specs.Files.{Outcome, ended, stopped, behind, joined, read_lines}
use Rattle.candump.specs.declared.Log.{Log}
use Rattle.candump_converter.specs.declared.asked.Way.{Way}
use Rattle.candump_converter.specs.Pieces.{with_turn, line_records}
use Rattle.candump_converter.specs.Turns.{step_for, after}

-- the pieces of its steps from this number on, one behind the other, and the refusal at which they stop
unfoldable pub outcome : Way → List ℕ → ℕ → Option Log → ℕ → List (List ℕ) → Outcome
outcome way name n log t [] = ended
outcome way name n log t (d ∷ ds) =
    pick ((step_for way name log t d).refused == 0)
    (behind (joined (step_for way name log t d).pieces) (outcome way name (after n) (step_for way name log t d).log (step_for way name log t d).time ds))
    (stopped (step_for way name log t d).refused n)

-- the records of some lines, up to the first refusal
unfoldable pub records_read : Option Log → List (List ℕ) → List (List ℕ)
records_read log [] = []
records_read log (l ∷ ls) =
    pick (read_refusal log l == 0) (line_records (reads log l).ticks (reads log l).bytes ++ records_read (reads log l).log ls) []

-- the lines read: each record of theirs, with a turn record behind it where turns are asked for
unfoldable pub read_with : Bool → ℕ → Option Log → List (List ℕ) → Outcome
read_with turns n log ls =
    record {
      output = joined (map (with_turn turns) (records_read log ls));
      refused = (read_lines n log ls).refused;
      number = (read_lines n log ls).number;
    }
