-- What the converter does with a line or a record, and what it says of a refusal.
use Rattle.std.specs.Prelude.{ℕ, ◌+◌, ◌%◌, ◌^◌, Bool, List, [], ◌∷◌, ◌++◌, map, Option}
use Rattle.text.specs.Building.{decimal, small_places, number_places}
use Rattle.text.specs.Answers.{refused_word}
use Rattle.candump.specs.Lines.{LF, other_form}
use Rattle.candump.specs.Reading.{reads}
use Rattle.candump.specs.Writing.{writes}
use Rattle.candump.specs.declared.Log.{Log}
use Rattle.candump_converter.specs.declared.asked.Way.{Way}
use Rattle.candump_converter.specs.Pieces.{with_turn, line_records}

-- ---- what a line or a record does: its refusal, or its pieces, and what the next one is held against

pub record Step : Type 0 where
  pub refused : ℕ
  pub pieces : List (List ℕ)
  pub log : Option Log
  pub time : ℕ

unfoldable pub line_step : Bool → Option Log → ℕ → List ℕ → Step
line_step turns log t l =
    record {
      refused = (reads log l).refused;
      pieces = map (with_turn turns) (line_records (reads log l).ticks (reads log l).bytes);
      log = (reads log l).log;
      time = t;
    }

unfoldable pub record_step : List ℕ → Option Log → ℕ → List ℕ → Step
record_step name log t d =
    record { refused = (writes name t d).refused; pieces = (writes name t d).text ∷ []; log = log; time = (writes name t d).time }

-- a line, or a record
unfoldable pub step_for : Way → List ℕ → Option Log → ℕ → List ℕ → Step
step_for (Way.Read turns) name log t d = line_step turns log t d
step_for Way.Write name log t d = record_step name log t d

-- the next number
abbrev pub after : ℕ → ℕ
after n = (n + 1) % 2 ^ 64

-- ---- what is said of a refusal

-- " line "
abbrev pub line_word : List ℕ
line_word = 32 ∷ 108 ∷ 105 ∷ 110 ∷ 101 ∷ 32 ∷ []

-- " record "
abbrev pub record_word : List ℕ
record_word = 32 ∷ 114 ∷ 101 ∷ 99 ∷ 111 ∷ 114 ∷ 100 ∷ 32 ∷ []

-- " name"
abbrev pub name_word : List ℕ
name_word = 32 ∷ 110 ∷ 97 ∷ 109 ∷ 101 ∷ []

unfoldable pub part_word : Way → List ℕ
part_word (Way.Read turns) = line_word
part_word Way.Write = record_word

-- `refused 20 line 7`
unfoldable pub refusal_text : Way → ℕ → ℕ → List ℕ
refusal_text way refused number =
    refused_word ++ (decimal small_places refused ++ (part_word way ++ (decimal number_places number ++ (LF ∷ []))))

-- `refused 19 name`
unfoldable pub name_text : List ℕ
name_text = refused_word ++ (decimal small_places other_form ++ (name_word ++ (LF ∷ [])))
