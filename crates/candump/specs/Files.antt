-- Whole files. A log's lines read one after the other, and records written one after the other, up to the first refusal.
use Rattle.std.specs.Prelude.{Option, ℕ, zero, suc, ◌+◌, ◌/◌, ◌<◌, Bool, true, false, ◌&&◌, List, [], ◌∷◌, ◌++◌, length, take, drop, replicate, leb, eqb, Result, Ok, Err}
use Rattle.rules.specs.Tests.{pick}
use Rattle.records.specs.Records.{record_of}
use Rattle.records.specs.Made.{tick_record}
use Rattle.records.specs.declared.record.Record.{Record}
use Rattle.records.specs.declared.record.BadRecord.{BadRecord}
use Rattle.candump.specs.Lines.{other_form, LF, is_name}
use Rattle.candump.specs.declared.Log.{Log}
use Rattle.candump.specs.Reading.{Line, most_ticks, empty_log, read_refusal, reads}
use Rattle.candump.specs.Writing.{writes}

-- ---- what comes of a file: what is put out, and the refusal that ended it, with the number of its line or record; 0 and 0 if none did, and the
-- number 0 too where the name was refused

pub record Outcome : Type 0 where
  pub output : List ℕ
  pub refused : ℕ
  pub number : ℕ

-- nothing is left
abbrev pub ended : Outcome
ended = record { output = []; refused = 0; number = 0 }

-- a refusal, and nothing behind it
abbrev pub stopped : ℕ → ℕ → Outcome
stopped refused number = record { output = []; refused = refused; number = number }

-- what was put out before goes in front
abbrev pub behind : List ℕ → Outcome → Outcome
behind front o = record { output = front ++ o.output; refused = o.refused; number = o.number }

-- some lists of bytes, one behind the other
unfoldable pub joined : List (List ℕ) → List ℕ
joined [] = []
joined (d ∷ ds) = d ++ joined ds

-- ---- reading

-- a byte goes to the line behind it; LF is a line's last byte
unfoldable pub in_front : ℕ → List (List ℕ) → List (List ℕ)
in_front b [] = (b ∷ []) ∷ []
in_front b (l ∷ ls) = (b ∷ l) ∷ ls

-- the lines of a file, each with its LF; what stands behind the last LF is a line too
unfoldable pub lines_in : List ℕ → List (List ℕ)
lines_in [] = []
lines_in (b ∷ bs) = pick (eqb b LF) ((b ∷ []) ∷ lines_in bs) (in_front b (lines_in bs))

-- the records of a line: its ticks, and its frame
unfoldable pub records_of : Line → List ℕ
records_of r = joined (replicate r.ticks tick_record) ++ r.bytes

-- lines from this number on
unfoldable pub read_lines : ℕ → Option Log → List (List ℕ) → Outcome
read_lines n log [] = ended
read_lines n log (l ∷ ls) =
    pick (eqb (read_refusal log l) 0) (behind (records_of (reads log l)) (read_lines (suc n) (reads log l).log ls)) (stopped (read_refusal log l) n)

-- a log: its lines, counted from 1, with none before them
unfoldable pub read_file : List ℕ → Outcome
read_file file = read_lines 1 empty_log (lines_in file)

-- ---- writing

-- so many pieces of sixteen bytes
unfoldable pub pieces : ℕ → List ℕ → List (List ℕ)
pieces zero file = []
pieces (suc n) file = take 16 file ∷ pieces n (drop 16 file)

-- the records of a file; a last part under sixteen bytes counts as one
unfoldable pub records_in : List ℕ → List (List ℕ)
records_in file = pieces ((length file + 15) / 16) file

-- records from this number and time on
unfoldable pub write_records : List ℕ → ℕ → ℕ → List (List ℕ) → Outcome
write_records name n t [] = ended
write_records name n t (d ∷ ds) =
    pick (eqb (writes name t d).refused 0)
    (behind (writes name t d).text (write_records name (suc n) (writes name t d).time ds))
    (stopped (writes name t d).refused n)

-- from 0.000000; a name of another form is refused before any record, with the number 0
unfoldable pub write_file : List ℕ → List ℕ → Outcome
write_file name file = pick (is_name name) (write_records name 1 0 (records_in file)) (stopped other_form 0)

-- ---- the law's words

-- a frame or a tick, or neither
unfoldable pub is_frame : Result Record BadRecord → Bool
is_frame (Err bad) = false
is_frame (Ok (Record.Frame identifier long)) = true
is_frame (Ok Record.Tick) = false
is_frame (Ok (Record.Send berth long first)) = false
is_frame (Ok Record.Turn) = false

unfoldable pub is_tick : Result Record BadRecord → Bool
is_tick (Err bad) = false
is_tick (Ok (Record.Frame identifier long)) = false
is_tick (Ok Record.Tick) = true
is_tick (Ok (Record.Send berth long first)) = false
is_tick (Ok Record.Turn) = false

-- the frames and the ticks between them: those before the first frame and behind the last are left out. So many ticks wait for the next frame,
-- and there was a frame before them or not
unfoldable pub frames_from : Bool → ℕ → List (List ℕ) → List (List ℕ)
frames_from begun ticks [] = []
frames_from begun ticks (d ∷ ds) =
    pick (is_frame (record_of d)) (pick begun (replicate ticks tick_record) [] ++ d ∷ frames_from true 0 ds)
    (frames_from begun (pick (is_tick (record_of d)) (suc ticks) ticks) ds)

abbrev pub frames_and_ticks : List (List ℕ) → List (List ℕ)
frames_and_ticks ds = frames_from false 0 ds

-- no two neighbouring frames are over 60,000 ticks apart
unfoldable pub near_from : Bool → ℕ → List (List ℕ) → Bool
near_from begun ticks [] = true
near_from begun ticks (d ∷ ds) =
    pick (is_frame (record_of d)) (pick begun (leb ticks most_ticks) true && near_from true 0 ds)
    (near_from begun (pick (is_tick (record_of d)) (suc ticks) ticks) ds)

abbrev pub near : List (List ℕ) → Bool
near ds = near_from false 0 ds

-- a file is bytes
unfoldable pub Bytes : List ℕ → Type 0
Bytes [] = Unit {0}
Bytes (b ∷ bs) = (b < 256) × Bytes bs
