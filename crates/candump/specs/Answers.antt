-- What the code answers to a record, in the words of the log's rules.
use Rattle.std.specs.Prelude.{ℕ, ◌≡◌, List, [], Option, Some, None, Result, Ok, Err}
use Rattle.candump.specs.Lines.{line_of, error_number}
use Rattle.candump.specs.Writing.{written_parts, Wrote, refused_record, written_record}
use Rattle.candump.specs.declared.LogError.{LogError}
use Rattle.candump.specs.declared.Written.{Written}
use Rattle.candump.specs.declared.frame_line.FrameLine.{FrameLine}

-- the text of a line that the code writes, and none where there is no line
unfoldable pub text_of : Option FrameLine → List ℕ
text_of None = []
text_of (Some line) = line_of (written_parts line.time line.name.now line.identifier line.payload.now)

-- as the code answers it: an error leaves the time
unfoldable pub wrote : ℕ → Result Written LogError → Wrote
wrote t (Ok r) = written_record (text_of r.line) r.time
wrote t (Err e) = refused_record t (error_number e)

-- refused alike, or with the same text at the same time
abbrev pub SameWritten : Result Written LogError → Result Written LogError → Type 0
SameWritten (Ok r) (Ok q) = (text_of r.line ≡ text_of q.line) × (r.time ≡ q.time)
SameWritten (Ok r) (Err e) = ⊥
SameWritten (Err d) (Ok q) = ⊥
SameWritten (Err d) (Err e) = d ≡ e
