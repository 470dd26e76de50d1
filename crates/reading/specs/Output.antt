-- Output that is collected in a buffer: what waits after some bytes are put, and the buffer then.
use Rattle.std.specs.Prelude.{ℕ, ◌+◌, ◌-◌, min, ◌==◌, List, [], ◌++◌, length, take, drop, reverse, ℤ, leb}
use Rattle.std.specs.List.{position_or_len}
use Rattle.std.proofs.Math.Seq.{paste}
use Rattle.rules.specs.Tests.{pick}
use Rattle.reading.specs.declared.output.Sink.{Sink}
use Rattle.reading.specs.Input.{LF}

abbrev pub waits : ℤ → ℕ → Sink
waits file n = record { file = file; waiting = n }

abbrev pub idle : ℤ → Sink
idle file = waits file 0

-- how many bytes of a buffer wait, whatever the sink says
abbrev pub waiting_in : Sink → List ℕ → ℕ
waiting_in s buffer = min s.waiting (length buffer)

-- behind those that wait; else alone; else, longer than the buffer, not in it at all
unfoldable pub sink_after : Sink → List ℕ → List ℕ → Sink
sink_after s buffer some =
    pick (leb (length some) (length buffer - waiting_in s buffer)) (waits s.file (waiting_in s buffer + length some))
    (pick (leb (length some) (length buffer)) (waits s.file (length some)) (idle s.file))

unfoldable pub buffer_after : Sink → List ℕ → List ℕ → List ℕ
buffer_after s buffer some =
    pick (leb (length some) (length buffer - waiting_in s buffer)) (paste buffer (waiting_in s buffer) some (length some))
    (pick (leb (length some) (length buffer)) (paste buffer 0 some (length some)) buffer)

-- ---- what goes to the file meanwhile. No contract can say what is written; by this definition no byte is lost (`put_keeps`)

unfoldable pub waiting_bytes : Sink → List ℕ → List ℕ
waiting_bytes s buffer = take (waiting_in s buffer) buffer

unfoldable pub to_file : Sink → List ℕ → List ℕ → List ℕ
to_file s buffer some =
    pick (leb (length some) (length buffer - waiting_in s buffer)) []
    (pick (leb (length some) (length buffer)) (waiting_bytes s buffer) (waiting_bytes s buffer ++ some))

-- ---- an output of lines: where some bytes have no room, the whole lines that wait are written first, and the rest moves to the front

-- how long the whole lines at the front of some bytes are: up to the last LF
unfoldable pub lines_length : List ℕ → ℕ
lines_length bytes = length bytes - position_or_len (λ b. b == LF) (reverse bytes)

unfoldable pub cleared : Sink → List ℕ → ℕ → Sink
cleared s buffer n =
    pick (leb n (length buffer - waiting_in s buffer)) s (waits s.file (waiting_in s buffer - lines_length (waiting_bytes s buffer)))

unfoldable pub cleared_in : Sink → List ℕ → ℕ → List ℕ
cleared_in s buffer n =
    pick (leb n (length buffer - waiting_in s buffer)) buffer
    (paste buffer 0 (drop (lines_length (waiting_bytes s buffer)) buffer) (waiting_in s buffer - lines_length (waiting_bytes s buffer)))

unfoldable pub lines_to_file : Sink → List ℕ → ℕ → List ℕ
lines_to_file s buffer n =
    pick (leb n (length buffer - waiting_in s buffer)) [] (take (lines_length (waiting_bytes s buffer)) (waiting_bytes s buffer))
