-- Writing a record. A frame becomes a line, a tick adds a millisecond, a send and a turn are skipped.
use Rattle.std.specs.Prelude.{ℕ, ◌+◌, ◌-◌, ◌/◌, ◌%◌, ◌^◌, min, Bool, true, false, ◌&&◌, List, [], ◌∷◌, length, take, drop, leb, ltb, Result, Ok, Err}
use Rattle.rules.specs.Tests.{pick, unless, need, first_unmet}
use Rattle.records.specs.Records.{record_of}
use Rattle.records.specs.declared.record.Record.{Record}
use Rattle.records.specs.declared.record.BadRecord.{BadRecord}
use Rattle.text.specs.Building.{decimal, hex_digit, hex_text}
use Rattle.candump.specs.Lines.{Parts, line_of, most_seconds, most_identifier, other_form, is_name}
use Rattle.candump.specs.Reading.{millisecond}

-- a second in microseconds
abbrev pub second : ℕ
second = 1000000

-- the first time whose seconds have eleven digits
abbrev pub eleven_digits : ℕ
eleven_digits = 10000000000000000

-- ---- a line that is written

-- six digits, zeros in front
unfoldable pub six_digits : ℕ → List ℕ
six_digits n =
    (48 + n / 100000 % 10)
    ∷ (48 + n / 10000 % 10)
    ∷ (48 + n / 1000 % 10)
    ∷ (48 + n / 100 % 10)
    ∷ (48 + n / 10 % 10)
    ∷ (48 + n % 10)
    ∷ []

-- the seconds have no zero in front beyond one digit; two hex digits for a byte, three for the identifier
unfoldable pub written_parts : ℕ → List ℕ → ℕ → List ℕ → Parts
written_parts t name identifier bytes =
    record {
      seconds = decimal most_seconds (t / second);
      decimals = six_digits (t % second);
      name = name;
      identifier = hex_digit (identifier / 256) ∷ hex_text (identifier % 256 ∷ []);
      payload = hex_text bytes;
    }

-- ---- the call: 19 for a name or a record of another form, an identifier above 7FF or a time of eleven digits where a frame is written; a
-- refusal leaves the time

-- a record that can be written at this time
unfoldable pub writable : ℕ → Result Record BadRecord → Bool
writable t (Err bad) = false
writable t (Ok (Record.Frame identifier long)) = leb identifier most_identifier && ltb t eleven_digits
writable t (Ok Record.Tick) = true
writable t (Ok (Record.Send berth long first)) = true
writable t (Ok Record.Turn) = true

-- the name is tested first
unfoldable pub write_refusal : List ℕ → ℕ → List ℕ → ℕ
write_refusal name t d = first_unmet (need other_form (is_name name) ∷ need other_form (writable t (record_of d)) ∷ [])

-- a frame's line; no other record has one
unfoldable pub line_for : List ℕ → ℕ → List ℕ → Result Record BadRecord → List ℕ
line_for name t d (Err bad) = []
line_for name t d (Ok (Record.Frame identifier long)) = line_of (written_parts t name identifier (take long (drop 8 d)))
line_for name t d (Ok Record.Tick) = []
line_for name t d (Ok (Record.Send berth long first)) = []
line_for name t d (Ok Record.Turn) = []

-- a tick adds a millisecond, and the last time that eight bytes hold stays
unfoldable pub time_after : ℕ → Result Record BadRecord → ℕ
time_after t (Err bad) = t
time_after t (Ok (Record.Frame identifier long)) = t
time_after t (Ok Record.Tick) = min (t + millisecond) (2 ^ 64 - 1)
time_after t (Ok (Record.Send berth long first)) = t
time_after t (Ok Record.Turn) = t

-- what is answered: the refusal, the text, and the time behind it
pub record Wrote : Type 0 where
  pub refused : ℕ
  pub text : List ℕ
  pub time : ℕ

abbrev pub refused_record : ℕ → ℕ → Wrote
refused_record t n = record { refused = n; text = []; time = t }

abbrev pub written_record : List ℕ → ℕ → Wrote
written_record text t = record { refused = 0; text = text; time = t }

-- of a frame
unfoldable pub frame_written : ℕ → List ℕ → ℕ → List ℕ → Wrote
frame_written t name identifier bytes =
    pick (writable t (Ok (Record.Frame identifier (length bytes)))) (written_record (line_of (written_parts t name identifier bytes)) t) (refused_record t other_form)

-- writing a record: refused, or its text and the time behind it
unfoldable pub writes : List ℕ → ℕ → List ℕ → Wrote
writes name t d =
    unless (write_refusal name t d) (refused_record t)
    (written_record (line_for name t d (record_of d)) (time_after t (record_of d)))
