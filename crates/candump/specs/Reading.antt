-- Reading a line. Where its parts stand, whether it is of the form (`form-is-line`: just where it is the line of parts
-- that fit), and its record with the ticks before it.
use Rattle.std.specs.Prelude.{ℕ, ◌+◌, ◌-◌, ◌/◌, ◌%◌, Bool, ◌&&◌, List, [], ◌∷◌, ◌++◌, length, take, drop, replicate, leb, eqb, Option, Some, None, unwrap_or, Result, Ok, Err}
use Rattle.std.specs.Bool.{then_some}
use Rattle.rules.specs.Tests.{unless, Need, need, first_unmet}
use Rattle.records.specs.Made.{frame_record}
use Rattle.candump.specs.Digits.{between, span, stands, number_of}
use Rattle.candump.specs.Lines.{Parts, most_seconds, decimal_digits, most_name, identifier_digits, most_identifier, most_data_digits, other_form, earlier, too_far, opens, closes, dot, hash, space, LF, error_number, time_of, identifier_of, data_of}
use Rattle.candump.specs.declared.digits.Class.{Class}
use Rattle.candump.specs.declared.form.Fields.{Fields}
use Rattle.candump.specs.declared.Log.{Log}
use Rattle.candump.specs.declared.LineRead.{LineRead}
use Rattle.candump.specs.declared.LogError.{LogError}

-- ---- where the parts stand

-- `(`, the seconds' digits, `.`, six decimals, `)`, a space
unfoldable pub seconds_count : List ℕ → ℕ
seconds_count l = span Class.Digit (drop 1 l)

abbrev pub time_length : List ℕ → ℕ
time_length l = seconds_count l + 10

-- the name's letters, a space
abbrev pub from_name : List ℕ → List ℕ
from_name l = drop (time_length l) l

abbrev pub name_length : List ℕ → ℕ
name_length l = span Class.Letter l + 1

-- the identifier's three digits, `#`
abbrev pub from_identifier : List ℕ → List ℕ
from_identifier l = drop (name_length (from_name l)) (from_name l)

-- the data's digits, LF
abbrev pub from_data : List ℕ → List ℕ
from_data l = drop (identifier_digits + 1) (from_identifier l)

unfoldable pub parts_in : List ℕ → Parts
parts_in l =
    record {
      seconds = take (seconds_count l) (drop 1 l);
      decimals = take decimal_digits (drop (seconds_count l + 2) l);
      name = take (span Class.Letter (from_name l)) (from_name l);
      identifier = take identifier_digits (from_identifier l);
      payload = take (span Class.Hex (from_data l)) (from_data l);
    }

-- ---- the form

-- seconds of 1 to 10 digits and six decimals
abbrev pub time_form_of : List ℕ → ℕ → Bool
time_form_of l seconds =
    stands l 0 opens
    && (between 1 most_seconds seconds
    && (stands l (seconds + 1) dot
    && (eqb (span Class.Digit (drop (seconds + 2) l)) decimal_digits
    && (stands l (seconds + 8) closes && stands l (seconds + 9) space))))

unfoldable pub time_form : List ℕ → Bool
time_form l = time_form_of l (seconds_count l)

-- 1 to 15 letters or digits
unfoldable pub name_form : List ℕ → Bool
name_form l = between 1 most_name (span Class.Letter l) && stands l (span Class.Letter l) space

-- three hex digits up to 7FF
unfoldable pub identifier_form : List ℕ → Bool
identifier_form l =
    eqb (span Class.Hex l) identifier_digits
    && (stands l identifier_digits hash && leb (number_of 16 (take identifier_digits l)) most_identifier)

-- 0 to 8 data bytes, and nothing behind LF
abbrev pub data_form_of : List ℕ → ℕ → Bool
data_form_of l digits =
    leb digits most_data_digits && (eqb (digits % 2) 0 && (stands l digits LF && eqb (length l) (digits + 1)))

unfoldable pub data_form : List ℕ → Bool
data_form l = data_form_of l (span Class.Hex l)

-- time, name, identifier and data, one behind the other
unfoldable pub of_form : List ℕ → Bool
of_form l = time_form l && (name_form (from_name l) && (identifier_form (from_identifier l) && data_form (from_data l)))

-- ---- what a line says

-- data with zeros behind them, eight bytes in all
unfoldable pub padded : List ℕ → List ℕ
padded bytes = bytes ++ replicate (8 - length bytes) 0

unfoldable pub fields_of : Parts → Fields
fields_of p =
    record {
      time = time_of p;
      identifier = identifier_of p;
      count = length (data_of p);
      bytes = padded (data_of p);
    }

-- one of another form says nothing
unfoldable pub fields_in : List ℕ → Option Fields
fields_in l = then_some (of_form l) (fields_of (parts_in l))

-- ---- the ticks before it

-- a millisecond in microseconds
abbrev pub millisecond : ℕ
millisecond = 1000

abbrev pub most_ticks : ℕ
most_ticks = 60000

-- before its first line
abbrev pub empty_log : Option Log
empty_log = None

abbrev pub log_of : ℕ → ℕ → Option Log
log_of first last = Some (record { first = first; last = last })

-- where there was no line yet, this one is the first
unfoldable pub since_first : Option Log → ℕ → Log
since_first log t = unwrap_or log (record { first = t; last = t })

-- for times t of this line, p of the line before and z of the first, (t - z) / 1 ms - (p - z) / 1 ms, both rounded down
unfoldable pub ticks_up_to : Log → ℕ → ℕ
ticks_up_to since t = (t - since.first) / millisecond - (since.last - since.first) / millisecond

-- ---- the call: 19, then 20, then 21; a refusal leaves the log

-- no time is earlier than that of the line before, and no two neighbouring lines are over 60,000 ticks apart
abbrev pub times_needs : Log → ℕ → List Need
times_needs since t = need earlier (leb since.last t) ∷ need too_far (leb (ticks_up_to since t) most_ticks) ∷ []

-- 20, then 21
unfoldable pub times_refusal : Log → ℕ → ℕ
times_refusal since t = first_unmet (times_needs since t)

-- 19 before both, held against the log from its first line on
unfoldable pub read_refusal : Option Log → List ℕ → ℕ
read_refusal log l =
    first_unmet (need other_form (of_form l) ∷ times_needs (since_first log (time_of (parts_in l))) (time_of (parts_in l)))

-- what is answered: the refusal, else the ticks and the record; and the log behind it
pub record Line : Type 0 where
  pub refused : ℕ
  pub ticks : ℕ
  pub bytes : List ℕ
  pub log : Option Log

abbrev pub refused_line : Option Log → ℕ → Line
refused_line log n = record { refused = n; ticks = 0; bytes = replicate 16 0; log = log }

-- the record of kind 1 and the ticks before it; the next line is held against this one
unfoldable pub read_line : Option Log → Fields → Line
read_line log f =
    record {
      refused = 0;
      ticks = ticks_up_to (since_first log f.time) f.time;
      bytes = frame_record f.identifier f.count f.bytes;
      log = log_of (since_first log f.time).first f.time;
    }

-- reading a line: refused, or its record and the ticks before it
unfoldable pub reads : Option Log → List ℕ → Line
reads log l = unless (read_refusal log l) (refused_line log) (read_line log (fields_of (parts_in l)))

-- as the code answers it: an error leaves the log
unfoldable pub line_said : Option Log → Result LineRead LogError → Line
line_said log (Ok r) = record { refused = 0; ticks = r.ticks; bytes = r.bytes; log = Some r.log }
line_said log (Err e) = refused_line log (error_number e)
