-- What the turns put out, and where they stop, is what the log's rules say of the whole list: each turn does what they say of one line or
-- record, and the number is one more each time as long as it fits.
use Rattle.std.proofs.Common.{◌≡◌, ℕ, zero, suc, ◌+◌, ◌%◌, ◌^◌, ◌<◌, Bool, true, false, eqb, List, [], ◌∷◌, ◌++◌, map, length, replicate, refl, ap, ◌∙◌, append-nil, mod-eq_of_lt, arith, Option}
use mathlib.Core.List.{map-append}
use Rattle.rules.specs.Tests.{pick, unless, first_unmet}
use Rattle.records.specs.Made.{frame_record, tick_record, turn_record}
use Rattle.candump.specs.Digits.{between, is_digit, is_hex, is_letter, is_of, span, stands, digit_value, number_after, bytes_of}
use Rattle.candump.specs.Reading.{Line, seconds_count, parts_in, time_form, name_form, identifier_form, data_form, of_form, padded, fields_of, empty_log, since_first, ticks_up_to, times_refusal, read_refusal, refused_line, read_line, reads}
use Rattle.candump.specs.Writing.{writes}
use Rattle.candump.proofs.Whole.{joined-append}
use Rattle.candump.specs.Files.{Outcome, stopped, behind, joined, records_of, read_lines, write_records}
use Rattle.candump.specs.declared.Log.{Log}
use Rattle.candump_converter.specs.declared.asked.Way.{Way}
use Rattle.candump_converter.specs.Pieces.{with_turn, line_records}
use Rattle.candump_converter.specs.Turns.{line_step, record_step, step_for, after}
use Rattle.candump_converter.specs.Files.{outcome, records_read, read_with}

next-number : (n k : ℕ) → n + suc k < 2 ^ 64 → after n ≡ suc n
next-number n k few = let e : (n + 1) % 2 ^ 64 ≡ n + 1 = mod-eq_of_lt (omega arith) in e ∙ omega arith

refusal_is : (n : ℕ) (log : Option Log) (r : Line) → r.refused ≡ 0 → (unless n (refused_line log) r).refused ≡ n
refusal_is zero log r e = e
refusal_is (suc n) log r e = refl

pub read-refused : (log : Option Log) (l : List ℕ) → (reads log l).refused ≡ read_refusal log l
unfolding reads read_line
read-refused log l = refusal_is (read_refusal log l) log _ refl

-- ---- reading, with turns or without

module _ (turns : Bool) (ds es : List (List ℕ)) (n : ℕ) (front : List ℕ) (o : Outcome) where
  -- a line that goes on or stops, and those behind it
  abbrev goes : Bool → ℕ → Outcome
  goes go refused =
      pick go (behind (joined (map (with_turn turns) ds)) (record { output = joined (map (with_turn turns) es); refused = o.refused; number = o.number })) (stopped refused n)

  abbrev says : Bool → ℕ → Outcome
  says go refused =
      record {
        output = joined (map (with_turn turns) (pick go (ds ++ es) []));
        refused = (pick go (behind front o) (stopped refused n)).refused;
        number = (pick go (behind front o) (stopped refused n)).number;
      }

  line-goes : (go : Bool) (refused : ℕ) → goes go refused ≡ says go refused
  unfolding joined
  line-goes true refused = rw (map-append, joined-append)
  line-goes false refused = refl

  line-then : (r refused : ℕ) → r ≡ refused → goes (eqb r 0) r ≡ says (eqb refused 0) refused
  line-then r refused e = rw e (line-goes (eqb refused 0) refused)

pub reads-with : (turns : Bool) (name : List ℕ) (n : ℕ) (log : Option Log) (t : ℕ) (ls : List (List ℕ)) → n + length ls < 2 ^ 64
    → outcome (Way.Read turns) name n log t ls ≡ read_with turns n log ls
unfolding outcome read_with records_read read_lines joined step_for line_step
reads-with turns name n log t [] few = refl
reads-with turns name n log t (l ∷ ls) few =
    let r : Line = reads log l in
    rw (next-number n (length ls) few, reads-with turns name (suc n) r.log t ls (omega arith))
    (line-then turns (line_records r.ticks r.bytes) (records_read r.log ls) n (records_of r) (read_lines (suc n) r.log ls) r.refused (read_refusal log l) (read-refused log l))

-- THE RECORDS OF THE LINES, one behind the other, are what the log's rules read.
records-line : (r : Line) → joined (line_records r.ticks r.bytes) ≡ records_of r
unfolding joined records_of
records-line r = joined-append (replicate r.ticks tick_record) (r.bytes ∷ []) ∙ ap (λ (l : List ℕ). joined (replicate r.ticks tick_record) ++ l) (append-nil r.bytes)

line_read : (go : Bool) (r : Line) (es : List (List ℕ)) (o : Outcome) (refused n : ℕ) → o.output ≡ joined es
    → (pick go (behind (records_of r) o) (stopped refused n)).output ≡ joined (pick go (line_records r.ticks r.bytes ++ es) [])
unfolding joined
line_read true r es o refused n e = rw (e, joined-append, records-line)
line_read false r es o refused n e = refl

pub records-read : (n : ℕ) (log : Option Log) (ls : List (List ℕ)) → (read_lines n log ls).output ≡ joined (records_read log ls)
unfolding read_lines records_read joined
records-read n log [] = refl
records-read n log (l ∷ ls) =
    line_read (eqb (read_refusal log l) 0) (reads log l) _ _ (read_refusal log l) n (records-read (suc n) (reads log l).log ls)

alone : (ds : List (List ℕ)) → map (with_turn false) ds ≡ ds
unfolding with_turn
alone [] = refl
alone (d ∷ ds) = ap (λ (l : List (List ℕ)). d ∷ l) (alone ds)

-- READ WITHOUT TURNS, the lines are what the log's rules make of them.
pub reads_lines : (name : List ℕ) (n : ℕ) (log : Option Log) (t : ℕ) (ls : List (List ℕ)) → n + length ls < 2 ^ 64
    → outcome (Way.Read false) name n log t ls ≡ read_lines n log ls
unfolding read_with
reads_lines name n log t ls few = reads-with false name n log t ls few ∙ rw (alone, ← records-read n log ls)

-- ---- WRITTEN, the records are what the log's rules make of them

pub writes-records : (name : List ℕ) (n : ℕ) (log : Option Log) (t : ℕ) (ds : List (List ℕ)) → n + length ds < 2 ^ 64
    → outcome Way.Write name n log t ds ≡ write_records name n t ds
unfolding outcome write_records joined step_for record_step
writes-records name n log t [] few = refl
writes-records name n log t (d ∷ ds) few =
    rw (next-number n (length ds) few, writes-records name (suc n) log (writes name t d).time ds (omega arith), append-nil)

-- ---- two lines a millisecond apart, `(0.000000) a 001#` and `(0.001000) a 001#`, and what is no line

abbrev line : ℕ → List ℕ
line digit = 40 ∷ 48 ∷ 46 ∷ 48 ∷ 48 ∷ digit ∷ 48 ∷ 48 ∷ 48 ∷ 41 ∷ 32 ∷ 97 ∷ 32 ∷ 48 ∷ 48 ∷ 49 ∷ 35 ∷ 10 ∷ []

abbrev frame : List ℕ
frame = 1 ∷ 0 ∷ 0 ∷ 1 ∷ replicate 12 0

pub reads_here : outcome (Way.Read true) [] 1 empty_log 0 (line 48 ∷ line 49 ∷ [] ∷ [])
    ≡ record { output = joined (frame ∷ turn_record ∷ tick_record ∷ turn_record ∷ frame ∷ turn_record ∷ []); refused = 19; number = 3 }
unfolding read_with records_read read_lines joined records_of with_turn read_refusal reads read_line since_first ticks_up_to times_refusal first_unmet of_form time_form name_form identifier_form data_form fields_of parts_in seconds_count padded between is_digit is_hex is_letter is_of span stands digit_value number_after bytes_of frame_record
reads_here = reads-with true [] 1 empty_log 0 (line 48 ∷ line 49 ∷ [] ∷ []) (omega arith)
