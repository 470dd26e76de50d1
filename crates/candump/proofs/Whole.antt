-- Whole files, there and back, record by record: a frame's line is read as that frame behind the ticks that were waiting for it, and a record
-- without a line leaves the reader where it is.
use mathlib.Core.Path.{◌≡◌, refl, sym, ap, ◌∙◌}
use Prim.Native.Nat.{ℕ, zero, suc, ◌+◌, ◌/◌, ◌<◌}
use native.Mathlib.Omega.{arith}
use mathlib.Core.Bool.{Bool, true, false}
use mathlib.Core.List.{List, [], ◌∷◌, ◌++◌, append_assoc}
use lib.ListN.{length, drop, replicate}
use lib.Dec.{T, leb, ltb}
use mir.Facts.{ltb_yes}
use Rattle.rules.specs.Tests.{pick}
use Rattle.rules.proofs.Cases.{is_true, yes_of, and_left, and_right}
use Rattle.records.specs.Records.{record_of}
use Rattle.records.specs.Made.{tick_record}
use Rattle.records.specs.declared.record.Record.{Record}
use Rattle.records.specs.declared.record.BadRecord.{BadRecord}
use Rattle.candump.specs.Lines.{most_identifier, other_form, is_name}
use Rattle.std.specs.Prelude.{Option, Result, Ok, Err}
use Rattle.candump.specs.declared.Log.{Log}
use Rattle.candump.specs.Reading.{most_ticks, empty_log, log_of, since_first}
use Rattle.candump.specs.Writing.{eleven_digits, writable, line_for, time_after}
use Rattle.candump.specs.Files.{Outcome, stopped, joined, lines_in, read_lines, read_file, pieces, records_in, write_records, write_file, is_frame, is_tick, frames_from, frames_and_ticks, near_from, near, Bytes}
use Rattle.candump.proofs.Steps.{Went, goes_on, Waits, none_yet, tick-waits, frame-waits, bad-unable, bytes_drop, bytes_take, line_reads}

-- ---- records joined

pub joined-append : (us bs : List (List ℕ)) → joined (us ++ bs) ≡ joined us ++ joined bs
unfolding joined
joined-append [] bs = refl
joined-append (u ∷ us) bs = ap (λ (r : List ℕ). u ++ r) (joined-append us bs) ∙ sym (append_assoc u (joined us) (joined bs))

joined-frame : (us : List (List ℕ)) (d : List ℕ) (ds : List (List ℕ)) → (joined us ++ d) ++ joined ds ≡ joined (us ++ d ∷ ds)
unfolding joined
joined-frame us d ds = append_assoc (joined us) d (joined ds) ∙ sym (joined-append us (d ∷ ds))

abbrev given : List (List ℕ) → Outcome
given ds = record { output = joined ds; refused = 0; number = 0 }

-- ---- one record more in front

-- what is claimed of some records
abbrev Back : List ℕ → List (List ℕ) → Type 0
Back name ds =
    (n m t w : ℕ) (log : Option Log) (begun : Bool) → Waits t w log begun → (write_records name m t ds).refused ≡ 0 → near_from begun w ds ≡ true
    → read_lines n log (lines_in (write_records name m t ds).output) ≡ given (frames_from begun w ds)

module _ (name d : List ℕ) (ds : List (List ℕ)) (ih : Back name ds) (n m t w : ℕ) (log : Option Log) (begun : Bool) (on : Went name m t d ds) where
  -- of a record without a line, behind which it is so late and so many ticks are waiting, nothing is read
  quiet : (later waiting : ℕ) → Waits later waiting log begun → write_records name m t (d ∷ ds) ≡ write_records name (suc m) later ds
      → frames_from begun w (d ∷ ds) ≡ frames_from begun waiting ds → near_from begun w (d ∷ ds) ≡ near_from begun waiting ds
      → (write_records name m t (d ∷ ds)).refused ≡ 0 → near_from begun w (d ∷ ds) ≡ true
      → read_lines n log (lines_in (write_records name m t (d ∷ ds)).output) ≡ given (frames_from begun w (d ∷ ds))
  quiet later waiting s written frames nears none close =
      rw (written, frames) (ih n (suc m) later waiting log begun s (rw written at none) (rw nears at close))

  module _ (none : (write_records name m t (d ∷ ds)).refused ≡ 0) (close : near_from begun w (d ∷ ds) ≡ true) (s : Waits t w log begun) where
    abbrev Goal : Type 0
    Goal = read_lines n log (lines_in (write_records name m t (d ∷ ds)).output) ≡ given (frames_from begun w (d ∷ ds))

    tick-step : record_of d ≡ Ok Record.Tick → Goal
    unfolding frames_from near_from is_frame is_tick line_for
    tick-step is = quiet (time_after t (Ok Record.Tick)) (suc w) (tick-waits s) (rw is at on.on) (rw is) (rw is) none close

    send-step : (berth long first : ℕ) → record_of d ≡ Ok (Record.Send berth long first) → Goal
    unfolding frames_from near_from is_frame is_tick line_for time_after
    send-step berth long first is = quiet t w s (rw is at on.on) (rw is) (rw is) none close

    turn_step : record_of d ≡ Ok Record.Turn → Goal
    unfolding frames_from near_from is_frame is_tick line_for time_after
    turn_step is = quiet t w s (rw is at on.on) (rw is) (rw is) none close

    frame_step : (identifier long : ℕ) → record_of d ≡ Ok (Record.Frame identifier long) → Bytes d → Goal
    unfolding frames_from near_from is_frame line_for time_after writable
    frame_step identifier long is small =
        let able : T (writable t (Ok (Record.Frame identifier long))) = rw is at on.able in
        let early : t < eleven_digits = ltb_yes (and_right (leb identifier most_identifier) (ltb t eleven_digits) able) in
        let near-all = yes_of (rw is at close) in
        let few = and_left (pick begun (leb w most_ticks) true) (near_from true 0 ds) near-all in
        let rest = and_right (pick begun (leb w most_ticks) true) (near_from true 0 ds) near-all in
        let same = rw is at on.on in
        let r = frame-waits s early few in
        let none-there = ap (λ (o : Outcome). o.refused) (sym same) ∙ none in
        let there = ih (suc n) (suc m) t 0 (log_of (since_first log t).first t) true r.next none-there (is_true (near_from true 0 ds) rest) in
        rw (same, is)
        (line_reads n log name t d identifier long is small on.named able r.passes (write_records name (suc m) t ds).output
        ∙ rw (r.ticks, there)
        (ap (λ (out : List ℕ). record { output = out; refused = 0; number = 0 }) (joined-frame (pick begun (replicate w tick_record) []) d (frames_from true 0 ds))))

    one-step : Bytes d → Goal
    one-step small = go (record_of d) refl
      where
        go : (r : Result Record BadRecord) → record_of d ≡ r → Goal
        go (Err bad) is = absurd (bad-unable t (rw is at on.able))
        go (Ok (Record.Frame identifier long)) is = frame_step identifier long is small
        go (Ok Record.Tick) is = tick-step is
        go (Ok (Record.Send berth long first)) is = send-step berth long first is
        go (Ok Record.Turn) is = turn_step is

-- ---- all records

abbrev AllBytes : List (List ℕ) → Type 0
AllBytes [] = Unit {0}
AllBytes (d ∷ ds) = Bytes d × AllBytes ds

all_back : (name : List ℕ) (ds : List (List ℕ)) → AllBytes ds → Back name ds
unfolding write_records lines_in read_lines frames_from joined
all_back name [] small n m t w log begun s none close = refl
all_back name (d ∷ ds) (first, small) n m t w log begun s none close =
    one-step name d ds (all_back name ds small) n m t w log begun (goes_on name m t d ds none) none close s first

pieces-bytes : (n : ℕ) (file : List ℕ) → Bytes file → AllBytes (pieces n file)
unfolding pieces
pieces-bytes zero file small = tt
pieces-bytes (suc n) file small = (bytes_take 16 file small, pieces-bytes n (drop 16 file) (bytes_drop 16 file small))

name-passed : (b : Bool) (o : Outcome) → (pick b o (stopped other_form 0)).refused ≡ 0 → b ≡ true
name-passed true o e = refl
name-passed false o e = absurd (omega arith)

-- THERE AND BACK: where the writer refused nothing of a file and no two neighbouring frames are over 60,000 ticks apart, what is read of the
-- written lines is the file's frames and the ticks between them.
pub there_and_back : (name file : List ℕ) → Bytes file → (write_file name file).refused ≡ 0 → near (records_in file) ≡ true
    → read_file (write_file name file).output ≡ record { output = joined (frames_and_ticks (records_in file)); refused = 0; number = 0 }
unfolding read_file write_file records_in
there_and_back name file small none close =
    let e = name-passed (is_name name) (write_records name 1 0 (records_in file)) none in
    rw e
    (all_back name (records_in file) (pieces-bytes ((length file + 15) / 16) file small) 1 1 0 0 empty_log false none_yet (rw e at none) close)
