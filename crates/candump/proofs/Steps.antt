-- One record there and back. A written line is read as the record that it was written for; its time is that of the line before and a
-- millisecond for each tick between them, so that as many ticks are read; and the writer's last time, at which ticks add no more, is above
-- that of any line.
use mathlib.Core.Path.{◌≡◌, refl, sym, ◌∙◌}
use Prim.Native.Nat.{ℕ, zero, suc, ◌+◌, ◌-◌, ◌*◌, ◌/◌, ◌^◌, ◌≤◌, ◌<◌, min}
use native.Mathlib.Omega.{arith}
use mathlib.Core.Bool.{Bool, true, false}
use mathlib.Core.List.{List, [], ◌∷◌, ◌++◌}
use lib.ListN.{length, take, drop, replicate}
use lib.Dec.{T, leb, ltb, eqb}
use mir.Facts.{leb_yes, ltb_yes}
use Rattle.rules.specs.Tests.{pick, unless, first_unmet}
use Rattle.rules.proofs.Cases.{Tested, holds, fails, eqb-cases, met, is_true, and_left, and_right, leb-is}
use Rattle.records.specs.Records.{bad, record_of}
use Rattle.records.specs.Made.{frame_record, tick_record}
use Rattle.records.specs.declared.record.Record.{Record}
use Rattle.candump.specs.Lines.{most_identifier, line_of, is_name}
use Rattle.std.specs.Prelude.{Option, Ok}
use Rattle.candump.specs.declared.Log.{Log}
use Rattle.candump.specs.Reading.{most_ticks, empty_log, log_of, padded, since_first, ticks_up_to, times_refusal}
use Rattle.candump.specs.Writing.{eleven_digits, written_parts, writable, write_refusal, line_for, time_after, refused_record, written_record, writes}
use Rattle.candump.specs.Files.{behind, joined, lines_in, records_of, read_lines, write_records, Bytes}
use Rattle.candump.proofs.WrittenLines.{written-fits, written-refusal, written-reads}
use Rattle.candump.proofs.Records.{frame_back}
use Rattle.candump.proofs.Cuts.{line-in-front}

-- ---- a record that is not refused

pub writes-refused : (name : List ℕ) (t : ℕ) (d : List ℕ) → (writes name t d).refused ≡ write_refusal name t d
unfolding writes
writes-refused name t d = go (write_refusal name t d)
  where
    go : (n : ℕ) → (unless n (refused_record t) (written_record (line_for name t d (record_of d)) (time_after t (record_of d)))).refused ≡ n
    go zero = refl
    go (suc n) = refl

pub record Went (name : List ℕ) (m t : ℕ) (d : List ℕ) (ds : List (List ℕ)) : Type 0 where
  pub named : is_name name ≡ true
  pub able : T (writable t (record_of d))
  pub on : write_records name m t (d ∷ ds) ≡ behind (line_for name t d (record_of d)) (write_records name (suc m) (time_after t (record_of d)) ds)

module _ (name : List ℕ) (m t : ℕ) (d : List ℕ) (ds : List (List ℕ)) where
  not-refused : (write_records name m t (d ∷ ds)).refused ≡ 0 → write_refusal name t d ≡ 0
  unfolding write_records
  not-refused none = sym (writes-refused name t d) ∙ go (eqb-cases (writes name t d).refused 0)
    where
      go : Tested (eqb (writes name t d).refused 0) ((writes name t d).refused ≡ 0) ((writes name t d).refused ≡ 0 → ⊥) → (writes name t d).refused ≡ 0
      go (holds e k) = k
      go (fails e k) = rw e at none

  went : write_refusal name t d ≡ 0 → Went name m t d ds
  unfolding write_records writes write_refusal
  went none =
      let (named, rest) = met _ _ _ none in
      let (able, _) = met _ _ _ rest in
      record { named = is_true (is_name name) named; able = able; on = rw none }

  pub goes_on : (write_records name m t (d ∷ ds)).refused ≡ 0 → Went name m t d ds
  goes_on none = went (not-refused none)

-- ---- the time

-- so many ticks are waiting at this time: where there was no line yet, or since the last one, up to the last time that is counted
pub data Waits (t w : ℕ) : Option Log → Bool → Type 0 where
  none_yet : Waits t w empty_log false
  since : {z p : ℕ} → z ≤ p → t ≡ min (p + 1000 * w) (2 ^ 64 - 1) → Waits t w (log_of z p) true

pub tick-waits : {t w : ℕ} {log : Option Log} {begun : Bool} → Waits t w log begun → Waits (time_after t (Ok Record.Tick)) (suc w) log begun
unfolding time_after
tick-waits none_yet = none_yet
tick-waits (since h e) = since h (omega arith)

-- a frame's line is not refused for its time; just the ticks that were waiting are read, none before the first line; then none is waiting
pub record Reads (t w : ℕ) (log : Option Log) (begun : Bool) : Type 0 where
  pub passes : times_refusal (since_first log t) t ≡ 0
  pub ticks : replicate (ticks_up_to (since_first log t) t) tick_record ≡ pick begun (replicate w tick_record) []
  pub next : Waits t 0 (log_of (since_first log t).first t) true

pub frame-waits : {t w : ℕ} {log : Option Log} {begun : Bool} → Waits t w log begun → t < eleven_digits → T (pick begun (leb w most_ticks) true) → Reads t w log begun
unfolding times_refusal first_unmet since_first ticks_up_to
frame-waits {t} {w} none_yet early few =
    let z : (t - t) / 1000 - (t - t) / 1000 ≡ 0 = omega arith in
    record { passes = rw (leb-is t t (omega arith), z); ticks = rw z; next = since {z = t} {p = t} (omega arith) (omega arith) }
frame-waits {t} {w} (since {z} {p} h e) early few =
    let k : (t - z) / 1000 - (p - z) / 1000 ≡ w = omega arith in
    record { passes = rw (leb-is p t (omega arith), k, is_true (leb w most_ticks) few); ticks = rw k; next = since {z = z} {p = t} (omega arith) (omega arith) }

pub bad-unable : (t : ℕ) → T (writable t bad) → ⊥
unfolding writable
bad-unable t u = u

-- ---- bytes in a part of some bytes

pub bytes_drop : (n : ℕ) (bs : List ℕ) → Bytes bs → Bytes (drop n bs)
unfolding Bytes
bytes_drop zero bs small = small
bytes_drop (suc n) [] small = tt
bytes_drop (suc n) (b ∷ bs) (_, small) = bytes_drop n bs small

pub bytes_take : (n : ℕ) (bs : List ℕ) → Bytes bs → Bytes (take n bs)
unfolding Bytes
bytes_take zero bs small = tt
bytes_take (suc n) [] small = tt
bytes_take (suc n) (b ∷ bs) (first, small) = (first, bytes_take n bs small)

-- ---- a frame's line at the front is read as that frame with its ticks before it

module _ (n : ℕ) (log : Option Log) (name : List ℕ) (t : ℕ) (d : List ℕ) (identifier long : ℕ) where
  abbrev pub its_line : List ℕ
  its_line = line_of (written_parts t name identifier (take long (drop 8 d)))

  abbrev pub its_log : Log
  its_log = since_first log t

  pub line_reads : record_of d ≡ Ok (Record.Frame identifier long) → Bytes d → is_name name ≡ true → T (writable t (Ok (Record.Frame identifier long)))
      → times_refusal its_log t ≡ 0 → (rest : List ℕ)
      → read_lines n log (lines_in (its_line ++ rest))
      ≡ behind (joined (replicate (ticks_up_to its_log t) tick_record) ++ d) (read_lines (suc n) (log_of its_log.first t) (lines_in rest))
  unfolding read_lines records_of writable
  line_reads is small named able passes rest =
      let bytes = take long (drop 8 d) in
      let (few, (l, made)) = frame_back d identifier long small is in
      let low : identifier ≤ most_identifier = leb_yes (and_left (leb identifier most_identifier) (ltb t eleven_digits) able) in
      let early : t < eleven_digits = ltb_yes (and_right (leb identifier most_identifier) (ltb t eleven_digits) able) in
      let parts : Bytes bytes = bytes_take long (drop 8 d) (bytes_drop 8 d small) in
      let again : frame_record identifier (length bytes) (padded bytes) ≡ d = rw l (sym made) in
      let whole = line-in-front (written_parts t name identifier bytes) rest (written-fits t name identifier bytes named low parts (omega arith)) in
      let none = written-refusal t name identifier bytes log named low early parts (omega arith) ∙ passes in
      let what = rw (passes, again) at (written-reads t name identifier bytes log named low early parts (omega arith)) in
      rw (whole, none, what)
