-- Reading and writing stop at the first refusal: up to there each line or record is taken, and of what stands behind nothing is read. The
-- writer's only refusal is 19.
use mathlib.Core.Logic.{◌⊎◌, inl, inr}
use mathlib.Core.Path.{◌≡◌, refl, ap, ◌∙◌}
use Prim.Native.Nat.{ℕ, zero, suc, ◌+◌}
use native.Mathlib.Omega.{arith}
use mathlib.Core.Bool.{Bool, true, false, not}
use mathlib.Core.List.{List, [], ◌∷◌, ◌++◌}
use lib.ListN.{length}
use lib.Dec.{eqb}
use Rattle.rules.specs.Tests.{pick, unless, each, first_unmet}
use Rattle.rules.proofs.Cases.{Tested, holds, fails, eqb-cases, yes_of}
use Rattle.records.specs.Records.{record_of}
use Rattle.candump.specs.Lines.{other_form, LF, is_name}
use Rattle.std.specs.Prelude.{Option}
use Rattle.candump.specs.declared.Log.{Log}
use Rattle.candump.specs.Reading.{Line, parts_in, of_form, fields_of, empty_log, read_refusal, refused_line, read_line, reads}
use Rattle.candump.specs.Writing.{writable, write_refusal, line_for, time_after, Wrote, refused_record, written_record, writes}
use Rattle.candump.specs.Files.{Outcome, ended, stopped, behind, lines_in, records_of, read_lines, read_file, records_in, write_records, write_file}
use Rattle.candump.proofs.Cuts.{unended-form, unended-line, lines-behind}
use Rattle.candump.proofs.Steps.{writes-refused}

-- what comes of a step that goes on and of one that is refused
abbrev step : (refusal n : ℕ) → List ℕ → Outcome → Outcome
step refusal n front more = pick (eqb refusal 0) (behind front more) (stopped refusal n)

-- a step that is taken was not refused
step-taken : (refusal n : ℕ) (front : List ℕ) (more : Outcome) → (step refusal n front more).refused ≡ 0 → eqb refusal 0 ≡ true
step-taken refusal n front more none = go (eqb-cases refusal 0)
  where
    go : Tested (eqb refusal 0) (refusal ≡ 0) (refusal ≡ 0 → ⊥) → eqb refusal 0 ≡ true
    go (holds e k) = e
    go (fails e k) = absurd (k (rw e at none))

-- one that is refused, with nothing behind it, is refused whatever stands behind it
step-refused : (refusal n : ℕ) (front : List ℕ) (more : Outcome) (number : ℕ) → (step refusal n front ended).refused ≡ suc number
    → step refusal n front more ≡ stopped (suc number) n
step-refused refusal n front more number some = go (eqb-cases refusal 0)
  where
    go : Tested (eqb refusal 0) (refusal ≡ 0) (refusal ≡ 0 → ⊥) → step refusal n front more ≡ stopped (suc number) n
    go (holds e k) = absurd (omega (arith, rw e at some))
    go (fails e k) = rw e (ap (λ (r : ℕ). stopped r n) (rw e at some))

-- some are taken before it
further : (front output : List ℕ) (refusal n k : ℕ) (o : Outcome) → o ≡ record { output = output; refused = refusal; number = suc n + k }
    → behind front o ≡ record { output = front ++ output; refused = refusal; number = n + suc k }
further front output refusal n k o e =
    let j : suc n + k ≡ n + suc k = omega arith in
    ap (behind front) e ∙ ap (λ (m : ℕ). record { output = front ++ output; refused = refusal; number = m }) j

-- READING STOPS AT THE FIRST REFUSED LINE: behind lines that are taken, its refusal and its number, whatever stands behind it.
pub reading-stops : (n : ℕ) (log : Option Log) (ls : List (List ℕ)) (l : List ℕ) (rest : List (List ℕ)) (refusal : ℕ)
    → (read_lines n log ls).refused ≡ 0 → (read_lines n log (ls ++ l ∷ [])).refused ≡ suc refusal
    → read_lines n log (ls ++ l ∷ rest) ≡ record { output = (read_lines n log ls).output; refused = suc refusal; number = n + length ls }
unfolding read_lines
reading-stops n log [] l rest refusal none some =
    let z : n ≡ n + 0 = omega arith in
    step-refused (read_refusal log l) n (records_of (reads log l)) (read_lines (suc n) (reads log l).log rest) refusal some ∙ ap (stopped (suc refusal)) z
reading-stops n log (x ∷ ls) l rest refusal none some =
    let front = records_of (reads log x) in
    let next = (reads log x).log in
    let e = step-taken (read_refusal log x) n front (read_lines (suc n) next ls) none in
    rw e
    (further front (read_lines (suc n) next ls).output (suc refusal) n (length ls) (read_lines (suc n) next (ls ++ l ∷ rest))
    (reading-stops (suc n) next ls l rest refusal (rw e at none) (rw e at some)))

-- AND WRITING AT THE FIRST REFUSED RECORD.
pub writing-stops : (name : List ℕ) (n t : ℕ) (ds : List (List ℕ)) (d : List ℕ) (rest : List (List ℕ)) (refusal : ℕ)
    → (write_records name n t ds).refused ≡ 0 → (write_records name n t (ds ++ d ∷ [])).refused ≡ suc refusal
    → write_records name n t (ds ++ d ∷ rest) ≡ record { output = (write_records name n t ds).output; refused = suc refusal; number = n + length ds }
unfolding write_records
writing-stops name n t [] d rest refusal none some =
    let z : n ≡ n + 0 = omega arith in
    step-refused (writes name t d).refused n (writes name t d).text (write_records name (suc n) (writes name t d).time rest) refusal some
    ∙ ap (stopped (suc refusal)) z
writing-stops name n t (x ∷ ds) d rest refusal none some =
    let front = (writes name t x).text in
    let later = (writes name t x).time in
    let e = step-taken (writes name t x).refused n front (write_records name (suc n) later ds) none in
    rw e
    (further front (write_records name (suc n) later ds).output (suc refusal) n (length ds) (write_records name (suc n) later (ds ++ d ∷ rest))
    (writing-stops name (suc n) later ds d rest refusal (rw e at none) (rw e at some)))

-- ---- a last line without LF

other-refused : (log : Option Log) (l : List ℕ) → of_form l ≡ false → read_refusal log l ≡ other_form
unfolding read_refusal first_unmet
other-refused log l e = rw e

then-refused : (n : ℕ) (log : Option Log) (ls : List (List ℕ)) (l : List ℕ) → of_form l ≡ false → (read_lines n log ls).refused ≡ 0
    → (read_lines n log (ls ++ l ∷ [])).refused ≡ other_form
unfolding read_lines
then-refused n log [] l other none = rw (other-refused log l other)
then-refused n log (x ∷ ls) l other none =
    let e = step-taken (read_refusal log x) n (records_of (reads log x)) (read_lines (suc n) (reads log x).log ls) none in
    rw e (then-refused (suc n) (reads log x).log ls l other (rw e at none))

-- A LAST LINE WITHOUT LF IS REFUSED WITH 19, behind what the lines before it give.
pub unended-refused : (file : List ℕ) (b : ℕ) (bs : List ℕ) → each (λ b. not (eqb b LF)) (b ∷ bs) ≡ true → (read_file (file ++ LF ∷ [])).refused ≡ 0
    → read_file ((file ++ LF ∷ []) ++ b ∷ bs)
    ≡ record { output = (read_file (file ++ LF ∷ [])).output; refused = other_form; number = 1 + length (lines_in (file ++ LF ∷ [])) }
unfolding read_file
unended-refused file b bs e none =
    let ls = lines_in (file ++ LF ∷ []) in
    rw (lines-behind file (b ∷ bs), unended-line b bs (yes_of e))
    (reading-stops 1 empty_log ls (b ∷ bs) [] 18 none (then-refused 1 empty_log ls (b ∷ bs) (unended-form (b ∷ bs) e) none))

-- ---- a refusal leaves what was lent

log-left : (log : Option Log) (done : Line) (n refusal : ℕ) → done.refused ≡ 0 → (unless n (refused_line log) done).refused ≡ suc refusal
    → (unless n (refused_line log) done).log ≡ log
log-left log done zero refusal z e = absurd (omega arith)
log-left log done (suc n) refusal z e = refl

-- A REFUSED LINE LEAVES THE LOG.
pub refused-leaves-log : (log : Option Log) (l : List ℕ) (refusal : ℕ) → (reads log l).refused ≡ suc refusal → (reads log l).log ≡ log
unfolding reads read_line
refused-leaves-log log l refusal e = log-left log (read_line log (fields_of (parts_in l))) (read_refusal log l) refusal refl e

time-left : (t : ℕ) (done : Wrote) (n refusal : ℕ) → done.refused ≡ 0 → (unless n (refused_record t) done).refused ≡ suc refusal
    → ((unless n (refused_record t) done).time ≡ t) × ((unless n (refused_record t) done).text ≡ [])
time-left t done zero refusal z e = absurd (omega arith)
time-left t done (suc n) refusal z e = (refl, refl)

-- A REFUSED RECORD LEAVES THE TIME, and gives no text.
pub refused-leaves-time : (name : List ℕ) (t : ℕ) (d : List ℕ) (refusal : ℕ) → (writes name t d).refused ≡ suc refusal
    → ((writes name t d).time ≡ t) × ((writes name t d).text ≡ [])
unfolding writes
refused-leaves-time name t d refusal e =
    time-left t (written_record (line_for name t d (record_of d)) (time_after t (record_of d))) (write_refusal name t d) refusal refl e

-- ---- the writer's refusal

refusal-one : (name : List ℕ) (t : ℕ) (d : List ℕ) → (write_refusal name t d ≡ 0) ⊎ (write_refusal name t d ≡ other_form)
unfolding write_refusal first_unmet
refusal-one name t d = go (is_name name) (writable t (record_of d))
  where
    go : (a b : Bool) → (pick a (pick b 0 other_form) other_form ≡ 0) ⊎ (pick a (pick b 0 other_form) other_form ≡ other_form)
    go true true = inl refl
    go true false = inr refl
    go false b = inr refl

step-one : (refusal n : ℕ) (front : List ℕ) (more : Outcome) → (refusal ≡ 0) ⊎ (refusal ≡ other_form) → (more.refused ≡ 0) ⊎ (more.refused ≡ other_form)
    → ((step refusal n front more).refused ≡ 0) ⊎ ((step refusal n front more).refused ≡ other_form)
step-one refusal n front more (inl e) m = rw e m
step-one refusal n front more (inr e) m = rw e (inr refl)

refusals : (name : List ℕ) (n t : ℕ) (ds : List (List ℕ)) → ((write_records name n t ds).refused ≡ 0) ⊎ ((write_records name n t ds).refused ≡ other_form)
unfolding write_records
refusals name n t [] = inl refl
refusals name n t (d ∷ ds) =
    step-one (writes name t d).refused n (writes name t d).text (write_records name (suc n) (writes name t d).time ds)
    (rw (← writes-refused name t d) at (refusal-one name t d))
    (refusals name (suc n) (writes name t d).time ds)

-- THE WRITER REFUSES WITH 19 OR NOT AT ALL: never with 20 or 21.
pub writer-refuses : (name file : List ℕ) → ((write_file name file).refused ≡ 0) ⊎ ((write_file name file).refused ≡ other_form)
unfolding write_file
writer-refuses name file = go (is_name name)
  where
    go : (b : Bool) → ((pick b (write_records name 1 0 (records_in file)) (stopped other_form 0)).refused ≡ 0) ⊎ ((pick b (write_records name 1 0 (records_in file)) (stopped other_form 0)).refused ≡ other_form)
    go true = refusals name 1 0 (records_in file)
    go false = inr refl
