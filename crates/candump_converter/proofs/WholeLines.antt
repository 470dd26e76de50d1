-- The lines that are taken in fixed memory and those of the file give the same: a longer one is of another form, by its front as by the whole.
use Rattle.std.proofs.Common.{◌≡◌, ℕ, zero, suc, ◌+◌, ◌<◌, ◌≤◌, ◌^◌, ◌==◌, Bool, true, false, eqb, List, [], ◌∷◌, ◌++◌, length, drop, Option, refl, sym, ap, ◌∙◌, append-nil, length-append, arith}
use Rattle.std.proofs.Math.Seq.{drop-append_seam}
use Rattle.std.proofs.lemmas.Bool.Decides.{nat_tests}
use lib.Dec.{T}
use mir.Facts.{leb_yes, yes_and}
use mathlib.Core.Bool.{not}
use Rattle.rules.specs.Tests.{pick, each, first_unmet}
use Rattle.rules.proofs.Cases.{Tested, holds, fails, eqb-cases, test-cases, is_true, is_false, no_of, and_left, and_right}
use Rattle.candump.specs.Lines.{Parts, LF, other_form, line_of}
use Rattle.candump.specs.Reading.{parts_in, of_form, empty_log, read_refusal, reads}
use Rattle.candump.specs.Files.{Outcome, stopped, in_front, lines_in, read_file}
use Rattle.candump.specs.declared.Log.{Log}
use Rattle.candump.proofs.Fits.{Fit, fit_of}
use Rattle.candump.proofs.Forms.{parts-of-line}
use Rattle.candump.proofs.Values.{between-range}
use Rattle.candump.proofs.Writes.{name-short}
use Rattle.candump.proofs.Cuts.{line-ends, unended-form, unended-line}
use Rattle.candump_converter.specs.declared.asked.Way.{Way}
use Rattle.candump_converter.specs.Lines.{longest, first_line, cut_lines, lines_of}
use Rattle.candump_converter.specs.Turns.{line_step, step_for, after}
use Rattle.candump_converter.specs.Files.{outcome}
use Rattle.candump_converter.proofs.Converted.{read-refused, reads_lines}

-- ---- a line of the form has at most 57 bytes

line-short : (p : Parts) → Fit p → length (line_of p) ≤ longest
unfolding line_of
line-short p f =
    simp length-append (omega (arith, between-range 1 10 (length p.seconds) f.some, f.six, f.three, name-short p.name (is_true _ f.named), leb_yes f.few))

long-form : (l : List ℕ) → longest < length l → of_form l ≡ false
long-form l long = go (test-cases (of_form l))
  where
    go : Tested (of_form l) (T (of_form l)) (T (not (of_form l))) → of_form l ≡ false
    go (holds q u) =
        let p = parts-of-line l q in
        absurd (omega (arith, long, line-short (parts_in l) (fit_of (parts_in l) p.0), ap length p.1))
    go (fails q u) = q

-- ---- what stands at the front of some bytes

abbrev in_line : ℕ → Bool
in_line b = not (eqb b LF)

-- LF ends the line; or all is its front; or it goes on
data Front (n : ℕ) (bytes : List ℕ) : Type 0 where
  ended : (body rest : List ℕ) → T (each in_line body) → bytes ≡ (body ++ LF ∷ []) ++ rest → first_line n bytes ≡ body ++ LF ∷ [] → Front n bytes
  all_there : T (each in_line bytes) → first_line n bytes ≡ bytes → Front n bytes
  longer : (b : ℕ) (rest : List ℕ) → length (first_line n bytes) ≡ n → T (each in_line (first_line n bytes)) → bytes ≡ first_line n bytes ++ b ∷ rest → Front n bytes

first_LF : (n b : ℕ) (bytes : List ℕ) → (b == LF) ≡ true → first_line (suc n) (b ∷ bytes) ≡ b ∷ []
unfolding first_line
first_LF n b bytes e = rw e

first_on : (n b : ℕ) (bytes : List ℕ) → (b == LF) ≡ false → first_line (suc n) (b ∷ bytes) ≡ b ∷ first_line n bytes
unfolding first_line
first_on n b bytes e = rw e

front_next : (n b : ℕ) (bytes : List ℕ) → Tested (eqb b LF) (b ≡ LF) (b ≡ LF → ⊥) → Front n bytes → Front (suc n) (b ∷ bytes)
front_next n b bytes (holds e k) f = ended [] bytes tt (ap (λ c. c ∷ bytes) k) (first_LF n b bytes e ∙ ap (λ c. c ∷ []) k)
front_next n b bytes (fails e k) (ended body rest t is fl) =
    ended (b ∷ body) rest (yes_and (in_line b) (each in_line body) (no_of e) t) (ap (λ l. b ∷ l) is) (first_on n b bytes e ∙ ap (λ l. b ∷ l) fl)
front_next n b bytes (fails e k) (all_there t fl) =
    all_there (yes_and (in_line b) (each in_line bytes) (no_of e) t) (first_on n b bytes e ∙ ap (λ l. b ∷ l) fl)
front_next n b bytes (fails e k) (longer c rest long t is) =
    let first : first_line (suc n) (b ∷ bytes) ≡ b ∷ first_line n bytes = first_on n b bytes e in
    longer c rest (ap length first ∙ omega (arith, long)) (rw first (yes_and (in_line b) (each in_line (first_line n bytes)) (no_of e) t)) (ap (λ l. b ∷ l) is ∙ ap (λ l. l ++ c ∷ rest) (sym first))

front_of : (n : ℕ) (bytes : List ℕ) → Front n bytes
unfolding first_line
front_of zero [] = all_there tt refl
front_of zero (b ∷ bytes) = longer b bytes refl tt refl
front_of (suc n) [] = all_there tt refl
front_of (suc n) (b ∷ bytes) = front_next n b bytes (eqb-cases b LF) (front_of n bytes)

line_on : (x : ℕ) (xs l : List ℕ) (ls : List (List ℕ)) → eqb x LF ≡ false → lines_in xs ≡ l ∷ ls → lines_in (x ∷ xs) ≡ (x ∷ l) ∷ ls
unfolding lines_in in_front
line_on x xs l ls other is = rw (other, is)

-- the first line of a file is no shorter than its front
lines-longer : (front : List ℕ) (b : ℕ) (rest : List ℕ) → T (each in_line front)
    → (l : List ℕ) × (ls : List (List ℕ)) × (lines_in (front ++ b ∷ rest) ≡ l ∷ ls) × (length front < length l)
unfolding lines_in in_front
lines-longer [] b rest t = go (eqb b LF) (lines_in rest)
  where
    go : (e : Bool) (ls : List (List ℕ)) → (l : List ℕ) × (ms : List (List ℕ)) × (pick e ((b ∷ []) ∷ ls) (in_front b ls) ≡ l ∷ ms) × (0 < length l)
    go true ls = (b ∷ [], ls, refl, omega arith)
    go false [] = (b ∷ [], [], refl, omega arith)
    go false (l ∷ ls) = (b ∷ l, ls, refl, omega arith)
lines-longer (x ∷ front) b rest t =
    let (l, ls, is, long) = lines-longer front b rest (and_right (in_line x) (each in_line front) t) in
    (x ∷ l, ls, line_on x (front ++ b ∷ rest) l ls (is_false (eqb x LF) (and_left (in_line x) (each in_line front) t)) is, omega (arith, long))

-- ---- the lines one by one

cut_front : (k : ℕ) (bytes : List ℕ) → 0 < length bytes
    → cut_lines (suc k) bytes ≡ first_line longest bytes ∷ cut_lines k (drop (length (first_line longest bytes)) bytes)
unfolding cut_lines
cut_front k bytes some = let e : (length bytes == 0) ≡ false = grind (arith, nat_tests) in rw e refl

cut_none : (k : ℕ) → cut_lines k [] ≡ []
unfolding cut_lines
cut_none zero = refl
cut_none (suc k) = refl

module _ (turns : Bool) (name : List ℕ) where
  abbrev of_lines : ℕ → Option Log → ℕ → List (List ℕ) → Outcome
  of_lines = outcome (Way.Read turns) name

  step_same : (n : ℕ) (log : Option Log) (t : ℕ) (l : List ℕ) (xs ys : List (List ℕ))
      → ((m : ℕ) (next : Option Log) (u : ℕ) → of_lines m next u xs ≡ of_lines m next u ys) → of_lines n log t (l ∷ xs) ≡ of_lines n log t (l ∷ ys)
  unfolding outcome
  step_same n log t l xs ys same = rw (same (after n) (step_for (Way.Read turns) name log t l).log (step_for (Way.Read turns) name log t l).time) refl

  other_stops : (n : ℕ) (log : Option Log) (t : ℕ) (l : List ℕ) (ls : List (List ℕ)) → of_form l ≡ false → of_lines n log t (l ∷ ls) ≡ stopped other_form n
  unfolding outcome step_for line_step read_refusal first_unmet
  other_stops n log t l ls other =
      let r : (reads log l).refused ≡ other_form = read-refused log l ∙ rw other refl in
      rw r refl

  -- what is claimed of files of so many bytes
  abbrev Same : ℕ → Type 0
  Same k = (bytes : List ℕ) → length bytes ≤ k → (n : ℕ) (log : Option Log) (t : ℕ) → of_lines n log t (cut_lines k bytes) ≡ of_lines n log t (lines_in bytes)

  front_same : (k b : ℕ) (bs : List ℕ) → Same k → length (b ∷ bs) ≤ suc k → Front longest (b ∷ bs) → (n : ℕ) (log : Option Log) (t : ℕ)
      → of_lines n log t (first_line longest (b ∷ bs) ∷ cut_lines k (drop (length (first_line longest (b ∷ bs))) (b ∷ bs))) ≡ of_lines n log t (lines_in (b ∷ bs))
  front_same k b bs ih few (ended body rest u is fl) n log t =
      let line = body ++ LF ∷ [] in
      let left : drop (length (first_line longest (b ∷ bs))) (b ∷ bs) ≡ rest = ap (λ l. drop (length l) (b ∷ bs)) fl ∙ ap (drop (length line)) is ∙ drop-append_seam line rest in
      let fewer : length rest ≤ k = omega (arith, few, ap length is, length-append line rest, length-append body (LF ∷ [])) in
      ap (of_lines n log t) (λ i. fl i ∷ cut_lines k (left i))
      ∙ step_same n log t line (cut_lines k rest) (lines_in rest) (ih rest fewer)
      ∙ sym (ap (of_lines n log t) (ap lines_in is ∙ line-ends body rest u))
  front_same k b bs ih few (all_there u fl) n log t =
      let left : drop (length (first_line longest (b ∷ bs))) (b ∷ bs) ≡ [] = ap (λ l. drop (length l) (b ∷ bs)) fl ∙ ap (drop (length (b ∷ bs))) (sym (append-nil (b ∷ bs))) ∙ drop-append_seam (b ∷ bs) [] in
      ap (of_lines n log t) ((λ i. fl i ∷ cut_lines k (left i)) ∙ ap (λ ls. (b ∷ bs) ∷ ls) (cut_none k))
      ∙ sym (ap (of_lines n log t) (unended-line b bs u))
  front_same k b bs ih few (longer c rest long u is) n log t =
      let front = first_line longest (b ∷ bs) in
      let (l, ls, e, more) = lines-longer front c rest u in
      other_stops n log t front (cut_lines k (drop (length front) (b ∷ bs))) (unended-form front (is_true _ u))
      ∙ sym (ap (of_lines n log t) (ap lines_in is ∙ e) ∙ other_stops n log t l ls (long-form l (omega (arith, long, more))))

  same_lines : (k : ℕ) → Same k
  unfolding lines_in
  same_lines zero [] few n log t = ap (of_lines n log t) (cut_none 0)
  same_lines zero (b ∷ bs) few n log t = absurd (omega arith)
  same_lines (suc k) [] few n log t = ap (of_lines n log t) (cut_none (suc k))
  same_lines (suc k) (b ∷ bs) few n log t =
      ap (of_lines n log t) (cut_front k (b ∷ bs) (omega arith)) ∙ front_same k b bs (same_lines k) few (front_of longest (b ∷ bs)) n log t

-- THE LINES AS THEY ARE TAKEN GIVE WHAT THE FILE'S LINES GIVE: the same output, and the same refusal at the same line.
pub taken-lines : (turns : Bool) (name : List ℕ) (n : ℕ) (log : Option Log) (t : ℕ) (file : List ℕ)
    → outcome (Way.Read turns) name n log t (lines_of file) ≡ outcome (Way.Read turns) name n log t (lines_in file)
unfolding lines_of
taken-lines turns name n log t file = same_lines turns name (length file) file (omega arith) n log t

-- so that without turns a run's outcome is the file's
pub whole-file : (name : List ℕ) (t : ℕ) (file : List ℕ) → 1 + length (lines_in file) < 2 ^ 64 → outcome (Way.Read false) name 1 empty_log t (lines_of file) ≡ read_file file
unfolding read_file
whole-file name t file few = taken-lines false name 1 empty_log t file ∙ reads_lines name 1 empty_log t (lines_in file) few
