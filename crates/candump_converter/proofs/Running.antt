-- A run of the converter so far: the lines or records that came, what was written of them, and how the rest goes on.
use Rattle.std.proofs.Common.{◌≡◌, ℕ, Bool, false, List, [], ◌∷◌, ◌++◌, map, Option, Some, None, IfSome, Ok, Err, refl, sym, ap, ◌∙◌, append_assoc, append-nil}
use Rattle.std.specs.Io.KnownBytes.{Appends}
use Rattle.std.specs.Option.{option_map}
use Rattle.std.proofs.KnownBytes.{Appends-nil, Appends-trans}
use Rattle.std.proofs.lemmas.Option.{none-some, same_Some}
use Rattle.rules.proofs.Cases.{eqb-not}
use Rattle.pieces.specs.Pieces.{record_size, known_pieces, bytes_of, GivesNext}
use Rattle.pieces.specs.declared.Piece.{Piece}
use Rattle.pieces.proofs.Left.{Left, left_first, left_next, left_none}
use Rattle.candump.specs.Lines.{error_number}
use Rattle.candump.specs.Reading.{empty_log, reads, line_said}
use Rattle.candump.specs.Answers.{text_of, wrote}
use Rattle.candump.specs.Writing.{writes}
use Rattle.candump.specs.Files.{Outcome, stopped, behind, joined}
use Rattle.candump.specs.declared.Log.{Log}
use Rattle.candump.specs.declared.LogError.{LogError}
use Rattle.candump.specs.declared.LineRead.{LineRead}
use Rattle.candump.specs.declared.Written.{Written}
use Rattle.candump.proofs.Determined.{error_some}
use Rattle.candump_converter.specs.declared.asked.Way.{Way}
use Rattle.candump_converter.specs.Pieces.{with_turn, line_records}
use Rattle.candump_converter.specs.Turns.{Step, line_step, record_step, step_for, after}
use Rattle.candump_converter.specs.Files.{outcome}
use Rattle.candump_converter.specs.Runs.{records_of, came_of, Converts}

behind_behind : (a b : List ℕ) (o : Outcome) → behind a (behind b o) ≡ behind (a ++ b) o
behind_behind a b o = ap (λ (l : List ℕ). record { output = l; refused = o.refused; number = o.number }) (sym (append_assoc a b o.output))

module _ (way : Way) (name : List ℕ) (cut : List ℕ → List (List ℕ)) where
  pub record Running (input : Option (List ℕ)) (left : Option (List (List ℕ))) (before now : Option (List ℕ)) (number : ℕ) (log : Option Log) (time : ℕ) : Type 0 where
    pub came : List (List ℕ)
    pub done : List ℕ
    pub split : Left (option_map cut input) came left
    pub wrote : Appends before now done
    pub goes_on : (more : List (List ℕ)) → outcome way name 1 empty_log 0 (came ++ more) ≡ behind done (outcome way name number log time more)

  pub starts : (input : Option (List ℕ)) (left : Option (List (List ℕ))) (before : Option (List ℕ)) → left ≡ option_map cut input → Running input left before before 1 empty_log 0
  starts input left before e =
      record { came = []; done = []; split = left_first (option_map cut input) left e; wrote = Appends-nil before; goes_on = λ more. refl }

  -- of one that is not refused its pieces were written
  step_goes : (n : ℕ) (log : Option Log) (t : ℕ) (d : List ℕ) (more : List (List ℕ)) → (step_for way name log t d).refused ≡ 0
      → outcome way name n log t (d ∷ more)
      ≡ behind (joined (step_for way name log t d).pieces) (outcome way name (after n) (step_for way name log t d).log (step_for way name log t d).time more)
  unfolding outcome
  step_goes n log t d more none = rw none

  step-stops : (n : ℕ) (log : Option Log) (t : ℕ) (d : List ℕ) (more : List (List ℕ)) (e : LogError) → (step_for way name log t d).refused ≡ error_number e
      → outcome way name n log t (d ∷ more) ≡ stopped (error_number e) n
  unfolding outcome
  step-stops n log t d more e is = rw (is, eqb-not (error_number e) 0 (error_some e))

  module _ (E : Type 0) (input : Option (List ℕ)) (left left' : Option (List (List ℕ))) (before now : Option (List ℕ)) (n : ℕ) (log : Option Log) (t : ℕ)
      (r : Running input left before now n log t) where
    goes : (d : List ℕ) (now' : Option (List ℕ)) → GivesNext {E = E} left (Some (Ok d)) left' → (step_for way name log t d).refused ≡ 0
        → Appends now now' (joined (step_for way name log t d).pieces)
        → Running input left' before now' (after n) (step_for way name log t d).log (step_for way name log t d).time
    goes d now' gives none wrote =
        let put = joined (step_for way name log t d).pieces in
        record {
          came = r.came ++ d ∷ [];
          done = r.done ++ put;
          split = left_next E (option_map cut input) left left' r.came d r.split gives;
          wrote = Appends-trans before now now' r.done put r.wrote wrote;
          goes_on = λ more.
              ap (outcome way name 1 empty_log 0) (append_assoc r.came (d ∷ []) more)
              ∙ r.goes_on (d ∷ more)
              ∙ ap (behind r.done) (step_goes n log t d more none)
              ∙ behind_behind r.done put (outcome way name (after n) (step_for way name log t d).log (step_for way name log t d).time more);
        }

    known : (input : Option (List ℕ)) (came : List (List ℕ)) → IfSome (option_map cut input) (λ ds. came ≡ ds) → IfSome input (λ bytes. came ≡ cut bytes)
    known None came h = tt
    known (Some bytes) came h = h

    -- none is left
    pub ends : GivesNext {A = List ℕ} {E = E} left None left' → Converts way name cut input before now None
    unfolding outcome
    ends gives =
        (r.came, r.done, known input r.came (left_none E (option_map cut input) left left' r.came r.split gives), r.wrote, whole, tt)
      where
        whole : outcome way name 1 empty_log 0 r.came ≡ came_of r.done None
        whole =
            sym (ap (outcome way name 1 empty_log 0) (append-nil r.came)) ∙ r.goes_on []
            ∙ ap (λ (l : List ℕ). record { output = l; refused = 0; number = 0 }) (append-nil r.done)

    -- one is refused, and nothing of what stands behind is written
    stops : (d : List ℕ) (e : LogError) → GivesNext {E = E} left (Some (Ok d)) left' → (step_for way name log t d).refused ≡ error_number e
        → Converts way name cut input before now (Some (record { way = way; error = e; number = n }))
    stops d e gives is =
        let (parts, known, more, whole) = with_more input left r.split gives in
        (parts, r.done, known, r.wrote, ap (outcome way name 1 empty_log 0) whole ∙ last more, refl)
      where
        last : (more : List (List ℕ)) → outcome way name 1 empty_log 0 (r.came ++ d ∷ more) ≡ came_of r.done (Some (record { way = way; error = e; number = n }))
        last more =
            r.goes_on (d ∷ more) ∙ ap (behind r.done) (step-stops n log t d more e is)
            ∙ ap (λ (l : List ℕ). record { output = l; refused = error_number e; number = n }) (append-nil r.done)

        -- what came, with what may stand behind
        with_more : (input : Option (List ℕ)) (left : Option (List (List ℕ))) → Left (option_map cut input) r.came left → GivesNext {E = E} left (Some (Ok d)) left'
            → (parts : List (List ℕ)) × IfSome input (λ bytes. parts ≡ cut bytes) × (more : List (List ℕ)) × (parts ≡ r.came ++ d ∷ more)
        with_more None left split gives = (r.came ++ d ∷ [], tt, [], refl)
        with_more (Some bytes) None (rest, is, whole) gives = absurd (none-some rest is)
        with_more (Some bytes) (Some qs) (rest, is, whole) (ys, behind, first) =
            (cut bytes, refl, ys, whole ∙ ap (λ l. r.came ++ l) (sym (same_Some _ _ is) ∙ first))

-- ---- a line, and a record

module _ (name d : List ℕ) (log : Option Log) (t : ℕ) (turns : Bool) where
  line-refused : (e : LogError) → line_said log (Err e) ≡ reads log d → (step_for (Way.Read turns) name log t d).refused ≡ error_number e
  unfolding step_for line_step line_said
  line-refused e is = rw (← is) refl

  -- the step of a line that was read
  abbrev line_went : LineRead → Step
  line_went r = record { refused = 0; pieces = map (with_turn turns) (line_records r.ticks r.bytes); log = Some r.log; time = t }

  line-goes : (r : LineRead) → line_said log (Ok r) ≡ reads log d → step_for (Way.Read turns) name log t d ≡ line_went r
  unfolding step_for line_step line_said
  line-goes r is = rw (← is) refl

  record-refused : (e : LogError) → wrote t (Err e) ≡ writes name t d → (step_for Way.Write name log t d).refused ≡ error_number e
  unfolding step_for record_step wrote
  record-refused e is = rw (← is) refl

  -- and of a record that was written
  abbrev record_went : Written → Step
  record_went w = record { refused = 0; pieces = text_of w.line ∷ []; log = log; time = w.time }

  record-goes : (w : Written) → wrote t (Ok w) ≡ writes name t d → step_for Way.Write name log t d ≡ record_went w
  unfolding step_for record_step wrote
  record-goes w is = rw (← is) refl

module _ (name : List ℕ) (cut : List ℕ → List (List ℕ)) (E : Type 0) (input : Option (List ℕ)) (left left' : Option (List (List ℕ))) (before now : Option (List ℕ))
    (n : ℕ) (log : Option Log) (t : ℕ) (d : List ℕ) (gives : GivesNext {E = E} left (Some (Ok d)) left') where
  module _ (turns : Bool) (run : Running (Way.Read turns) name cut input left before now n log t) where
    pub line_on : (r : LineRead) (now' : Option (List ℕ)) → line_said log (Ok r) ≡ reads log d → Appends now now' (joined (map (with_turn turns) (line_records r.ticks r.bytes)))
        → Running (Way.Read turns) name cut input left' before now' (after n) (Some r.log) t
    line_on r now' is wrote =
        let s = line-goes name d log t turns r is in
        rw s at (goes (Way.Read turns) name cut E input left left' before now n log t run d now' gives (rw s refl) (rw s wrote))

    pub line_stops : (e : LogError) → line_said log (Err e) ≡ reads log d
        → Converts (Way.Read turns) name cut input before now (Some (record { way = Way.Read turns; error = e; number = n }))
    line_stops e is = stops (Way.Read turns) name cut E input left left' before now n log t run d e gives (line-refused name d log t turns e is)

  module _ (run : Running Way.Write name cut input left before now n log t) where
    pub record_on : (w : Written) (now' : Option (List ℕ)) → wrote t (Ok w) ≡ writes name t d → Appends now now' (text_of w.line)
        → Running Way.Write name cut input left' before now' (after n) log w.time
    unfolding joined
    record_on w now' is wrote =
        let s = record-goes name d log t false w is in
        rw s at (goes Way.Write name cut E input left left' before now n log t run d now' gives (rw s refl) (rw (s, append-nil) wrote))

    pub record_stops : (e : LogError) → wrote t (Err e) ≡ writes name t d → Converts Way.Write name cut input before now (Some (record { way = Way.Write; error = e; number = n }))
    record_stops e is = stops Way.Write name cut E input left left' before now n log t run d e gives (record-refused name d log t false e is)

-- ---- pieces as their bytes

pub pieces_known : (input : Option (List ℕ)) → option_map (map bytes_of) (known_pieces record_size input) ≡ option_map records_of input
unfolding records_of
pieces_known None = refl
pieces_known (Some bytes) = refl

pub gives_bytes : (E : Type 0) (left left' : Option (List (Piece record_size))) (p : Piece record_size) → GivesNext {E = E} left (Some (Ok p)) left'
    → GivesNext {E = E} (option_map (map bytes_of) left) (Some (Ok (bytes_of p))) (option_map (map bytes_of) left')
gives_bytes E None left' p gives = tt
gives_bytes E (Some ps) left' p (qs, behind, first) = (map bytes_of qs, ap (option_map (map bytes_of)) behind, ap (map bytes_of) first)

pub gives_no_bytes : (E : Type 0) (left left' : Option (List (Piece record_size))) → GivesNext {A = Piece record_size} {E = E} left None left'
    → GivesNext {A = List ℕ} {E = E} (option_map (map bytes_of) left) None (option_map (map bytes_of) left')
gives_no_bytes E None left' gives = tt
gives_no_bytes E (Some ps) left' gives = ap (map bytes_of) gives
