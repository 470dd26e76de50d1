-- A run of the reader so far: what came, what was written of it, and how the lines go on.
use Rattle.std.proofs.Common.{◌≡◌, ℕ, true, false, List, [], ◌∷◌, ◌++◌, Bool, cond, Option, Some, None, IfSome, Ok, refl, sym, ap, subst, ◌∙◌, append_assoc, append-nil}
use Rattle.std.specs.Io.KnownBytes.{Appends}
use Rattle.std.proofs.KnownBytes.{Appends-nil, Appends-trans}
use Rattle.std.proofs.lemmas.Option.{none-some, same_Some}
use Rattle.pieces.specs.Pieces.{record_size, pieces_of, bytes_of, known_pieces, GivesNext}
use Rattle.pieces.specs.declared.Piece.{Piece}
use Rattle.pieces.proofs.Left.{Left, left_first, left_next, left_none}
use Rattle.journal.specs.Records.{accepts}
use Rattle.journal.specs.declared.Entry.{Entry}
use Rattle.text.specs.Entries.{entry_line, bad_line}
use Rattle.journal_reader.specs.Turns.{record_text, after}
use Rattle.journal_reader.specs.Lines.{texts_of}
use Rattle.journal_reader.specs.Runs.{good_entry, lines_from, WritesLines}

pub record Running (all left : Option (List (Piece record_size))) (before now : Option (List ℕ)) (number : ℕ) : Type 0 where
  pub came : List (Piece record_size)
  pub done : List ℕ
  pub split : Left all came left
  pub wrote : Appends before now done
  pub goes_on : (more : List (Piece record_size)) → lines_from 1 (came ++ more) ≡ done ++ lines_from number more

pub starts : (all left : Option (List (Piece record_size))) (before : Option (List ℕ)) → left ≡ all → Running all left before before 1
starts all left before e =
    record { came = []; done = []; split = left_first all left e; wrote = Appends-nil before; goes_on = λ more. refl }

good_by : (t : Bool) (x e : Entry) → cond t (Some x) None ≡ Some e → (t ≡ true) × (x ≡ e)
good_by true x e h = (refl, same_Some _ _ h)
good_by false x e h = absurd (none-some e h)

bad_by : (t : Bool) (x : Entry) → cond t (Some x) None ≡ None → t ≡ false
bad_by true x h = absurd (none-some x (sym h))
bad_by false x h = refl

lines_good : (n : ℕ) (p : Piece record_size) (e : Entry) (more : List (Piece record_size)) → good_entry p ≡ Some e → lines_from n (p ∷ more) ≡ entry_line n e ++ lines_from (after n) more
unfolding texts_of record_text
lines_good n p e more h = let g = good_by (accepts (bytes_of p)) _ e h in rw (g.0, g.1) refl

lines_bad : (n : ℕ) (p : Piece record_size) (more : List (Piece record_size)) → good_entry p ≡ None → lines_from n (p ∷ more) ≡ bad_line n
unfolding texts_of record_text
lines_bad n p more h = let g = bad_by (accepts (bytes_of p)) _ h in rw g (append-nil (bad_line n))

module _ (E : Type 0) (all left left' : Option (List (Piece record_size))) (before now now' : Option (List ℕ)) (n : ℕ) (r : Running all left before now n) where
  -- a good record: its line was written
  pub goes : (p : Piece record_size) (e : Entry) → GivesNext {E = E} left (Some (Ok p)) left' → good_entry p ≡ Some e → Appends now now' (entry_line n e) → Running all left' before now' (after n)
  goes p e gives good wrote =
      record {
        came = r.came ++ p ∷ [];
        done = r.done ++ entry_line n e;
        split = left_next E all left left' r.came p r.split gives;
        wrote = Appends-trans before now now' r.done (entry_line n e) r.wrote wrote;
        goes_on = λ more.
            ap (lines_from 1) (append_assoc r.came (p ∷ []) more)
            ∙ r.goes_on (p ∷ more)
            ∙ ap (λ (l : List ℕ). r.done ++ l) (lines_good n p e more good)
            ∙ sym (append_assoc r.done (entry_line n e) (lines_from (after n) more));
      }

-- none is left: the lines are all
pub ends : (E : Type 0) (input : Option (List ℕ)) (left left' : Option (List (Piece record_size))) (before now : Option (List ℕ)) (n : ℕ) → Running (known_pieces record_size input) left before now n
    → GivesNext {A = Piece record_size} {E = E} left None left' → WritesLines input before now
unfolding texts_of
ends E input left left' before now n r gives =
    (r.came, known input (left_none E (known_pieces record_size input) left left' r.came r.split gives), subst (Appends before now) (sym whole) r.wrote)
  where
    whole : lines_from 1 r.came ≡ r.done
    whole = sym (ap (lines_from 1) (append-nil r.came)) ∙ r.goes_on [] ∙ append-nil r.done

    known : (input : Option (List ℕ)) → IfSome (known_pieces record_size input) (λ ps. r.came ≡ ps) → IfSome input (λ bytes. r.came ≡ pieces_of record_size bytes)
    known None h = tt
    known (Some bytes) h = h

-- a bad one: its number was written, and nothing of what stands behind
pub ends_bad : (E : Type 0) (input : Option (List ℕ)) (left left' : Option (List (Piece record_size))) (before now now' : Option (List ℕ)) (n : ℕ) (p : Piece record_size) → Running (known_pieces record_size input) left before now n
    → GivesNext {E = E} left (Some (Ok p)) left' → good_entry p ≡ None → Appends now now' (bad_line n) → WritesLines input before now'
ends_bad E input left left' before now now' n p r gives bad wrote =
    let (pieces, known, more, whole) = with_more input left r.split gives in
    (pieces, known, subst (Appends before now') (sym (ap (lines_from 1) whole ∙ lines more)) (Appends-trans before now now' r.done (bad_line n) r.wrote wrote))
  where
    lines : (more : List (Piece record_size)) → lines_from 1 (r.came ++ p ∷ more) ≡ r.done ++ bad_line n
    lines more = r.goes_on (p ∷ more) ∙ ap (λ (l : List ℕ). r.done ++ l) (lines_bad n p more bad)

    -- what came, with what may stand behind
    with_more : (input : Option (List ℕ)) (left : Option (List (Piece record_size))) → Left (known_pieces record_size input) r.came left
        → GivesNext {E = E} left (Some (Ok p)) left' → (ps : List (Piece record_size)) × IfSome input (λ bytes. ps ≡ pieces_of record_size bytes) × (more : List (Piece record_size)) × (ps ≡ r.came ++ p ∷ more)
    with_more None left split gives = (r.came ++ p ∷ [], tt, [], refl)
    with_more (Some bytes) None (rest, is, whole) gives = absurd (none-some rest is)
    with_more (Some bytes) (Some qs) (rest, is, whole) (ys, behind, first) =
        (pieces_of record_size bytes, refl, ys, whole ∙ ap (λ l. r.came ++ l) (sym (same_Some _ _ is) ∙ first))
