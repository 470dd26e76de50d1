-- A run of the exerciser so far: what came, what was written of it, how the texts go on, and what is held.
use Rattle.std.proofs.Common.{◌≡◌, ℕ, Bool, List, [], ◌∷◌, ◌++◌, map, Option, Some, None, IfSome, Ok, refl, sym, ap, subst, ◌∙◌, append_assoc, append-nil}
use Rattle.std.proofs.lemmas.List.{map_push}
use Rattle.std.specs.Io.KnownBytes.{Appends}
use Rattle.std.proofs.KnownBytes.{Appends-nil, Appends-trans}
use Rattle.rules.specs.Tests.{pick}
use Rattle.rules.specs.Nodes.{Held}
use Rattle.pieces.specs.Pieces.{record_size, pieces_of, bytes_of, known_pieces, GivesNext}
use Rattle.pieces.specs.declared.Piece.{Piece}
use Rattle.pieces.proofs.Left.{Left, left_first, left_next, left_none}
use Rattle.exerciser.specs.declared.printed.How.{How}
use Rattle.exerciser.specs.Printed.{first_how, next_how}
use Rattle.exerciser.specs.Steps.{first_held, step_text, step_count, step_held}
use Rattle.exerciser.specs.Journal.{texts_of}
use Rattle.exerciser.specs.Turns.{held_after, card_lines, all_texts, WritesTexts}

pub record Running (journal : Bool) (all left : Option (List (Piece record_size))) (before now : Option (List ℕ)) (how : How) (h : Held) : Type 0 where
  pub came : List (Piece record_size)
  pub done : List ℕ
  pub split : Left all came left
  pub wrote : Appends before now done
  pub goes_on : (ds : List (List ℕ)) → texts_of (first_how journal) (map bytes_of came ++ ds) first_held ≡ done ++ texts_of how ds h
  pub held : held_after (map bytes_of came) first_held ≡ h

pub starts : (journal : Bool) (all left : Option (List (Piece record_size))) (before : Option (List ℕ)) (how : How) (h : Held) → left ≡ all → how ≡ first_how journal → h ≡ first_held
    → Running journal all left before before how h
unfolding held_after
starts journal all left before how h e f k =
    record { came = []; done = []; split = left_first all left e; wrote = Appends-nil before; goes_on = λ ds. rw (f, k) refl; held = sym k }

held_last : (ds : List (List ℕ)) (d : List ℕ) (h : Held) → held_after (ds ++ d ∷ []) h ≡ step_held d (held_after ds h)
unfolding held_after
held_last [] d h = refl
held_last (x ∷ ds) d h = held_last ds d (step_held x h)

-- one more: its text was written
pub goes : (E : Type 0) (journal : Bool) (all left left' : Option (List (Piece record_size))) (before now now' : Option (List ℕ)) (how how' : How) (h h' : Held) (p : Piece record_size) (text : List ℕ) → Running journal all left before now how h
    → GivesNext {E = E} left (Some (Ok p)) left' → text ≡ step_text how (bytes_of p) h → how' ≡ next_how how (step_count how.tick (bytes_of p) h) → h' ≡ step_held (bytes_of p) h
    → Appends now now' text → Running journal all left' before now' how' h'
unfolding texts_of
goes E journal all left left' before now now' how how' h h' p text r gives told counts leaves wrote =
    let last : map bytes_of (r.came ++ p ∷ []) ≡ map bytes_of r.came ++ bytes_of p ∷ [] = map_push bytes_of r.came p in
    record {
      came = r.came ++ p ∷ [];
      done = r.done ++ text;
      split = left_next E all left left' r.came p r.split gives;
      wrote = Appends-trans before now now' r.done text r.wrote wrote;
      goes_on = λ ds.
          ap (λ (l : List (List ℕ)). texts_of (first_how journal) (l ++ ds) first_held) last
          ∙ ap (λ (l : List (List ℕ)). texts_of (first_how journal) l first_held) (append_assoc (map bytes_of r.came) (bytes_of p ∷ []) ds)
          ∙ r.goes_on (bytes_of p ∷ ds)
          ∙ rw (told, counts, leaves) (sym (append_assoc r.done (step_text how (bytes_of p) h) _));
      held = ap (λ (l : List (List ℕ)). held_after l first_held) last ∙ held_last (map bytes_of r.came) (bytes_of p) first_held ∙ ap (step_held (bytes_of p)) r.held ∙ sym leaves;
    }

-- none is left: the texts are all, and behind them stand the lines of the cards where they are asked for
pub ends : (E : Type 0) (lines journal : Bool) (input : Option (List ℕ)) (left left' : Option (List (Piece record_size))) (before now now' : Option (List ℕ)) (how : How) (h : Held) (last : List ℕ)
    → Running journal (known_pieces record_size input) left before now how h → GivesNext {A = Piece record_size} {E = E} left None left' → last ≡ pick lines (card_lines 0 h.cards) [] → Appends now now' last
    → WritesTexts lines journal input before now'
unfolding texts_of
ends E lines journal input left left' before now now' how h last r gives told wrote =
    (r.came, known input (left_none E (known_pieces record_size input) left left' r.came r.split gives), subst (Appends before now') (sym whole) (Appends-trans before now now' r.done last r.wrote wrote))
  where
    texts : texts_of (first_how journal) (map bytes_of r.came) first_held ≡ r.done
    texts = ap (λ (l : List (List ℕ)). texts_of (first_how journal) l first_held) (sym (append-nil (map bytes_of r.came))) ∙ r.goes_on [] ∙ append-nil r.done

    whole : all_texts lines journal (map bytes_of r.came) ≡ r.done ++ last
    whole = rw (texts, r.held, told) refl

    known : (input : Option (List ℕ)) → IfSome (known_pieces record_size input) (λ ps. r.came ≡ ps) → IfSome input (λ bytes. r.came ≡ pieces_of record_size bytes)
    known None h = tt
    known (Some bytes) h = h
