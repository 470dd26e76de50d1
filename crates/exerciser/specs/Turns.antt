-- What the exerciser writes of an input, over its whole run.
use Rattle.std.specs.Prelude.{◌≡◌, ℕ, ◌+◌, Bool, List, [], ◌∷◌, ◌++◌, map, Option, IfSome}
use Rattle.std.specs.Io.KnownBytes.{Appends}
use Rattle.rules.specs.Tests.{pick}
use Rattle.rules.specs.Nodes.{Held}
use Rattle.rules.specs.declared.Card.{Card}
use Rattle.text.specs.Cards.{card_line}
use Rattle.pieces.specs.Pieces.{record_size, pieces_of, bytes_of}
use Rattle.pieces.specs.declared.Piece.{Piece}
use Rattle.exerciser.specs.Printed.{first_how}
use Rattle.exerciser.specs.Steps.{first_held, step_held}
use Rattle.exerciser.specs.Journal.{texts_of}

-- what some records leave
unfoldable pub held_after : List (List ℕ) → Held → Held
held_after [] h = h
held_after (d ∷ ds) h = held_after ds (step_held d h)

-- the lines of the cards from berth k on
unfoldable pub card_lines : ℕ → List Card → List ℕ
card_lines k [] = []
card_lines k (c ∷ cs) = card_line k c ++ card_lines (k + 1) cs

-- the texts of some records, and behind them the lines of the cards where they are asked for
abbrev pub all_texts : (lines journal : Bool) → List (List ℕ) → List ℕ
all_texts lines journal ds =
    texts_of (first_how journal) ds first_held ++ pick lines (card_lines 0 (held_after ds first_held).cards) []

-- Some pieces came, and their texts were written and nothing else. Where the input's bytes are known these are its pieces.
abbrev pub WritesTexts : (lines journal : Bool) → Option (List ℕ) → Option (List ℕ) → Option (List ℕ) → Type 0
WritesTexts lines journal input old new =
    (pieces : List (Piece record_size)) × IfSome input (λ bytes. pieces ≡ pieces_of record_size bytes) × Appends old new (all_texts lines journal (map bytes_of pieces))
