-- The lines of the cards, one after the other.
use Rattle.std.proofs.Common.{◌≡◌, ℕ, ◌+◌, ◌<◌, ◌≤◌, Option, sym, subst, append_assoc, append-nil, List, [], ◌++◌, length, get_or, drop, ap, ◌∙◌, drop_of_length-le}
use Rattle.std.proofs.lemmas.List.{drop_more}
use Rattle.std.specs.Io.KnownBytes.{Appends}
use Rattle.std.proofs.KnownBytes.{Appends-trans}
use Rattle.rules.specs.declared.Card.{Card}
use Rattle.text.specs.Cards.{card_line}
use Rattle.exerciser.specs.Turns.{card_lines}

next_line : (cards : List Card) (k : ℕ) (d : Card) → k < length cards → card_lines k (drop k cards) ≡ card_line k (get_or cards k d) ++ card_lines (k + 1) (drop (k + 1) cards)
unfolding card_lines
next_line cards k d few = ap (card_lines k) (drop_more cards k d few)

-- the lines of the berths before k were written
pub record Said (before now : Option (List ℕ)) (k : ℕ) (cards : List Card) : Type 0 where
  pub done : List ℕ
  pub wrote : Appends before now done
  pub goes_on : card_lines 0 cards ≡ done ++ card_lines k (drop k cards)

pub one_more : (before now now' : Option (List ℕ)) (k : ℕ) (cards : List Card) (d : Card) → Said before now k cards → k < length cards
    → Appends now now' (card_line k (get_or cards k d)) → Said before now' (k + 1) cards
one_more before now now' k cards d s few wrote =
    let line = card_line k (get_or cards k d) in
    record {
      done = s.done ++ line;
      wrote = Appends-trans before now now' s.done line s.wrote wrote;
      goes_on = s.goes_on ∙ ap (λ (l : List ℕ). s.done ++ l) (next_line cards k d few) ∙ sym (append_assoc s.done line (card_lines (k + 1) (drop (k + 1) cards)));
    }

-- none is left
pub all_said : (before now : Option (List ℕ)) (k : ℕ) (cards : List Card) → Said before now k cards → length cards ≤ k → Appends before now (card_lines 0 cards)
unfolding card_lines
all_said before now k cards s past =
    let none : drop k cards ≡ [] = drop_of_length-le cards past in
    subst (Appends before now) (sym (s.goes_on ∙ ap (λ (l : List Card). s.done ++ card_lines k l) none ∙ append-nil s.done)) s.wrote
