-- The invariant: what has room of the text and the counts that are left is what has room of all.
use mathlib.Core.Path.{◌≡◌}
use mathlib.Core.List.{◌++◌}
use lib.ListN.{drop}
use Rattle.text.specs.Building.{text_of, clipped}
use Rattle.text.specs.Cards.{spaced_text}
use Rattle.text.proofs.card.put_spaced.Given as goal

abbrev pub invariant-loop-count : goal.invariant-loop-count
invariant-loop-count l =
    (clipped (text_of l.all) ≡ text_of l.all) × (clipped (text_of l.all ++ spaced_text (drop l.count-index l.list)) ≡ clipped (text_of l.initial.all ++ spaced_text l.list))
