-- What was written are the lines of the berths so far.
use Rattle.exerciser.proofs.CardLines.{Said}
use Rattle.exerciser.proofs.write_cards.Given as goal

abbrev pub invariant-loop-berth : goal.invariant-loop-berth
invariant-loop-berth g l = Said (g.W.Write.contents l.fn.output) (g.W.Write.contents l.output) l.berth l.cards
