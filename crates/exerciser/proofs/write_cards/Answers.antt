-- One line more was written; in the end all.
use Rattle.std.proofs.Common.{rules}
use Rattle.exerciser.proofs.CardLines.{one_more}
use Rattle.exerciser.proofs.write_cards.Goals as goal

pub loop-berth-preserved : goal.loop-berth-preserved
loop-berth-preserved g c =
    one_more _ _ _ c.loop-berth.berth c.args.cards.now _ c.loop-berth.invariant (search rules) c.in_ok-write.ensures.bytes
