-- One count more.
use Rattle.std.proofs.Common.{rules, refl}
use Rattle.std.proofs.Output.{has_written_append, has_written_of_eq}
use Rattle.text.proofs.Counts.{spaced_more}
use Rattle.text.proofs.card.CountsDisplay.fmt.Goals as goal

pub loop-count-preserved : goal.loop-count-preserved
loop-count-preserved g c = λ p.
    let before = c.loop-count.invariant p in
    has_written_of_eq _ _ _ _ _ (spaced_more c.args.self.now.0.now c.loop-count.count-index c.loop-count-test.true (search rules)) (has_written_append _ _ _ _ _ _ before (c.in_ok-write.ensures.writes before.plain refl))
