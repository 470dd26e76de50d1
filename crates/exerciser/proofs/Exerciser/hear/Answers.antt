-- The call's promise and its text's; a frame is not counted as a tick.
use Rattle.std.proofs.Common.{ap}
use Rattle.exerciser.specs.Printed.{with_tick}
use Rattle.exerciser.proofs.Recorded.{frame-counts}
use Rattle.exerciser.proofs.Promised.{does}
use Rattle.exerciser.proofs.Exerciser.hear.Goals as goal

pub returns : goal.returns
returns g c = does c.frame.ensures (ap (with_tick c.args.self.now.how) (frame-counts _ _)) (c.frame-answer.ensures _)
