-- The call's promise and its text's; a turn is not counted as a tick.
use Rattle.std.proofs.Common.{ap}
use Rattle.exerciser.specs.Printed.{with_tick}
use Rattle.exerciser.proofs.Recorded.{turn-counts}
use Rattle.exerciser.proofs.Promised.{does}
use Rattle.exerciser.proofs.Exerciser.turn.Goals as goal

pub returns : goal.returns
returns g c = does c.turn.ensures (ap (with_tick c.args.self.now.how) (turn-counts _ _ _)) (c.turn-answer.ensures _)
