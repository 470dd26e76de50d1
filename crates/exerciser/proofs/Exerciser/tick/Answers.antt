-- The call's promise, its text's and the count's.
use Rattle.std.proofs.Common.{ap}
use Rattle.exerciser.specs.Printed.{with_tick}
use Rattle.exerciser.proofs.Promised.{does}
use Rattle.exerciser.proofs.Exerciser.tick.Goals as goal

pub returns : goal.returns
returns g c = does c.tick.ensures (ap (with_tick c.args.self.now.how) c.count-self.ensures) (c.tick-answer.ensures _ _)
