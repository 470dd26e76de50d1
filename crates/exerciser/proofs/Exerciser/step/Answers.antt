-- What was read tells which call is asked for, that a frame's data lie within the record and that a message is no longer than the
-- longest; the call promises the rest.
use Rattle.std.proofs.Common.{◌≡◌, ◌+◌, ◌-◌, refl, arith}
use Rattle.exerciser.specs.Steps.{asks}
use Rattle.exerciser.proofs.Promised.{steps, stays}
use Rattle.exerciser.proofs.Exerciser.step.Goals as goal

pub returns-in-Err : goal.returns-in-Err
unfolding asks
returns-in-Err g c =
    stays _ (rw (← c.in-Err.ensures)) c.write_bad.ensures refl

pub returns-in-Ok-Frame : goal.returns-in-Ok-Frame
unfolding asks
returns-in-Ok-Frame g c =
    let asked = rw c.in-Ok-Frame.field-0-is at c.in-Ok-Frame.ensures in
    let e : 8 + c.in-Ok-Frame.length - 8 ≡ c.in-Ok-Frame.length = omega arith in
    steps _ (rw (← asked, e)) c.hear.ensures

pub returns-in-Ok-Tick : goal.returns-in-Ok-Tick
unfolding asks
returns-in-Ok-Tick g c =
    let asked = rw c.in-Ok-Tick.field-0-is at c.in-Ok-Tick.ensures in
    steps _ (rw (← asked)) c.tick.ensures

pub returns-in-Ok-Send : goal.returns-in-Ok-Send
unfolding asks
returns-in-Ok-Send g c =
    let asked = rw c.in-Ok-Send.field-0-is at c.in-Ok-Send.ensures in
    steps _ (rw (← asked)) c.send.ensures

pub returns-in-Ok-Turn : goal.returns-in-Ok-Turn
unfolding asks
returns-in-Ok-Turn g c =
    let asked = rw c.in-Ok-Turn.field-0-is at c.in-Ok-Turn.ensures in
    steps _ (rw (← asked)) c.turn.ensures
