-- Each line's records, a refused line, and the end.
use Rattle.std.proofs.Common.{rules}
use Rattle.candump_converter.proofs.Running.{starts, ends, line_on, line_stops}
use Rattle.candump_converter.proofs.read.Goals as goal

pub loop-line-init : goal.loop-line-init
loop-line-init g c = (tt, tt, starts _ _ _ _ _ _ (search rules))

pub loop-line-preserved : goal.loop-line-preserved
loop-line-preserved g c =
    (tt, tt, line_on _ _ _ _ _ _ _ _ _ _ _ c.in_ok-line.field-0.items (rw c.in_ok-line.was at c.in-Some.ensures.steps) c.args.turns c.loop-line.invariant.2 c.in-Ok.read _ (rw c.deref.ensures.0 at c.in-Ok.ensures) c.in_ok-line-in-Ok.ensures)

pub returns-in-Err : goal.returns-in-Err
returns-in-Err g c =
    line_stops _ _ _ _ _ _ _ _ _ _ _ c.in_ok-line.field-0.items (rw c.in_ok-line.was at c.in-Some.ensures.steps) c.args.turns c.loop-line.invariant.2 c.in-Err.error (rw c.deref.ensures.0 at c.in-Err.ensures)

pub returns : goal.returns
returns g c = ends _ _ _ _ _ _ _ _ _ _ _ _ c.loop-line.invariant.2 (rw c.in-None.is at c.next.ensures.steps)
