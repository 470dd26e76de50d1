-- What was written so far are the records of the lines that came so far.
use Rattle.std.proofs.Common.{[]}
use Rattle.candump_converter.specs.Lines.{lines_of, lines_left}
use Rattle.candump_converter.specs.declared.asked.Way.{Way}
use Rattle.candump_converter.proofs.Running.{Running}
use Rattle.candump_converter.proofs.read.Given as goal

abbrev pub invariant-loop-line : goal.invariant-loop-line
invariant-loop-line g l =
    (goal.iterator-loop-line g).can_next l.line-iterator
    × (goal.iterator-loop-line g).is_finite l.line-iterator
    × Running (Way.Read l.fn.turns) [] lines_of (g.R.Read.remaining l.fn.input) (lines_left g.R.Read.remaining l.line-iterator) (g.W.Write.contents l.fn.output) (g.W.Write.contents l.output) l.number l.log 0
