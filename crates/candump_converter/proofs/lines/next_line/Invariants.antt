-- What was taken so far. The measure is the room that is left.
use Rattle.std.proofs.Common.{◌-◌, length}
use Rattle.candump_converter.specs.Lines.{longest}
use Rattle.candump_converter.proofs.Gathering.{Gathered}
use Rattle.candump_converter.proofs.lines.next_line.Given as goal

abbrev pub invariant-loop-input : goal.invariant-loop-input
invariant-loop-input g l = Gathered (g.R.Read.remaining l.fn.input) l.line.items (g.R.Read.remaining l.input)

abbrev pub decreases-loop-input : goal.decreases-loop-input
decreases-loop-input g l = longest - length l.line.items
