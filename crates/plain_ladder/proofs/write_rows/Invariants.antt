-- The lines of the rows so far were written.
use Rattle.std.specs.Prelude.{take}
use Rattle.std.specs.Io.KnownBytes.{Appends}
use Rattle.plain_ladder.proofs.Lines.{numbered}
use Rattle.plain_ladder.proofs.write_rows.Given as goal

abbrev pub invariant-loop-before : goal.invariant-loop-before
invariant-loop-before g l = Appends (g.W.Write.contents l.fn.output) (g.W.Write.contents l.output) (numbered 1 (take l.before l.rows))
