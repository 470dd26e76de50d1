-- The ticks so far were written.
use Rattle.std.proofs.Common.{map, replicate}
use Rattle.std.specs.Io.KnownBytes.{Appends}
use Rattle.records.specs.Made.{tick_record}
use Rattle.candump.specs.Files.{joined}
use Rattle.candump_converter.specs.Pieces.{with_turn}
use Rattle.candump_converter.proofs.put.line.Given as goal

abbrev pub invariant-loop : goal.invariant-loop
invariant-loop g l =
    Appends (g.W.Write.contents l.fn.output) (g.W.Write.contents l.output) (joined (map (with_turn l.turns) (replicate l.counter tick_record)))
