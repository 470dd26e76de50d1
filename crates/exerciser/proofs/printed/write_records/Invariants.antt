-- The records of the entries so far were written.
use Rattle.std.proofs.Common.{take}
use Rattle.std.specs.Io.KnownBytes.{Appends}
use Rattle.exerciser.specs.Printed.{records_of}
use Rattle.exerciser.proofs.printed.write_records.Given as goal

abbrev pub invariant-loop-entry : goal.invariant-loop-entry
invariant-loop-entry g l = Appends (g.W.Write.contents l.fn.output) (g.W.Write.contents l.output) (records_of (take l.entry-index l.entries))
