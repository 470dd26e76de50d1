-- What was written so far are the lines of the records that came so far.
use Rattle.std.proofs.Common.{map, None}
use Rattle.std.specs.Option.{option_map}
use Rattle.pieces.specs.Pieces.{pieces_left, bytes_of}
use Rattle.candump_converter.specs.Runs.{records_of}
use Rattle.candump_converter.specs.declared.asked.Way.{Way}
use Rattle.candump_converter.proofs.Running.{Running}
use Rattle.candump_converter.proofs.write.Given as goal

abbrev pub invariant-loop-piece : goal.invariant-loop-piece
invariant-loop-piece g l =
    (goal.iterator-loop-piece g).can_next l.piece-iterator
    × (goal.iterator-loop-piece g).is_finite l.piece-iterator
    × Running Way.Write l.fn.name records_of (g.R.Read.remaining l.fn.input) (option_map (map bytes_of) (pieces_left g.R.Read.remaining l.piece-iterator)) (g.W.Write.contents l.fn.output) (g.W.Write.contents l.output) l.number None l.time
