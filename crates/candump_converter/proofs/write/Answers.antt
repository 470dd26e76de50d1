-- Each record's line, a refused record, and the end.
use Rattle.std.proofs.Common.{rules, ap, ◌∙◌, map}
use Rattle.std.specs.Option.{option_map}
use Rattle.pieces.specs.Pieces.{bytes_of}
use Rattle.candump_converter.proofs.Running.{starts, ends, record_on, record_stops, pieces_known, gives_bytes, gives_no_bytes}
use Rattle.candump_converter.proofs.write.Goals as goal

pub loop-piece-init : goal.loop-piece-init
loop-piece-init g c = (tt, tt, starts _ _ _ _ _ _ (ap (option_map (map bytes_of)) (search rules) ∙ pieces_known (g.R.Read.remaining c.args.input)))

pub loop-piece-preserved : goal.loop-piece-preserved
loop-piece-preserved g c =
    (tt, tt, record_on _ _ _ _ _ _ _ _ _ _ _ (bytes_of c.in_ok-piece.piece) (gives_bytes _ _ _ c.in_ok-piece.piece (rw c.in_ok-piece.was at c.in-Some.ensures.steps)) c.loop-piece.invariant.2 c.in-Ok.written _ (rw c.bytes.ensures at c.in-Ok.ensures) c.in_ok-written-in-Ok.ensures)

pub returns-in-Err : goal.returns-in-Err
returns-in-Err g c =
    record_stops _ _ _ _ _ _ _ _ _ _ _ (bytes_of c.in_ok-piece.piece) (gives_bytes _ _ _ c.in_ok-piece.piece (rw c.in_ok-piece.was at c.in-Some.ensures.steps)) c.loop-piece.invariant.2 c.in-Err.error (rw c.bytes.ensures at c.in-Err.ensures)

pub returns : goal.returns
returns g c = ends _ _ _ _ _ _ _ _ _ _ _ _ c.loop-piece.invariant.2 (gives_no_bytes _ _ _ (rw c.in-None.is at c.next.ensures.steps))
