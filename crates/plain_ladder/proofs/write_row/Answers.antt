-- Behind a row's first byte are the eight of its frame.
use Rattle.std.proofs.Common.{rules, length, ◌≡◌, subst, List, ℕ}
use Rattle.std.specs.Prelude.{OnOk}
use Rattle.std.specs.Io.KnownBytes.{Appends}
use Rattle.plain_ladder.proofs.Lines.{line_is}
use Rattle.plain_ladder.proofs.write_row.Goals as goal

pub returns : goal.returns
returns g c =
    let size : length c.args.row.now ≡ 9 = search rules in
    subst (λ (l : List ℕ). OnOk c.writeln.result (Appends (g.W.Write.contents c.args.output.now) (g.W.Write.contents c.writeln.new.self) l))
    (line_is c.args.number c.args.row.now c.ranges.number.fits size) c.writeln.ensures.bytes
