use Rattle.std.proofs.Common.{◌≡◌, ◌∙◌, ap, sym, subst, length, take, ◌/◌}
use Rattle.std.specs.Io.KnownBytes.{Appends}
use Rattle.std.specs.List.{concat}
use Rattle.std.proofs.KnownBytes.{Appends-nil, Appends-trans}
use Rattle.std.proofs.lemmas.List.{take_all}
use Rattle.plain.specs.Engine.{row_size}
use Rattle.plain_ladder.specs.Ladder.{row_lines}
use Rattle.plain_ladder.proofs.Lines.{numbered, numbered-rows, one-more}
use Rattle.plain_ladder.proofs.write_rows.Goals as goal

pub loop-before-init : goal.loop-before-init
loop-before-init g c = Appends-nil (g.W.Write.contents c.args.output.now)

pub loop-before-preserved : goal.loop-before-preserved
loop-before-preserved g c =
    let before = g.W.Write.contents c.args.output.now in
    let after = g.W.Write.contents c.write_row.new.output in
    subst (Appends before after) (sym (one-more c.as_chunks.result.0.now c.loop-before.before _ c.loop-before-test.true))
    (Appends-trans before (g.W.Write.contents c.loop-before.output) after (numbered 1 (take c.loop-before.before c.as_chunks.result.0.now)) _ c.loop-before.invariant c.in_ok-write_row.ensures)

pub returns : goal.returns
returns g c =
    let rows = c.as_chunks.result.0.now in
    let list = c.args.list.now in
    let all : numbered 1 (take c.loop-before.before rows) ≡ concat (row_lines 1 (length list / row_size) list)
    = ap (numbered 1) (take_all c.loop-before.before rows c.loop-before-test.false ∙ c.as_chunks.ensures.front) ∙ numbered-rows 1 (length list / row_size) list in
    subst (Appends (g.W.Write.contents c.args.output.now) (g.W.Write.contents c.loop-before.output)) all c.loop-before.invariant
