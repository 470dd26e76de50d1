-- A part more; where it ends the line the line is whole, and so is a full one.
use Rattle.std.proofs.Common.{◌≤◌, length, length-append, rules, arith}
use Rattle.candump_converter.specs.Lines.{longest}
use Rattle.candump_converter.proofs.Gathering.{gathered_none, gathered_more, taken_part, taken_full}
use Rattle.candump_converter.proofs.lines.next_line.Goals as goal

pub loop-input-init : goal.loop-input-init
loop-input-init g c = rw c.new-line.ensures (gathered_none _)

pub loop-input-preserved : goal.loop-input-preserved
loop-input-preserved g c =
    let took = rw c.if-branch.false at c.in_ok-take_part.ensures in
    rw took.1 (gathered_more _ _ _ _ took.0 c.loop-input.invariant took.3 (rw took.1 at took.2) took.4.1)

pub loop-input-smaller : goal.loop-input-smaller
loop-input-smaller g c =
    let took = rw c.if-branch.false at c.in_ok-take_part.ensures in
    rw took.1 (omega (arith, length-append c.loop-input.line.items took.0, took.4.0, rw took.1 at took.2))

pub returns-then-branch : goal.returns-then-branch
returns-then-branch g c =
    let took = rw c.if-branch.true at c.in_ok-take_part.ensures in
    rw took.1 (taken_part _ _ _ _ took.0 c.loop-input.invariant took.3 took.4)

pub returns : goal.returns
returns g c =
    let full : longest ≤ length c.loop-input.line.items = search rules in
    taken_full _ _ _ c.loop-input.invariant full
