-- While turns are left, what comes is what the reader had.
use Rattle.std.proofs.Common.{◌≡◌, ◌==◌, ◌-◌, ◌<◌, length, false, arith, rules}
use Rattle.std.proofs.lemmas.Bool.Decides.{nat_tests}
use Rattle.candump_converter.proofs.Gathering.{given_line, given_none}
use Rattle.candump_converter.proofs.lines.LinesIterator.next.Goals as goal

pub returns-in-Ok-clause-steps : goal.returns-in-Ok-clause-steps
returns-in-Ok-clause-steps g c =
    let before : (c.args.self.now.turns == 0) ≡ false = grind (arith, nat_tests) in
    let after : (c.args.self.now.turns - 1 == 0) ≡ false = grind (arith, nat_tests) in
    let none : length c.in-Ok.line.items ≡ 0 = search rules in
    rw (before, after) (given_none _ _ _ c.in-Ok.line.items c.in-Ok.ensures none)

pub returns-in-Ok-2-clause-steps : goal.returns-in-Ok-2-clause-steps
returns-in-Ok-2-clause-steps g c =
    let before : (c.args.self.now.turns == 0) ≡ false = grind (arith, nat_tests) in
    let after : (c.args.self.now.turns - 1 == 0) ≡ false = grind (arith, nat_tests) in
    let some : 0 < length c.in-Ok.line.items = search rules in
    rw (before, after) (given_line _ _ _ c.in-Ok.line.items c.in-Ok.ensures some)
