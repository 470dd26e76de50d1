-- While turns are left, what comes is what the reader had.
use Rattle.std.proofs.Common.{◌≡◌, ◌==◌, ◌-◌, sym, ◌∙◌, false, arith}
use Rattle.std.proofs.lemmas.Bool.Decides.{nat_tests}
use Rattle.pieces.proofs.Cuts.{given_whole, given_last}
use Rattle.pieces.proofs.RecordsIterator.next.Goals as goal

pub returns-then-not-is_whole-clause-steps : goal.returns-then-not-is_whole-clause-steps
returns-then-not-is_whole-clause-steps g c =
    let before : (c.args.self.now.turns == 0) ≡ false = grind (arith, nat_tests) in
    rw before (given_last _ _ _ _ c.next_piece-piece.ensures (sym c.is_whole.ensures ∙ c.if-not-is_whole.true))

pub returns-else-not-is_whole-clause-steps : goal.returns-else-not-is_whole-clause-steps
returns-else-not-is_whole-clause-steps g c =
    let before : (c.args.self.now.turns == 0) ≡ false = grind (arith, nat_tests) in
    let after : (c.args.self.now.turns - 1 == 0) ≡ false = grind (arith, nat_tests) in
    rw (before, after) (given_whole _ _ _ _ c.next_piece-piece.ensures (sym c.is_whole.ensures ∙ c.if-not-is_whole.false))
