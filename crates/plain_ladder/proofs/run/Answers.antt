-- The lines of an exchange, or the one of a refusal.
use Rattle.std.proofs.Common.{sym, subst, append-nil, ℕ, List}
use Rattle.std.specs.Prelude.{OnOk}
use Rattle.std.specs.Io.KnownBytes.{Appends}
use Rattle.plain_ladder.specs.Ladder.{printed}
use Rattle.plain_ladder.specs.Refusals.{refusal_text}
use Rattle.plain_ladder.proofs.run.Goals as goal

pub returns-in-Ok : goal.returns-in-Ok
unfolding printed
returns-in-Ok g c = rw c.in-Ok.is c.write_exchange.ensures

pub returns-in-Err : goal.returns-in-Err
unfolding printed
returns-in-Err g c =
    rw c.in-Err.is
    (subst (λ (l : List ℕ). OnOk c.write_refusal.result (Appends (g.W.Write.contents c.args.output.now) (g.W.Write.contents c.write_refusal.new.output) l))
    (sym (append-nil (refusal_text c.in-Err.refusal))) c.write_refusal.ensures)
