-- Each record's text, and the end.
use Rattle.std.proofs.Common.{rules, refl}
use Rattle.std.proofs.KnownBytes.{Appends-nil}
use Rattle.std.proofs.lemmas.Result.{on_ok_weaker}
use Rattle.exerciser.proofs.Running.{starts, goes, ends}
use Rattle.exerciser.proofs.run.Goals as goal

pub loop-piece-init : goal.loop-piece-init
loop-piece-init g c = (tt, tt, starts _ _ _ _ _ _ (search rules) c.new-exerciser.ensures.how c.new-exerciser.ensures.held)

pub loop-piece-preserved : goal.loop-piece-preserved
loop-piece-preserved g c =
    (tt, tt, goes _ _ _ _ _ _ _ _ _ _ _ _ c.in_ok-piece.field-0 _ c.loop-piece.invariant.2 (rw c.in_ok-piece.was at c.in-Some.ensures.steps) refl c.answer.ensures.how c.answer.ensures.held c.in_ok-answer.ensures.text)

pub returns-then-lines : goal.returns-then-lines
returns-then-lines g c =
    on_ok_weaker c.write_cards.result (λ d. ends _ _ _ _ _ _ _ _ _ _ _ _ c.loop-piece.invariant.2 (rw c.in-None.is at c.next.ensures.steps) (rw c.if-lines.true refl) d) c.write_cards.ensures

pub returns : goal.returns
returns g c = ends _ _ _ _ _ _ _ _ _ _ _ _ c.loop-piece.invariant.2 (rw c.in-None.is at c.next.ensures.steps) (rw c.if-lines.false refl) (Appends-nil _)
