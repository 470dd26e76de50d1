-- The codes of one berth more; behind the last one all were written.
use Rattle.std.proofs.Common.{rules, ap, refl, List, map, take_all}
use Rattle.std.proofs.Output.{has_written_append, has_written_of_eq}
use Rattle.rules.specs.Words.{codes_said}
use Rattle.rules.specs.declared.Codes.{Codes}
use Rattle.text.specs.Answers.{codes_text}
use Rattle.text.proofs.Codes.{codes_more}
use Rattle.text.proofs.words.write_codes.Goals as goal

pub loop-berth-preserved : goal.loop-berth-preserved
loop-berth-preserved g c = λ p.
    let before = c.loop-berth.invariant p in
    has_written_of_eq _ _ _ _ _ (codes_more c.args.all.now c.loop-berth.berth _ (search rules)) (has_written_append _ _ _ _ _ _ before (c.in_ok-write.ensures.writes before.plain refl))

pub returns : goal.returns
returns g c = λ p e.
    has_written_of_eq _ _ _ _ _ (ap (λ (cs : List Codes). codes_text 0 (map codes_said cs)) (take_all c.loop-berth.berth c.args.all.now (search rules))) (c.loop-berth.invariant p)
