-- The codes of one berth more; behind the last one none are left.
use Rattle.std.proofs.Common.{List, ◌++◌, map, ap, sym, ◌∙◌, rules}
use Rattle.std.proofs.lemmas.List.{drop_all}
use Rattle.rules.specs.Words.{codes_said}
use Rattle.rules.specs.declared.Codes.{Codes}
use Rattle.text.specs.Building.{text_of, clipped}
use Rattle.text.specs.Answers.{codes_text}
use Rattle.text.proofs.Clip.{clip-kept, clip-last, clip-step}
use Rattle.text.proofs.Codes.{codes_left}
use Rattle.text.proofs.answers.pairs.Goals as goal

pub loop-berth-preserved : goal.loop-berth-preserved
loop-berth-preserved c =
    let t = text_of c.loop-berth.all in
    let put = c.pair-all.ensures in
    let left = codes_left c.args.codes c.loop-berth.berth _ (search rules) in
    (clip-kept t _ _ put, clip-step t _ _ put _ _ (ap (λ l. clipped (t ++ l)) (sym left) ∙ c.loop-berth.invariant.1))

pub returns : goal.returns
unfolding codes_text
returns c =
    let t = text_of c.loop-berth.all in
    let k = c.loop-berth.berth in
    let none = drop_all k c.args.codes (search rules) in
    clip-last t _ c.loop-berth.invariant.0 (ap (λ (l : List Codes). clipped (t ++ codes_text k (map codes_said l))) (sym none) ∙ c.loop-berth.invariant.1)
