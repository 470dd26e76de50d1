use Rattle.std.proofs.Common.{◌≡◌, length, drop, ap, ◌∙◌, le_refl, rules, tests}
use Rattle.std.proofs.lemmas.Iterator.{YieldsList-from_slice, YieldsList-from_take}
use Rattle.std.proofs.lemmas.Iterator.Search.{all_from_yields_List}
use Rattle.std.proofs.lemmas.List.{drop_min}
use Rattle.std.proofs.lemmas.Slice.{between_to_end}
use Rattle.std.specs.Slice.Iter.{iter_rest}
use Rattle.records.specs.Records.{zero_byte, unused_in}
use Rattle.records.proofs.record.unused.Goals as goal

pub returns : goal.returns
unfolding unused_in
returns c =
    let bytes = c.args.bytes.now in
    let left : iter_rest c.iter.result ≡ drop c.args.from bytes =
    c.iter.ensures.rest ∙ between_to_end bytes c.min.result (length bytes) (le_refl _) ∙ ap (λ n. drop n bytes) c.min.ensures ∙ drop_min c.args.from bytes in
    all_from_yields_List zero_byte _ _ _ c.all.ensures.ran
    (YieldsList-from_take c.saturating_sub-count.result (YieldsList-from_slice (drop c.args.from bytes) (cc)) (cc))
    (λ x b q k. search (rules, tests))
    ∙ cc
