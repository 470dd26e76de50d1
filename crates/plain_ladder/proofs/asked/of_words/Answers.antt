use Rattle.plain_ladder.proofs.Words.{in_ranges}
use Rattle.plain_ladder.proofs.asked.of_words.Goals as goal

pub invariant_of-result : goal.invariant_of-result
invariant_of-result c =
    record { in_ranges = in_ranges _ _ _ c.in_ok-length.length c.in_ok-bs.bs c.in_ok-stmin.stmin c.in_ok-length.ensures c.in_ok-bs.ensures c.in_ok-stmin.ensures }
