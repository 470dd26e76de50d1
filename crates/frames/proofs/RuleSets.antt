-- The lemmas that each function's goals want, by function.
use Rattle.frames.proofs.Fits.{share-most}
use Rattle.rules.proofs.Cases.{eqb-not}
use Rattle.rules.proofs.Gaps.{meant-most}

pub ruleset done_after_steps = (share-most)

pub ruleset gap_of_steps = (eqb-not, meant-most)
