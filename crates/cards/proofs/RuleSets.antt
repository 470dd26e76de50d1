-- The lemmas that each function's goals want, by function.
use Rattle.cards.proofs.Counted.{uncounted}

pub ruleset count_frame_steps = (uncounted)
