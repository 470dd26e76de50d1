-- The lemmas that each function's goals want, by function.
use Rattle.rules.proofs.Inside.{came-inside}
use Rattle.hearing.proofs.Put.{put-in-area}

pub ruleset arrived_steps = (came-inside, put-in-area)
