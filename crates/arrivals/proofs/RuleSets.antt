-- The lemmas that each function's goals want, by function.
use Rattle.frames.proofs.Fits.{share-most, single-within, first-whole, consecutive-within, flow-within}
use Rattle.arrivals.proofs.Inside.{single-short}
use Rattle.arrivals.proofs.Keeping.{keeps}

pub ruleset single_came_steps = (single-within, single-short)

pub ruleset first_came_steps = (first-whole)

pub ruleset keep_piece_steps = (share-most, consecutive-within)

pub ruleset flow_came_steps = (flow-within)

pub ruleset keep_steps = (keeps)
