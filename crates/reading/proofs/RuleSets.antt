-- The lemmas that each function's goals want, by function.
use Rattle.std.proofs.lemmas.List.Sums.{prefix_len-le-length}

pub ruleset input_line_length_steps = (prefix_len-le-length)

pub ruleset output_cleared_steps = (prefix_len-le-length)
