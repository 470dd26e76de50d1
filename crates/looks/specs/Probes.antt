-- The search of a turn: which berth it probes after so many.
use Rattle.std.specs.Prelude.{ℕ, ◌+◌, ◌%◌}
use Rattle.rules.specs.Numbers.{berth_count}

abbrev pub probe_at : ℕ → ℕ → ℕ
probe_at served j = (served + 1 + j) % berth_count
