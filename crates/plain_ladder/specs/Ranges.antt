-- The ranges of what is exchanged.
use Rattle.std.specs.Prelude.{ℕ, ◌≤◌, ◌≡◌, true}
use Rattle.rules.specs.Numbers.{short_most}
use Rattle.rules.specs.Ranges.{own_allowed}

pub record InRanges (length bs stmin : ℕ) : Type 0 where
  pub length-least : 1 ≤ length
  pub length_most : length ≤ short_most
  pub own : own_allowed bs stmin ≡ true
