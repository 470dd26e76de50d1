-- Settings berth by berth: the range of a parameter's value, and a berth after a change. A parameter is 0 for STmin or 1
-- for BS.
use Rattle.std.specs.Prelude.{ℕ, ◌≤◌, Bool, not, ◌||◌, T, leb, eqb}
use Rattle.rules.specs.Tests.{pick}
use Rattle.rules.specs.Numbers.{largest_block, stmin_parameter, block_parameter}
use Rattle.rules.specs.Nodes.{with_block, with_stmin, with_settings}
use Rattle.rules.specs.Ranges.{stmin_allowed, StminRange}
use Rattle.rules.specs.Cards.{under_way}
use Rattle.rules.specs.declared.BerthSettings.{BerthSettings}
use Rattle.rules.specs.declared.Berth.{Berth}

-- the parameter is one of the two
abbrev pub known : ℕ → Bool
known parameter = eqb parameter stmin_parameter || eqb parameter block_parameter

-- the first for STmin, the second for BS; any other number than 0 is taken for 1, since 13 is tested first
abbrev pub by_parameter {ℓ} : {X : Type ℓ} → ℕ → X → X → X
by_parameter parameter stmin block = pick (eqb parameter stmin_parameter) stmin block

-- the value is in the range that set-up has for it
unfoldable pub value_allowed : ℕ → ℕ → Bool
value_allowed parameter value = by_parameter parameter (stmin_allowed value) (leb value largest_block)

abbrev pub ValueRange : ℕ → ℕ → Type 0
ValueRange parameter value = by_parameter parameter (StminRange value) (value ≤ largest_block)

-- a change of a berth that is answered: the parameter is known, the value is in its range, and no reception is under way
abbrev pub MayChange : Berth → (parameter value : ℕ) → Type 0
MayChange b parameter value = T (known parameter) × T (value_allowed parameter value) × T (not (under_way b.rx))

-- that one setting is changed and nothing else
unfoldable pub changed_settings : BerthSettings → ℕ → ℕ → BerthSettings
changed_settings s parameter value = by_parameter parameter (with_stmin s value) (with_block s value)

unfoldable pub changed : Berth → ℕ → ℕ → Berth
changed b parameter value = with_settings b (changed_settings b.settings parameter value)
