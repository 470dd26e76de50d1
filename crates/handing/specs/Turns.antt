-- A berth's turn: what it may count on, and what the berth leaves, as the rule of the hand-over has it.
use Rattle.std.specs.Prelude.{ℕ, ◌≤◌, ◌≡◌, true, List}
use Rattle.rules.specs.Numbers.{least_area, largest_area}
use Rattle.rules.specs.Nodes.{berth_at}
use Rattle.rules.specs.Ranges.{TxRange}
use Rattle.rules.specs.Turns.{HandedOver, hand_over, due}
use Rattle.rules.specs.Stores.{area_of}
use Rattle.rules.specs.declared.Settings.{Settings}
use Rattle.rules.specs.declared.Node.{Node}
use Rattle.rules.specs.declared.Berth.{Berth}

abbrev pub AreaInRange : Settings → Type 0
AreaInRange s = (least_area ≤ s.area) × (s.area ≤ largest_area)

-- a berth that is due, and in order
abbrev pub Due : Settings → Berth → Type 0
Due s b = (due b ≡ true) × TxRange s b.tx

-- what the berth at a place hands over
abbrev pub handed_by : Node → ℕ → List ℕ → HandedOver
handed_by n at outgoing = hand_over (berth_at n at) (area_of n.settings.area at outgoing)
