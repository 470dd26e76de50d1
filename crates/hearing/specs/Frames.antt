-- A frame for one berth of a node, by the rule of one berth.
use Rattle.std.specs.Prelude.{ℕ, List}
use Rattle.rules.specs.Nodes.{berth_at}
use Rattle.rules.specs.Arrivals.{Came, frame_came}
use Rattle.rules.specs.declared.Node.{Node}

-- what a frame with the data d does at berth k
abbrev pub came : Node → ℕ → List ℕ → Came
came n k d = frame_came n.settings (berth_at n k) d
