-- In a node in order an area is small.
use Prim.Native.Nat.{◌≤◌}
use mathlib.Core.Path.{◌≡◌}
use mathlib.Core.Bool.{true}
use Rattle.rules.specs.Numbers.{largest_area}
use Rattle.rules.specs.Ranges.{in_order}
use Rattle.rules.specs.declared.Node.{Node}
use Rattle.rules.proofs.Cases.{yes_of}
use Rattle.rules.proofs.Ranges.{in-order-range}

pub small : (n : Node) → in_order n ≡ true → n.settings.area ≤ largest_area
small n e = (in-order-range n (yes_of e)).settings.area-most
