-- What happens: the six calls on the node, and the events of one berth alone.
use Rattle.std.specs.Prelude.{ℕ, ◌-◌, List}
use Rattle.rules.specs.Numbers.{from_berth}
use Rattle.rules.specs.declared.Party.{Party}
use Rattle.rules.specs.declared.Choice.{Choice}

-- the six calls: a frame came in on an identifier; a tick; send a party's message to a berth; call for a frame with a buffer; show a
-- berth's message, the last arrived or the one now being sent; change a berth's parameter to a value
pub data Call : Type 0 where
  frame : ℕ → List ℕ → Call
  tick : Call
  send : (berth party : ℕ) → List ℕ → Call
  turn : List ℕ → Call
  show : ℕ → Choice → Call
  change : (berth parameter value : ℕ) → Call

-- the berth that sends on an identifier of the ten; any other is refused
abbrev pub sender_of : ℕ → ℕ
sender_of id = id - from_berth

-- a berth's own events: its frames, sends and changes, all ticks, and the turns it received
pub data Event : Type 0 where
  arrives : List ℕ → Event
  ticks : Event
  sends : Party → List ℕ → Event
  turns : Event
  changes : (parameter value : ℕ) → Event
