-- A side that remembers nothing. A berth is idle where both of its sides are.
use Rattle.std.specs.Prelude.{Bool, true, false, not, ◌&&◌}
use Rattle.rules.specs.Turns.{busy}
use Rattle.rules.specs.declared.Rx.{Rx}
use Rattle.rules.specs.declared.Berth.{Berth}

abbrev pub receiving : Rx → Bool
receiving Rx.Idle = false
receiving (Rx.OwesOverflow t) = true
receiving (Rx.OwesGo p t) = true
receiving (Rx.Awaits p t) = true

unfoldable pub idle : Berth → Bool
idle b = not (receiving b.rx) && not (busy b.tx)
