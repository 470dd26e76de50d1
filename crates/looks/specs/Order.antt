-- What the test of order looks at: a berth's order in parts, and the idle berths.
use Rattle.std.specs.Prelude.{ℕ, suc, Bool, List, [], ◌∷◌, leb}
use Rattle.rules.specs.Tests.{pick, all}
use Rattle.rules.specs.Ranges.{own_allowed, rx_in_range, tx_in_range, party_in_range}
use Rattle.rules.specs.declared.Settings.{Settings}
use Rattle.rules.specs.declared.Berth.{Berth}
use Rattle.berth.specs.Idle.{idle}

-- ---- a berth in order, in two parts: its own settings, and its two sides, the receive side by its own BS

abbrev pub own_in_order : Berth → Bool
own_in_order b = own_allowed b.settings.block b.settings.stmin

unfoldable pub sides_in_order : Settings → Berth → Bool
sides_in_order s b = all (rx_in_range s b.settings.block b.last b.rx ∷ tx_in_range s b.tx ∷ party_in_range b.tx ∷ [])

-- ---- idle berths

-- a berth is at rest: idle, with a last length in range
abbrev pub at_rest : Settings → Berth → Bool
at_rest s b = all (idle b ∷ leb b.last s.area ∷ [])

-- how many berths from the first on are idle
unfoldable pub leading_idle : List Berth → ℕ
leading_idle [] = 0
leading_idle (b ∷ bs) = pick (idle b) (suc (leading_idle bs)) 0
