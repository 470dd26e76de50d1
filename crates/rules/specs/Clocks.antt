-- How many ticks a side that is left alone still takes, and the code with which it ends.
use Rattle.std.specs.Prelude.{ℕ, ◌+◌, ◌-◌, ◌≡◌, eqb, leb}
use Rattle.rules.specs.Tests.{pick}
use Rattle.rules.specs.Numbers.{timeout, longest_gap, N_TIMEOUT_A, N_TIMEOUT_Bs, N_TIMEOUT_Cr}
use Rattle.rules.specs.Ticks.{rx_code, tx_code}
use Rattle.rules.specs.Parties.{scheduler, party_of}
use Rattle.rules.specs.Answers.{Side, receive, send}
use Rattle.rules.specs.declared.Party.{Party}
use Rattle.rules.specs.declared.Rx.{Rx}
use Rattle.rules.specs.declared.Tx.{Tx}
use Rattle.rules.specs.declared.Berth.{Berth}

-- a side is idle
abbrev pub Idle : Side → Berth → Type 0
Idle receive b = b.rx ≡ Rx.Idle
Idle send b = b.tx ≡ Tx.Idle

-- ---- what ticks move in a side: nothing if it is idle; else its gap left and its timer, and the code with which it ends

pub data Clock : Type 0 where
  still : Clock
  runs : (gap timer code : ℕ) → Clock

abbrev pub rx_clock : Rx → Clock
rx_clock Rx.Idle = still
rx_clock (Rx.OwesOverflow t) = runs 0 t N_TIMEOUT_A
rx_clock (Rx.OwesGo p t) = runs 0 t N_TIMEOUT_A
rx_clock (Rx.Awaits p t) = runs 0 t N_TIMEOUT_Cr

abbrev pub tx_clock : Tx → Clock
tx_clock Tx.Idle = still
tx_clock (Tx.SingleDue party n t) = runs 0 t N_TIMEOUT_A
tx_clock (Tx.FirstDue party n t) = runs 0 t N_TIMEOUT_A
tx_clock (Tx.AwaitsFlow party o t) = runs 0 t N_TIMEOUT_Bs
tx_clock (Tx.Consecutive party o t) = runs o.left t N_TIMEOUT_A

abbrev pub clock_of : Side → Berth → Clock
clock_of receive b = rx_clock b.rx
clock_of send b = tx_clock b.tx

-- ---- the time left

-- with gap left g and timer t it ends at tick g + 1,000 - t; an idle side has no time left
abbrev pub time_left : Clock → ℕ
time_left still = 0
time_left (runs g t code) = g + timeout - t

-- the most that any side in order has left: 1,000 plus the longest gap
abbrev pub most_time : ℕ
most_time = timeout + longest_gap

-- its gap left, 0 if it is idle
abbrev pub gap_left : Clock → ℕ
gap_left still = 0
gap_left (runs g t code) = g

-- the code with which it ends, 0 if it is idle
abbrev pub end_code : Clock → ℕ
end_code still = 0
end_code (runs g t code) = code

-- ---- what it reports

-- the code that a tick has for a side
abbrev pub tick_code : Side → Berth → ℕ
tick_code receive b = rx_code b.rx
tick_code send b = tx_code b.tx

-- the party that it reports for: the receive side has none, and 0 stands for it
abbrev pub side_party : Side → Berth → Party
side_party receive b = scheduler
side_party send b = party_of b.tx

-- by its clock, at the tick with number i from now on: its code if its time ends there, and 0 at any other
abbrev pub code_at : ℕ → Clock → ℕ
code_at i c = pick (eqb i (time_left c)) (end_code c) 0

-- and in the first n ticks: its code if its time ends within them, else 0
abbrev pub code_within : ℕ → Clock → ℕ
code_within n c = pick (leb (time_left c) n) (end_code c) 0
