-- The due berths as ten bits, and the next set bit after that of the berth served last.
use Rattle.std.specs.Prelude.{ℕ, zero, suc, ◌+◌, ◌*◌, ◌/◌, ◌%◌, ◌^◌, Bool, List, [], ◌∷◌, map, eqb}
use Rattle.rules.specs.Tests.{pick}
use Rattle.rules.specs.Numbers.{berth_count}
use Rattle.rules.specs.Turns.{due}
use Rattle.rules.specs.declared.Berth.{Berth}
use Rattle.looks.specs.Probes.{probe_at}

-- ---- tests as the bits of a number

-- the first test is the lowest bit
unfoldable pub bits_of : List Bool → ℕ
bits_of [] = 0
bits_of (t ∷ ts) = pick t 1 0 + 2 * bits_of ts

-- bit k of a number is set
unfoldable pub is_set : ℕ → ℕ → Bool
is_set bits k = eqb (bits / 2 ^ k % 2) 1

-- the due berths: bit k is set exactly if berth k is due (proofs/DueBits, `bit-is-due`)
unfoldable pub due_bits : List Berth → ℕ
due_bits bs = bits_of (map due bs)

-- ---- the round

-- where p bits are passed over and so many are left: how many are passed over until one is set
unfoldable pub passed_from : ℕ → ℕ → ℕ → ℕ → ℕ
passed_from bits served p zero = p
passed_from bits served p (suc left) = pick (is_set bits (probe_at served p)) p (passed_from bits served (suc p) left)

-- the next set bit after that of the berth served last: how many bits are passed over, 10 if none of the ten is set
unfoldable pub next_set : ℕ → ℕ → ℕ
next_set bits served = passed_from bits served 0 berth_count
