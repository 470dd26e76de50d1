-- Fairness: which berths had turns in a run, and what it is that a berth stays due. A run may start anywhere, so any
-- stretch of a run is meant.
use Rattle.std.specs.Prelude.{ℕ, ◌≤◌, ◌≡◌, Bool, false, length, get_or, T, eqb}
use mathlib.Core.List.{List, [], ◌∷◌, Memᴰ}
use Rattle.rules.specs.Tests.{pick}
use Rattle.rules.specs.Nodes.{berth_at, Held}
use Rattle.rules.specs.Turns.{due}
use Rattle.rules.specs.Answers.{Answer, refused, ready, heard, codes, sent, handed, none, shown, changed, for_taker}
use Rattle.rules.specs.Events.{Call, frame, tick, send, turn, show, change}
use Rattle.rules.specs.Refusals.{refusal}
use Rattle.rules.specs.Calls.{outcome}

-- the answers to calls for a frame, in order: the berth served, or that there was none
pub data Turn : Type 0 where
  served : ℕ → Turn
  nobody : Turn

unfoldable pub turn_of : Answer → List Turn
turn_of (refused n) = []
turn_of ready = []
turn_of (heard j old w) = []
turn_of (codes cs) = []
turn_of (sent j) = []
turn_of (handed id f c passed party) = for_taker id served nobody ∷ []
turn_of (none passed) = nobody ∷ []
turn_of (shown part) = []
turn_of (changed j) = []

-- berth k has a frame due at an answered call for a frame
abbrev pub DueAt : ℕ → Held → Call → Type 0
DueAt k h (frame id d) = Unit {0}
DueAt k h tick = Unit {0}
DueAt k h (send j party m) = Unit {0}
DueAt k h (turn buffer) = refusal h (turn buffer) ≡ 0 → T (due (berth_at h.node k))
DueAt k h (show j choice) = Unit {0}
DueAt k h (change j parameter value) = Unit {0}

-- at each of a run
unfoldable pub StaysDue : ℕ → Held → List Call → Type 0
StaysDue k h [] = Unit {0}
StaysDue k h (c ∷ cs) = DueAt k h c × StaysDue k (outcome h c).held cs

-- the turns before berth k's first
abbrev pub is_of : ℕ → Turn → Bool
is_of k (served j) = eqb j k
is_of k nobody = false

unfoldable pub before : ℕ → List Turn → List Turn
before k [] = []
before k (t ∷ ts) = pick (is_of k t) [] (t ∷ before k ts)

-- pairwise different
unfoldable pub NoTwice : List Turn → Type 0
NoTwice [] = Unit {0}
NoTwice (t ∷ ts) = (Memᴰ t ts → ⊥) × NoTwice ts

-- what fairness says of the answered calls for a frame while berth k has a frame due at each: none answers None, no berth has two
-- turns before k's first, these are at most nine, and k's own comes by the tenth
pub record Fair (k : ℕ) (ts : List Turn) : Type 0 where
  pub some : Memᴰ nobody ts → ⊥
  pub once : NoTwice (before k ts)
  pub short : length (before k ts) ≤ 9
  pub tenth : 10 ≤ length ts → (i : ℕ) × (i ≤ 9) × (get_or ts i nobody ≡ served k)
