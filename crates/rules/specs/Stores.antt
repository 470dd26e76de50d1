-- Ten berths: the two stores and the berths' areas, the node after a tick and a turn, set-up, and the round.
use Rattle.std.specs.Prelude.{ℕ, suc, ◌+◌, ◌-◌, ◌*◌, ◌%◌, ◌≤◌, ◌<◌, min, ◌⊎◌, Bool, List, [], ◌∷◌, map, length, take, drop, set, replicate, eqb}
use Rattle.std.proofs.lemmas.List.Edits.{sets}
use Rattle.rules.specs.Tests.{pick}
use Rattle.rules.specs.Numbers.{berth_count}
use Rattle.rules.specs.Nodes.{fresh_with, berth_at, with_berths, with_served, Held}
use Rattle.rules.specs.Arrivals.{Came, frame_came}
use Rattle.rules.specs.Ticks.{ticked}
use Rattle.rules.specs.Turns.{due, HandedOver, hand_over}
use Rattle.rules.specs.declared.Settings.{Settings}
use Rattle.rules.specs.declared.BerthSettings.{BerthSettings}
use Rattle.rules.specs.declared.Berth.{Berth}
use Rattle.rules.specs.declared.Node.{Node}

-- ---- the stores and the areas

-- a store is exactly 10 x A bytes
unfoldable pub right_store : Node → List ℕ → Bool
right_store n store = eqb (length store) (berth_count * n.settings.area)

-- berth k owns bytes kA to kA + A - 1 of a store
unfoldable pub area_of : ℕ → ℕ → List ℕ → List ℕ
area_of a k store = take a (drop (k * a) store)

-- a store with bytes put down at a place of berth k's area
unfoldable pub stored : ℕ → ℕ → ℕ → List ℕ → List ℕ → List ℕ
stored a k place bytes store = sets store (k * a + place) bytes

-- byte i of a store is none of berth k's
abbrev pub Outside : ℕ → ℕ → ℕ → Type 0
Outside a k i = (i < k * a) ⊎ (k * a + a ≤ i)

-- ---- the node with each berth after a tick, and with one berth after its turn

unfoldable pub ticked_node : Node → Node
ticked_node n = with_berths n (map ticked n.berths)

unfoldable pub served_node : Node → ℕ → Berth → Node
served_node n k b = with_served (with_berths n (set n.berths k b)) k

-- ---- set-up fills the node whatever it held before: served 9, all ten berths with the same settings, all sides idle, all last lengths 0

unfoldable pub set_up_node : Settings → BerthSettings → Node
set_up_node s own = record { settings = s; served = berth_count - 1; berths = replicate berth_count (fresh_with own) }

-- ---- the round: from the berth after the one served last

-- how many berths stand between the one served last and berth k
unfoldable pub distance : ℕ → ℕ → ℕ
distance served k = (k + (berth_count - 1) - served) % berth_count

-- the least distance of a due berth among berths k, k + 1, ..; 10 if none is due
unfoldable pub least_distance : ℕ → ℕ → List Berth → ℕ
least_distance served k [] = berth_count
least_distance served k (b ∷ bs) = min (pick (due b) (distance served k) berth_count) (least_distance served (suc k) bs)

unfoldable pub passed_over : Node → ℕ
passed_over n = least_distance n.served 0 n.berths

-- the berth that is passed to after so many
unfoldable pub reached : Node → ℕ
reached n = (n.served + 1 + passed_over n) % berth_count

-- ---- the rules of one berth, at berth k

unfoldable pub came_at : Held → ℕ → List ℕ → Came
came_at h k d = frame_came h.node.settings (berth_at h.node k) d

unfoldable pub handed_at : Held → ℕ → HandedOver
handed_at h k = hand_over (berth_at h.node k) (area_of h.node.settings.area k h.outgoing)
