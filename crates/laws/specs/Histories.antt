-- A berth's history in a run: its own events, each with what the berth says and the receive side it says it from. The laws count its moments.
use Rattle.std.specs.Prelude.{ℕ, ◌+◌, Bool, false, List, [], ◌∷◌, ◌++◌}
use Rattle.rules.specs.Tests.{pick}
use Rattle.rules.specs.Nodes.{berth_at, Held}
use Rattle.rules.specs.Events.{Call, Event}
use Rattle.rules.specs.Calls.{outcome}
use Rattle.rules.specs.Alone.{Part, part_after, says, Says, hears, expires, accepts, hands, adopts}
use Rattle.rules.specs.declared.Settings.{Settings}
use Rattle.rules.specs.declared.Rx.{Rx}
use Rattle.rules.specs.Words.{Word}
use Rattle.laws.specs.Own.{own, says_of}

-- ---- the history of a berth

-- one event of it: its receive side before the event, the event, and what the berth says
pub record Moment : Type 0 where
  pub before : Rx
  pub event : Event
  pub said : Says

-- of a run of its own events
unfoldable pub history : Settings → Part → List Event → List Moment
history s p [] = []
history s p (e ∷ es) = record { before = p.berth.rx; event = e; said = says s p e } ∷ history s (part_after s p e) es

-- of calls on the node: berth k's own events, each with what the answer says of k
unfoldable pub moments : Rx → List Event → List Says → List Moment
moments rx [] xs = []
moments rx (e ∷ es) [] = []
moments rx (e ∷ es) (x ∷ xs) = record { before = rx; event = e; said = x } ∷ moments rx es xs

unfoldable pub history_of : ℕ → Held → List Call → List Moment
history_of k h [] = []
history_of k h (c ∷ cs) =
    moments (berth_at h.node k).rx (own k h c) (says_of k (outcome h c).answer) ++ history_of k (outcome h c).held cs

-- ---- its moments

-- a frame's word passes a test
abbrev pub word_is : (Word → Bool) → Says → Bool
word_is f (hears old w) = f w
word_is f (expires receive send party) = false
word_is f accepts = false
word_is f (hands frame code party) = false
word_is f adopts = false

-- how many of these moments pass a test
unfoldable pub how_many : (Moment → Bool) → List Moment → ℕ
how_many f [] = 0
how_many f (m ∷ ms) = pick (f m) 1 0 + how_many f ms
