-- The law of the gaps: two consecutive frames that a berth hands over, the last Going before them, and the ticks between.
use Rattle.std.specs.Prelude.{ℕ, ◌+◌, ◌*◌, ◌≤◌, ◌<◌, ◌≡◌, Bool, true, false, List, [], ◌∷◌, ◌++◌, length, T, eqb}
use Rattle.rules.specs.Numbers.{consecutive_kind}
use Rattle.rules.specs.Frames.{byte_at, kind, ticks_meant}
use Rattle.rules.specs.Arrivals.{is_going}
use Rattle.rules.specs.Events.{Event, arrives, ticks, sends, turns, changes}
use Rattle.rules.specs.Alone.{Says, hears, expires, accepts, hands, adopts}
use Rattle.laws.specs.Histories.{Moment, word_is, how_many}

-- ---- the moments of a berth's history that the law speaks of

-- a frame is answered Going
abbrev pub goes : Moment → Bool
goes m = word_is is_going m.said

-- the STmin that a frame carries, where it is flow control
abbrev pub stmin_in : Event → ℕ
stmin_in (arrives d) = byte_at d 2
stmin_in ticks = 0
stmin_in (sends party m) = 0
stmin_in turns = 0
stmin_in (changes parameter value) = 0

-- a consecutive frame is handed over
abbrev pub is_consecutive : Says → Bool
is_consecutive (hears old w) = false
is_consecutive (expires receive send party) = false
is_consecutive accepts = false
is_consecutive (hands f code party) = eqb (kind f) consecutive_kind
is_consecutive adopts = false

abbrev pub hands_consecutive : Moment → Bool
hands_consecutive m = is_consecutive m.said

-- a tick is answered
abbrev pub is_tick : Event → Bool
is_tick (arrives d) = false
is_tick ticks = true
is_tick (sends party m) = false
is_tick turns = false
is_tick (changes parameter value) = false

abbrev pub ticks_at : Moment → Bool
ticks_at m = is_tick m.event

-- a message to be sent is taken
abbrev pub is_send : Event → Bool
is_send (arrives d) = false
is_send ticks = false
is_send (sends party m) = true
is_send turns = false
is_send (changes parameter value) = false

abbrev pub sends_at : Moment → Bool
sends_at m = is_send m.event

-- ---- two consecutive frames that a berth hands over, neighbours or not, with no frame answered Going between them, and the last Going
-- before the first
pub record TwoFrames (history : List Moment) : Type 0 where
  pub earlier : List Moment
  pub going : Moment
  pub since : List Moment
  pub first : Moment
  pub between : List Moment
  pub second : Moment
  pub later : List Moment
  pub splits : history ≡ earlier ++ (going ∷ since ++ (first ∷ between ++ second ∷ later))
  pub is-going : T (goes going)
  pub none-since : how_many goes since ≡ 0
  pub first-hands : T (hands_consecutive first)
  pub none_between : how_many goes between ≡ 0
  pub second-hands : T (hands_consecutive second)

-- the ticks that the STmin of that Going means
abbrev pub asked : {history : List Moment} → TwoFrames history → ℕ
asked f = ticks_meant (stmin_in f.going.event)

-- ---- time

-- after a tick at t, ticks come at these times, each an interval or more after the one before, and none after `end`
abbrev pub TickingFrom : (interval t end : ℕ) → List ℕ → Type 0
TickingFrom interval t end [] = t ≤ end
TickingFrom interval t end (u ∷ times) = (t + interval ≤ u) × TickingFrom interval u end times

-- from `start` to `end` ticks come at these times: the first at any moment, each other one an interval or more after the one before
abbrev pub Ticking : (interval start end : ℕ) → List ℕ → Type 0
Ticking interval start end [] = start ≤ end
Ticking interval start end (t ∷ times) = (start ≤ t) × TickingFrom interval t end times

-- ---- what the law says of the two: they are of one message, no other is taken between them; if its STmin means n > 0 ticks, at least
-- n + 1 are answered between the two; hence, for any times of these ticks, with the first frame at `start` and the second at `end`, n whole
-- intervals lie between
pub record Spaced {history : List Moment} (f : TwoFrames history) : Type 0 where
  pub one-message : how_many sends_at f.between ≡ 0
  pub enough : 0 < asked f → asked f + 1 ≤ how_many ticks_at f.between
  pub time : (interval start end : ℕ) (times : List ℕ) → length times ≡ how_many ticks_at f.between → Ticking interval start end times
      → start + asked f * interval ≤ end
