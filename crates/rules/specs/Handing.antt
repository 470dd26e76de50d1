-- What is said of the frames that are handed over: how each looks, how many are a message's, and that a sending is carried on.
use Rattle.std.specs.Prelude.{◌≡◌, ℕ, ◌+◌, ◌||◌, List, [], ◌∷◌, length, T, eqb}
use Rattle.rules.specs.Tests.{pick}
use Rattle.rules.specs.Numbers.{flow_kind, frame_size}
use Rattle.rules.specs.Frames.{byte_at, kind}
use Rattle.rules.specs.Arrivals.{frame_came}
use Rattle.rules.specs.Ticks.{tx_ticked}
use Rattle.rules.specs.Turns.{busy}
use Rattle.rules.specs.Changes.{MayChange}
use Rattle.rules.specs.Events.{Event, arrives, ticks, sends, turns, changes}
use Rattle.rules.specs.Alone.{Part, Says, hears, expires, accepts, hands, adopts, AtEach}
use Rattle.rules.specs.declared.Settings.{Settings}

-- eight bytes, and the first is not 31
pub record Fit (f : List ℕ) : Type 0 where
  pub eight : length f ≡ frame_size
  pub no-wait : byte_at f 0 ≡ 0x31 → ⊥

-- the data frames that a berth hands over at an event: a frame that is no flow control. Where nothing is due no byte is handed over
abbrev pub data_frames : Says → ℕ
data_frames (hears old w) = 0
data_frames (expires r s party) = 0
data_frames accepts = 0
data_frames (hands f c party) = pick (eqb (length f) 0 || eqb (kind f) flow_kind) 0 1
data_frames adopts = 0

unfoldable pub data_total : List Says → ℕ
data_total [] = 0
data_total (x ∷ xs) = data_frames x + data_total xs

-- no frame or tick ends the sending, no other message is sent, and a change is one that is answered
abbrev pub Carried : Settings → Part → Event → Type 0
Carried s p (arrives d) = T (busy p.berth.tx) → T (busy (frame_came s p.berth d).berth.tx)
Carried s p ticks = T (busy p.berth.tx) → T (busy (tx_ticked p.berth.tx))
Carried s p (sends party m) = ⊥
Carried s p turns = Unit {0}
Carried s p (changes parameter value) = MayChange p.berth parameter value

abbrev pub CarriedAll : Settings → Part → List Event → Type 0
CarriedAll = AtEach Carried
