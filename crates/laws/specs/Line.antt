-- The line's law: two nodes, and a line between berth i of node A, which sends, and berth j of node B, which takes. Any calls on both
-- nodes, and the carrying of frames. What was handed over and reported is read off the answers alone, the settings at Begun off the taker's node.
use Rattle.std.specs.Prelude.{ℕ, ◌+◌, ◌-◌, ◌≤◌, ◌<◌, ◌≡◌, Bool, true, false, not, ◌||◌, List, [], ◌∷◌, ◌++◌, map, length, get_or, take, replicate, T, leb, eqb}
use Rattle.rules.specs.Tests.{pick}
use Rattle.rules.specs.Numbers.{berth_count, from_berth, frame_size, single_most, the_laptop, N_OK}
use Rattle.rules.specs.Parties.{scheduler}
use Rattle.rules.specs.Nodes.{zero_settings, berth_at, Held}
use Rattle.rules.specs.Frames.{counted, fills_block, go_frame, rounded_up, frames_of}
use Rattle.rules.specs.Turns.{flow_due, message_due}
use Rattle.rules.specs.Stores.{area_of, came_at}
use Rattle.rules.specs.Answers.{Answer, Side, receive, send as send_side, Report, reports}
use Rattle.rules.specs.Events.{Call, frame, tick, send, turn, show, change, sender_of}
use Rattle.rules.specs.Refusals.{refusal, set_up_refusal}
use Rattle.rules.specs.Calls.{Outcome, outcome, set_up_outcome, showing}
use Rattle.rules.specs.Alone.{Says, hears, expires, accepts, hands, adopts}
use Rattle.rules.specs.Clocks.{Idle, tx_clock, gap_left, tick_code}
use Rattle.rules.specs.declared.BerthSettings.{BerthSettings}
use Rattle.rules.specs.declared.Choice.{Choice}
use Rattle.rules.specs.Words.{Word, Delivered, Begun, Failed, Ignored, TooLong, Took, Going, Waiting}
use Rattle.laws.specs.Own.{over, says_of, of_berth, Sound}
use Rattle.laws.specs.Sides.{same_side, frame_side, of_side, frames_by}

-- ---- two nodes and the line

-- a frame handed over: there, of the message, or back, flow control
pub data Handed : Type 0 where
  there : List ℕ → Handed
  back : List ℕ → Handed

-- the nodes with their stores and cards; the frames on the way; what was handed over, both ways, in order; what the two sides
-- reported; the settings that the taker had when it answered Begun, and the lengths that it answered with Delivered
pub record World : Type 0 where
  pub a : Held
  pub b : Held
  pub to_b : List (List ℕ)
  pub to_a : List (List ℕ)
  pub log : List Handed
  pub said : List Report
  pub heard : List Report
  pub begun : List BerthSettings
  pub delivered : List ℕ

-- the reports in an answer of side s of berth k
abbrev pub reports_by : Side → ℕ → Answer → List Report
reports_by s k answer = of_side s (of_berth k (reports answer))

-- the length in a Delivered
unfoldable pub delivered_in : Says → List ℕ
delivered_in (hears old (Delivered n)) = n ∷ []
delivered_in (hears old (Begun n)) = []
delivered_in (hears old (Failed c party)) = []
delivered_in (hears old (Ignored why)) = []
delivered_in (hears old TooLong) = []
delivered_in (hears old Took) = []
delivered_in (hears old Going) = []
delivered_in (hears old Waiting) = []
delivered_in (expires r c party) = []
delivered_in accepts = []
delivered_in (hands f c party) = []
delivered_in adopts = []

-- the settings, where it is a Begun
unfoldable pub begun_in : BerthSettings → Says → List BerthSettings
begun_in own (hears old (Delivered n)) = []
begun_in own (hears old (Begun n)) = own ∷ []
begun_in own (hears old (Failed c party)) = []
begun_in own (hears old (Ignored why)) = []
begun_in own (hears old TooLong) = []
begun_in own (hears old Took) = []
begun_in own (hears old Going) = []
begun_in own (hears old Waiting) = []
begun_in own (expires r c party) = []
begun_in own accepts = []
begun_in own (hands f c party) = []
begun_in own adopts = []

-- the world with A's end anew, and with B's: the node with stores and cards, the frames on the way there and back, what was handed over,
-- what the side reported, and the Beguns and Delivereds of the taker's. It is built here and at the beginning and nowhere else
abbrev pub end_a : World → Held → (to_b to_a : List (List ℕ)) → List Handed → List Report → World
end_a w held to_b to_a log said =
    record { a = held; b = w.b; to_b = to_b; to_a = to_a; log = log; said = said; heard = w.heard; begun = w.begun; delivered = w.delivered }

abbrev pub end_b : World → Held → (to_b to_a : List (List ℕ)) → List Handed → List Report → List BerthSettings → List ℕ → World
end_b w held to_b to_a log heard begun delivered =
    record { a = w.a; b = held; to_b = to_b; to_a = to_a; log = log; said = w.said; heard = heard; begun = begun; delivered = delivered }

-- after a call on A: the frames of berth i's message go on the way, and the send side's reports are noted
unfoldable pub left_a : ℕ → World → Outcome → World
left_a i w o =
    end_a w o.held (w.to_b ++ frames_by send_side i o.answer) w.to_a (w.log ++ map there (frames_by send_side i o.answer))
    (w.said ++ reports_by send_side i o.answer)

-- after a call on B: the flow control of berth j goes on the way back, and the receive side's reports, Beguns and Delivereds are noted
unfoldable pub left_b : ℕ → World → Outcome → World
left_b j w o =
    end_b w o.held w.to_b (w.to_a ++ frames_by receive j o.answer) (w.log ++ map back (frames_by receive j o.answer))
    (w.heard ++ reports_by receive j o.answer)
    (w.begun ++ over (begun_in (berth_at o.held.node j).settings) (says_of j o.answer)) (w.delivered ++ over delivered_in (says_of j o.answer))

abbrev pub call_a : ℕ → World → Call → World
call_a i w c = left_a i w (outcome w.a c)

abbrev pub call_b : ℕ → World → Call → World
call_b j w c = left_b j w (outcome w.b c)

-- the frames left on the way are these
abbrev pub still_to_a : World → List (List ℕ) → World
still_to_a w q = end_a w w.a w.to_b q w.log w.said

abbrev pub still_to_b : World → List (List ℕ) → World
still_to_b w q = end_b w w.b q w.to_a w.log w.heard w.begun w.delivered

-- the first frame on the way comes in under the identifier that is expected there; with none on the way nothing happens
unfoldable pub carried_a : ℕ → World → List (List ℕ) → World
carried_a i w [] = w
carried_a i w (d ∷ q) = call_a i (still_to_a w q) (frame (from_berth + i) d)

unfoldable pub carried_b : ℕ → World → List (List ℕ) → World
carried_b j w [] = w
carried_b j w (d ∷ q) = call_b j (still_to_b w q) (frame (from_berth + j) d)

-- a call on either node, a set-up of either with its three settings, and the carrying of a frame to either
pub data Deed : Type 0 where
  at_a at_b : Call → Deed
  set_up_a set_up_b : (area block stmin : ℕ) → Deed
  carry_a carry_b : Deed

unfoldable pub acts : (i j : ℕ) → World → Deed → World
acts i j w (at_a c) = call_a i w c
acts i j w (at_b c) = call_b j w c
acts i j w (set_up_a area block stmin) = left_a i w (set_up_outcome w.a area block stmin)
acts i j w (set_up_b area block stmin) = left_b j w (set_up_outcome w.b area block stmin)
acts i j w carry_a = carried_a i w w.to_a
acts i j w carry_b = carried_b j w w.to_b

unfoldable pub living : (i j : ℕ) → World → List Deed → World
living i j w [] = w
living i j w (d ∷ ds) = living i j (acts i j w d) ds

-- ---- no other frame, send or set-up touches these two sides, and no timer of theirs reaches 1,000

abbrev pub is_ignored : Word → Bool
is_ignored (Delivered n) = false
is_ignored (Begun n) = false
is_ignored (Failed c party) = false
is_ignored (Ignored why) = true
is_ignored TooLong = false
is_ignored Took = false
is_ignored Going = false
is_ignored Waiting = false

-- an answered call spares side s of berth k: a frame is another berth's, or ignored, or for the other side; a send is to another
-- berth or s is the receive side; a tick ends no timer of s. Turns and shows are free, and so are changes: one at the taker's berth is
-- refused from Begun to Delivered.
unfoldable pub spares : Side → ℕ → Held → Call → Bool
spares s k h (frame id d) = not (eqb (sender_of id) k) || (is_ignored (came_at h k d).word || not (same_side s (frame_side d)))
spares s k h tick = eqb (tick_code s (berth_at h.node k)) 0
spares s k h (send j party m) = not (eqb j k) || not (same_side s send_side)
spares s k h (turn buffer) = true
spares s k h (show j choice) = true
spares s k h (change j parameter value) = true

-- a refused call spares every side
abbrev pub Spares : Side → ℕ → Held → Call → Type 0
Spares s k h c = refusal h c ≡ 0 → T (spares s k h c)

-- a set-up that is refused touches nothing; no other is allowed
abbrev pub Apart : (i j : ℕ) → World → Deed → Type 0
Apart i j w (at_a c) = Spares send_side i w.a c
Apart i j w (at_b c) = Spares receive j w.b c
Apart i j w (set_up_a area block stmin) = 0 < set_up_refusal area block stmin
Apart i j w (set_up_b area block stmin) = 0 < set_up_refusal area block stmin
Apart i j w carry_a = Unit {0}
Apart i j w carry_b = Unit {0}

unfoldable pub AllApart : (i j : ℕ) → World → List Deed → Type 0
AllApart i j w [] = Unit {0}
AllApart i j w (d ∷ ds) = Apart i j w d × AllApart i j (acts i j w d) ds

-- ---- none is on the way, and neither side has one due or a gap left

pub record AtRest (i j : ℕ) (w : World) : Type 0 where
  pub none-there : w.to_b ≡ []
  pub none-back : w.to_a ≡ []
  pub none-due : message_due (berth_at w.a.node i).tx ≡ false
  pub no_gap : gap_left (tx_clock (berth_at w.a.node i).tx) ≡ 0
  pub no_flow : flow_due (berth_at w.b.node j).rx ≡ false

-- ---- what is handed over both ways: one go after the first frame, and one after each full block with frames still to come

unfoldable pub in_blocks : BerthSettings → ℕ → List (List ℕ) → List Handed
in_blocks s n [] = []
in_blocks s n (f ∷ []) = there f ∷ []
in_blocks s n (f ∷ g ∷ fs) =
    there f
    ∷ pick (fills_block s.block n) (back (go_frame s) ∷ in_blocks s 0 (g ∷ fs)) (in_blocks s (counted s.block n) (g ∷ fs))

unfoldable pub exchanged : BerthSettings → List (List ℕ) → List Handed
exchanged s [] = []
exchanged s (f ∷ []) = there f ∷ []
exchanged s (f ∷ g ∷ fs) = there f ∷ back (go_frame s) ∷ in_blocks s 0 (g ∷ fs)

-- the frames there, by themselves
unfoldable pub there_of : List Handed → List (List ℕ)
there_of [] = []
there_of (there f ∷ hs) = f ∷ there_of hs
there_of (back f ∷ hs) = there_of hs

-- and the flow control back
unfoldable pub back_of : List Handed → List (List ℕ)
back_of [] = []
back_of (there f ∷ hs) = back_of hs
back_of (back f ∷ hs) = f ∷ back_of hs

-- the blocks of so many consecutive frames: all in one if the block size is 0
unfoldable pub blocks : ℕ → ℕ → ℕ
blocks size count = pick (eqb count 0) 0 (pick (eqb size 0) 1 (rounded_up count size))

-- ---- the law: where it begins, and where it ends

-- nothing is on the way and nothing was handed over or reported
abbrev pub quiet : Held → Held → World
quiet a b = record { a = a; b = b; to_b = []; to_a = []; log = []; said = []; heard = []; begun = []; delivered = [] }

-- node A has taken the party's message for berth i
abbrev pub begin : (i party : ℕ) → List ℕ → Held → Held → World
begin i party m a b = quiet (outcome a (send i party m)).held b

-- what the law wants of the two nodes: berth i's send side and berth j's receive side idle, both nodes in order with stores of the
-- right length and ten cards each, one of the two parties, and a message of 1 to A bytes that the taker's area holds
pub record MayBegin (i j party : ℕ) (m : List ℕ) (a b : Held) : Type 0 where
  pub small-i : i < berth_count
  pub small-j : j < berth_count
  pub sound-a : Sound a
  pub sound-b : Sound b
  pub idle-a : Idle send_side (berth_at a.node i)
  pub idle-b : Idle receive (berth_at b.node j)
  pub allowed : party ≤ the_laptop
  pub some : 1 ≤ length m
  pub fits-a : length m ≤ a.node.settings.area
  pub fits-b : length m ≤ b.node.settings.area

-- the settings that the taker had when it answered Begun; a message in one frame has none, and no flow control
abbrev pub agreed : World → BerthSettings
agreed w = get_or w.begun 0 zero_settings

-- the same bytes have arrived in the taker's area and are shown; Begun was answered once, or never for a message in one frame, and
-- Delivered once, with the length, which is the last length; the sender has reported one code, 1, and so has the taker, the sender for the
-- party; the frames handed over both ways, in order, are those of the settings that the taker had at Begun; the frames there are those of the
-- message, and those back one go for each block; both sides are idle again
pub record Arrived (i j party : ℕ) (m : List ℕ) (w : World) : Type 0 where
  pub bytes : take (length m) (area_of w.b.node.settings.area j w.b.incoming) ≡ m
  pub shown : showing w.b j Choice.Arrived ≡ m
  pub begun : length w.begun ≡ pick (leb (length m) single_most) 0 1
  pub delivered : w.delivered ≡ length m ∷ []
  pub last : (berth_at w.b.node j).last ≡ length m
  pub sender : w.said ≡ record { berth = i; side = send_side; code = N_OK; party = record { 0 = party } } ∷ []
  pub taker : w.heard ≡ record { berth = j; side = receive; code = N_OK; party = scheduler } ∷ []
  pub handed : w.log ≡ exchanged (agreed w) (frames_of m)
  pub frames : there_of w.log ≡ frames_of m
  pub flow : back_of w.log ≡ replicate (blocks (agreed w).block (length (frames_of m) - 1)) (go_frame (agreed w))
  pub idle-a : Idle send_side (berth_at w.a.node i)
  pub idle-b : Idle receive (berth_at w.b.node j)

-- ---- a schedule: calls for a frame on either node, carrying, and ticks, each on both nodes

pub data Act : Type 0 where
  turn_a turn_b bring_a bring_b tick_both : Act

-- a buffer of eight bytes
abbrev pub blank : List ℕ
blank = replicate frame_size 0

unfoldable pub deeds_of : Act → List Deed
deeds_of turn_a = at_a (turn blank) ∷ []
deeds_of turn_b = at_b (turn blank) ∷ []
deeds_of bring_a = carry_a ∷ []
deeds_of bring_b = carry_b ∷ []
deeds_of tick_both = at_a tick ∷ at_b tick ∷ []

-- it keeps apart, so no timer of the two sides reaches 1,000, and ends at rest
pub record Finishes (i j : ℕ) (w : World) (schedule : List Act) : Type 0 where
  pub apart : AllApart i j w (over deeds_of schedule)
  pub rest : AtRest i j (living i j w (over deeds_of schedule))
