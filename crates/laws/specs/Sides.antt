-- Receiving and sending are independent: one side of a berth by itself, which of the berth's events are that side's, and which
-- reports and frames.
use Rattle.std.specs.Prelude.{ℕ, ◌≡◌, Bool, true, false, ◌&&◌, List, [], ◌∷◌, ◌++◌, map, eqb}
use Rattle.rules.specs.Tests.{pick}
use Rattle.rules.specs.Numbers.{flow_kind}
use Rattle.rules.specs.Parties.{scheduler}
use Rattle.rules.specs.Nodes.{zero_settings, with_settings, with_rx, with_tx, Held}
use Rattle.rules.specs.Frames.{kind}
use Rattle.rules.specs.Turns.{flow_due}
use Rattle.rules.specs.Cards.{zero_card}
use Rattle.rules.specs.Answers.{Answer, refused, ready, heard, codes, sent, handed, none, shown, changed, Side, receive, send, Report, for_taker, reports}
use Rattle.rules.specs.Events.{Call, frame, tick, send as send_to, turn, show, change, Event, arrives, ticks, sends, turns, changes}
use Rattle.rules.specs.Alone.{Part, part_of, Says, hears, expires, accepts, hands, adopts, with_card, part_after, says, alone, says_all}
use Rattle.rules.specs.declared.Settings.{Settings}
use Rattle.rules.specs.declared.Rx.{Rx}
use Rattle.rules.specs.declared.Tx.{Tx}
use Rattle.laws.specs.Own.{over, says_of, only, of_berth, said_reports}

abbrev pub same_side : Side → Side → Bool
same_side receive receive = true
same_side receive send = false
same_side send receive = false
same_side send send = true

-- a part without its counts. The card is the berth's and no side's: a count of either side that reaches its most freezes all nine
abbrev pub uncounted : Part → Part
uncounted p = with_card p zero_card

-- one side of a berth with its area: the other side idle, the other area left out, and no counts. The berth's own settings go with the
-- receive side, which grants by them
unfoldable pub side_of : Side → Part → Part
side_of receive p = record { berth = with_tx p.berth Tx.Idle; incoming = p.incoming; outgoing = []; card = zero_card }
side_of send p =
    record { berth = with_settings (with_rx p.berth Rx.Idle 0) zero_settings; incoming = []; outgoing = p.outgoing; card = zero_card }

-- ---- the events of a side

-- flow control arrives for the send side, the other frames for the receive side
unfoldable pub frame_side : List ℕ → Side
frame_side d = pick (eqb (kind d) flow_kind) send receive

-- in a turn flow control goes first
unfoldable pub turn_side : Part → Side
turn_side p = pick (flow_due p.berth.rx) receive send

unfoldable pub for_side : Side → Part → Event → List Event
for_side s p (arrives d) = pick (same_side s (frame_side d)) (arrives d ∷ []) []
for_side s p ticks = ticks ∷ []
for_side s p (sends party m) = pick (same_side s send) (sends party m ∷ []) []
for_side s p turns = pick (same_side s (turn_side p)) (turns ∷ []) []
for_side s p (changes parameter value) = pick (same_side s receive) (changes parameter value ∷ []) []

unfoldable pub side_events : Side → Settings → Part → List Event → List Event
side_events s set p [] = []
side_events s set p (e ∷ es) = for_side s p e ++ side_events s set (part_after set p e) es

-- ---- what a side says: of a tick its own code, and the party with the send side's; of its other events all

unfoldable pub only_side : Side → Says → Says
only_side s (hears old w) = hears old w
only_side receive (expires r c party) = expires r 0 scheduler
only_side send (expires r c party) = expires 0 c party
only_side s accepts = accepts
only_side s (hands f c party) = hands f c party
only_side s adopts = adopts

unfoldable pub side_says : Side → Settings → Part → List Event → List Says
side_says s set p [] = []
side_says s set p (e ∷ es) = map (λ x. only_side s (says set p e)) (for_side s p e) ++ side_says s set (part_after set p e) es

-- ---- the reports and the frames of a side

unfoldable pub of_side : Side → List Report → List Report
of_side s rs = only (λ r. same_side s r.side) rs

-- the frame in what a berth says
unfoldable pub handed_in : Says → List (List ℕ)
handed_in (hears old w) = []
handed_in (expires r c party) = []
handed_in accepts = []
handed_in (hands f c party) = f ∷ []
handed_in adopts = []

-- flow control is the receive side's, any other frame the send side's
unfoldable pub handed_side : List ℕ → Side
handed_side f = pick (eqb (kind f) flow_kind) receive send

-- the frame that an answer hands over for a side of berth k
unfoldable pub frames_by : Side → ℕ → Answer → List (List ℕ)
frames_by s k (refused n) = []
frames_by s k ready = []
frames_by s k (heard j old w) = []
frames_by s k (codes cs) = []
frames_by s k (sent j) = []
frames_by s k (handed id f c passed party) = for_taker id (λ j. pick (eqb j k && same_side s (handed_side f)) (f ∷ []) []) []
frames_by s k (none passed) = []
frames_by s k (shown part) = []
frames_by s k (changed j) = []

-- ---- what the answers say of a side

-- flow control that is handed over is the receive side's to say, any other frame the send side's
unfoldable pub hands_for : Side → Says → List Says
hands_for s (hears old w) = []
hands_for s (expires r c party) = []
hands_for s accepts = []
hands_for s (hands f c party) = pick (same_side s (handed_side f)) (hands f c party ∷ []) []
hands_for s adopts = []

-- of what the answer to a call says of a berth, the side's part: the word for a frame of its own, its own code of a tick, that it takes a
-- message, a frame of its own, that it takes a setting
unfoldable pub says_for : Side → Call → Says → List Says
says_for s (frame id d) x = pick (same_side s (frame_side d)) (x ∷ []) []
says_for s tick x = only_side s x ∷ []
says_for s (send_to j party m) x = pick (same_side s send) (x ∷ []) []
says_for s (turn buffer) x = hands_for s x
says_for s (show j choice) x = []
says_for s (change j parameter value) x = pick (same_side s receive) (x ∷ []) []

-- of all calls of a run and their answers
unfoldable pub says_by : Side → ℕ → List Call → List Answer → List Says
says_by s k [] answers = []
says_by s k (c ∷ cs) [] = []
says_by s k (c ∷ cs) (a ∷ answers) = over (says_for s c) (says_of k a) ++ says_by s k cs answers

-- ---- each side alone

-- the same of side s of berth k as isolation says of a berth, but for the card: its state and area; its words and codes; its frames; its
-- reports
pub record SideAlone (set : Settings) (start : Part) (s : Side) (k : ℕ) (own : List Event) (cs : List Call) (said : List Answer) (end : Held) : Type 0 where
  pub part : side_of s (part_of k end) ≡ uncounted (alone set start own)
  pub says : says_by s k cs said ≡ says_all set start own
  pub frames : over (frames_by s k) said ≡ over handed_in (says_all set start own)
  pub reported : of_side s (of_berth k (over reports said)) ≡ over (said_reports k) (says_all set start own)
