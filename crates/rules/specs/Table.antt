-- The paper's starred cases (A 40, BS 2, STmin 05) as one table, and the claim that a row makes.
use Rattle.std.specs.Prelude.{◌≡◌, ℕ, zero, suc, ◌+◌, ◌%◌, List, [], ◌∷◌, replicate}
use Rattle.rules.specs.Numbers.{the_scheduler}
use Rattle.rules.specs.Parties.{scheduler}
use Rattle.rules.specs.Nodes.{fresh_with, Held, with_rx, with_tx}
use Rattle.rules.specs.Frames.{frames_needed}
use Rattle.rules.specs.Turns.{sent as sent_berth}
use Rattle.rules.specs.Answers.{Answer, heard, codes, sent, handed}
use Rattle.rules.specs.Events.{Call, frame, tick, send, turn, Event, arrives, turns}
use Rattle.rules.specs.Cards.{zero_card}
use Rattle.rules.specs.Calls.{answers}
use Rattle.rules.specs.Alone.{Part, Says, hands, says_all}
use Rattle.rules.specs.declared.Settings.{Settings}
use Rattle.rules.specs.declared.BerthSettings.{BerthSettings}
use Rattle.rules.specs.declared.Taking.{Taking}
use Rattle.rules.specs.declared.Sending.{Sending}
use Rattle.rules.specs.declared.Rx.{Rx}
use Rattle.rules.specs.declared.Tx.{Tx}
use Rattle.rules.specs.declared.Berth.{Berth}
use Rattle.rules.specs.Words.{Codes, Begun, Failed, Ignored, TooLong, Took, Going}
use Rattle.rules.specs.Handing.{data_total}

-- ---- rows

-- a run of calls from a start gives these answers; a run of one berth's events hands over so many data frames, the last of them
-- this one; a length needs so many frames
pub data Row : Type 0 where
  node_run : Held → List Call → List Answer → Row
  berth_run : Settings → Part → List Event → ℕ → List ℕ → Row
  needs-frames : ℕ → ℕ → Row

-- the frame of what a berth says last
unfoldable pub last_frame : List Says → List ℕ
last_frame [] = []
last_frame (x ∷ y ∷ xs) = last_frame (y ∷ xs)
last_frame (x ∷ []) = frame_in x
  where
    frame_in : Says → List ℕ
    frame_in (Says.hears old w) = []
    frame_in (Says.expires r s party) = []
    frame_in Says.accepts = []
    frame_in (hands f c party) = f
    frame_in Says.adopts = []

-- what a row claims, and that all rows hold
abbrev pub Shown : Row → Type 0
Shown (node_run h cs rs) = answers h cs ≡ rs
Shown (berth_run s p es n f) = (data_total (says_all s p es) ≡ n) × (last_frame (says_all s p es) ≡ f)
Shown (needs-frames n k) = frames_needed n ≡ k

abbrev pub AllShown : List Row → Type 0
AllShown [] = Unit {0}
AllShown (r ∷ rs) = Shown r × AllShown rs

-- ---- starts

-- A 40; BS 2 and STmin 05, at every berth
abbrev pub paper : Settings
paper = record { area = 40 }

abbrev pub paper_own : BerthSettings
paper_own = record { block = 2; stmin = 5 }

abbrev pub idle : Berth
idle = fresh_with paper_own

-- these berths, 9 served last, and stores and cards of zeros; with all berths idle; a turn's buffer
abbrev pub held_by : List Berth → Held
held_by bs =
    record {
      node = record { settings = paper; served = 9; berths = bs };
      incoming = replicate 400 0;
      outgoing = replicate 400 0;
      cards = replicate 10 zero_card;
    }

abbrev pub start : Held
start = held_by (replicate 10 idle)

abbrev pub buffer : List ℕ
buffer = replicate 8 0

-- 0, 1, 2, .. wrapping at 256
unfoldable pub rising : ℕ → ℕ → List ℕ
rising zero x = []
rising (suc n) x = x ∷ rising n ((x + 1) % 256)

-- a berth with this side, the other idle
abbrev pub receiving : Rx → Berth
receiving rx = with_rx idle rx 0

abbrev pub sending : Tx → Berth
sending tx = with_tx idle tx

-- a reception and a sending under way
abbrev pub halfway : Taking
halfway = record { total = 20; got = 13; sn = record { 0 = 2 }; taken = 1 }

abbrev pub underway : Sending
underway = record { length = 20; position = 6; sn = record { 0 = 1 }; block = 0; sent = 0; gap = 0; left = 0 }

-- every state that has a timer, at t
abbrev pub timed : ℕ → Held
timed t =
    held_by (
    receiving (Rx.OwesOverflow t)
    ∷ receiving (Rx.OwesGo halfway t)
    ∷ receiving (Rx.Awaits halfway t)
    ∷ sending (Tx.SingleDue scheduler 7 t)
    ∷ sending (Tx.FirstDue scheduler 8 t)
    ∷ sending (Tx.AwaitsFlow scheduler underway t)
    ∷ sending (Tx.Consecutive scheduler underway t)
    ∷ replicate 3 idle
    )

-- the codes of a berth's two sides; it is the scheduler that sends
abbrev pub pair : ℕ → ℕ → Codes
pair r s = record { receive = r; send = s; party = scheduler }

-- the codes of the seven states, 2 2 4 and 2 2 3 2
abbrev pub expired : List Codes
expired = pair 2 0 ∷ pair 2 0 ∷ pair 4 0 ∷ pair 0 2 ∷ pair 0 2 ∷ pair 0 3 ∷ pair 0 2 ∷ replicate 3 (pair 0 0)

-- the berth that is about to send the longest message
abbrev pub longest : Part
longest = record { berth = sent_berth idle 4095 scheduler; incoming = []; outgoing = rising 4095 0; card = zero_card }

-- the starred cases, in the paper's order
abbrev pub table : List Row
table =
    -- 8 bytes 00 to 07
    node_run start
    (send 3 the_scheduler (0 ∷ 1 ∷ 2 ∷ 3 ∷ 4 ∷ 5 ∷ 6 ∷ 7 ∷ []) ∷ turn buffer ∷ frame 0x643 (0x30 ∷ 0 ∷ 0 ∷ []) ∷ turn buffer ∷ [])
    (sent 3
    ∷ handed 0x663 (0x10 ∷ 0x08 ∷ 0x00 ∷ 0x01 ∷ 0x02 ∷ 0x03 ∷ 0x04 ∷ 0x05 ∷ []) 0 3 scheduler
    ∷ heard 3 0 Going
    ∷ handed 0x663 (0x21 ∷ 0x06 ∷ 0x07 ∷ 0xCC ∷ 0xCC ∷ 0xCC ∷ 0xCC ∷ 0xCC ∷ []) 1 9 scheduler
    ∷ [])
    -- the frames needed, and the last frame of the longest message
    ∷ needs-frames 7 1
    ∷ needs-frames 8 2
    ∷ needs-frames 20 3
    ∷ needs-frames 21 4
    ∷ needs-frames 4095 586
    ∷ berth_run (record { area = 4095 }) longest (turns ∷ arrives (0x30 ∷ 0 ∷ 0 ∷ []) ∷ replicate 585 turns) 586 (0x29 ∷ 0xFE ∷ 0xCC ∷ 0xCC ∷ 0xCC ∷ 0xCC ∷ 0xCC ∷ 0xCC ∷ [])
    -- first frame of 20
    ∷ node_run start (frame 0x640 (0x10 ∷ 20 ∷ 0 ∷ 1 ∷ 2 ∷ 3 ∷ 4 ∷ 5 ∷ []) ∷ turn buffer ∷ [])
    (heard 0 0 (Begun 20) ∷ handed 0x660 (0x30 ∷ 0x02 ∷ 0x05 ∷ 0xCC ∷ 0xCC ∷ 0xCC ∷ 0xCC ∷ 0xCC ∷ []) 0 0 scheduler ∷ [])
    -- of 41
    ∷ node_run start (frame 0x640 (0x10 ∷ 41 ∷ 0 ∷ 1 ∷ 2 ∷ 3 ∷ 4 ∷ 5 ∷ []) ∷ turn buffer ∷ [])
    (heard 0 0 TooLong ∷ handed 0x660 (0x32 ∷ 0x00 ∷ 0x00 ∷ 0xCC ∷ 0xCC ∷ 0xCC ∷ 0xCC ∷ 0xCC ∷ []) 0 0 scheduler ∷ [])
    -- of 7
    ∷ node_run start (frame 0x640 (0x10 ∷ 7 ∷ 0 ∷ 1 ∷ 2 ∷ 3 ∷ 4 ∷ 5 ∷ []) ∷ []) (heard 0 0 (Ignored 3) ∷ [])
    -- single 00 with 8 data bytes
    ∷ node_run start (frame 0x640 (0x00 ∷ 1 ∷ 2 ∷ 3 ∷ 4 ∷ 5 ∷ 6 ∷ 7 ∷ []) ∷ []) (heard 0 0 (Ignored 3) ∷ [])
    -- 23 and 7 bytes where SN 2 is next
    ∷ node_run start
    (frame 0x640 (0x10 ∷ 20 ∷ 0 ∷ 1 ∷ 2 ∷ 3 ∷ 4 ∷ 5 ∷ [])
    ∷ turn buffer
    ∷ frame 0x640 (0x21 ∷ 6 ∷ 7 ∷ 8 ∷ 9 ∷ 10 ∷ 11 ∷ 12 ∷ [])
    ∷ frame 0x640 (0x23 ∷ 13 ∷ 14 ∷ 15 ∷ 16 ∷ 17 ∷ 18 ∷ 19 ∷ [])
    ∷ [])
    (heard 0 0 (Begun 20)
    ∷ handed 0x660 (0x30 ∷ 0x02 ∷ 0x05 ∷ 0xCC ∷ 0xCC ∷ 0xCC ∷ 0xCC ∷ 0xCC ∷ []) 0 0 scheduler
    ∷ heard 0 0 Took
    ∷ heard 0 0 (Failed 5 scheduler)
    ∷ [])
    -- timer 998, tick: 999, no code; timer 999, tick: the code
    ∷ node_run (timed 998) (tick ∷ tick ∷ []) (codes (replicate 10 (pair 0 0)) ∷ codes expired ∷ [])
    ∷ node_run (timed 999) (tick ∷ tick ∷ []) (codes expired ∷ codes (replicate 10 (pair 0 0)) ∷ [])
    ∷ []
