-- "Ticks and turns", at one berth: whether a frame is due, what is handed over, how a message begins to be sent, and
-- which lengths are shown.
use Rattle.std.specs.Prelude.{ℕ, ◌+◌, ◌-◌, Bool, true, false, ◌||◌, List, [], take, drop, leb, eqb}
use Rattle.rules.specs.Tests.{pick}
use Rattle.rules.specs.Numbers.{single_most, first_bytes, consecutive_most, N_OK}
use Rattle.rules.specs.Parties.{scheduler, party_of, reporting}
use Rattle.rules.specs.Nodes.{with_rx, with_tx}
use Rattle.rules.specs.Frames.{single_frame, first_frame, consecutive_frame, go_frame, overflow_frame, first_sn, next_sn, counted, fills_block, share}
use Rattle.rules.specs.declared.BerthSettings.{BerthSettings}
use Rattle.rules.specs.declared.Taking.{Taking}
use Rattle.rules.specs.declared.Sending.{Sending}
use Rattle.rules.specs.declared.Party.{Party}
use Rattle.rules.specs.declared.Rx.{Rx}
use Rattle.rules.specs.declared.Tx.{Tx}
use Rattle.rules.specs.declared.Berth.{Berth}

-- ---- a frame is due for flow control owed, single due, first due, and consecutive with gap left 0

abbrev pub flow_due : Rx → Bool
flow_due Rx.Idle = false
flow_due (Rx.OwesOverflow t) = true
flow_due (Rx.OwesGo p t) = true
flow_due (Rx.Awaits p t) = false

abbrev pub message_due : Tx → Bool
message_due Tx.Idle = false
message_due (Tx.SingleDue party n t) = true
message_due (Tx.FirstDue party n t) = true
message_due (Tx.AwaitsFlow party o t) = false
message_due (Tx.Consecutive party o t) = eqb o.left 0

unfoldable pub due : Berth → Bool
due b = flow_due b.rx || message_due b.tx

-- ---- flow control handed over: after go the side awaits, timer and block count 0; after overflow it is idle

abbrev pub flow_frame : BerthSettings → Rx → List ℕ
flow_frame s Rx.Idle = []
flow_frame s (Rx.OwesOverflow t) = overflow_frame
flow_frame s (Rx.OwesGo p t) = go_frame s
flow_frame s (Rx.Awaits p t) = []

abbrev pub new_block : Taking → Taking
new_block p = record { total = p.total; got = p.got; sn = p.sn; taken = 0 }

abbrev pub after_flow : Rx → Rx
after_flow Rx.Idle = Rx.Idle
after_flow (Rx.OwesOverflow t) = Rx.Idle
after_flow (Rx.OwesGo p t) = Rx.Awaits (new_block p) 0
after_flow (Rx.Awaits p t) = Rx.Awaits p t

-- ---- a message's frame handed over

abbrev pub to_go : Sending → ℕ
to_go o = o.length - o.position

abbrev pub message_frame : Tx → List ℕ → List ℕ
message_frame Tx.Idle area = []
message_frame (Tx.SingleDue party n t) area = single_frame (take n area)
message_frame (Tx.FirstDue party n t) area = first_frame n (take first_bytes area)
message_frame (Tx.AwaitsFlow party o t) area = []
message_frame (Tx.Consecutive party o t) area = consecutive_frame o.sn (take (share consecutive_most (to_go o)) (drop o.position area))

-- the code is 1 with a message's last frame, else 0
abbrev pub message_code : Tx → ℕ
message_code Tx.Idle = 0
message_code (Tx.SingleDue party n t) = N_OK
message_code (Tx.FirstDue party n t) = 0
message_code (Tx.AwaitsFlow party o t) = 0
message_code (Tx.Consecutive party o t) = pick (leb (to_go o) consecutive_most) N_OK 0

-- the party in the answer to a turn
abbrev pub message_party : Tx → Party
message_party tx = reporting (message_code tx) (party_of tx)

-- a first frame leaves position 6, SN 1, peer's block size and gap 0
abbrev pub opened : ℕ → Sending
opened n = record { length = n; position = first_bytes; sn = first_sn; block = 0; sent = 0; gap = 0; left = 0 }

unfoldable pub moved : Sending → ℕ → ℕ → Sending
moved o sent left =
    record {
      length = o.length;
      position = o.position + share consecutive_most (to_go o);
      sn = next_sn o.sn;
      block = o.block;
      sent = sent;
      gap = o.gap;
      left = left;
    }

-- a consecutive frame: the last leaves the side idle; one that fills the peer's block leaves it awaiting flow control with block
-- count 0; otherwise gap left becomes the peer's gap
unfoldable pub after_consecutive : Sending → Party → Tx
after_consecutive o party =
    pick (leb (to_go o) consecutive_most) Tx.Idle
    (pick (fills_block o.block o.sent) (Tx.AwaitsFlow party (moved o 0 0) 0)
    (Tx.Consecutive party (moved o (counted o.block o.sent) o.gap) 0))

abbrev pub after_message : Tx → Tx
after_message Tx.Idle = Tx.Idle
after_message (Tx.SingleDue party n t) = Tx.Idle
after_message (Tx.FirstDue party n t) = Tx.AwaitsFlow party (opened n) 0
after_message (Tx.AwaitsFlow party o t) = Tx.AwaitsFlow party o t
after_message (Tx.Consecutive party o t) = after_consecutive o party

-- ---- the hand-over: within a berth, flow control goes first

pub record HandedOver : Type 0 where
  pub berth : Berth
  pub frame : List ℕ
  pub code : ℕ
  pub party : Party

unfoldable pub hand_over : Berth → List ℕ → HandedOver
hand_over b area =
    pick (flow_due b.rx)
    (record { berth = with_rx b (after_flow b.rx) b.last; frame = flow_frame b.settings b.rx; code = 0; party = scheduler })
    (record { berth = with_tx b (after_message b.tx); frame = message_frame b.tx area; code = message_code b.tx; party = message_party b.tx })

-- ---- send: a party's message of n bytes begins as single due or first due, timer 0

unfoldable pub begins_with : ℕ → Party → Tx
begins_with n party = pick (leb n single_most) (Tx.SingleDue party n 0) (Tx.FirstDue party n 0)

unfoldable pub sent : Berth → ℕ → Party → Berth
sent b n party = with_tx b (begins_with n party)

-- ---- the message now being sent: its length, 0 for none

abbrev pub length_sending : Tx → ℕ
length_sending Tx.Idle = 0
length_sending (Tx.SingleDue party n t) = n
length_sending (Tx.FirstDue party n t) = n
length_sending (Tx.AwaitsFlow party o t) = o.length
length_sending (Tx.Consecutive party o t) = o.length

abbrev pub busy : Tx → Bool
busy Tx.Idle = false
busy (Tx.SingleDue party n t) = true
busy (Tx.FirstDue party n t) = true
busy (Tx.AwaitsFlow party o t) = true
busy (Tx.Consecutive party o t) = true
