-- "A frame arrives", at one berth. A rule says the berth's next state, the old code, the word, and which bytes are
-- stored at which place of the berth's area; it does not carry the area.
use Rattle.std.specs.Prelude.{ℕ, ◌+◌, ◌-◌, Bool, true, false, List, [], length, take, drop, ltb, leb, eqb}
use Rattle.rules.specs.Tests.{pick}
use Rattle.rules.specs.Numbers.{single_kind, first_kind, consecutive_kind, flow_kind, go_status, wait_status, overflow_status, first_bytes, consecutive_most, no_data, other_kind, wrong_length, not_awaited, N_WRONG_SN, N_INVALID_FS, N_UNEXP_PDU, N_BUFFER_OVFLW}
use Rattle.rules.specs.Parties.{scheduler}
use Rattle.rules.specs.Nodes.{with_rx, with_tx}
use Rattle.rules.specs.Frames.{byte_at, kind, low, single_fits, announced, first_fits, consecutive_fits, flow_fits, first_sn, next_sn, counted, fills_block, gap_of, share}
use Rattle.rules.specs.declared.Settings.{Settings}
use Rattle.rules.specs.declared.Taking.{Taking}
use Rattle.rules.specs.declared.Sending.{Sending}
use Rattle.rules.specs.declared.Party.{Party}
use Rattle.rules.specs.declared.Rx.{Rx}
use Rattle.rules.specs.declared.Tx.{Tx}
use Rattle.rules.specs.declared.Berth.{Berth}
use Rattle.rules.specs.Words.{Word, Delivered, Begun, Failed, Ignored, TooLong, Took, Going, Waiting}

-- what a frame makes of a receive side: state, last length, old code, word, and the bytes stored with their place
pub record Heard : Type 0 where
  pub rx : Rx
  pub last : ℕ
  pub old : ℕ
  pub word : Word
  pub place : ℕ
  pub bytes : List ℕ

-- ignored frames change nothing, timers included
unfoldable pub ignored : ℕ → Rx → ℕ → Heard
ignored why rx last = record { rx = rx; last = last; old = 0; word = Ignored why; place = 0; bytes = [] }

-- the old reception ends: old code 7 if the side owed go or awaited, else 0
abbrev pub old_code : Rx → ℕ
old_code Rx.Idle = 0
old_code (Rx.OwesOverflow t) = 0
old_code (Rx.OwesGo p t) = N_UNEXP_PDU
old_code (Rx.Awaits p t) = N_UNEXP_PDU

-- ---- single: I3, or the old reception ends, the bytes go to the front of the area, Delivered with the length, idle

unfoldable pub single_came : Rx → ℕ → List ℕ → Heard
single_came rx last d =
    pick (single_fits d)
    (record { rx = Rx.Idle; last = low d; old = old_code rx; word = Delivered (low d); place = 0; bytes = take (low d) (drop 1 d) })
    (ignored wrong_length rx last)

-- ---- first: I3, or the old reception ends

-- the length is above A
abbrev pub above_area : Settings → ℕ → Bool
above_area s n = ltb s.area n

-- length above A: TooLong, owes overflow, nothing stored, last length kept
unfoldable pub turned_away : Rx → ℕ → Heard
turned_away rx last = record { rx = Rx.OwesOverflow 0; last = last; old = old_code rx; word = TooLong; place = 0; bytes = [] }

-- else six bytes stored, Begun with the length, owes go, last length 0, got 6, SN 1, block count 0
abbrev pub taking : ℕ → Taking
taking n = record { total = n; got = first_bytes; sn = first_sn; taken = 0 }

unfoldable pub begun : ℕ → Rx → List ℕ → Heard
begun n rx d =
    record { rx = Rx.OwesGo (taking n) 0; last = 0; old = old_code rx; word = Begun n; place = 0; bytes = take first_bytes (drop 2 d) }

unfoldable pub first_came : Settings → Rx → ℕ → List ℕ → Heard
first_came s rx last d =
    pick (first_fits d)
    (pick (above_area s (announced d)) (turned_away rx last) (begun (announced d) rx d))
    (ignored wrong_length rx last)

-- ---- consecutive: I4 unless the side awaits, I3, wrong SN, right

abbrev pub missing : Taking → ℕ
missing p = p.total - p.got

-- right: the next min(7, r) bytes stored, at got
unfoldable pub piece : Taking → List ℕ → List ℕ
piece p d = take (share consecutive_most (missing p)) (drop 1 d)

unfoldable pub grown : Taking → ℕ → Taking
grown p count = record { total = p.total; got = p.got + share consecutive_most (missing p); sn = next_sn p.sn; taken = count }

-- all there: Delivered, idle
unfoldable pub completed : Taking → List ℕ → Heard
completed p d =
    record { rx = Rx.Idle; last = p.total; old = 0; word = Delivered p.total; place = p.got; bytes = piece p d }

-- else Took, timer 0; if this filled the block of the berth's own BS, go is owed and the block count is 0
unfoldable pub after_took : ℕ → Taking → Rx
after_took bs p =
    pick (fills_block bs p.taken)
    (Rx.OwesGo (grown p 0) 0)
    (Rx.Awaits (grown p (counted bs p.taken)) 0)

unfoldable pub took : ℕ → Taking → ℕ → List ℕ → Heard
took bs p last d = record { rx = after_took bs p; last = last; old = 0; word = Took; place = p.got; bytes = piece p d }

-- wrong SN: Failed 5, which is no send side's and so has party 0, idle
unfoldable pub wrong_sn : ℕ → Heard
wrong_sn last = record { rx = Rx.Idle; last = last; old = 0; word = Failed N_WRONG_SN scheduler; place = 0; bytes = [] }

unfoldable pub awaited_came : ℕ → Taking → ℕ → ℕ → List ℕ → Heard
awaited_came bs p t last d =
    pick (consecutive_fits (missing p) d)
    (pick (eqb (low d) p.sn.0)
    (pick (leb (missing p) consecutive_most) (completed p d) (took bs p last d))
    (wrong_sn last))
    (ignored wrong_length (Rx.Awaits p t) last)

abbrev pub consecutive_came : ℕ → Rx → ℕ → List ℕ → Heard
consecutive_came bs Rx.Idle last d = ignored not_awaited Rx.Idle last
consecutive_came bs (Rx.OwesOverflow t) last d = ignored not_awaited (Rx.OwesOverflow t) last
consecutive_came bs (Rx.OwesGo p t) last d = ignored not_awaited (Rx.OwesGo p t) last
consecutive_came bs (Rx.Awaits p t) last d = awaited_came bs p t last d

-- ---- flow control: I4 unless the send side awaits it, I3, then by s

-- what a flow control frame makes of a send side
pub record Told : Type 0 where
  pub tx : Tx
  pub word : Word

-- the block size and the gap are taken; nothing else of the sending moves
unfoldable pub granted : Sending → List ℕ → Sending
granted o d =
    record {
      length = o.length;
      position = o.position;
      sn = o.sn;
      block = byte_at d 1;
      sent = 0;
      gap = gap_of (byte_at d 2);
      left = 0;
    }

-- 0: Going, values taken, consecutive with gap left 0, timer 0; 1: Waiting, timer 0; 2: Failed 9; 3 to 15: Failed 6, both with the
-- party. After Failed, idle
unfoldable pub by_status : Sending → Party → List ℕ → Told
by_status o party d =
    pick (eqb (low d) go_status) (record { tx = Tx.Consecutive party (granted o d) 0; word = Going })
    (pick (eqb (low d) wait_status) (record { tx = Tx.AwaitsFlow party o 0; word = Waiting })
    (pick (eqb (low d) overflow_status) (record { tx = Tx.Idle; word = Failed N_BUFFER_OVFLW party })
    (record { tx = Tx.Idle; word = Failed N_INVALID_FS party })))

-- the word is Going
abbrev pub is_going : Word → Bool
is_going (Delivered n) = false
is_going (Begun n) = false
is_going (Failed c party) = false
is_going (Ignored why) = false
is_going TooLong = false
is_going Took = false
is_going Going = true
is_going Waiting = false

unfoldable pub flow_ignored : ℕ → Tx → Told
flow_ignored why tx = record { tx = tx; word = Ignored why }

abbrev pub flow_came : Tx → List ℕ → Told
flow_came Tx.Idle d = flow_ignored not_awaited Tx.Idle
flow_came (Tx.SingleDue party n t) d = flow_ignored not_awaited (Tx.SingleDue party n t)
flow_came (Tx.FirstDue party n t) d = flow_ignored not_awaited (Tx.FirstDue party n t)
flow_came (Tx.AwaitsFlow party o t) d = pick (flow_fits d) (by_status o party d) (flow_ignored wrong_length (Tx.AwaitsFlow party o t))
flow_came (Tx.Consecutive party o t) d = flow_ignored not_awaited (Tx.Consecutive party o t)

-- ---- a frame at one berth: I1 and I2 come first, then the tests of the kind

-- the berth after it, the old code, the word, and the bytes stored with their place
pub record Came : Type 0 where
  pub berth : Berth
  pub old : ℕ
  pub word : Word
  pub place : ℕ
  pub bytes : List ℕ

-- flow control touches only the send side, the other kinds only the receive side
unfoldable pub heard_by : Berth → Heard → Came
heard_by b h =
    record { berth = with_rx b h.rx h.last; old = h.old; word = h.word; place = h.place; bytes = h.bytes }

unfoldable pub told_by : Berth → Told → Came
told_by b t = record { berth = with_tx b t.tx; old = 0; word = t.word; place = 0; bytes = [] }

unfoldable pub by_kind : Settings → Berth → List ℕ → Came
by_kind s b d =
    pick (eqb (kind d) single_kind) (heard_by b (single_came b.rx b.last d))
    (pick (eqb (kind d) first_kind) (heard_by b (first_came s b.rx b.last d))
    (pick (eqb (kind d) consecutive_kind) (heard_by b (consecutive_came b.settings.block b.rx b.last d))
    (pick (eqb (kind d) flow_kind) (told_by b (flow_came b.tx d))
    (heard_by b (ignored other_kind b.rx b.last)))))

unfoldable pub frame_came : Settings → Berth → List ℕ → Came
frame_came s b d = pick (eqb (length d) 0) (heard_by b (ignored no_data b.rx b.last)) (by_kind s b d)
