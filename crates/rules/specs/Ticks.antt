-- "Ticks and turns", a tick at one berth: its two sides after it, and the code of each, 0 for none.
use Rattle.std.specs.Prelude.{ℕ, ◌+◌, ◌-◌, ltb, eqb}
use Rattle.rules.specs.Tests.{pick}
use Rattle.rules.specs.Numbers.{timeout, N_TIMEOUT_A, N_TIMEOUT_Bs, N_TIMEOUT_Cr}
use Rattle.rules.specs.Parties.{party_of, reporting}
use Rattle.rules.specs.Nodes.{with_rx, with_tx}
use Rattle.rules.specs.declared.Sending.{Sending}
use Rattle.rules.specs.declared.Party.{Party}
use Rattle.rules.specs.declared.Rx.{Rx}
use Rattle.rules.specs.declared.Tx.{Tx}
use Rattle.rules.specs.declared.Berth.{Berth}
use Rattle.rules.specs.Words.{Codes}

-- a tick adds one to a running timer; the one that makes it 1,000 ends the side
unfoldable pub ran {ℓ} : {X : Type ℓ} → ℕ → (ℕ → X) → X → X
ran t on ended = pick (ltb (t + 1) timeout) (on (t + 1)) ended

-- ---- the receive side: 2 where a frame was due and not called for, 4 awaiting a consecutive frame

abbrev pub rx_ticked : Rx → Rx
rx_ticked Rx.Idle = Rx.Idle
rx_ticked (Rx.OwesOverflow t) = ran t (λ u. Rx.OwesOverflow u) Rx.Idle
rx_ticked (Rx.OwesGo p t) = ran t (λ u. Rx.OwesGo p u) Rx.Idle
rx_ticked (Rx.Awaits p t) = ran t (λ u. Rx.Awaits p u) Rx.Idle

abbrev pub rx_code : Rx → ℕ
rx_code Rx.Idle = 0
rx_code (Rx.OwesOverflow t) = ran t (λ u. 0) N_TIMEOUT_A
rx_code (Rx.OwesGo p t) = ran t (λ u. 0) N_TIMEOUT_A
rx_code (Rx.Awaits p t) = ran t (λ u. 0) N_TIMEOUT_Cr

-- ---- the send side: 2 where a frame was due and not called for, 3 awaiting flow control

-- while gap left is above 0 it falls by one and the timer stays 0
abbrev pub closer : Sending → Sending
closer o =
    record {
      length = o.length;
      position = o.position;
      sn = o.sn;
      block = o.block;
      sent = o.sent;
      gap = o.gap;
      left = o.left - 1;
    }

abbrev pub tx_ticked : Tx → Tx
tx_ticked Tx.Idle = Tx.Idle
tx_ticked (Tx.SingleDue party n t) = ran t (λ u. Tx.SingleDue party n u) Tx.Idle
tx_ticked (Tx.FirstDue party n t) = ran t (λ u. Tx.FirstDue party n u) Tx.Idle
tx_ticked (Tx.AwaitsFlow party o t) = ran t (λ u. Tx.AwaitsFlow party o u) Tx.Idle
tx_ticked (Tx.Consecutive party o t) =
    pick (eqb o.left 0) (ran t (λ u. Tx.Consecutive party o u) Tx.Idle) (Tx.Consecutive party (closer o) t)

abbrev pub tx_code : Tx → ℕ
tx_code Tx.Idle = 0
tx_code (Tx.SingleDue party n t) = ran t (λ u. 0) N_TIMEOUT_A
tx_code (Tx.FirstDue party n t) = ran t (λ u. 0) N_TIMEOUT_A
tx_code (Tx.AwaitsFlow party o t) = ran t (λ u. 0) N_TIMEOUT_Bs
tx_code (Tx.Consecutive party o t) = pick (eqb o.left 0) (ran t (λ u. 0) N_TIMEOUT_A) 0

-- the party in the answer to a tick
abbrev pub tx_party : Tx → Party
tx_party tx = reporting (tx_code tx) (party_of tx)

-- ---- the berth, and its two codes with the party

unfoldable pub ticked : Berth → Berth
ticked b = with_tx (with_rx b (rx_ticked b.rx) b.last) (tx_ticked b.tx)

unfoldable pub codes_of : Berth → Codes
codes_of b = record { receive = rx_code b.rx; send = tx_code b.tx; party = tx_party b.tx }
