-- The edges of the refusals as rows: one on either side of each, each range of a node in order on either side, and one for each pair of
-- neighbouring refusals that both hold.
use Rattle.std.specs.Prelude.{ℕ, List, [], ◌∷◌, ◌++◌, replicate}
use Rattle.rules.specs.Parties.{scheduler}
use Rattle.rules.specs.Nodes.{fresh_with, fresh, with_rx, with_tx, Held, with_cards}
use Rattle.rules.specs.Events.{Call, frame, tick, send, turn, change}
use Rattle.rules.specs.Cards.{zero_card}
use Rattle.rules.specs.Refusals.{refusal, set_up_refusal}
use Rattle.rules.specs.declared.Settings.{Settings}
use Rattle.rules.specs.declared.Taking.{Taking}
use Rattle.rules.specs.declared.Sending.{Sending}
use Rattle.rules.specs.declared.Party.{Party}
use Rattle.rules.specs.declared.Rx.{Rx}
use Rattle.rules.specs.declared.Tx.{Tx}
use Rattle.rules.specs.declared.Berth.{Berth}

-- ---- rows: a call is refused with a number, 0 for not refused; a set-up; a tick of a node with these settings, this berth served
-- last and one berth like this
pub data Edge : Type 0 where
  call_edge : Held → Call → ℕ → Edge
  set_up_edge : ℕ → ℕ → ℕ → ℕ → Edge
  node_edge : Settings → ℕ → Berth → ℕ → Edge

-- a node with these settings, berth served last and berths, stores of so many zeros, and ten cards
abbrev pub held_with : Settings → ℕ → List Berth → ℕ → ℕ → Held
held_with s at bs i o =
    record {
      node = record { settings = s; served = at; berths = bs };
      incoming = replicate i 0;
      outgoing = replicate o 0;
      cards = replicate 10 zero_card;
    }

-- and with so many cards
abbrev pub cards_are : ℕ → Held → Held
cards_are n h = with_cards h (replicate n zero_card)

-- the refusal that the rules give, and the number that the row says
abbrev pub row_gives : Edge → ℕ
row_gives (call_edge h c n) = refusal h c
row_gives (set_up_edge a bs stmin n) = set_up_refusal a bs stmin
row_gives (node_edge s at b n) = refusal (held_with s at (replicate 4 fresh ++ (b ∷ replicate 5 fresh)) 0 0) tick

abbrev pub row_says : Edge → ℕ
row_says (call_edge h c n) = n
row_says (set_up_edge a bs stmin n) = n
row_says (node_edge s at b n) = n

-- ---- starts

-- areas of eight bytes
abbrev pub small : Settings
small = record { area = 8 }

-- ten fresh berths and both stores as they should be, and with stores of other lengths
abbrev pub fine : Held
fine = held_with small 9 (replicate 10 fresh) 80 80

abbrev pub stores : ℕ → ℕ → Held
stores i o = held_with small 9 (replicate 10 fresh) i o

-- out of order: the berth served last is 10
abbrev pub broken : ℕ → ℕ → Held
broken i o = held_with small 10 (replicate 10 fresh) i o

-- berth 0 is sending, and has this receive side
abbrev pub sending_at0 : Held
sending_at0 = held_with small 9 (with_tx fresh (Tx.SingleDue scheduler 1 0) ∷ replicate 9 fresh) 80 80

abbrev pub receiving_at0 : Rx → Held
receiving_at0 rx = held_with small 9 (with_rx fresh rx 0 ∷ replicate 9 fresh) 80 80

abbrev pub zeros : ℕ → List ℕ
zeros n = replicate n 0

-- this area size; an idle berth with this block size, and with this STmin
abbrev pub area_is : ℕ → Settings
area_is a = record { area = a }

abbrev pub block_is : ℕ → Berth
block_is bs = fresh_with (record { block = bs; stmin = 5 })

abbrev pub stmin_is : ℕ → Berth
stmin_is stmin = fresh_with (record { block = 2; stmin = stmin })

-- a reception and a sending under way, by their numbers
abbrev pub taking_is : ℕ → ℕ → ℕ → ℕ → Taking
taking_is total got sn taken = record { total = total; got = got; sn = record { 0 = sn }; taken = taken }

abbrev pub sending_is : ℕ → ℕ → ℕ → ℕ → ℕ → ℕ → ℕ → Sending
sending_is len position sn block sent gap left =
    record { length = len; position = position; sn = record { 0 = sn }; block = block; sent = sent; gap = gap; left = left }

abbrev pub party_is : ℕ → Party
party_is party = record { 0 = party }

-- ---- the calls, on either side of each refusal

abbrev pub calls : List Edge
calls =
    -- 3: identifiers 63F, 640, 649, 64A
    call_edge fine (frame 0x63F (1 ∷ 7 ∷ [])) 3
    ∷ call_edge fine (frame 0x640 (1 ∷ 7 ∷ [])) 0
    ∷ call_edge fine (frame 0x649 (1 ∷ 7 ∷ [])) 0
    ∷ call_edge fine (frame 0x64A (1 ∷ 7 ∷ [])) 3
    -- 4: 8 and 9 data bytes
    ∷ call_edge fine (frame 0x640 (zeros 8)) 0
    ∷ call_edge fine (frame 0x640 (zeros 9)) 4
    -- 2: a store 10 x A - 1, 10 x A and 10 x A + 1 long; the other store does not matter
    ∷ call_edge (stores 79 80) (frame 0x640 []) 2
    ∷ call_edge (stores 80 79) (frame 0x640 []) 0
    ∷ call_edge (stores 81 80) (frame 0x640 []) 2
    ∷ call_edge (stores 80 79) (send 0 0 (1 ∷ [])) 2
    ∷ call_edge (stores 79 80) (send 0 0 (1 ∷ [])) 0
    ∷ call_edge (stores 80 81) (send 0 0 (1 ∷ [])) 2
    ∷ call_edge (stores 80 79) (turn (zeros 8)) 2
    ∷ call_edge (stores 79 80) (turn (zeros 8)) 0
    ∷ call_edge (stores 80 81) (turn (zeros 8)) 2
    -- 12: 9, 10 and 11 cards; a send takes none
    ∷ call_edge (cards_are 9 fine) (frame 0x640 []) 12
    ∷ call_edge (cards_are 10 fine) (frame 0x640 []) 0
    ∷ call_edge (cards_are 11 fine) (frame 0x640 []) 12
    ∷ call_edge (cards_are 9 fine) tick 12
    ∷ call_edge (cards_are 10 fine) tick 0
    ∷ call_edge (cards_are 11 fine) tick 12
    ∷ call_edge (cards_are 9 fine) (turn (zeros 8)) 12
    ∷ call_edge (cards_are 10 fine) (turn (zeros 8)) 0
    ∷ call_edge (cards_are 11 fine) (turn (zeros 8)) 12
    ∷ call_edge (cards_are 9 fine) (send 0 0 (1 ∷ [])) 0
    -- 5: berth 9 and 10
    ∷ call_edge fine (send 9 0 (1 ∷ [])) 0
    ∷ call_edge fine (send 10 0 (1 ∷ [])) 5
    -- 18: parties 0, 1 and 2
    ∷ call_edge fine (send 0 0 (1 ∷ [])) 0
    ∷ call_edge fine (send 0 1 (1 ∷ [])) 0
    ∷ call_edge fine (send 0 2 (1 ∷ [])) 18
    -- 6: empty and 1 byte
    ∷ call_edge fine (send 0 0 []) 6
    ∷ call_edge fine (send 0 0 (1 ∷ [])) 0
    -- 7: A and A + 1 bytes
    ∷ call_edge fine (send 0 0 (zeros 8)) 0
    ∷ call_edge fine (send 0 0 (zeros 9)) 7
    -- 8: sending and not; whose message it is does not matter
    ∷ call_edge sending_at0 (send 0 0 (1 ∷ [])) 8
    ∷ call_edge sending_at0 (send 0 1 (1 ∷ [])) 8
    ∷ call_edge sending_at0 (send 1 0 (1 ∷ [])) 0
    -- 9: a buffer of 7 and 8 bytes
    ∷ call_edge fine (turn (zeros 7)) 9
    ∷ call_edge fine (turn (zeros 8)) 0
    -- 10: A, BS, STmin
    ∷ set_up_edge 7 2 5 10
    ∷ set_up_edge 8 2 5 0
    ∷ set_up_edge 4095 2 5 0
    ∷ set_up_edge 4096 2 5 10
    ∷ set_up_edge 40 255 5 0
    ∷ set_up_edge 40 256 5 10
    ∷ set_up_edge 40 2 0x7F 0
    ∷ set_up_edge 40 2 0x80 10
    ∷ set_up_edge 40 2 0xF0 10
    ∷ set_up_edge 40 2 0xF1 0
    ∷ set_up_edge 40 2 0xF9 0
    ∷ set_up_edge 40 2 0xFA 10
    -- a change: 5, berth 9 and 10; it takes no store and no card
    ∷ call_edge fine (change 9 0 0) 0
    ∷ call_edge fine (change 10 0 0) 5
    ∷ call_edge (cards_are 9 (stores 79 81)) (change 9 0 0) 0
    -- 13: parameters 0, 1 and 2
    ∷ call_edge fine (change 0 0 5) 0
    ∷ call_edge fine (change 0 1 5) 0
    ∷ call_edge fine (change 0 2 5) 13
    -- 14: STmin, BS
    ∷ call_edge fine (change 0 0 0x7F) 0
    ∷ call_edge fine (change 0 0 0x80) 14
    ∷ call_edge fine (change 0 0 0xF0) 14
    ∷ call_edge fine (change 0 0 0xF1) 0
    ∷ call_edge fine (change 0 0 0xF9) 0
    ∷ call_edge fine (change 0 0 0xFA) 14
    ∷ call_edge fine (change 0 1 255) 0
    ∷ call_edge fine (change 0 1 256) 14
    -- 15: while the berth owes go or awaits, not while it owes overflow or sends; another berth does not matter
    ∷ call_edge (receiving_at0 (Rx.OwesGo (taking_is 8 6 1 0) 0)) (change 0 0 5) 15
    ∷ call_edge (receiving_at0 (Rx.Awaits (taking_is 8 6 1 0) 0)) (change 0 1 5) 15
    ∷ call_edge (receiving_at0 (Rx.OwesOverflow 0)) (change 0 1 5) 0
    ∷ call_edge sending_at0 (change 0 1 5) 0
    ∷ call_edge (receiving_at0 (Rx.Awaits (taking_is 8 6 1 0) 0)) (change 1 1 5) 0
    ∷ []

-- ---- both hold: the one that is tested first is given

abbrev pub both : List Edge
both =
    call_edge (broken 79 80) (frame 0x63F (zeros 9)) 1
    ∷ call_edge (stores 79 80) (frame 0x63F (zeros 9)) 2
    ∷ call_edge (cards_are 9 (stores 79 80)) (frame 0x640 []) 2
    ∷ call_edge (cards_are 9 fine) (frame 0x64A (zeros 9)) 12
    ∷ call_edge fine (frame 0x64A (zeros 9)) 3
    ∷ call_edge fine (frame 0x64A []) 3
    ∷ call_edge fine (frame 0x640 (0x70 ∷ zeros 8)) 4
    ∷ call_edge (broken 80 79) (send 10 2 []) 1
    ∷ call_edge (stores 80 79) (send 10 2 []) 2
    ∷ call_edge fine (send 10 2 []) 5
    -- 18 with 6, with 7 and with 8
    ∷ call_edge fine (send 0 2 []) 18
    ∷ call_edge fine (send 0 2 (zeros 9)) 18
    ∷ call_edge sending_at0 (send 0 2 (1 ∷ [])) 18
    -- 6 and 7 cannot both hold; 6 with 8, and 7 with 8
    ∷ call_edge sending_at0 (send 0 0 []) 6
    ∷ call_edge sending_at0 (send 0 0 (zeros 9)) 7
    ∷ call_edge (broken 80 79) (turn (zeros 7)) 1
    ∷ call_edge (stores 80 79) (turn (zeros 7)) 2
    ∷ call_edge (cards_are 9 (stores 80 79)) (turn (zeros 8)) 2
    ∷ call_edge (cards_are 9 fine) (turn (zeros 7)) 12
    -- 9 before nothing due
    ∷ call_edge fine (turn (zeros 7)) 9
    ∷ call_edge (broken 80 80) tick 1
    ∷ call_edge (cards_are 9 (broken 80 80)) tick 1
    ∷ call_edge (broken 80 80) (change 10 2 256) 1
    ∷ call_edge fine (change 10 2 256) 5
    ∷ call_edge fine (change 0 2 256) 13
    ∷ call_edge (receiving_at0 (Rx.OwesGo (taking_is 8 6 1 0) 0)) (change 0 2 5) 13
    ∷ call_edge (receiving_at0 (Rx.OwesGo (taking_is 8 6 1 0) 0)) (change 0 1 256) 14
    ∷ []

-- ---- the ranges

abbrev pub settings_ranges : List Edge
settings_ranges =
    node_edge (area_is 7) 9 fresh 1
    ∷ node_edge (area_is 8) 9 fresh 0
    ∷ node_edge (area_is 4095) 9 fresh 0
    ∷ node_edge (area_is 4096) 9 fresh 1
    -- one berth's own
    ∷ node_edge (area_is 40) 9 (block_is 255) 0
    ∷ node_edge (area_is 40) 9 (block_is 256) 1
    ∷ node_edge (area_is 40) 9 (stmin_is 0x7F) 0
    ∷ node_edge (area_is 40) 9 (stmin_is 0x80) 1
    ∷ node_edge (area_is 40) 9 (stmin_is 0xF0) 1
    ∷ node_edge (area_is 40) 9 (stmin_is 0xF1) 0
    ∷ node_edge (area_is 40) 9 (stmin_is 0xF9) 0
    ∷ node_edge (area_is 40) 9 (stmin_is 0xFA) 1
    ∷ node_edge (area_is 40) 10 fresh 1
    ∷ node_edge (area_is 40) 0 fresh 0
    ∷ []

-- a berth with BS 2, this last length and this receive side
abbrev pub rx_edge : ℕ → Rx → ℕ → Edge
rx_edge last side n = node_edge (area_is 40) 9 (with_rx (block_is 2) side last) n

abbrev pub receive_ranges : List Edge
receive_ranges =
    -- the last length: 0 to A, 0 while it owes go or awaits
    rx_edge 40 Rx.Idle 0
    ∷ rx_edge 41 Rx.Idle 1
    ∷ rx_edge 40 (Rx.OwesOverflow 0) 0
    ∷ rx_edge 41 (Rx.OwesOverflow 0) 1
    ∷ rx_edge 0 (Rx.OwesGo (taking_is 20 6 1 0) 0) 0
    ∷ rx_edge 1 (Rx.OwesGo (taking_is 20 6 1 0) 0) 1
    ∷ rx_edge 0 (Rx.Awaits (taking_is 20 6 1 0) 0) 0
    ∷ rx_edge 1 (Rx.Awaits (taking_is 20 6 1 0) 0) 1
    -- timers
    ∷ rx_edge 0 (Rx.OwesOverflow 999) 0
    ∷ rx_edge 0 (Rx.OwesOverflow 1000) 1
    ∷ rx_edge 0 (Rx.OwesGo (taking_is 20 6 1 0) 999) 0
    ∷ rx_edge 0 (Rx.OwesGo (taking_is 20 6 1 0) 1000) 1
    ∷ rx_edge 0 (Rx.Awaits (taking_is 20 6 1 0) 999) 0
    ∷ rx_edge 0 (Rx.Awaits (taking_is 20 6 1 0) 1000) 1
    -- total 8 to A, got 6 to total - 1
    ∷ rx_edge 0 (Rx.Awaits (taking_is 7 6 1 0) 0) 1
    ∷ rx_edge 0 (Rx.Awaits (taking_is 8 6 1 0) 0) 0
    ∷ rx_edge 0 (Rx.Awaits (taking_is 40 6 1 0) 0) 0
    ∷ rx_edge 0 (Rx.Awaits (taking_is 41 6 1 0) 0) 1
    ∷ rx_edge 0 (Rx.Awaits (taking_is 20 5 1 0) 0) 1
    ∷ rx_edge 0 (Rx.Awaits (taking_is 20 19 1 0) 0) 0
    ∷ rx_edge 0 (Rx.Awaits (taking_is 20 20 1 0) 0) 1
    -- SN 0 to 15
    ∷ rx_edge 0 (Rx.OwesGo (taking_is 20 6 15 0) 0) 0
    ∷ rx_edge 0 (Rx.OwesGo (taking_is 20 6 16 0) 0) 1
    -- frames taken 0 to the berth's own BS - 1, or 0 if that is 0
    ∷ rx_edge 0 (Rx.OwesGo (taking_is 20 6 1 1) 0) 0
    ∷ rx_edge 0 (Rx.OwesGo (taking_is 20 6 1 2) 0) 1
    ∷ node_edge (area_is 40) 9 (with_rx (block_is 0) (Rx.Awaits (taking_is 20 6 1 0) 0) 0) 0
    ∷ node_edge (area_is 40) 9 (with_rx (block_is 0) (Rx.Awaits (taking_is 20 6 1 1) 0) 0) 1
    ∷ node_edge (area_is 40) 9 (with_rx (block_is 1) (Rx.Awaits (taking_is 20 6 1 0) 0) 0) 0
    ∷ node_edge (area_is 40) 9 (with_rx (block_is 1) (Rx.Awaits (taking_is 20 6 1 1) 0) 0) 1
    ∷ []

-- a berth with this send side
abbrev pub tx_edge : Tx → ℕ → Edge
tx_edge side n = node_edge (area_is 40) 9 (with_tx fresh side) n

abbrev pub send_ranges : List Edge
send_ranges =
    -- single due 1 to 7, first due 8 to A
    tx_edge (Tx.SingleDue scheduler 0 0) 1
    ∷ tx_edge (Tx.SingleDue scheduler 1 0) 0
    ∷ tx_edge (Tx.SingleDue scheduler 7 0) 0
    ∷ tx_edge (Tx.SingleDue scheduler 8 0) 1
    ∷ tx_edge (Tx.FirstDue scheduler 7 0) 1
    ∷ tx_edge (Tx.FirstDue scheduler 8 0) 0
    ∷ tx_edge (Tx.FirstDue scheduler 40 0) 0
    ∷ tx_edge (Tx.FirstDue scheduler 41 0) 1
    -- timers
    ∷ tx_edge (Tx.SingleDue scheduler 1 999) 0
    ∷ tx_edge (Tx.SingleDue scheduler 1 1000) 1
    ∷ tx_edge (Tx.FirstDue scheduler 8 999) 0
    ∷ tx_edge (Tx.FirstDue scheduler 8 1000) 1
    ∷ tx_edge (Tx.AwaitsFlow scheduler (sending_is 20 6 1 0 0 0 0) 999) 0
    ∷ tx_edge (Tx.AwaitsFlow scheduler (sending_is 20 6 1 0 0 0 0) 1000) 1
    ∷ tx_edge (Tx.Consecutive scheduler (sending_is 20 6 1 0 0 0 0) 999) 0
    ∷ tx_edge (Tx.Consecutive scheduler (sending_is 20 6 1 0 0 0 0) 1000) 1
    -- length 8 to A, position 6 to length - 1
    ∷ tx_edge (Tx.Consecutive scheduler (sending_is 7 6 1 0 0 0 0) 0) 1
    ∷ tx_edge (Tx.Consecutive scheduler (sending_is 8 6 1 0 0 0 0) 0) 0
    ∷ tx_edge (Tx.Consecutive scheduler (sending_is 40 6 1 0 0 0 0) 0) 0
    ∷ tx_edge (Tx.Consecutive scheduler (sending_is 41 6 1 0 0 0 0) 0) 1
    ∷ tx_edge (Tx.Consecutive scheduler (sending_is 20 5 1 0 0 0 0) 0) 1
    ∷ tx_edge (Tx.Consecutive scheduler (sending_is 20 19 1 0 0 0 0) 0) 0
    ∷ tx_edge (Tx.Consecutive scheduler (sending_is 20 20 1 0 0 0 0) 0) 1
    -- SN 0 to 15
    ∷ tx_edge (Tx.AwaitsFlow scheduler (sending_is 20 6 15 0 0 0 0) 0) 0
    ∷ tx_edge (Tx.AwaitsFlow scheduler (sending_is 20 6 16 0 0 0 0) 0) 1
    -- frames sent below the peer's block size, or 0 if it is 0; 0 while awaiting
    ∷ tx_edge (Tx.Consecutive scheduler (sending_is 20 6 1 3 2 0 0) 0) 0
    ∷ tx_edge (Tx.Consecutive scheduler (sending_is 20 6 1 3 3 0 0) 0) 1
    ∷ tx_edge (Tx.Consecutive scheduler (sending_is 20 6 1 0 1 0 0) 0) 1
    ∷ tx_edge (Tx.AwaitsFlow scheduler (sending_is 20 6 1 3 0 0 0) 0) 0
    ∷ tx_edge (Tx.AwaitsFlow scheduler (sending_is 20 6 1 3 1 0 0) 0) 1
    -- the peer's gap and the gap left 0 to 128; gap left 0 while awaiting; the timer 0 while it is above 0
    ∷ tx_edge (Tx.Consecutive scheduler (sending_is 20 6 1 0 0 128 0) 0) 0
    ∷ tx_edge (Tx.Consecutive scheduler (sending_is 20 6 1 0 0 129 0) 0) 1
    ∷ tx_edge (Tx.Consecutive scheduler (sending_is 20 6 1 0 0 0 128) 0) 0
    ∷ tx_edge (Tx.Consecutive scheduler (sending_is 20 6 1 0 0 0 129) 0) 1
    ∷ tx_edge (Tx.AwaitsFlow scheduler (sending_is 20 6 1 0 0 128 0) 0) 0
    ∷ tx_edge (Tx.AwaitsFlow scheduler (sending_is 20 6 1 0 0 129 0) 0) 1
    ∷ tx_edge (Tx.AwaitsFlow scheduler (sending_is 20 6 1 0 0 128 1) 0) 1
    ∷ tx_edge (Tx.Consecutive scheduler (sending_is 20 6 1 0 0 0 1) 0) 0
    ∷ tx_edge (Tx.Consecutive scheduler (sending_is 20 6 1 0 0 0 1) 1) 1
    ∷ tx_edge (Tx.Consecutive scheduler (sending_is 20 6 1 0 0 0 0) 1) 0
    -- the party 0 or 1, in each state
    ∷ tx_edge (Tx.SingleDue (party_is 1) 1 0) 0
    ∷ tx_edge (Tx.SingleDue (party_is 2) 1 0) 1
    ∷ tx_edge (Tx.FirstDue (party_is 1) 8 0) 0
    ∷ tx_edge (Tx.FirstDue (party_is 2) 8 0) 1
    ∷ tx_edge (Tx.AwaitsFlow (party_is 1) (sending_is 20 6 1 0 0 0 0) 0) 0
    ∷ tx_edge (Tx.AwaitsFlow (party_is 2) (sending_is 20 6 1 0 0 0 0) 0) 1
    ∷ tx_edge (Tx.Consecutive (party_is 1) (sending_is 20 6 1 0 0 0 0) 0) 0
    ∷ tx_edge (Tx.Consecutive (party_is 2) (sending_is 20 6 1 0 0 0 0) 0) 1
    ∷ []

-- all rows
abbrev pub edge_rows : List Edge
edge_rows = calls ++ (both ++ (settings_ranges ++ (receive_ranges ++ send_ranges)))
