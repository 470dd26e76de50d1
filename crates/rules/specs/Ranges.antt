-- "What each side of a berth remembers": the ranges, as a test, and as a record of plain facts. That the two say the
-- same is proved (proofs/Exact). A node that breaks a range is out of order.
use Rattle.std.specs.Prelude.{ℕ, ◌≤◌, ◌<◌, ◌≡◌, ◌⊎◌, Bool, true, ◌&&◌, ◌||◌, [], ◌∷◌, length, ltb, leb, eqb}
use Rattle.rules.specs.Tests.{pick, all, each}
use Rattle.rules.specs.Numbers.{berth_count, least_area, largest_area, largest_block, most_millis, least_fraction, most_fraction, timeout, sn_count, longest_gap, single_most, first_bytes, least_long, the_laptop}
use Rattle.rules.specs.Parties.{party_allowed, party_of}
use Rattle.rules.specs.Nodes.{berth_at}
use Rattle.rules.specs.declared.Settings.{Settings}
use Rattle.rules.specs.declared.Taking.{Taking}
use Rattle.rules.specs.declared.Sending.{Sending}
use Rattle.rules.specs.declared.Rx.{Rx}
use Rattle.rules.specs.declared.Tx.{Tx}
use Rattle.rules.specs.declared.Berth.{Berth}
use Rattle.rules.specs.declared.Node.{Node}

-- ---- the settings

-- an STmin byte is 00 to 7F or F1 to F9
abbrev pub stmin_allowed : ℕ → Bool
stmin_allowed stmin = leb stmin most_millis || (leb least_fraction stmin && leb stmin most_fraction)

abbrev pub StminRange : ℕ → Type 0
StminRange stmin = (stmin ≤ most_millis) ⊎ ((least_fraction ≤ stmin) × (stmin ≤ most_fraction))

-- A is 8 to 4,095
abbrev pub area_allowed : ℕ → Bool
area_allowed a = all (leb least_area a ∷ leb a largest_area ∷ [])

pub record AreaRange (a : ℕ) : Type 0 where
  pub area-least : least_area ≤ a
  pub area-most : a ≤ largest_area

-- a berth's own settings: BS is 0 to 255
abbrev pub own_allowed : ℕ → ℕ → Bool
own_allowed bs stmin = all (leb bs largest_block ∷ stmin_allowed stmin ∷ [])

pub record OwnRange (bs stmin : ℕ) : Type 0 where
  pub block-most : bs ≤ largest_block
  pub stmin-allowed : StminRange stmin

-- what set-up takes: A, and the settings of all ten berths
unfoldable pub settings_allowed : ℕ → ℕ → ℕ → Bool
settings_allowed a bs stmin = all (area_allowed a ∷ own_allowed bs stmin ∷ [])

pub record SettingsRange (a bs stmin : ℕ) : Type 0 where
  pub area : AreaRange a
  pub own : OwnRange bs stmin

-- ---- counts of frames in a block

-- a count is below the block size, or 0 if that is 0
unfoldable pub in_block : ℕ → ℕ → Bool
in_block block n = pick (eqb block 0) (eqb n 0) (ltb n block)

abbrev pub BlockRange : ℕ → ℕ → Type 0
BlockRange block n = (n < block) ⊎ ((block ≡ 0) × (n ≡ 0))

-- ---- a message under way, received or sent

-- its length is 8 to A, the bytes done are 6 to length - 1, the next SN is 0 to 15
abbrev pub under_way_in_range : (a length done sn : ℕ) → Bool
under_way_in_range a length done sn =
    all (leb least_long length ∷ leb length a ∷ leb first_bytes done ∷ ltb done length ∷ ltb sn sn_count ∷ [])

-- ---- the receive side

-- total, got and the next SN are those of a message under way, and the frames taken are a count in a block of the berth's own BS
unfoldable pub taking_in_range : Settings → ℕ → Taking → Bool
taking_in_range s bs p = all (under_way_in_range s.area p.total p.got p.sn.0 ∷ in_block bs p.taken ∷ [])

pub record TakingRange (s : Settings) (bs : ℕ) (p : Taking) : Type 0 where
  pub total-least : least_long ≤ p.total
  pub total-most : p.total ≤ s.area
  pub got-least : first_bytes ≤ p.got
  pub got-most : p.got < p.total
  pub sn-most : p.sn.0 < sn_count
  pub taken : BlockRange bs p.taken

-- the last length is 0 to A, and 0 while the side owes go or awaits; all but idle have a timer 0 to 999
abbrev pub rx_in_range : Settings → (bs last : ℕ) → Rx → Bool
rx_in_range s bs last Rx.Idle = leb last s.area
rx_in_range s bs last (Rx.OwesOverflow t) = all (leb last s.area ∷ ltb t timeout ∷ [])
rx_in_range s bs last (Rx.OwesGo p t) = all (eqb last 0 ∷ taking_in_range s bs p ∷ ltb t timeout ∷ [])
rx_in_range s bs last (Rx.Awaits p t) = all (eqb last 0 ∷ taking_in_range s bs p ∷ ltb t timeout ∷ [])

abbrev pub RxRange : Settings → (bs last : ℕ) → Rx → Type 0
RxRange s bs last Rx.Idle = last ≤ s.area
RxRange s bs last (Rx.OwesOverflow t) = (last ≤ s.area) × (t < timeout)
RxRange s bs last (Rx.OwesGo p t) = (last ≡ 0) × TakingRange s bs p × (t < timeout)
RxRange s bs last (Rx.Awaits p t) = (last ≡ 0) × TakingRange s bs p × (t < timeout)

-- ---- the send side

-- length, position and the next SN are those of a message under way, the frames sent are a count in a block of the peer's size,
-- the peer's gap and the gap left are 0 to 128
unfoldable pub sending_in_range : Settings → Sending → Bool
sending_in_range s o =
    all
    (under_way_in_range s.area o.length o.position o.sn.0 ∷ in_block o.block o.sent
    ∷ leb o.gap longest_gap ∷ leb o.left longest_gap ∷ [])

pub record SendingRange (s : Settings) (o : Sending) : Type 0 where
  pub length-least : least_long ≤ o.length
  pub length_most : o.length ≤ s.area
  pub position-least : first_bytes ≤ o.position
  pub position-most : o.position < o.length
  pub sn-most : o.sn.0 < sn_count
  pub sent : BlockRange o.block o.sent
  pub gap-most : o.gap ≤ longest_gap
  pub left-most : o.left ≤ longest_gap

-- single due has a length 1 to 7, first due 8 to A; while awaiting, the frames sent and the gap left are 0; while the gap left
-- is above 0 the timer is 0; all but idle have a timer 0 to 999
abbrev pub tx_in_range : Settings → Tx → Bool
tx_in_range s Tx.Idle = true
tx_in_range s (Tx.SingleDue party n t) = all (leb 1 n ∷ leb n single_most ∷ ltb t timeout ∷ [])
tx_in_range s (Tx.FirstDue party n t) = all (leb least_long n ∷ leb n s.area ∷ ltb t timeout ∷ [])
tx_in_range s (Tx.AwaitsFlow party o t) = all (sending_in_range s o ∷ eqb o.sent 0 ∷ eqb o.left 0 ∷ ltb t timeout ∷ [])
tx_in_range s (Tx.Consecutive party o t) = all (sending_in_range s o ∷ (eqb o.left 0 || eqb t 0) ∷ ltb t timeout ∷ [])

abbrev pub TxRange : Settings → Tx → Type 0
TxRange s Tx.Idle = Unit {0}
TxRange s (Tx.SingleDue party n t) = (1 ≤ n) × (n ≤ single_most) × (t < timeout)
TxRange s (Tx.FirstDue party n t) = (least_long ≤ n) × (n ≤ s.area) × (t < timeout)
TxRange s (Tx.AwaitsFlow party o t) = SendingRange s o × (o.sent ≡ 0) × (o.left ≡ 0) × (t < timeout)
TxRange s (Tx.Consecutive party o t) = SendingRange s o × ((o.left ≡ 0) ⊎ (t ≡ 0)) × (t < timeout)

-- the party that it keeps is 0 or 1
abbrev pub party_in_range : Tx → Bool
party_in_range tx = party_allowed (party_of tx).0

abbrev pub PartyRange : Tx → Type 0
PartyRange tx = (party_of tx).0 ≤ the_laptop

-- ---- one berth, and the node

-- its own settings are in range, and so is each side, the receive side by its own BS, and the party that it sends for
unfoldable pub berth_in_order : Settings → Berth → Bool
berth_in_order s b =
    all
    (own_allowed b.settings.block b.settings.stmin ∷ rx_in_range s b.settings.block b.last b.rx
    ∷ tx_in_range s b.tx ∷ party_in_range b.tx ∷ [])

pub record BerthRange (s : Settings) (b : Berth) : Type 0 where
  pub own : OwnRange b.settings.block b.settings.stmin
  pub receive : RxRange s b.settings.block b.last b.rx
  pub send : TxRange s b.tx
  pub party : PartyRange b.tx

-- A is in range, the berth served last is 0 to 9, and each of the ten berths is in order
unfoldable pub in_order : Node → Bool
in_order n =
    all
    (area_allowed n.settings.area ∷ ltb n.served berth_count ∷ eqb (length n.berths) berth_count ∷ each (berth_in_order n.settings) n.berths ∷ [])

pub record InOrder (n : Node) : Type 0 where
  pub settings : AreaRange n.settings.area
  pub served : n.served < berth_count
  pub ten : length n.berths ≡ berth_count
  pub berth : (k : ℕ) → k < berth_count → BerthRange n.settings (berth_at n k)
