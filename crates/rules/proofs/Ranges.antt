-- The ranges, test and record of facts: each says what the other says.
use mathlib.Core.Path.{◌≡◌}
use mathlib.Core.Logic.{inl, inr, ⊎_elim}
use Prim.Native.Nat.{ℕ, ◌≤◌, ◌<◌, max}
use native.Mathlib.Omega.{arith}
use mathlib.Core.Bool.{◌||◌}
use lib.ListN.{length}
use lib.Dec.{T, eqb, leb}
use mir.Facts.{leb_yes, ltb_yes, eqb_yes, yes_leb, yes_ltb, yes_eqb, yes_and}
use Rattle.rules.specs.Numbers.{berth_count, most_millis, least_fraction, sn_count, first_bytes, least_long, stmin_parameter}
use Rattle.rules.specs.Nodes.{fresh, berth_at}
use Rattle.rules.specs.Ranges.{stmin_allowed, StminRange, area_allowed, AreaRange, own_allowed, OwnRange, settings_allowed, SettingsRange, in_block, BlockRange, under_way_in_range, taking_in_range, TakingRange, rx_in_range, RxRange, sending_in_range, SendingRange, tx_in_range, TxRange, berth_in_order, BerthRange, in_order, InOrder}
use Rattle.rules.specs.Changes.{value_allowed, ValueRange}
use Rattle.rules.specs.declared.Settings.{Settings}
use Rattle.rules.specs.declared.Taking.{Taking}
use Rattle.rules.specs.declared.Sending.{Sending}
use Rattle.rules.specs.declared.Rx.{Rx}
use Rattle.rules.specs.declared.Tx.{Tx}
use Rattle.rules.specs.declared.Berth.{Berth}
use Rattle.rules.specs.declared.Node.{Node}
use Rattle.rules.proofs.Cases.{Tested, holds, fails, eqb-cases, and_left, and_right, or_cases, or_left, or_right, all_yes, yes-all, each_at, each_of}

-- ---- settings

pub stmin-range : (stmin : ℕ) → T (stmin_allowed stmin) → StminRange stmin
stmin-range stmin t =
    ⊎_elim (λ l. inl (leb_yes l)) (λ r. inr (leb_yes (and_left (leb least_fraction stmin) _ r), leb_yes (and_right (leb least_fraction stmin) _ r)))
    (or_cases (leb stmin most_millis) _ t)

pub stmin-allowed : (stmin : ℕ) → StminRange stmin → T (stmin_allowed stmin)
stmin-allowed stmin r =
    ⊎_elim (λ l. or_left (leb stmin most_millis) _ (yes_leb l))
    (λ f. or_right (leb stmin most_millis) _ (yes_and (leb least_fraction stmin) _ (yes_leb f.0) (yes_leb f.1))) r

pub area-range : (a : ℕ) → T (area_allowed a) → AreaRange a
area-range a t = let f = all_yes _ t in record { area-least = leb_yes f.0; area-most = leb_yes f.1.0 }

pub area-allowed : (a : ℕ) → AreaRange a → T (area_allowed a)
area-allowed a r = yes-all _ (yes_leb r.area-least, (yes_leb r.area-most, tt))

pub own_range : (bs stmin : ℕ) → T (own_allowed bs stmin) → OwnRange bs stmin
own_range bs stmin t = let f = all_yes _ t in record { block-most = leb_yes f.0; stmin-allowed = stmin-range stmin f.1.0 }

pub own-allowed : (bs stmin : ℕ) → OwnRange bs stmin → T (own_allowed bs stmin)
own-allowed bs stmin r = yes-all _ (yes_leb r.block-most, (stmin-allowed stmin r.stmin-allowed, tt))

pub settings-range : (a bs stmin : ℕ) → T (settings_allowed a bs stmin) → SettingsRange a bs stmin
unfolding settings_allowed
settings-range a bs stmin t = let f = all_yes _ t in record { area = area-range a f.0; own = own_range bs stmin f.1.0 }

pub settings-allowed : (a bs stmin : ℕ) → SettingsRange a bs stmin → T (settings_allowed a bs stmin)
unfolding settings_allowed
settings-allowed a bs stmin r = yes-all _ (area-allowed a r.area, (own-allowed bs stmin r.own, tt))

-- ---- a parameter's value

pub value-range : (parameter value : ℕ) → T (value_allowed parameter value) → ValueRange parameter value
unfolding value_allowed
value-range parameter value t = go (eqb-cases parameter stmin_parameter)
  where
    go : Tested (eqb parameter stmin_parameter) (parameter ≡ stmin_parameter) (parameter ≡ stmin_parameter → ⊥) → ValueRange parameter value
    go (holds e x) = rw e (stmin-range value (rw e at t))
    go (fails e x) = rw e (leb_yes (rw e at t))

pub value-allowed : (parameter value : ℕ) → ValueRange parameter value → T (value_allowed parameter value)
unfolding value_allowed
value-allowed parameter value r = go (eqb-cases parameter stmin_parameter)
  where
    go : Tested (eqb parameter stmin_parameter) (parameter ≡ stmin_parameter) (parameter ≡ stmin_parameter → ⊥) → T (value_allowed parameter value)
    go (holds e x) = rw e (stmin-allowed value (rw e at r))
    go (fails e x) = rw e (yes_leb (rw e at r))

-- ---- a count in a block

pub block-range : (block n : ℕ) → T (in_block block n) → BlockRange block n
unfolding in_block
block-range block n t = go (eqb-cases block 0)
  where
    go : Tested (eqb block 0) (block ≡ 0) (block ≡ 0 → ⊥) → BlockRange block n
    go (holds e z) = inr (z, eqb_yes (rw e at t))
    go (fails e z) = inl (ltb_yes (rw e at t))

pub in-block : (block n : ℕ) → BlockRange block n → T (in_block block n)
unfolding in_block
in-block block n r = go (eqb-cases block 0) r
  where
    go : Tested (eqb block 0) (block ≡ 0) (block ≡ 0 → ⊥) → BlockRange block n → T (in_block block n)
    go (holds e z) (inl l) = absurd (omega arith)
    go (holds e z) (inr f) = rw e (yes_eqb f.1)
    go (fails e z) (inl l) = rw e (yes_ltb l)
    go (fails e z) (inr f) = absurd (z f.0)

-- the same for `omega`
pub block-max : (block n : ℕ) → BlockRange block n → n < max 1 block
block-max block n r = ⊎_elim (λ l. omega arith) (λ f. omega arith) r

pub max-block : (block n : ℕ) → n < max 1 block → BlockRange block n
max-block block n h = go (eqb-cases block 0)
  where
    go : Tested (eqb block 0) (block ≡ 0) (block ≡ 0 → ⊥) → BlockRange block n
    go (holds e z) = inr (z, omega arith)
    go (fails e z) = inl (omega arith)

-- ---- a message under way

pub under-way-range :
    (a length done sn : ℕ) → T (under_way_in_range a length done sn)
    → (least_long ≤ length) × (length ≤ a) × (first_bytes ≤ done) × (done < length) × (sn < sn_count)
under-way-range a length done sn t =
    let f = all_yes _ t in (leb_yes f.0, leb_yes f.1.0, leb_yes f.1.1.0, ltb_yes f.1.1.1.0, ltb_yes f.1.1.1.1.0)

pub under-way-in :
    (a length done sn : ℕ)
    → least_long ≤ length → length ≤ a → first_bytes ≤ done → done < length → sn < sn_count → T (under_way_in_range a length done sn)
under-way-in a length done sn l m f d n = yes-all _ (yes_leb l, (yes_leb m, (yes_leb f, (yes_ltb d, (yes_ltb n, tt)))))

-- ---- the two sides

module _ (s : Settings) (bs : ℕ) where
  pub taking-range : (p : Taking) → T (taking_in_range s bs p) → TakingRange s bs p
  unfolding taking_in_range
  taking-range p t =
      let f = all_yes _ t in
      let w = under-way-range _ _ _ _ f.0 in
      record { total-least = w.0; total-most = w.1; got-least = w.2; got-most = w.3; sn-most = w.4; taken = block-range _ _ f.1.0 }

  pub taking-in : (p : Taking) → TakingRange s bs p → T (taking_in_range s bs p)
  unfolding taking_in_range
  taking-in p r =
      yes-all _
      (under-way-in _ _ _ _ r.total-least r.total-most r.got-least r.got-most r.sn-most, (in-block _ _ r.taken, tt))

  pub rx-range : (last : ℕ) (rx : Rx) → T (rx_in_range s bs last rx) → RxRange s bs last rx
  rx-range last Rx.Idle t = leb_yes t
  rx-range last (Rx.OwesOverflow u) t = let f = all_yes _ t in (leb_yes f.0, ltb_yes f.1.0)
  rx-range last (Rx.OwesGo p u) t = let f = all_yes _ t in (eqb_yes f.0, taking-range p f.1.0, ltb_yes f.1.1.0)
  rx-range last (Rx.Awaits p u) t = let f = all_yes _ t in (eqb_yes f.0, taking-range p f.1.0, ltb_yes f.1.1.0)

  pub rx-in : (last : ℕ) (rx : Rx) → RxRange s bs last rx → T (rx_in_range s bs last rx)
  rx-in last Rx.Idle r = yes_leb r
  rx-in last (Rx.OwesOverflow u) r = yes-all _ (yes_leb r.0, (yes_ltb r.1, tt))
  rx-in last (Rx.OwesGo p u) r = yes-all _ (yes_eqb r.0, (taking-in p r.1, (yes_ltb r.2, tt)))
  rx-in last (Rx.Awaits p u) r = yes-all _ (yes_eqb r.0, (taking-in p r.1, (yes_ltb r.2, tt)))

module _ (s : Settings) where
  pub sending-range : (o : Sending) → T (sending_in_range s o) → SendingRange s o
  unfolding sending_in_range
  sending-range o t =
      let f = all_yes _ t in
      let w = under-way-range _ _ _ _ f.0 in
      record {
        length-least = w.0;
        length_most = w.1;
        position-least = w.2;
        position-most = w.3;
        sn-most = w.4;
        sent = block-range _ _ f.1.0;
        gap-most = leb_yes f.1.1.0;
        left-most = leb_yes f.1.1.1.0;
      }

  pub sending-in : (o : Sending) → SendingRange s o → T (sending_in_range s o)
  unfolding sending_in_range
  sending-in o r =
      yes-all _ (
        under-way-in _ _ _ _ r.length-least r.length_most r.position-least r.position-most r.sn-most,
        (in-block _ _ r.sent, (yes_leb r.gap-most, (yes_leb r.left-most, tt))),
      )

  pub tx-range : (tx : Tx) → T (tx_in_range s tx) → TxRange s tx
  tx-range Tx.Idle t = tt
  tx-range (Tx.SingleDue party n u) t = let f = all_yes _ t in (leb_yes f.0, leb_yes f.1.0, ltb_yes f.1.1.0)
  tx-range (Tx.FirstDue party n u) t = let f = all_yes _ t in (leb_yes f.0, leb_yes f.1.0, ltb_yes f.1.1.0)
  tx-range (Tx.AwaitsFlow party o u) t =
      let f = all_yes _ t in
      (sending-range o f.0, eqb_yes f.1.0, eqb_yes f.1.1.0, ltb_yes f.1.1.1.0)
  tx-range (Tx.Consecutive party o u) t =
      let f = all_yes _ t in (
        sending-range o f.0,
        ⊎_elim (λ l. inl (eqb_yes l)) (λ r. inr (eqb_yes r)) (or_cases (eqb o.left 0) _ f.1.0),
        ltb_yes f.1.1.0,
      )

  pub tx-in : (tx : Tx) → TxRange s tx → T (tx_in_range s tx)
  tx-in Tx.Idle r = tt
  tx-in (Tx.SingleDue party n u) r = yes-all _ (yes_leb r.0, (yes_leb r.1, (yes_ltb r.2, tt)))
  tx-in (Tx.FirstDue party n u) r = yes-all _ (yes_leb r.0, (yes_leb r.1, (yes_ltb r.2, tt)))
  tx-in (Tx.AwaitsFlow party o u) r = yes-all _ (sending-in o r.0, (yes_eqb r.1, (yes_eqb r.2, (yes_ltb r.3, tt))))
  tx-in (Tx.Consecutive party o u) r =
      let gap : T (eqb o.left 0 || eqb u 0) = ⊎_elim (λ l. or_left (eqb o.left 0) (eqb u 0) (yes_eqb l)) (λ h. or_right (eqb o.left 0) (eqb u 0) (yes_eqb h)) r.1 in
      yes-all _ (sending-in o r.0, (gap, (yes_ltb r.2, tt)))

  pub berth-range : (b : Berth) → T (berth_in_order s b) → BerthRange s b
  unfolding berth_in_order
  berth-range b t =
      let f = all_yes _ t in
      record {
        own = own_range _ _ f.0;
        receive = rx-range s b.settings.block b.last b.rx f.1.0;
        send = tx-range b.tx f.1.1.0;
        party = leb_yes f.1.1.1.0;
      }

  pub berth-in : (b : Berth) → BerthRange s b → T (berth_in_order s b)
  unfolding berth_in_order
  berth-in b r =
      yes-all _ (own-allowed _ _ r.own, (rx-in s b.settings.block b.last b.rx r.receive, (tx-in b.tx r.send, (yes_leb r.party, tt))))

-- ---- the node

-- IN ORDER: the test says the record of ranges, and the record says the test
pub in-order-range : (n : Node) → T (in_order n) → InOrder n
unfolding in_order berth_at
in-order-range n t =
    let f = all_yes _ t in
    let ten : length n.berths ≡ berth_count = eqb_yes f.1.1.0 in
    record {
      settings = area-range _ f.0;
      served = ltb_yes f.1.0;
      ten = ten;
      berth = λ k h. berth-range n.settings _ (each_at (berth_in_order n.settings) n.berths k fresh (omega arith) f.1.1.1.0);
    }

pub range-in-order : (n : Node) → InOrder n → T (in_order n)
unfolding in_order berth_at
range-in-order n r =
    let ten = r.ten in
    let all_in = each_of (berth_in_order n.settings) n.berths fresh (λ k h. berth-in n.settings _ (r.berth k (omega arith))) in
    yes-all _ (area-allowed _ r.settings, (yes_ltb r.served, (yes_eqb ten, (all_in, tt))))
