-- Order is kept: what any rule makes of a side within its ranges is within its ranges, so every call and every run keeps a node in
-- order, and a set-up that is answered is in order. With a frame's rule goes that the bytes it stores end inside the area (Inside).
use mathlib.Core.Path.{◌≡◌, refl, sym, ap, ◌∙◌}
use mathlib.Core.Logic.{inl, inr, ⊎_elim}
use Prim.Native.Nat.{ℕ, zero, suc, ◌+◌, ◌≤◌, ◌<◌, max}
use native.Mathlib.Omega.{arith}
use native.Mathlib.Nat.{mod-lt}
use mathlib.Core.Bool.{not}
use mathlib.Core.List.{List, [], ◌∷◌, map}
use lib.ListN.{length, get_or, get_or-replicate, drop, set, length-take, length-set, length-map, get_or-map}
use lib.Seq.{get_or-set_same, get_or-set_other}
use lib.Dec.{T, eqb, ltb, leb, lit<}
use mir.Facts.{leb_yes, ltb_yes, ltb_no, eqb_yes, eqb_no}
use Rattle.rules.specs.Tests.{pick, unless}
use Rattle.rules.specs.Numbers.{berth_count, longest_gap, single_most, first_bytes, consecutive_most, least_long, short_most, frame_size, single_kind, first_kind, consecutive_kind, flow_kind, go_status, wait_status, overflow_status, stmin_parameter, the_laptop}
use Rattle.rules.specs.Parties.{party_of}
use Rattle.rules.specs.Nodes.{fresh_with, fresh, berth_at, Held, with_berth}
use Rattle.rules.specs.Ranges.{AreaRange, OwnRange, SettingsRange, BlockRange, TakingRange, RxRange, SendingRange, TxRange, BerthRange, InOrder}
use Rattle.rules.specs.Frames.{byte_at, kind, low, single_fits, short_length, escape_length, announced, first_fits, consecutive_fits, flow_fits, next_sn, counted, fills_block, share}
use Rattle.rules.specs.Arrivals.{Heard, ignored, single_came, above_area, turned_away, taking, begun, first_came, missing, piece, grown, completed, after_took, took, wrong_sn, awaited_came, consecutive_came, Told, granted, by_status, flow_ignored, flow_came, Came, heard_by, told_by, by_kind, frame_came}
use Rattle.rules.specs.Ticks.{rx_ticked, closer, tx_ticked, ticked}
use Rattle.rules.specs.Turns.{flow_due, after_flow, to_go, opened, moved, after_consecutive, after_message, HandedOver, hand_over, begins_with, sent}
use Rattle.rules.specs.Changes.{value_allowed, changed_settings, changed}
use Rattle.rules.specs.Cards.{under_way}
use Rattle.rules.specs.Stores.{ticked_node, served_node, set_up_node, passed_over, reached, came_at, handed_at}
use Rattle.rules.specs.Events.{Call, sender_of}
use Rattle.rules.specs.Refusals.{refusal, set_up_refusal}
use Rattle.rules.specs.Calls.{after_frame, after_turn, done, reply, buffer_of, written, refused_outcome, outcome, set_up_outcome, final}
use Rattle.rules.specs.declared.Settings.{Settings}
use Rattle.rules.specs.declared.BerthSettings.{BerthSettings}
use Rattle.rules.specs.declared.Taking.{Taking}
use Rattle.rules.specs.declared.Sending.{Sending}
use Rattle.rules.specs.declared.Party.{Party}
use Rattle.rules.specs.declared.Rx.{Rx}
use Rattle.rules.specs.declared.Tx.{Tx}
use Rattle.rules.specs.declared.Berth.{Berth}
use Rattle.rules.specs.declared.Node.{Node}
use Rattle.rules.proofs.Cases.{Tested, holds, fails, eqb-cases, tests, and_left, and_right, pick-either, ran-either, met}
use Rattle.rules.proofs.Ranges.{block-max, max-block, stmin-range, settings-range}
use Rattle.rules.proofs.Answered.{frame-answered, send-answered, change-answered}
use Rattle.rules.proofs.Gaps.{gap-small}
use Rattle.rules.proofs.Parties.{kept-own, kept-flow, kept-ticked, kept-message, kept-begins, kept-in-range}

-- ---- blocks

pub fills-cases : (block n : ℕ) → Tested (fills_block block n) ((0 < block) × (n + 1 ≡ block)) (0 < block → n + 1 ≡ block → ⊥)
unfolding fills_block
fills-cases block n = go (eqb-cases block 0) (eqb-cases (n + 1) block)
  where
    go : Tested (eqb block 0) (block ≡ 0) (block ≡ 0 → ⊥) → Tested (eqb (n + 1) block) (n + 1 ≡ block) (n + 1 ≡ block → ⊥)
        → Tested (fills_block block n) ((0 < block) × (n + 1 ≡ block)) (0 < block → n + 1 ≡ block → ⊥)
    go (holds t e) w = fails (rw t) (λ h x. omega arith)
    go (fails t e) (holds u f) = holds (rw (t, u)) (omega arith, f)
    go (fails t e) (fails u f) = fails (rw (t, u)) (λ h x. f x)

pub not-filled : (block n : ℕ) → T (not (fills_block block n)) → 0 < block → n + 1 ≡ block → ⊥
not-filled block n t = go (fills-cases block n)
  where
    go : Tested (fills_block block n) ((0 < block) × (n + 1 ≡ block)) (0 < block → n + 1 ≡ block → ⊥) → 0 < block → n + 1 ≡ block → ⊥
    go (holds e x) = absurd (rw e at t)
    go (fails e x) = x

counted-range : (block n : ℕ) → BlockRange block n → (0 < block → n + 1 ≡ block → ⊥) → BlockRange block (counted block n)
unfolding counted
counted-range block n r ne = go (eqb-cases block 0)
  where
    go : Tested (eqb block 0) (block ≡ 0) (block ≡ 0 → ⊥) → BlockRange block (counted block n)
    go (holds t e) = rw t (inr (e, refl))
    go (fails t e) =
        let l : n < max 1 block = block-max block n r in
        let x : n + 1 ≡ block → ⊥ = ne (omega arith) in
        rw t (inl (omega arith))

-- the count 0 is in every block
none-range : (block : ℕ) → BlockRange block 0
none-range block = max-block block 0 (omega arith)

-- ---- lengths that a frame announces

pub single-small : (d : List ℕ) → T (single_fits d) → low d ≤ single_most
unfolding single_fits
single-small d t = leb_yes (and_left (leb (low d) single_most) _ (and_right (leb 1 (low d)) _ t))

pub announced-large : (d : List ℕ) → T (first_fits d) → least_long ≤ announced d
unfolding first_fits announced
announced-large d t = go (eqb-cases (short_length d) 0) (and_right (eqb (length d) frame_size) _ t)
  where
    go : Tested (eqb (short_length d) 0) (short_length d ≡ 0) (short_length d ≡ 0 → ⊥)
        → T (pick (eqb (short_length d) 0) (ltb short_most (escape_length d)) (ltb single_most (short_length d))) → least_long ≤ announced d
    go (holds e z) u = let l : short_most < escape_length d = ltb_yes (rw e at u) in rw e (omega arith)
    go (fails e z) u = rw e (ltb_yes (rw e at u))

-- a length that is not above A is at most A
pub within-area : (s : Settings) (n : ℕ) → T (not (above_area s n)) → n ≤ s.area
within-area s n t = ltb_no t

-- ---- a frame at the receive side of a berth with this block size

module _ (s : Settings) (sr : AreaRange s.area) (bs : ℕ) where
  pub record HeardOk (h : Heard) : Type 0 where
    pub side : RxRange s bs h.last h.rx
    pub inside : h.place + length h.bytes ≤ s.area

  ignored-ok : (why : ℕ) (rx : Rx) (last : ℕ) → RxRange s bs last rx → HeardOk (ignored why rx last)
  unfolding ignored
  ignored-ok why rx last r = record { side = r; inside = omega (arith, sr.area-least) }

  last-most : (rx : Rx) (last : ℕ) → RxRange s bs last rx → last ≤ s.area
  last-most Rx.Idle last r = r
  last-most (Rx.OwesOverflow u) last r = r.0
  last-most (Rx.OwesGo p u) last r = omega arith
  last-most (Rx.Awaits p u) last r = omega arith

  single-ok : (rx : Rx) (last : ℕ) (d : List ℕ) → RxRange s bs last rx → HeardOk (single_came rx last d)
  unfolding single_came
  single-ok rx last d r =
      pick-either HeardOk (single_fits d) _ _
      (λ t.
      let l : low d ≤ single_most = single-small d t in
      record { side = omega (arith, sr.area-least); inside = omega (arith, sr.area-least, length-take (low d) (drop 1 d)) })
      (λ t. ignored-ok 3 rx last r)

  taking-ok : (n : ℕ) → least_long ≤ n → n ≤ s.area → TakingRange s bs (taking n)
  taking-ok n a b =
      record {
        total-least = a;
        total-most = b;
        got-least = omega arith;
        got-most = omega arith;
        sn-most = omega arith;
        taken = none-range bs;
      }

  first-ok : (rx : Rx) (last : ℕ) (d : List ℕ) → RxRange s bs last rx → HeardOk (first_came s rx last d)
  unfolding first_came turned_away begun
  first-ok rx last d r =
      pick-either HeardOk (first_fits d) _ _
      (λ t. pick-either HeardOk (above_area s (announced d)) _ _
      (λ u. record { side = (last-most rx last r, omega arith); inside = omega (arith, sr.area-least) })
      (λ u. record {
        side = (refl, taking-ok (announced d) (announced-large d t) (within-area s (announced d) u), omega arith);
        inside = omega (arith, sr.area-least, length-take first_bytes (drop 2 d));
      }))
      (λ t. ignored-ok 3 rx last r)

  grown-ok : (p : Taking) (n : ℕ) → TakingRange s bs p → consecutive_most < missing p → BlockRange bs n → TakingRange s bs (grown p n)
  unfolding grown share next_sn
  grown-ok p n r m b =
      record {
        total-least = r.total-least;
        total-most = r.total-most;
        got-least = omega (arith, r.got-least);
        got-most = omega (arith, r.got-most);
        sn-most = mod-lt (p.sn.0 + 1) (lit< tt);
        taken = b;
      }

  -- the bytes of a consecutive frame end inside the message, and so inside the area
  piece_inside : (p : Taking) (d : List ℕ) → TakingRange s bs p → p.got + length (piece p d) ≤ s.area
  unfolding piece share
  piece_inside p d r = simp (length-take) (omega (arith, r.total-most, r.got-most))

  awaited-ok : (p : Taking) (t last : ℕ) (d : List ℕ) → RxRange s bs last (Rx.Awaits p t) → HeardOk (awaited_came bs p t last d)
  unfolding awaited_came completed took wrong_sn after_took
  awaited-ok p t last d r =
      pick-either HeardOk (consecutive_fits (missing p) d) _ _
      (λ u. pick-either HeardOk (eqb (low d) p.sn.0) _ _
      (λ v. pick-either HeardOk (leb (missing p) consecutive_most) _ _
      (λ w. record { side = r.1.total-most; inside = piece_inside p d r.1 })
      (λ w. record { side = pick-either (RxRange s bs last) (fills_block bs p.taken) _ _ (λ f. full w) (going w); inside = piece_inside p d r.1 }))
      (λ v. record { side = omega arith; inside = omega (arith, sr.area-least) }))
      (λ u. ignored-ok 3 _ last (r.0, r.1, omega (arith, r.2)))
    where
      full : T (not (leb (missing p) consecutive_most)) → RxRange s bs last (Rx.OwesGo (grown p 0) 0)
      full w = (r.0, grown-ok p 0 r.1 (omega tests) (none-range bs), omega arith)

      going : T (not (leb (missing p) consecutive_most)) → T (not (fills_block bs p.taken))
          → RxRange s bs last (Rx.Awaits (grown p (counted bs p.taken)) 0)
      going w f = (r.0, grown-ok p _ r.1 (omega tests) (counted-range bs p.taken r.1.taken (not-filled _ _ f)), omega arith)

  consecutive-ok : (rx : Rx) (last : ℕ) (d : List ℕ) → RxRange s bs last rx → HeardOk (consecutive_came bs rx last d)
  consecutive-ok Rx.Idle last d r = ignored-ok 4 Rx.Idle last r
  consecutive-ok (Rx.OwesOverflow u) last d r = ignored-ok 4 (Rx.OwesOverflow u) last r
  consecutive-ok (Rx.OwesGo p u) last d r = ignored-ok 4 (Rx.OwesGo p u) last r
  consecutive-ok (Rx.Awaits p u) last d r = awaited-ok p u last d r

module _ (s : Settings) (sr : AreaRange s.area) where
  -- ---- a flow control frame at the send side

  granted-ok : (o : Sending) (d : List ℕ) → SendingRange s o → SendingRange s (granted o d)
  unfolding granted
  granted-ok o d r =
      record {
        length-least = r.length-least;
        length_most = r.length_most;
        position-least = r.position-least;
        position-most = r.position-most;
        sn-most = omega (arith, r.sn-most);
        sent = none-range (byte_at d 1);
        gap-most = gap-small (byte_at d 2);
        left-most = omega arith;
      }

  abbrev Fine : Told → Type 0
  Fine told = TxRange s told.tx

  status-ok : (o : Sending) (t : ℕ) (party : Party) (d : List ℕ) → TxRange s (Tx.AwaitsFlow party o t) → TxRange s (by_status o party d).tx
  unfolding by_status granted
  status-ok o t party d r =
      pick-either Fine (eqb (low d) go_status) _ _ (λ u. (granted-ok o d r.0, inl refl, omega arith))
      (λ u. pick-either Fine (eqb (low d) wait_status) _ _ (λ v. (r.0, r.1, r.2, omega arith))
      (λ v. pick-either Fine (eqb (low d) overflow_status) _ _ (λ w. tt) (λ w. tt)))

  flow-ok : (tx : Tx) (d : List ℕ) → TxRange s tx → TxRange s (flow_came tx d).tx
  unfolding flow_ignored
  flow-ok Tx.Idle d r = r
  flow-ok (Tx.SingleDue party n t) d r = r
  flow-ok (Tx.FirstDue party n t) d r = r
  flow-ok (Tx.AwaitsFlow party o t) d r =
      pick-either Fine (flow_fits d) _ _ (λ u. status-ok o t party d r) (λ u. r)
  flow-ok (Tx.Consecutive party o t) d r = r

  -- ---- a frame at the berth

  pub record CameOk (c : Came) : Type 0 where
    pub berth : BerthRange s c.berth
    pub inside : c.place + length c.bytes ≤ s.area

  heard-ok : (b : Berth) (h : Heard) → BerthRange s b → HeardOk s sr b.settings.block h → CameOk (heard_by b h)
  unfolding heard_by
  heard-ok b h r k = record { berth = record { own = r.own; receive = k.side; send = r.send; party = r.party }; inside = k.inside }

  told-ok : (b : Berth) (d : List ℕ) → BerthRange s b → CameOk (told_by b (flow_came b.tx d))
  unfolding told_by
  told-ok b d r =
      record {
        berth = record { own = r.own; receive = r.receive; send = flow-ok b.tx d r.send; party = kept-in-range (party_of b.tx) (flow_came b.tx d).tx (kept-flow (party_of b.tx) b.tx d (kept-own b.tx)) r.party };
        inside = omega (arith, sr.area-least);
      }

  pub came-ok : (b : Berth) (d : List ℕ) → BerthRange s b → CameOk (frame_came s b d)
  unfolding frame_came by_kind
  came-ok b d r =
      let bs = b.settings.block in
      pick-either CameOk (eqb (length d) 0) _ _ (λ t. heard-ok b _ r (ignored-ok s sr bs 1 b.rx b.last r.receive))
      (λ t. pick-either CameOk (eqb (kind d) single_kind) _ _ (λ u. heard-ok b _ r (single-ok s sr bs b.rx b.last d r.receive))
      (λ u. pick-either CameOk (eqb (kind d) first_kind) _ _ (λ v. heard-ok b _ r (first-ok s sr bs b.rx b.last d r.receive))
      (λ v. pick-either CameOk (eqb (kind d) consecutive_kind) _ _ (λ w. heard-ok b _ r (consecutive-ok s sr bs b.rx b.last d r.receive))
      (λ w. pick-either CameOk (eqb (kind d) flow_kind) _ _ (λ x. told-ok b d r)
      (λ x. heard-ok b _ r (ignored-ok s sr bs 2 b.rx b.last r.receive))))))

  -- ---- a tick

  rx-ticked-ok : (bs : ℕ) (rx : Rx) (last : ℕ) → RxRange s bs last rx → RxRange s bs last (rx_ticked rx)
  rx-ticked-ok bs Rx.Idle last r = r
  rx-ticked-ok bs (Rx.OwesOverflow t) last r = ran-either (RxRange s bs last) t _ _ (λ u. (r.0, u)) r.0
  rx-ticked-ok bs (Rx.OwesGo p t) last r = ran-either (RxRange s bs last) t _ _ (λ u. (r.0, r.1, u)) (omega arith)
  rx-ticked-ok bs (Rx.Awaits p t) last r = ran-either (RxRange s bs last) t _ _ (λ u. (r.0, r.1, u)) (omega arith)

  closer-ok : (o : Sending) → SendingRange s o → SendingRange s (closer o)
  closer-ok o r =
      record {
        length-least = r.length-least;
        length_most = r.length_most;
        position-least = r.position-least;
        position-most = r.position-most;
        sn-most = r.sn-most;
        sent = r.sent;
        gap-most = r.gap-most;
        left-most = omega (arith, r.left-most);
      }

  tx-ticked-ok : (tx : Tx) → TxRange s tx → TxRange s (tx_ticked tx)
  tx-ticked-ok Tx.Idle r = r
  tx-ticked-ok (Tx.SingleDue party n t) r = ran-either (TxRange s) t _ _ (λ u. (r.0, r.1, u)) tt
  tx-ticked-ok (Tx.FirstDue party n t) r = ran-either (TxRange s) t _ _ (λ u. (r.0, r.1, u)) tt
  tx-ticked-ok (Tx.AwaitsFlow party o t) r = ran-either (TxRange s) t _ _ (λ u. (r.0, r.1, r.2, u)) tt
  tx-ticked-ok (Tx.Consecutive party o t) r =
      pick-either (TxRange s) (eqb o.left 0) _ _ (λ u. ran-either (TxRange s) t _ _ (λ v. (r.0, inl (eqb_yes u), v)) tt)
      (λ u. (closer-ok o r.0, ⊎_elim (λ z. absurd (eqb_no u z)) (λ z. inr z) r.1, r.2))

  pub ticked-ok : (b : Berth) → BerthRange s b → BerthRange s (ticked b)
  unfolding ticked
  ticked-ok b r =
      record {
        own = r.own;
        receive = rx-ticked-ok b.settings.block b.rx b.last r.receive;
        send = tx-ticked-ok b.tx r.send;
        party = kept-in-range (party_of b.tx) (tx_ticked b.tx) (kept-ticked (party_of b.tx) b.tx (kept-own b.tx)) r.party;
      }

  -- ---- a hand-over

  after-flow-ok : (bs : ℕ) (rx : Rx) (last : ℕ) → RxRange s bs last rx → RxRange s bs last (after_flow rx)
  after-flow-ok bs Rx.Idle last r = r
  after-flow-ok bs (Rx.OwesOverflow t) last r = r.0
  after-flow-ok bs (Rx.OwesGo p t) last r = (
    r.0,
    record {
      total-least = r.1.total-least;
      total-most = r.1.total-most;
      got-least = r.1.got-least;
      got-most = r.1.got-most;
      sn-most = r.1.sn-most;
      taken = none-range bs;
    },
    omega arith,
  )
  after-flow-ok bs (Rx.Awaits p t) last r = r

  opened-ok : (n : ℕ) → least_long ≤ n → n ≤ s.area → SendingRange s (opened n)
  opened-ok n a b =
      record {
        length-least = a;
        length_most = b;
        position-least = omega arith;
        position-most = omega arith;
        sn-most = omega arith;
        sent = none-range 0;
        gap-most = omega arith;
        left-most = omega arith;
      }

  moved_ok : (o : Sending) (n left : ℕ) → SendingRange s o → consecutive_most < to_go o → BlockRange o.block n → left ≤ longest_gap → SendingRange s (moved o n left)
  unfolding moved share next_sn
  moved_ok o n left r m b l =
      record {
        length-least = r.length-least;
        length_most = r.length_most;
        position-least = omega (arith, r.position-least);
        position-most = omega (arith, r.position-most);
        sn-most = mod-lt (o.sn.0 + 1) (lit< tt);
        sent = b;
        gap-most = r.gap-most;
        left-most = l;
      }

  after-consecutive-ok : (o : Sending) (party : Party) → SendingRange s o → TxRange s (after_consecutive o party)
  unfolding after_consecutive moved
  after-consecutive-ok o party r =
      pick-either (TxRange s) (leb (to_go o) consecutive_most) _ _ (λ u. tt)
      (λ u. pick-either (TxRange s) (fills_block o.block o.sent) _ _
      (λ v. (moved_ok o 0 0 r (omega tests) (none-range o.block) (omega arith), refl, refl, omega arith))
      -- that the whole gap is left is no matter of order: rules/proofs/Pace has it
      (λ v. (
        moved_ok o _ _ r (omega tests) (counted-range o.block o.sent r.sent (not-filled _ _ v)) (omega (arith, r.gap-most)),
        inr refl,
        omega arith,
      )))

  after-message-ok : (tx : Tx) → TxRange s tx → TxRange s (after_message tx)
  after-message-ok Tx.Idle r = r
  after-message-ok (Tx.SingleDue party n t) r = tt
  after-message-ok (Tx.FirstDue party n t) r = (opened-ok n r.0 r.1, refl, refl, omega arith)
  after-message-ok (Tx.AwaitsFlow party o t) r = r
  after-message-ok (Tx.Consecutive party o t) r = after-consecutive-ok o party r.0

  pub hand-over-ok : (b : Berth) (area : List ℕ) → BerthRange s b → BerthRange s (hand_over b area).berth
  unfolding hand_over
  hand-over-ok b area r =
      pick-either (λ (g : HandedOver). BerthRange s g.berth) (flow_due b.rx) _ _
      (λ u. record { own = r.own; receive = after-flow-ok b.settings.block b.rx b.last r.receive; send = r.send; party = r.party })
      (λ u. record {
        own = r.own;
        receive = r.receive;
        send = after-message-ok b.tx r.send;
        party = kept-in-range (party_of b.tx) (after_message b.tx) (kept-message (party_of b.tx) b.tx (kept-own b.tx)) r.party;
      })

  -- ---- a send

  begins-ok : (n : ℕ) (party : Party) → 1 ≤ n → n ≤ s.area → TxRange s (begins_with n party)
  unfolding begins_with
  begins-ok n party a b =
      pick-either (TxRange s) (leb n single_most) _ _ (λ u. (a, leb_yes u, omega arith)) (λ u. (omega tests, b, omega arith))

  pub sent-ok : (b : Berth) (n : ℕ) (party : Party) → 1 ≤ n → n ≤ s.area → party.0 ≤ the_laptop → BerthRange s b → BerthRange s (sent b n party)
  unfolding sent
  sent-ok b n party a c l r =
      record { own = r.own; receive = r.receive; send = begins-ok n party a c; party = kept-in-range party (begins_with n party) (kept-begins n party) l }

  -- ---- a change

  -- where no reception is under way the receive side is in range whatever the block size
  any-block : (bs bs' : ℕ) (rx : Rx) (last : ℕ) → T (not (under_way rx)) → RxRange s bs last rx → RxRange s bs' last rx
  any-block bs bs' Rx.Idle last e r = r
  any-block bs bs' (Rx.OwesOverflow t) last e r = r
  any-block bs bs' (Rx.OwesGo p t) last e r = absurd e
  any-block bs bs' (Rx.Awaits p t) last e r = absurd e

  -- a value that is allowed leaves the settings in range
  changed-own : (o : BerthSettings) (parameter value : ℕ) → T (value_allowed parameter value) → OwnRange o.block o.stmin
      → OwnRange (changed_settings o parameter value).block (changed_settings o parameter value).stmin
  unfolding value_allowed changed_settings
  changed-own o parameter value t r = go (eqb-cases parameter stmin_parameter)
    where
      go : Tested (eqb parameter stmin_parameter) (parameter ≡ stmin_parameter) (parameter ≡ stmin_parameter → ⊥)
          → OwnRange (changed_settings o parameter value).block (changed_settings o parameter value).stmin
      go (holds e x) = rw e (record { block-most = r.block-most; stmin-allowed = stmin-range value (rw e at t) })
      go (fails e x) = rw e (record { block-most = leb_yes (rw e at t); stmin-allowed = r.stmin-allowed })

  pub changed-ok : (b : Berth) (parameter value : ℕ) → T (value_allowed parameter value) → T (not (under_way b.rx))
      → BerthRange s b → BerthRange s (changed b parameter value)
  unfolding changed
  changed-ok b parameter value t e r =
      record {
        own = changed-own b.settings parameter value t r.own;
        receive = any-block b.settings.block _ b.rx b.last e r.receive;
        send = r.send;
        party = r.party;
      }

-- ---- the node

pub reached-small : (n : Node) → reached n < berth_count
unfolding reached
reached-small n = mod-lt (n.served + 1 + passed_over n) (lit< tt)

-- the node with one berth anew
with-ok : (n : Node) (k at : ℕ) (b : Berth) → at < berth_count → BerthRange n.settings b → InOrder n
    → InOrder (record { settings = n.settings; served = at; berths = set n.berths k b })
unfolding berth_at
with-ok n k at b l r o =
    record { settings = o.settings; served = l; ten = length-set n.berths k b ∙ o.ten; berth = λ j h. go j h (eqb-cases j k) }
  where
    go : (j : ℕ) → j < berth_count → Tested (eqb j k) (j ≡ k) (j ≡ k → ⊥) → BerthRange n.settings (get_or (set n.berths k b) j fresh)
    go j h (holds e x) = let ten = o.ten in rw (x, get_or-set_same n.berths k b fresh (omega arith)) r
    go j h (fails e x) = rw (get_or-set_other n.berths k j b fresh x) (o.berth j h)

pub ticked-fresh : ticked fresh ≡ fresh
unfolding ticked
ticked-fresh = refl

pub berth-ticked : (n : Node) (k : ℕ) → berth_at (ticked_node n) k ≡ ticked (berth_at n k)
unfolding berth_at ticked_node
berth-ticked n k = ap (get_or (map ticked n.berths) k) (sym ticked-fresh) ∙ get_or-map ticked n.berths k fresh

tick-ok : (n : Node) → InOrder n → InOrder (ticked_node n)
unfolding ticked_node
tick-ok n o =
    record {
      settings = o.settings;
      served = o.served;
      ten = length-map n.berths ticked ∙ o.ten;
      berth = λ k h. rw (berth-ticked n k) (ticked-ok n.settings o.settings (berth_at n k) (o.berth k h));
    }

done_ok : (h : Held) (c : Call) → refusal h c ≡ 0 → InOrder h.node → InOrder (done h c).node
unfolding done after_frame after_turn with_berth served_node came_at handed_at
done_ok h (Call.frame id d) e o =
    let a = frame-answered h id d e in
    with-ok h.node (sender_of id) h.node.served _ o.served
    (came-ok h.node.settings o.settings _ d (o.berth (sender_of id) a.mine)).berth o
done_ok h Call.tick e o = tick-ok h.node o
done_ok h (Call.send k party m) e o =
    let a = send-answered h k party m e in
    with-ok h.node k h.node.served _ o.served
    (sent-ok h.node.settings o.settings _ (length m) (record { 0 = party }) a.some a.fits a.allowed (o.berth k a.mine)) o
done_ok h (Call.turn buffer) e o =
    pick-either (λ (g : Held). InOrder g.node) (ltb (passed_over h.node) berth_count) _ _
    (λ t. with-ok h.node (reached h.node) (reached h.node) _ (reached-small h.node)
    (hand-over-ok h.node.settings o.settings _ _ (o.berth (reached h.node) (reached-small h.node))) o)
    (λ t. o)
done_ok h (Call.show k choice) e o = o
done_ok h (Call.change k parameter value) e o =
    let a = change-answered h k parameter value e in
    with-ok h.node k h.node.served _ o.served
    (changed-ok h.node.settings o.settings _ parameter value a.allowed a.free (o.berth k a.mine)) o

-- EVERY CALL KEEPS A NODE IN ORDER, refused or not
pub order-kept : (h : Held) (c : Call) → InOrder h.node → InOrder (outcome h c).held.node
unfolding outcome refused_outcome
order-kept h c o = go (refusal h c) refl
  where
    go : (n : ℕ) → refusal h c ≡ n
        → InOrder (unless n (refused_outcome h (buffer_of c)) (record { answer = reply h c; held = done h c; buffer = written h c })).held.node
    go zero e = done_ok h c e o
    go (suc n) e = o

-- AND SO DOES EVERY RUN
pub run-in-order : (h : Held) (cs : List Call) → InOrder h.node → InOrder (final h cs).node
unfolding final
run-in-order h [] o = o
run-in-order h (c ∷ cs) o = run-in-order (outcome h c).held cs (order-kept h c o)

fresh_ok : (s : Settings) (own : BerthSettings) → OwnRange own.block own.stmin → BerthRange s (fresh_with own)
fresh_ok s own r = record { own = r; receive = omega arith; send = tt; party = omega arith }

set-up-node-ok : (s : Settings) (own : BerthSettings) → SettingsRange s.area own.block own.stmin → InOrder (set_up_node s own)
unfolding set_up_node berth_at
set-up-node-ok s own r =
    record {
      settings = r.area;
      served = omega arith;
      ten = refl;
      berth = λ k h. rw (get_or-replicate berth_count k (fresh_with own) fresh h) (fresh_ok s own r.own);
    }

-- A SET-UP THAT IS ANSWERED IS IN ORDER, whatever the node held before
pub set-up-in-order : (h : Held) (a bs stmin : ℕ) → set_up_refusal a bs stmin ≡ 0 → InOrder (set_up_outcome h a bs stmin).held.node
unfolding set_up_outcome set_up_refusal
set-up-in-order h a bs stmin e =
    rw e (set-up-node-ok (record { area = a }) (record { block = bs; stmin = stmin }) (settings-range a bs stmin (met _ _ _ e).0))
