-- Frames needed is the number of data frames that the rules hand over. Every send side has a number of frames left; a data frame
-- handed over takes one away, and nothing else that does not end the sending moves it.
use mathlib.Core.Path.{◌≡◌, refl, ◌∙◌}
use Prim.Native.Nat.{ℕ, suc, ◌+◌, ◌-◌, ◌*◌, ◌/◌, ◌%◌, ◌≤◌, ◌<◌}
use native.Mathlib.Omega.{arith}
use native.Mathlib.Nat.{zero-add}
use mathlib.Core.List.{List, [], ◌∷◌}
use lib.ListN.{length, take, drop, length-take}
use lib.Dec.{T, eqb, ltb, leb}
use Rattle.rules.specs.Numbers.{flow_kind, timeout, go_status, wait_status, overflow_status, single_most, first_bytes, consecutive_most, largest_area, the_laptop}
use Rattle.rules.specs.Parties.{scheduler}
use Rattle.rules.specs.Ranges.{AreaRange, TxRange, BerthRange}
use Rattle.rules.specs.Frames.{kind, low, padded, single_frame, first_frame, consecutive_frame, go_frame, overflow_frame, flow_fits, fills_block, share, rounded_up, needed, frames_needed}
use Rattle.rules.specs.Arrivals.{Told, granted, by_status, flow_ignored, flow_came, Came, heard_by, told_by, frame_came}
use Rattle.rules.specs.Ticks.{ran, tx_ticked, ticked}
use Rattle.rules.specs.Turns.{flow_due, message_due, flow_frame, to_go, message_frame, message_code, message_party, moved, after_consecutive, after_message, HandedOver, hand_over, begins_with, sent, busy}
use Rattle.rules.specs.Changes.{changed}
use Rattle.rules.specs.Events.{Event, arrives, ticks, sends, turns, changes}
use Rattle.rules.specs.Alone.{Part, hands, state_after, part_after, says, alone, says_all, AtEach}
use Rattle.rules.specs.Handing.{data_frames, data_total, Carried, CarriedAll}
use Rattle.rules.specs.declared.Party.{Party}
use Rattle.rules.specs.declared.Settings.{Settings}
use Rattle.rules.specs.declared.BerthSettings.{BerthSettings}
use Rattle.rules.specs.declared.Sending.{Sending}
use Rattle.rules.specs.declared.Rx.{Rx}
use Rattle.rules.specs.declared.Tx.{Tx}
use Rattle.rules.specs.declared.Berth.{Berth}
use Rattle.rules.proofs.Cases.{Tested, holds, fails, eqb-not, ltb-is, leb-is, leb-cases, pick-either}
use Rattle.rules.proofs.Order.{came-ok, ticked-ok, hand-over-ok, sent-ok, changed-ok}
use Rattle.rules.proofs.Facts.{frame-either}

-- ---- the frames left

unfoldable frames_left : Tx → ℕ
frames_left Tx.Idle = 0
frames_left (Tx.SingleDue party n t) = 1
frames_left (Tx.FirstDue party n t) = 1 + rounded_up (n - first_bytes) consecutive_most
frames_left (Tx.AwaitsFlow party o t) = rounded_up (to_go o) consecutive_most
frames_left (Tx.Consecutive party o t) = rounded_up (to_go o) consecutive_most

begins-left : (n : ℕ) (party : Party) → 1 ≤ n → n ≤ largest_area → frames_left (begins_with n party) ≡ frames_needed n
unfolding frames_left begins_with frames_needed needed
begins-left n party a b = go (leb-cases n single_most)
  where
    go : Tested (leb n single_most) (n ≤ single_most) (single_most < n) → frames_left (begins_with n party) ≡ frames_needed n
    go (holds e l) = rw (e, leb-is 1 n a)
    go (fails e l) = rw (e, leb-is 1 n a, ltb-is single_most n l, leb-is n largest_area b)

-- ---- a data frame handed over takes one away

consecutive-falls : (o : Sending) (party : Party) → 1 ≤ to_go o → frames_left (Tx.Consecutive party o 0) ≡ suc (frames_left (after_consecutive o party))
unfolding frames_left after_consecutive moved share
consecutive-falls o party l = go (leb-cases (to_go o) consecutive_most)
  where
    go : Tested (leb (to_go o) consecutive_most) (to_go o ≤ consecutive_most) (consecutive_most < to_go o)
        → frames_left (Tx.Consecutive party o 0) ≡ suc (frames_left (after_consecutive o party))
    go (holds e m) = rw e (omega arith)
    go (fails e m) =
        rw e (pick-either (λ (x : Tx). frames_left (Tx.Consecutive party o 0) ≡ suc (frames_left x)) (fills_block o.block o.sent) _ _ (λ u. omega arith) (λ u. omega arith))

module _ (s : Settings) where
  message-falls : (tx : Tx) → TxRange s tx → T (message_due tx) → frames_left tx ≡ suc (frames_left (after_message tx))
  unfolding frames_left
  message-falls Tx.Idle r t = absurd t
  message-falls (Tx.SingleDue party n u) r t = refl
  message-falls (Tx.FirstDue party n u) r t = omega arith
  message-falls (Tx.AwaitsFlow party o u) r t = absurd t
  message-falls (Tx.Consecutive party o u) r t = let m = r.0.position-most in consecutive-falls o party (omega arith)

-- ---- nothing else moves it

flow-stays : (tx : Tx) (d : List ℕ) → (T (busy tx) → T (busy (flow_came tx d).tx)) → frames_left (flow_came tx d).tx ≡ frames_left tx
unfolding flow_ignored by_status frames_left granted
flow-stays Tx.Idle d = λ f. refl
flow-stays (Tx.SingleDue party n t) d = λ f. refl
flow-stays (Tx.FirstDue party n t) d = λ f. refl
flow-stays (Tx.AwaitsFlow party o t) d =
    let K : Told → Type 0 = λ told. (Unit {0} → T (busy told.tx)) → frames_left told.tx ≡ frames_left (Tx.AwaitsFlow party o t) in
    pick-either K (flow_fits d) _ _
    (λ u. pick-either K (eqb (low d) go_status) _ _ (λ v f. refl)
    (λ v. pick-either K (eqb (low d) wait_status) _ _ (λ w f. refl)
    (λ w. pick-either K (eqb (low d) overflow_status) _ _ (λ x f. absurd (f tt)) (λ x f. absurd (f tt)))))
    (λ u f. refl)
flow-stays (Tx.Consecutive party o t) d = λ f. refl

frame-stays : (s : Settings) (b : Berth) (d : List ℕ) → (T (busy b.tx) → T (busy (frame_came s b d).berth.tx))
    → frames_left (frame_came s b d).berth.tx ≡ frames_left b.tx
unfolding heard_by told_by
frame-stays s b d =
    frame-either (λ (c : Came). (T (busy b.tx) → T (busy c.berth.tx)) → frames_left c.berth.tx ≡ frames_left b.tx) s b d
    (λ i f. refl) (λ f. refl) (λ f. refl) (λ f. refl) (flow-stays b.tx d)

-- a timer that goes on leaves it, and one that ends the side is excluded
ran-stays : (tx : Tx) (t : ℕ) (on : ℕ → Tx) → ((u : ℕ) → frames_left (on u) ≡ frames_left tx)
    → (Unit {0} → T (busy (ran t on Tx.Idle))) → frames_left (ran t on Tx.Idle) ≡ frames_left tx
unfolding ran
ran-stays tx t on same =
    pick-either (λ (x : Tx). (Unit {0} → T (busy x)) → frames_left x ≡ frames_left tx) (ltb (t + 1) timeout) _ _ (λ u f. same (t + 1)) (λ u f. absurd (f tt))

tick-stays : (tx : Tx) → (T (busy tx) → T (busy (tx_ticked tx))) → frames_left (tx_ticked tx) ≡ frames_left tx
unfolding frames_left
tick-stays Tx.Idle = λ f. refl
tick-stays (Tx.SingleDue party n t) = ran-stays (Tx.SingleDue party n t) t _ (λ u. refl)
tick-stays (Tx.FirstDue party n t) = ran-stays (Tx.FirstDue party n t) t _ (λ u. refl)
tick-stays (Tx.AwaitsFlow party o t) = ran-stays (Tx.AwaitsFlow party o t) t _ (λ u. refl)
tick-stays (Tx.Consecutive party o t) =
    pick-either (λ (x : Tx). (Unit {0} → T (busy x)) → frames_left x ≡ frames_left (Tx.Consecutive party o t)) (eqb o.left 0) _ _
    (λ u. ran-stays (Tx.Consecutive party o t) t _ (λ v. refl)) (λ u f. refl)

-- ---- one turn

data-one : (x : ℕ) (rest : List ℕ) (c : ℕ) (who : Party) → x / 16 < flow_kind → data_frames (hands (padded (x ∷ rest)) c who) ≡ 1
unfolding padded kind
data-one x rest c who h = rw (eqb-not (x / 16) flow_kind (λ e. omega arith), eqb-not (length (padded (x ∷ rest))) 0 (λ e. omega arith))

flow-none : (s : BerthSettings) (rx : Rx) (c : ℕ) (who : Party) → T (flow_due rx) → data_frames (hands (flow_frame s rx) c who) ≡ 0
unfolding overflow_frame go_frame padded kind
flow-none s Rx.Idle c who t = absurd t
flow-none s (Rx.OwesOverflow u) c who t = refl
flow-none s (Rx.OwesGo p u) c who t = refl
flow-none s (Rx.Awaits p u) c who t = absurd t

module _ (s : Settings) (sr : AreaRange s.area) where
  message-counts : (tx : Tx) (area : List ℕ) (c : ℕ) (who : Party) → TxRange s tx
      → data_frames (hands (message_frame tx area) c who) + frames_left (after_message tx) ≡ frames_left tx
  unfolding single_frame first_frame consecutive_frame frames_left
  message-counts Tx.Idle area c who r = refl
  message-counts (Tx.SingleDue party n u) area c who r =
      let m = r.1 in
      let one = data-one (0 * 16 + length (take n area)) (take n area) c who (omega (arith, length-take n area)) in
      omega arith
  message-counts (Tx.FirstDue party n u) area c who r =
      let m = r.1 in
      let a = sr.area-most in
      let one = data-one (1 * 16 + n / 256) (n % 256 ∷ take first_bytes area) c who (omega arith) in
      omega arith
  message-counts (Tx.AwaitsFlow party o u) area c who r = zero-add _
  message-counts (Tx.Consecutive party o u) area c who r =
      let m = r.0.sn-most in
      let l = r.0.position-most in
      let one = data-one (2 * 16 + o.sn.0) (take (share consecutive_most (to_go o)) (drop o.position area)) c who (omega arith) in
      let falls = consecutive-falls o party (omega arith) in
      omega arith

  turn-counts : (b : Berth) (area : List ℕ) → BerthRange s b
      → data_frames (hands (hand_over b area).frame (hand_over b area).code (hand_over b area).party) + frames_left (hand_over b area).berth.tx ≡ frames_left b.tx
  unfolding hand_over
  turn-counts b area r =
      pick-either (λ (g : HandedOver). data_frames (hands g.frame g.code g.party) + frames_left g.berth.tx ≡ frames_left b.tx) (flow_due b.rx) _ _
      (λ t. rw (flow-none b.settings b.rx 0 scheduler t) (zero-add _)) (λ t. message-counts b.tx area (message_code b.tx) (message_party b.tx) r.send)

  -- ---- runs

  step_counts : (p : Part) (e : Event) → BerthRange s p.berth → Carried s p e
      → data_frames (says s p e) + frames_left (part_after s p e).berth.tx ≡ frames_left p.berth.tx
  unfolding says state_after part_after ticked
  step_counts p (arrives d) r f = zero-add _ ∙ frame-stays s p.berth d f
  step_counts p ticks r f = zero-add _ ∙ tick-stays p.berth.tx f
  step_counts p (sends party m) r f = absurd f
  step_counts p turns r f = turn-counts p.berth p.outgoing r
  step_counts p (changes parameter value) r f = unfold changed in (zero-add _)

  step_ok : (p : Part) (e : Event) → BerthRange s p.berth → Carried s p e → BerthRange s (part_after s p e).berth
  unfolding state_after part_after
  step_ok p (arrives d) r f = (came-ok s sr p.berth d r).berth
  step_ok p ticks r f = ticked-ok s sr p.berth r
  step_ok p (sends party m) r f = absurd f
  step_ok p turns r f = hand-over-ok s sr p.berth p.outgoing r
  step_ok p (changes parameter value) r f = changed-ok s sr p.berth parameter value f.1 f.2 r

  run-counts : (es : List Event) (p : Part) → BerthRange s p.berth → CarriedAll s p es
      → data_total (says_all s p es) + frames_left (alone s p es).berth.tx ≡ frames_left p.berth.tx
  unfolding data_total says_all alone AtEach
  run-counts [] p r f = zero-add _
  run-counts (e ∷ es) p r f =
      let one = step_counts p e r f.0 in
      let rest = run-counts es (part_after s p e) (step_ok p e r f.0) f.1 in
      omega arith

  -- FRAMES NEEDED is the number of data frames that the rules hand over: after a send of 1 to A bytes, in any run of the berth's
  -- events that does not end the sending before its time and leaves the side idle
  pub needed-handed : (p : Part) (party : Party) (m : List ℕ) (es : List Event) → BerthRange s p.berth → party.0 ≤ the_laptop → 1 ≤ length m → length m ≤ s.area
      → CarriedAll s (part_after s p (sends party m)) es → (alone s (part_after s p (sends party m)) es).berth.tx ≡ Tx.Idle
      → data_total (says_all s (part_after s p (sends party m)) es) ≡ frames_needed (length m)
  unfolding frames_left state_after part_after sent
  needed-handed p party m es r l a b f idle =
      let start = part_after s p (sends party m) in
      let total = run-counts es start (sent-ok s sr p.berth (length m) party a b l r) f in
      let none : frames_left (alone s start es).berth.tx ≡ 0 = rw idle in
      let most = sr.area-most in
      let begins : frames_left start.berth.tx ≡ frames_needed (length m) = begins-left (length m) party a (omega arith) in
      omega arith
