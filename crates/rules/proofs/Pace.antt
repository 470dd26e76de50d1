-- How a berth's events move the gap that its send side keeps. A side that hands over consecutive frames took its gap from the last Going:
-- only a Going changes it, a consecutive frame handed over puts the whole gap before the next one, and a tick takes at most one off.
use mathlib.Core.Path.{◌≡◌, refl, sym, ◌∙◌}
use Prim.Native.Nat.{ℕ, ◌+◌, ◌≤◌}
use native.Mathlib.Omega.{arith}
use mathlib.Core.Bool.{not}
use mathlib.Core.List.{List}
use lib.Dec.{T, eqb, ltb, leb}
use mir.Facts.{eqb_yes, eqb_no}
use Rattle.rules.specs.Numbers.{timeout, short_most, consecutive_kind, flow_kind, single_most, consecutive_most}
use Rattle.rules.specs.Ranges.{BerthRange}
use Rattle.rules.specs.Frames.{byte_at, kind, single_fits, announced, first_fits, fills_block, gap_of}
use Rattle.rules.specs.Arrivals.{Heard, ignored, single_came, above_area, turned_away, begun, first_came, completed, took, wrong_sn, consecutive_came, Told, granted, flow_ignored, Came, heard_by, told_by, frame_came, is_going}
use Rattle.rules.specs.Ticks.{ran, tx_ticked}
use Rattle.rules.specs.Turns.{flow_due, message_due, due, to_go, moved, after_consecutive, message_frame, after_message, HandedOver, hand_over, begins_with}
use Rattle.rules.specs.Words.{reason_number}
use Rattle.rules.specs.declared.Party.{Party}
use Rattle.rules.specs.declared.Settings.{Settings}
use Rattle.rules.specs.declared.Rx.{Rx}
use Rattle.rules.specs.declared.Tx.{Tx}
use Rattle.rules.specs.declared.Berth.{Berth}
use Rattle.rules.proofs.Cases.{Tested, holds, fails, test-cases, pick-either}
use Rattle.rules.proofs.Facts.{frame-either, told-either, consecutive-either}
use Rattle.rules.proofs.Handed.{due_kind, flow-kind, message-kind}

-- a side that hands over consecutive frames keeps the gap g, and what is left of it, with n ticks that came, is at least the m wanted
abbrev pub Paced : (g m n : ℕ) → Tx → Type 0
Paced g m n Tx.Idle = Unit {0}
Paced g m n (Tx.SingleDue party l t) = Unit {0}
Paced g m n (Tx.FirstDue party l t) = Unit {0}
Paced g m n (Tx.AwaitsFlow party o t) = Unit {0}
Paced g m n (Tx.Consecutive party o t) = (o.gap ≡ g) × (m ≤ o.left + n)

-- ---- only flow control is answered Going

abbrev NotGoing : Heard → Type 0
NotGoing h = T (is_going h.word) → ⊥

ignored-not : (why : ℕ) (rx : Rx) (last : ℕ) → NotGoing (ignored why rx last)
unfolding ignored
ignored-not why rx last t = t

single-not : (rx : Rx) (last : ℕ) (d : List ℕ) → NotGoing (single_came rx last d)
unfolding single_came
single-not rx last d = pick-either NotGoing (single_fits d) _ _ (λ u t. t) (λ u. ignored-not 3 rx last)

first-not : (s : Settings) (rx : Rx) (last : ℕ) (d : List ℕ) → NotGoing (first_came s rx last d)
unfolding first_came turned_away begun
first-not s rx last d =
    pick-either NotGoing (first_fits d) _ _ (λ u. pick-either NotGoing (above_area s (announced d)) _ _ (λ v t. t) (λ v t. t))
    (λ u. ignored-not 3 rx last)

consecutive-not : (bs : ℕ) (rx : Rx) (last : ℕ) (d : List ℕ) → NotGoing (consecutive_came bs rx last d)
unfolding completed took wrong_sn
consecutive-not bs rx last d = consecutive-either NotGoing bs rx last d (λ why. ignored-not (reason_number why) rx last) (λ p t. t) (λ p t. t) (λ t. t)

-- ---- a frame

-- GOING TAKES THE GAP of the STmin that it carries
pub going-paced : (s : Settings) (b : Berth) (d : List ℕ) → T (is_going (frame_came s b d).word)
    → Paced (gap_of (byte_at d 2)) 0 0 (frame_came s b d).berth.tx
unfolding heard_by told_by flow_ignored granted
going-paced s b d =
    frame-either (λ (c : Came). T (is_going c.word) → Paced (gap_of (byte_at d 2)) 0 0 c.berth.tx) s b d
    (λ why t. absurd (ignored-not (reason_number why) b.rx b.last t)) (λ t. absurd (single-not b.rx b.last d t))
    (λ t. absurd (first-not s b.rx b.last d t)) (λ t. absurd (consecutive-not b.settings.block b.rx b.last d t))
    (told-either (λ (told : Told). T (is_going told.word) → Paced (gap_of (byte_at d 2)) 0 0 told.tx) b.tx d
    (λ why t. absurd t) (λ o party t. (refl, omega arith)) (λ o party t. absurd t) (λ code party t. absurd t))

module _ (g m n : ℕ) where
  -- any other frame leaves it
  pub frame-paced : (s : Settings) (b : Berth) (d : List ℕ) → T (not (is_going (frame_came s b d).word)) → Paced g m n b.tx
      → Paced g m n (frame_came s b d).berth.tx
  unfolding heard_by told_by flow_ignored
  frame-paced s b d =
      frame-either (λ (c : Came). T (not (is_going c.word)) → Paced g m n b.tx → Paced g m n c.berth.tx) s b d
      (λ why t p. p) (λ t p. p) (λ t p. p) (λ t p. p)
      (told-either (λ (told : Told). T (not (is_going told.word)) → Paced g m n b.tx → Paced g m n told.tx) b.tx d
      (λ why t p. p) (λ o party t p. absurd t) (λ o party t p. tt) (λ code party t p. tt))

  -- ---- a tick takes at most one off what is left

  pub tick-paced : (tx : Tx) → Paced g m n tx → Paced g m (n + 1) (tx_ticked tx)
  unfolding ran
  tick-paced Tx.Idle p = tt
  tick-paced (Tx.SingleDue party l t) p = pick-either (Paced g m (n + 1)) (ltb (t + 1) timeout) _ _ (λ u. tt) (λ u. tt)
  tick-paced (Tx.FirstDue party l t) p = pick-either (Paced g m (n + 1)) (ltb (t + 1) timeout) _ _ (λ u. tt) (λ u. tt)
  tick-paced (Tx.AwaitsFlow party o t) p = pick-either (Paced g m (n + 1)) (ltb (t + 1) timeout) _ _ (λ u. tt) (λ u. tt)
  tick-paced (Tx.Consecutive party o t) (gap, left) =
      pick-either (Paced g m (n + 1)) (eqb o.left 0) _ _
      (λ u. pick-either (Paced g m (n + 1)) (ltb (t + 1) timeout) (Tx.Consecutive party o (t + 1)) Tx.Idle (λ v. (gap, omega (arith, left))) (λ v. tt))
      (λ u. let some : o.left ≡ 0 → ⊥ = eqb_no u in (gap, omega (arith, left, some)))

  -- ---- a message that begins has no gap yet

  pub begins-paced : (l : ℕ) (party : Party) → Paced g m n (begins_with l party)
  unfolding begins_with
  begins-paced l party = pick-either (Paced g m n) (leb l single_most) _ _ (λ u. tt) (λ u. tt)

  -- ---- a hand-over

  -- after a message's frame the whole gap is before the next one
  message-paced : (l : ℕ) (tx : Tx) → Paced g m n tx → Paced g g l (after_message tx)
  unfolding after_consecutive moved
  message-paced l Tx.Idle p = tt
  message-paced l (Tx.SingleDue party k t) p = tt
  message-paced l (Tx.FirstDue party k t) p = tt
  message-paced l (Tx.AwaitsFlow party o t) p = tt
  message-paced l (Tx.Consecutive party o t) (gap, left) =
      pick-either (Paced g g l) (leb (to_go o) consecutive_most) _ _ (λ u. tt)
      (λ u. pick-either (Paced g g l) (fills_block o.block o.sent) _ _ (λ v. tt) (λ v. (gap, omega (arith, gap))))

  -- so no turn makes less of it
  pub turn-paced : (b : Berth) (area : List ℕ) → m ≤ g → Paced g m n b.tx → Paced g m n (hand_over b area).berth.tx
  unfolding hand_over
  turn-paced b area small p =
      pick-either (λ (h : HandedOver). Paced g m n h.berth.tx) (flow_due b.rx) _ _ (λ u. p)
      (λ u. at_most (after_message b.tx) (message-paced n b.tx p))
    where
      at_most : (tx : Tx) → Paced g g n tx → Paced g m n tx
      at_most Tx.Idle q = tt
      at_most (Tx.SingleDue party l t) q = tt
      at_most (Tx.FirstDue party l t) q = tt
      at_most (Tx.AwaitsFlow party o t) q = tt
      at_most (Tx.Consecutive party o t) (gap, left) = (gap, omega (arith, small, left))

  -- A CONSECUTIVE FRAME IS HANDED OVER where nothing is left of the gap, and then the whole gap is before the next one
  pub consecutive-paced : (s : Settings) (b : Berth) (area : List ℕ) → s.area ≤ short_most → BerthRange s b → T (due b)
      → kind (hand_over b area).frame ≡ consecutive_kind → Paced g m n b.tx → (m ≤ n) × Paced g g 0 (hand_over b area).berth.tx
  unfolding hand_over due
  consecutive-paced s b area a r t = go (test-cases (flow_due b.rx))
    where
      left-none : (tx : Tx) → due_kind tx ≡ consecutive_kind → T (message_due tx) → Paced g m n tx → m ≤ n
      left-none Tx.Idle e u p = absurd u
      left-none (Tx.SingleDue party l v) e u p = absurd (omega (arith, e))
      left-none (Tx.FirstDue party l v) e u p = absurd (omega (arith, e))
      left-none (Tx.AwaitsFlow party o v) e u p = absurd u
      left-none (Tx.Consecutive party o v) e u (gap, left) = let none : o.left ≡ 0 = eqb_yes u in omega (arith, none, left)

      go : Tested (flow_due b.rx) (T (flow_due b.rx)) (T (not (flow_due b.rx)))
          → kind (hand_over b area).frame ≡ consecutive_kind → Paced g m n b.tx → (m ≤ n) × Paced g g 0 (hand_over b area).berth.tx
      go (holds e u) k p = let f : kind (hand_over b area).frame ≡ flow_kind = rw e (flow-kind b.settings b.rx u) in absurd (omega (arith, k, f))
      go (fails e u) k p =
          let now : T (message_due b.tx) = rw e at t in
          let f : kind (message_frame b.tx area) ≡ consecutive_kind = rw e at k in
          (left-none b.tx (sym (message-kind s b.tx area a r.send now) ∙ f) now p, rw e (message-paced 0 b.tx p))
