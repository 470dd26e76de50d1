-- In every phase but the last there is something to do that leads nearer: a frame to carry, one to hand over, or, while a gap is left, a
-- tick; and the taker, unless it is idle, has lost no more of its time than the longest gap if frames are carried at once.
use mathlib.Core.Path.{◌≡◌, refl, sym, ◌∙◌, subst}
use Prim.Native.Nat.{ℕ, zero, suc, ◌+◌, ◌*◌, ◌≤◌, ◌<◌}
use native.Mathlib.Omega.{arith}
use mathlib.Core.Bool.{true, false}
use mathlib.Core.Logic.{◌⊎◌, inl, inr, ⊎_elim}
use mathlib.Core.List.{List, [], ◌∷◌, ◌++◌, nil≢cons, head-eq_of_cons-eq}
use lib.ListN.{length}
use lib.Dec.{T, eqb, ltb}
use Rattle.rules.specs.Numbers.{timeout, longest_gap, short_most}
use Rattle.rules.specs.Frames.{fills_block}
use Rattle.rules.specs.Arrivals.{frame_came}
use Rattle.rules.specs.Ticks.{ran, rx_code, closer, tx_code}
use Rattle.rules.specs.Turns.{flow_due, message_due, after_flow}
use Rattle.rules.specs.Clocks.{rx_clock, tx_clock, time_left, gap_left}
use Rattle.rules.specs.declared.Settings.{Settings}
use Rattle.rules.specs.declared.BerthSettings.{BerthSettings}
use Rattle.rules.specs.declared.Taking.{Taking}
use Rattle.rules.specs.declared.Sending.{Sending}
use Rattle.rules.specs.declared.Party.{Party}
use Rattle.rules.specs.declared.Rx.{Rx}
use Rattle.rules.specs.declared.Tx.{Tx}
use Rattle.rules.proofs.Cases.{Tested, holds, fails, eqb-cases, ltb-is, pick-either}
use Rattle.laws.specs.Line.{Handed}
use Rattle.laws.proofs.Frames.{pos_at, span, frame_at}
use Rattle.laws.proofs.Line.{Line, TakeAt, pace, Phase, single-ready, single-sent, first-ready, first-sent, go-owed, go-sent, in-block, block-full, last-sent, arrived, under-way, all-sent, Nearer, hand_s, hand_r, tick_s, tick_r, took_r, took_s, taker_berth, sender_berth, gap-falls, gap-closes, went, granted-go, took_more, took-last, heard-single, heard-first}

-- a side is idle or has all its time left
abbrev Whole : Rx → Type 0
Whole rx = (rx ≡ Rx.Idle) ⊎ (time_left (rx_clock rx) ≡ timeout)

-- it is idle, or the time that it has lost and the gap still to come are together at most the longest gap
abbrev Lasts : ℕ → Rx → Type 0
Lasts gap rx = (rx ≡ Rx.Idle) ⊎ (timeout + gap ≤ time_left (rx_clock rx) + longest_gap)

whole-lasts : (gap : ℕ) (rx : Rx) → gap ≤ longest_gap → Whole rx → Lasts gap rx
whole-lasts gap rx few = ⊎_elim (λ e. inl e) (λ e. inr (omega arith))

awaits-lasts : (gap : ℕ) (p : Taking) (u : ℕ) → Lasts gap (Rx.Awaits p u) → timeout + gap ≤ time_left (rx_clock (Rx.Awaits p u)) + longest_gap
awaits-lasts gap p u = ⊎_elim (λ e. let z : ◌≡◌ {A = ℕ} 0 1 = cc in absurd (omega arith)) (λ l. l)

-- with none on the way, the taker lasts out the gap
abbrev pub Young : Line → Type 0
Young l = l.to_r ≡ [] → Lasts (gap_left (tx_clock l.tx)) l.rx

pub young-start : (l : Line) → l.rx ≡ Rx.Idle → Young l
young-start l e z = inl e

snoc-some : {X : Type 0} (xs : List X) (x : X) → xs ++ (x ∷ []) ≡ [] → ⊥
snoc-some [] x e = nil≢cons (sym e)
snoc-some (y ∷ xs) x e = nil≢cons (sym e)

flow-whole : (rx : Rx) → T (flow_due rx) → Whole (after_flow rx)
flow-whole Rx.Idle t = absurd t
flow-whole (Rx.OwesOverflow u) t = inl refl
flow-whole (Rx.OwesGo p u) t = inr refl
flow-whole (Rx.Awaits p u) t = absurd t

module _ (i j : ℕ) (set : Settings) (party : Party) (n : ℕ) (out : List ℕ) (E : BerthSettings → List Handed) where
  gap-most : (l : Line) (m : ℕ) → Phase i j set party n out E l m → gap_left (tx_clock l.tx) ≤ longest_gap
  gap-most l m (single-ready t last ina a b e) = omega arith
  gap-most l m (single-sent last ina g a b e) = omega arith
  gap-most l m (first-ready t last ina h a b c e) = omega arith
  gap-most l m (first-sent o t last ina h g a b c x e) = omega arith
  gap-most l m (go-owed o t p u last ina f h g a b c e) = omega arith
  gap-most l m (go-sent o t p u last ina f h g a b c x e) = omega arith
  gap-most l m (in-block o t q p u last ina f c h g r) = r.left-most
  gap-most l m (block-full o t q p u last ina f c h g r) = omega arith
  gap-most l m (last-sent q p u last ina f c g r) = omega arith
  gap-most l m (arrived begun ina g a b e) = omega arith

  pub young-handed : (l : Line) → Young (hand_s i j set party n out E l)
  young-handed l z = absurd (snoc-some l.to_r _ z)

  pub young-flow : (l : Line) (m : ℕ) → Phase i j set party n out E l m → T (flow_due l.rx) → Young (hand_r i j set party n out E l)
  young-flow l m ph t z = whole-lasts (gap_left (tx_clock l.tx)) (after_flow l.rx) (gap-most l m ph) (flow-whole l.rx t)

  module _ (fit : n ≤ length out) (some : 1 ≤ n) (in_area : n ≤ set.area) (small : set.area ≤ short_most) where
    -- a frame of the message that comes in gives the taker all its time
    whole-more : (l : Line) (q : List (List ℕ)) (p : Taking) (u k : ℕ) → l.rx ≡ Rx.Awaits p u → TakeAt n out p k l.ina → pos_at (suc k) < n
        → Whole (took_r i j set party n out E l q (frame_came set (taker_berth i j set party n out E l) (frame_at n out k))).rx
    whole-more l q p u k e r m =
        subst (λ (x : Line). Whole x.rx) (sym (took_more i j set party n out E fit l q p u k e r m))
        (pick-either Whole (fills_block l.own.block p.taken) _ _ (λ t. inr refl) (λ t. inr refl))

    whole-there : (l : Line) (m : ℕ) (d : List ℕ) (q : List (List ℕ)) → l.to_r ≡ d ∷ q → Phase i j set party n out E l m
        → Whole (took_r i j set party n out E l q (frame_came set (taker_berth i j set party n out E l) d)).rx
    unfolding span
    whole-there l m d q z (single-ready t last ina a b e) = absurd (nil≢cons z)
    whole-there l m d q z (single-sent {own = own} last ina g a b e) =
        rw (← (head-eq_of_cons-eq z), heard-single i j set party n out E fit some in_area small a own last) (unfold took_r in (inl refl))
    whole-there l m d q z (first-ready t last ina h a b c e) = absurd (nil≢cons z)
    whole-there l m d q z (first-sent {own = own} o t last ina h g a b c x e) =
        rw (← (head-eq_of_cons-eq z), heard-first i j set party n out E fit some in_area small a own last) (unfold took_r in (inr refl))
    whole-there l m d q z (go-owed o t p u last ina f h g a b c e) = absurd (nil≢cons z)
    whole-there l m d q z (go-sent o t p u last ina f h g a b c x e) = absurd (nil≢cons z)
    whole-there l m d q z (in-block o t r p u last ina f zero h g s) = absurd (nil≢cons (sym s.queued ∙ z))
    whole-there l m d q z (in-block {own = own} o t r p u last ina f (suc c) h g s) =
        rw (← (head-eq_of_cons-eq (sym s.queued ∙ z)))
        (whole-more (under-way i j set party n out E own (Tx.Consecutive party o t) r [] g (Rx.Awaits p u) last ina) q p u f refl s.taker (unfold pos_at in (omega (arith, s.sender.more))))
    whole-there l m d q z (block-full {own = own} o t r p u last ina f c h g s) =
        rw (← (head-eq_of_cons-eq (sym s.queued ∙ z)))
        (whole-more (under-way i j set party n out E own (Tx.AwaitsFlow party o t) r [] g (Rx.Awaits p u) last ina) q p u f refl s.taker (unfold pos_at in (omega (arith, s.sender.more))))
    whole-there l m d q z (last-sent {own = own} r p u last ina f zero g s) =
        rw (← (head-eq_of_cons-eq (sym s.queued ∙ z)))
        (subst (λ (x : Line). Whole x.rx)
        (sym (took-last i j set party n out E fit (all-sent i j set party n out E own r g (Rx.Awaits p u) last ina) q p u f refl s.taker (unfold pos_at in (omega (arith, s.ahead.last)))))
        (inl refl))
    whole-there l m d q z (last-sent {own = own} r p u last ina f (suc c) g s) =
        rw (← (head-eq_of_cons-eq (sym s.queued ∙ z)))
        (whole-more (all-sent i j set party n out E own r g (Rx.Awaits p u) last ina) q p u f refl s.taker (unfold pos_at in (omega (arith, s.ahead.more))))
    whole-there l m d q z (arrived begun ina g a b e) = absurd (nil≢cons z)

    pub young-there : (l : Line) (m : ℕ) (d : List ℕ) (q : List (List ℕ)) → l.to_r ≡ d ∷ q → Phase i j set party n out E l m
        → Young (took_r i j set party n out E l q (frame_came set (taker_berth i j set party n out E l) d))
    young-there l m d q e ph z =
        let same : (took_r i j set party n out E l q (frame_came set (taker_berth i j set party n out E l) d)).tx ≡ l.tx = unfold took_r in refl in
        whole-lasts _ _ (rw same (gap-most l m ph)) (whole-there l m d q e ph)

    pub young-back : (set_s : Settings) (l : Line) (m : ℕ) (d : List ℕ) (q : List (List ℕ)) → l.to_s ≡ d ∷ q → Phase i j set party n out E l m → Young l
        → Young (took_s i j set party n out E l q (frame_came set_s (sender_berth i j set party n out E l) d))
    young-back set_s l m d q z (single-ready t last ina a b e) y = absurd (nil≢cons z)
    young-back set_s l m d q z (single-sent last ina g a b e) y = absurd (nil≢cons z)
    young-back set_s l m d q z (first-ready t last ina h a b c e) y = absurd (nil≢cons z)
    young-back set_s l m d q z (first-sent o t last ina h g a b c x e) y = absurd (nil≢cons z)
    young-back set_s l m d q z (go-owed o t p u last ina f h g a b c e) y = absurd (nil≢cons z)
    young-back set_s l m d q z (go-sent {own = own} o t p u last ina f h g a b c x e) y =
        let (r, s, v, left) = granted-go i j set party n out E own o in
        rw (← (head-eq_of_cons-eq z), went i j set party n out E own set_s o t)
        (unfold took_s in (λ w. inr (omega (arith, awaits-lasts 0 p u (y refl)))))
    young-back set_s l m d q z (in-block o t r p u last ina f c h g s) y = absurd (nil≢cons z)
    young-back set_s l m d q z (block-full o t r p u last ina f c h g s) y = absurd (nil≢cons z)
    young-back set_s l m d q z (last-sent r p u last ina f c g s) y = absurd (nil≢cons z)
    young-back set_s l m d q z (arrived begun ina g a b e) y = absurd (nil≢cons z)

    -- ---- what to do next

    pub data Next (l : Line) (m : ℕ) : Type 0 where
      bring-there : (d : List ℕ) (q : List (List ℕ)) → l.to_r ≡ d ∷ q → Next l m
      bring-back : (d : List ℕ) (q : List (List ℕ)) → l.to_s ≡ d ∷ q → Next l m
      hand-message : T (message_due l.tx) → Next l m
      hand-flow : T (flow_due l.rx) → Next l m
      wait : tx_code l.tx ≡ 0 → rx_code l.rx ≡ 0 → Nearer i j set party n out E m (tick_r i j set party n out E (tick_s i j set party n out E l))
          → Young (tick_r i j set party n out E (tick_s i j set party n out E l)) → Next l m
      at-end : l.to_r ≡ [] → l.to_s ≡ [] → message_due l.tx ≡ false → gap_left (tx_clock l.tx) ≡ 0 → flow_due l.rx ≡ false → Next l m

    waits : {own : BerthSettings} (o : Sending) (t : ℕ) (q : List (List ℕ)) (p : Taking) (u last : ℕ) (ina : List ℕ) (k l m : ℕ) (g : List Handed) → q ≡ []
        → (o.left ≡ 0 → ⊥) → eqb o.left 0 ≡ false → Young (under-way i j set party n out E own (Tx.Consecutive party o t) q [] g (Rx.Awaits p u) last ina)
        → (Phase i j set party n out E (under-way i j set party n out E own (Tx.Consecutive party (closer o) t) q [] g (Rx.Awaits p (u + 1)) last ina) m)
        → (m' : ℕ) → m < m'
        → Next (under-way i j set party n out E own (Tx.Consecutive party o t) q [] g (Rx.Awaits p u) last ina) m'
    unfolding ran
    waits o t q p u last ina k l m g empty ne left young ph m' less =
        let lasts = awaits-lasts o.left p u (young empty) in
        let short : ltb (u + 1) timeout ≡ true = ltb-is (u + 1) timeout (omega (arith, lasts)) in
        wait (rw left) (rw short) (rw (left, short) (m, less, ph)) (rw (left, short) (λ z. inr (omega (arith, lasts, gap-falls i j set party n out E o))))

    pub next : (l : Line) (m : ℕ) → Phase i j set party n out E l m → Young l → Next l m
    unfolding span
    next l m (single-ready t last ina a b e) y = hand-message tt
    next l m (single-sent last ina g a b e) y = bring-there _ _ refl
    next l m (first-ready t last ina h a b c e) y = hand-message tt
    next l m (first-sent o t last ina h g a b c x e) y = bring-there _ _ refl
    next l m (go-owed o t p u last ina f h g a b c e) y = hand-flow tt
    next l m (go-sent o t p u last ina f h g a b c x e) y = bring-back _ _ refl
    next l m (in-block {own = own} o t q p u last ina f zero h g s) y = go (eqb-cases o.left 0)
      where
        go : Tested (eqb o.left 0) (o.left ≡ 0) (o.left ≡ 0 → ⊥)
            → Next (under-way i j set party n out E own (Tx.Consecutive party o t) q [] g (Rx.Awaits p u) last ina) (pace * suc h + (o.left + 0))
        go (holds r c) = hand-message (rw r tt)
        go (fails r c) =
            waits o t q p u last ina f h (pace * suc h + ((closer o).left + 0)) g s.queued c r y
            (in-block (closer o) t q p (u + 1) last ina f zero h g (gap-closes i j set party n out E q o p ina f zero h g s))
            (pace * suc h + (o.left + 0)) (omega (arith, gap-falls i j set party n out E o))
    next l m (in-block o t q p u last ina f (suc c) h g s) y = bring-there _ _ s.queued
    next l m (block-full o t q p u last ina f c h g s) y = bring-there _ _ s.queued
    next l m (last-sent q p u last ina f c g s) y = bring-there _ _ s.queued
    next l m (arrived begun ina g a b e) y = at-end refl refl refl refl refl
