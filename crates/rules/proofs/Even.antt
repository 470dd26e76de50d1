-- What one event adds to begun, with what was under way, is what it adds to delivered and failed, with what is under way after it: by
-- the branches of its rule.
use mathlib.Core.Path.{◌≡◌, refl}
use Prim.Native.Nat.{ℕ, ◌+◌}
use native.Mathlib.Omega.{arith}
use mathlib.Core.Bool.{Bool, true, false, ◌&&◌, ◌||◌}
use mathlib.Core.List.{List}
use lib.ListN.{length}
use lib.Dec.{eqb, ltb, leb}
use Rattle.rules.specs.Tests.{pick}
use Rattle.rules.specs.Numbers.{timeout, single_kind, first_kind, consecutive_kind, flow_kind, go_status, wait_status, overflow_status, consecutive_most, N_WRONG_SN, N_TIMEOUT_A, N_TIMEOUT_Cr, N_UNEXP_PDU}
use Rattle.rules.specs.Frames.{kind, low, single_fits, announced, first_fits, consecutive_fits, flow_fits, fills_block}
use Rattle.rules.specs.Arrivals.{Heard, Told, Came, ignored, old_code, single_came, first_came, above_area, turned_away, begun, missing, completed, after_took, took, wrong_sn, awaited_came, consecutive_came, by_status, flow_ignored, flow_came, heard_by, told_by, by_kind, frame_came}
use Rattle.rules.specs.Ticks.{ran, rx_ticked, rx_code, ticked}
use Rattle.rules.specs.Turns.{hand_over, sent as sent_berth}
use Rattle.rules.specs.Changes.{changed}
use Rattle.rules.specs.Events.{Event, arrives, ticks, sends, turns, changes}
use Rattle.rules.specs.Cards.{is_delivered, is_begun, is_failed, is_single, frame_adds, under_way, tick_adds, turn_adds, adds}
use Rattle.rules.specs.Alone.{Part, state_after, part_after}
use Rattle.rules.specs.declared.Settings.{Settings}
use Rattle.rules.specs.declared.Taking.{Taking}
use Rattle.rules.specs.declared.Rx.{Rx}
use Rattle.rules.specs.declared.Tx.{Tx}
use Rattle.rules.specs.declared.Berth.{Berth}
use Rattle.rules.specs.Words.{Word}
use Rattle.rules.proofs.Cases.{is_true, is_false, pick-either}

abbrev pub one : Bool → ℕ
one b = pick b 1 0

-- a frame with this old code and this word, from the one receive side to the other
abbrev Even : Bool → Rx → ℕ → Word → Rx → Type 0
Even single rx old w rx' =
    one (is_begun w || (single && is_delivered w)) + one (under_way rx)
    ≡ one (is_delivered w) + one (is_failed N_WRONG_SN w) + one (eqb old N_UNEXP_PDU) + one (under_way rx')

abbrev HeardEven : Bool → Rx → Heard → Type 0
HeardEven single rx h = Even single rx h.old h.word h.rx

-- old code 7 comes exactly where a reception was under way
old-under-way : (rx : Rx) → eqb (old_code rx) N_UNEXP_PDU ≡ under_way rx
old-under-way Rx.Idle = refl
old-under-way (Rx.OwesOverflow t) = refl
old-under-way (Rx.OwesGo p t) = refl
old-under-way (Rx.Awaits p t) = refl

ignored-even : (single : Bool) (why : ℕ) (rx : Rx) (last : ℕ) → HeardEven single rx (ignored why rx last)
unfolding ignored
ignored-even true why rx last = omega arith
ignored-even false why rx last = omega arith

single-even : (rx : Rx) (last : ℕ) (d : List ℕ) → HeardEven true rx (single_came rx last d)
unfolding single_came
single-even rx last d =
    pick-either (HeardEven true rx) (single_fits d) _ _ (λ t. rw (old-under-way rx) (omega arith)) (λ t. ignored-even true 3 rx last)

first-even : (s : Settings) (rx : Rx) (last : ℕ) (d : List ℕ) → HeardEven false rx (first_came s rx last d)
unfolding first_came turned_away begun
first-even s rx last d =
    pick-either (HeardEven false rx) (first_fits d) _ _
    (λ t. pick-either (HeardEven false rx) (above_area s (announced d)) _ _
    (λ u. rw (old-under-way rx) (omega arith)) (λ u. rw (old-under-way rx) (omega arith)))
    (λ t. ignored-even false 3 rx last)

-- Took keeps it under way
took-under-way : (bs : ℕ) (p : Taking) → under_way (after_took bs p) ≡ true
unfolding after_took
took-under-way bs p = pick-either (λ (rx : Rx). under_way rx ≡ true) (fills_block bs p.taken) _ _ (λ t. refl) (λ t. refl)

consecutive-even : (bs : ℕ) (rx : Rx) (last : ℕ) (d : List ℕ) → HeardEven false rx (consecutive_came bs rx last d)
unfolding awaited_came completed took wrong_sn ignored
consecutive-even bs Rx.Idle last d = ignored-even false 4 Rx.Idle last
consecutive-even bs (Rx.OwesOverflow t) last d = ignored-even false 4 (Rx.OwesOverflow t) last
consecutive-even bs (Rx.OwesGo p t) last d = ignored-even false 4 (Rx.OwesGo p t) last
consecutive-even bs (Rx.Awaits p t) last d =
    let E = HeardEven false (Rx.Awaits p t) in
    pick-either E (consecutive_fits (missing p) d) _ _
    (λ u. pick-either E (eqb (low d) p.sn.0) _ _
    (λ v. pick-either E (leb (missing p) consecutive_most) _ _ (λ w. refl) (λ w. rw (took-under-way bs p)))
    (λ v. refl))
    (λ u. refl)

-- flow control leaves the receive side
flow-even : (rx : Rx) (tx : Tx) (d : List ℕ) → Even false rx 0 (flow_came tx d).word rx
unfolding by_status flow_ignored
flow-even rx Tx.Idle d = omega arith
flow-even rx (Tx.SingleDue party n t) d = omega arith
flow-even rx (Tx.FirstDue party n t) d = omega arith
flow-even rx (Tx.AwaitsFlow party o t) d =
    let E : Told → Type 0 = λ told. Even false rx 0 told.word rx in
    pick-either E (flow_fits d) _ _
    (λ u. pick-either E (eqb (low d) go_status) _ _ (λ v. omega arith)
    (λ v. pick-either E (eqb (low d) wait_status) _ _ (λ w. omega arith)
    (λ w. pick-either E (eqb (low d) overflow_status) _ _ (λ x. omega arith) (λ x. omega arith))))
    (λ u. omega arith)
flow-even rx (Tx.Consecutive party o t) d = omega arith

frame-even : (s : Settings) (b : Berth) (d : List ℕ)
    → Even (is_single d) b.rx (frame_came s b d).old (frame_came s b d).word (frame_came s b d).berth.rx
unfolding frame_came by_kind is_single heard_by told_by
frame-even s b d =
    pick-either (E (eqb (kind d) single_kind)) (eqb (length d) 0) _ _ (λ t. ignored-even (eqb (kind d) single_kind) 1 b.rx b.last)
    (λ t. pick-either (E (eqb (kind d) single_kind)) (eqb (kind d) single_kind) _ _
    (λ u. rw (is_true (eqb (kind d) single_kind) u) (single-even b.rx b.last d))
    (λ u. rw (is_false (eqb (kind d) single_kind) u)
    (pick-either (E false) (eqb (kind d) first_kind) _ _ (λ v. first-even s b.rx b.last d)
    (λ v. pick-either (E false) (eqb (kind d) consecutive_kind) _ _ (λ w. consecutive-even b.settings.block b.rx b.last d)
    (λ w. pick-either (E false) (eqb (kind d) flow_kind) _ _ (λ x. flow-even b.rx b.tx d) (λ x. ignored-even false 2 b.rx b.last))))))
  where
    E : Bool → Came → Type 0
    E single c = Even single b.rx c.old c.word c.berth.rx

-- a reception that the timer runs on, or ends with code 2 or 4
expires-even : (b : Bool) (code : ℕ) (on : Rx) → one (eqb code N_TIMEOUT_A) + one (eqb code N_TIMEOUT_Cr) ≡ 1 → under_way on ≡ true
    → 1 ≡ one (eqb (pick b 0 code) N_TIMEOUT_A) + one (eqb (pick b 0 code) N_TIMEOUT_Cr) + one (under_way (pick b on Rx.Idle))
expires-even true code on e goes = rw goes
expires-even false code on e goes = rw e

tick-even : (rx : Rx)
    → one (under_way rx)
    ≡ one (under_way rx && eqb (rx_code rx) N_TIMEOUT_A) + one (under_way rx && eqb (rx_code rx) N_TIMEOUT_Cr) + one (under_way (rx_ticked rx))
unfolding ran
tick-even Rx.Idle = refl
tick-even (Rx.OwesOverflow t) = pick-either (λ (rx : Rx). 0 ≡ 0 + 0 + one (under_way rx)) (ltb (t + 1) timeout) _ _ (λ u. refl) (λ u. refl)
tick-even (Rx.OwesGo p t) = expires-even (ltb (t + 1) timeout) N_TIMEOUT_A _ refl refl
tick-even (Rx.Awaits p t) = expires-even (ltb (t + 1) timeout) N_TIMEOUT_Cr _ refl refl

-- a turn keeps it
turn_even : (b : Berth) (area : List ℕ) → under_way (hand_over b area).berth.rx ≡ under_way b.rx
unfolding hand_over
turn_even b area = go b.rx refl
  where
    go : (rx : Rx) → b.rx ≡ rx → under_way (hand_over b area).berth.rx ≡ under_way b.rx
    go Rx.Idle e = rw e
    go (Rx.OwesOverflow t) e = rw e
    go (Rx.OwesGo p t) e = rw e
    go (Rx.Awaits p t) e = rw e

-- EVERY EVENT IS EVEN: begun and what was under way are delivered, failed and what is under way after it
pub event-even : (s : Settings) (p : Part) (e : Event)
    → let a = adds s p.berth p.outgoing e in
    one a.begun + one (under_way p.berth.rx)
    ≡ one a.delivered + (one a.failed2 + one a.failed4 + one a.failed5 + one a.failed7) + one (under_way (part_after s p e).berth.rx)
unfolding adds frame_adds tick_adds turn_adds state_after part_after
event-even s p (arrives d) = omega (arith, frame-even s p.berth d)
event-even s p ticks = unfold ticked in (omega (arith, tick-even p.berth.rx))
event-even s p (sends party m) = unfold sent_berth in (omega arith)
event-even s p turns = rw (turn_even p.berth p.outgoing) (omega arith)
event-even s p (changes parameter value) = unfold changed in (omega arith)
