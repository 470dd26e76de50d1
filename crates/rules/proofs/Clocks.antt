-- What one tick does to the time left of a side: it takes one off, it ends the side where only one was left, and it says the code exactly there.
use mathlib.Core.Path.{◌≡◌, refl, sym, ap, ◌∙◌}
use Prim.Native.Nat.{ℕ, suc, ◌+◌, ◌-◌, ◌≤◌, ◌<◌}
use native.Mathlib.Omega.{arith}
use mathlib.Core.Bool.{Bool, true, false}
use mathlib.Core.List.{[], ◌∷◌}
use lib.Dec.{eqb, ltb, leb}
use mir.Facts.{ltb_yes}
use Rattle.rules.specs.Tests.{pick}
use Rattle.rules.specs.Numbers.{timeout, longest_gap, N_TIMEOUT_A}
use Rattle.rules.specs.Ranges.{RxRange, TxRange, BerthRange}
use Rattle.rules.specs.Ticks.{ran, rx_ticked, rx_code, tx_ticked, tx_code, ticked}
use Rattle.rules.specs.Answers.{Side, receive, send, reported}
use Rattle.rules.specs.Cards.{under_way}
use Rattle.rules.specs.Clocks.{Idle, Clock, still, runs, rx_clock, tx_clock, clock_of, time_left, most_time, end_code, tick_code, code_at, code_within}
use Rattle.rules.specs.declared.Settings.{Settings}
use Rattle.rules.specs.declared.Party.{Party}
use Rattle.rules.specs.declared.Rx.{Rx}
use Rattle.rules.specs.declared.Tx.{Tx}
use Rattle.rules.specs.declared.Berth.{Berth}
use Rattle.rules.proofs.Cases.{Tested, holds, fails, eqb-cases, ltb-cases, leb-cases, eqb_is, eqb-not, leb-is, leb-not, ltb-is, split, pick-either, pick-ap}

-- ---- a clock in range, and a tick of it

abbrev pub InTime : Clock → Type 0
InTime still = Unit {0}
InTime (runs g t code) = (g ≤ longest_gap) × (t < timeout)

abbrev clock_ticked : Clock → Clock
clock_ticked still = still
clock_ticked (runs g t code) = pick (eqb g 0) (ran t (λ u. runs 0 u code) still) (runs (g - 1) t code)

abbrev code_now : Clock → ℕ
code_now still = 0
code_now (runs g t code) = pick (eqb g 0) (ran t (λ u. 0) code) 0

-- the tick of a side is a tick of its clock
rx-ticked : (rx : Rx) → rx_clock (rx_ticked rx) ≡ clock_ticked (rx_clock rx)
unfolding ran
rx-ticked Rx.Idle = refl
rx-ticked (Rx.OwesOverflow t) = pick-ap rx_clock (ltb (t + 1) timeout) _ _
rx-ticked (Rx.OwesGo p t) = pick-ap rx_clock (ltb (t + 1) timeout) _ _
rx-ticked (Rx.Awaits p t) = pick-ap rx_clock (ltb (t + 1) timeout) _ _

tx-ticked : (tx : Tx) → tx_clock (tx_ticked tx) ≡ clock_ticked (tx_clock tx)
unfolding ran
tx-ticked Tx.Idle = refl
tx-ticked (Tx.SingleDue party n t) = pick-ap tx_clock (ltb (t + 1) timeout) _ _
tx-ticked (Tx.FirstDue party n t) = pick-ap tx_clock (ltb (t + 1) timeout) _ _
tx-ticked (Tx.AwaitsFlow party o t) = pick-ap tx_clock (ltb (t + 1) timeout) _ _
tx-ticked (Tx.Consecutive party o t) = go (eqb-cases o.left 0)
  where
    go : Tested (eqb o.left 0) (o.left ≡ 0) (o.left ≡ 0 → ⊥) → tx_clock (tx_ticked (Tx.Consecutive party o t)) ≡ clock_ticked (tx_clock (Tx.Consecutive party o t))
    go (holds e z) = rw (e, z) (pick-ap tx_clock (ltb (t + 1) timeout) _ _)
    go (fails e z) = rw e (ap (λ (g : ℕ). runs g t N_TIMEOUT_A) (omega arith))

clock-ticked : (s : Side) (b : Berth) → clock_of s (ticked b) ≡ clock_ticked (clock_of s b)
unfolding ticked
clock-ticked receive b = rx-ticked b.rx
clock-ticked send b = tx-ticked b.tx

-- and so is its code
code-ticked : (s : Side) (b : Berth) → tick_code s b ≡ code_now (clock_of s b)
code-ticked receive b = rx b.rx
  where
    rx : (rx : Rx) → rx_code rx ≡ code_now (rx_clock rx)
    rx Rx.Idle = refl
    rx (Rx.OwesOverflow t) = refl
    rx (Rx.OwesGo p t) = refl
    rx (Rx.Awaits p t) = refl
code-ticked send b = tx b.tx
  where
    tx : (tx : Tx) → tx_code tx ≡ code_now (tx_clock tx)
    tx Tx.Idle = refl
    tx (Tx.SingleDue party n t) = refl
    tx (Tx.FirstDue party n t) = refl
    tx (Tx.AwaitsFlow party o t) = refl
    tx (Tx.Consecutive party o t) = refl

-- ---- the three things that a tick can do to a side in range: it goes on with one less left, it ends and says its code, or it is idle

pub data Tick (c after : Clock) (said : ℕ) : Type 0 where
  goes_on : 1 < time_left c → time_left after ≡ time_left c - 1 → end_code after ≡ end_code c → said ≡ 0 → Tick c after said
  ends : time_left c ≡ 1 → after ≡ still → said ≡ end_code c → Tick c after said
  rests : c ≡ still → after ≡ still → said ≡ 0 → Tick c after said

tick-does : (c : Clock) → InTime c → Tick c (clock_ticked c) (code_now c)
unfolding ran
tick-does still r = rests refl refl refl
tick-does (runs g t code) (few, short) = go (eqb-cases g 0) (ltb-cases (t + 1) timeout)
  where
    go : Tested (eqb g 0) (g ≡ 0) (g ≡ 0 → ⊥) → Tested (ltb (t + 1) timeout) (t + 1 < timeout) (timeout ≤ t + 1)
        → Tick (runs g t code) (clock_ticked (runs g t code)) (code_now (runs g t code))
    go (holds e z) (holds f l) = rw (e, f) (goes_on (omega arith) (omega arith) refl refl)
    go (holds e z) (fails f l) = rw (e, f) (ends (omega arith) refl refl)
    go (fails e z) f = rw e (goes_on (omega arith) (omega arith) refl refl)

-- A TICK OF A SIDE
pub side-tick : (s : Side) (b : Berth) → InTime (clock_of s b) → Tick (clock_of s b) (clock_of s (ticked b)) (tick_code s b)
side-tick s b r = rw (clock-ticked s b, code-ticked s b) (tick-does (clock_of s b) r)

-- ---- so from one tick to the next

time-falls : (c after : Clock) (said : ℕ) → Tick c after said → time_left after ≡ time_left c - 1
time-falls c after said (goes_on some less same none) = less
time-falls c after said (ends one z now) = rw z (omega arith)
time-falls c after said (rests e z none) = rw (e, z)

no_code : (b : Bool) → ◌≡◌ {A = ℕ} (pick b 0 0) 0
no_code true = refl
no_code false = refl

-- an idle side says nothing at any tick
pub still-silent : (i : ℕ) → code_at i still ≡ 0
still-silent i = no_code (eqb i 0)

-- and no side says anything when its time is over
pub silent-after : (c : Clock) (i : ℕ) → time_left c < i → code_at i c ≡ 0
silent-after c i late = rw (eqb-not i (time_left c) (λ e. omega arith))

-- a tick says what the first tick of a clock says
says_first : (c after : Clock) (said : ℕ) → Tick c after said → said ≡ code_at 1 c
says_first c after said (goes_on some less same none) = rw (eqb-not 1 (time_left c) (λ e. omega arith)) none
says_first c after said (ends one z now) = rw (eqb_is 1 (time_left c) (sym one)) now
says_first c after said (rests e z none) = rw e none

-- tick i + 2 of a clock says what tick i + 1 says of what it leaves
says-next : (c after : Clock) (said : ℕ) → Tick c after said → (i : ℕ) → code_at (suc (suc i)) c ≡ code_at (suc i) after
says-next c after said (goes_on some less same none) i =
    rw (less, same) (ap (λ (b : Bool). pick b (end_code c) 0) (go (eqb-cases (suc (suc i)) (time_left c))))
  where
    go : Tested (eqb (suc (suc i)) (time_left c)) (suc (suc i) ≡ time_left c) (suc (suc i) ≡ time_left c → ⊥)
        → eqb (suc (suc i)) (time_left c) ≡ eqb (suc i) (time_left c - 1)
    go (holds e z) = e ∙ sym (eqb_is (suc i) (time_left c - 1) (omega arith))
    go (fails e z) = e ∙ sym (eqb-not (suc i) (time_left c - 1) (λ q. z (omega arith)))
says-next c after said (ends one z now) i = rw (eqb-not (suc (suc i)) (time_left c) (λ e. omega arith), z) (sym (still-silent (suc i)))
says-next c after said (rests e z none) i = rw (e, z) (still-silent (suc (suc i)) ∙ sym (still-silent (suc i)))

-- within n + 1 ticks it says what it says now, or what it says within n after it
pub data Within (now later both : ℕ) : Type 0 where
  is-now : later ≡ 0 → both ≡ now → Within now later both
  is_later : now ≡ 0 → both ≡ later → Within now later both

says-within : (c after : Clock) (said : ℕ) → Tick c after said → (n : ℕ) → Within said (code_within n after) (code_within (suc n) c)
says-within c after said (goes_on some less same none) n = is_later none (rw (less, same) (ap (λ (b : Bool). pick b (end_code c) 0) (go (leb-cases (time_left c) (suc n)))))
  where
    go : Tested (leb (time_left c) (suc n)) (time_left c ≤ suc n) (suc n < time_left c) → leb (time_left c) (suc n) ≡ leb (time_left c - 1) n
    go (holds e z) = e ∙ sym (leb-is (time_left c - 1) n (omega arith))
    go (fails e z) = e ∙ sym (leb-not (time_left c - 1) n (omega arith))
says-within c after said (ends one z now) n = is-now (rw z (no_code (leb 0 n))) (rw (leb-is (time_left c) (suc n) (omega arith)) (sym now))
says-within c after said (rests e z none) n = is_later none (rw (e, z) (no_code (leb 0 (suc n)) ∙ sym (no_code (leb 0 n))))

-- THE SAME AT THE OTHER END: within n + 1 ticks it says what it says within n, or what it says at tick n + 1
pub one-more-tick : (c : Clock) (n : ℕ) → Within (code_within n c) (code_at (suc n) c) (code_within (suc n) c)
one-more-tick c n = go (leb-cases (time_left c) n)
  where
    go : Tested (leb (time_left c) n) (time_left c ≤ n) (n < time_left c) → Within (code_within n c) (code_at (suc n) c) (code_within (suc n) c)
    go (holds e l) = is-now (rw (eqb-not (suc n) (time_left c) (λ q. omega arith))) (rw (e, leb-is (time_left c) (suc n) (omega arith)))
    go (fails e l) = is_later (rw e) (split (time_left c) (suc n) (λ m. rw (leb-is (time_left c) (suc n) m, eqb_is (suc n) (time_left c) (omega arith)))
        (λ m. rw (leb-not (time_left c) (suc n) m, eqb-not (suc n) (time_left c) (λ q. omega arith))))

-- ---- of a berth

module _ (s : Side) (b : Berth) (r : InTime (clock_of s b)) where
  pub stays-in-time : InTime (clock_of s (ticked b))
  stays-in-time = rw (clock-ticked s b) (go (clock_of s b) r)
    where
      go : (c : Clock) → InTime c → InTime (clock_ticked c)
      go still q = tt
      go (runs g t code) (few, short) =
          pick-either InTime (eqb g 0) _ _
          (λ u. unfold ran in (pick-either InTime (ltb (t + 1) timeout) (runs 0 (t + 1) code) still (λ v. (omega arith, ltb_yes v)) (λ v. tt)))
          (λ u. (omega arith, short))

  pub time-ticked : time_left (clock_of s (ticked b)) ≡ time_left (clock_of s b) - 1
  time-ticked = time-falls _ _ _ (side-tick s b r)

  pub code-first : tick_code s b ≡ code_at 1 (clock_of s b)
  code-first = says_first _ _ _ (side-tick s b r)

  pub code-next : (i : ℕ) → code_at (suc (suc i)) (clock_of s b) ≡ code_at (suc i) (clock_of s (ticked b))
  code-next = says-next _ _ _ (side-tick s b r)

  pub code-within : (n : ℕ) → Within (tick_code s b) (code_within n (clock_of s (ticked b))) (code_within (suc n) (clock_of s b))
  code-within = says-within _ _ _ (side-tick s b r)

-- ---- a side in order

pub in-time : (st : Settings) (b : Berth) → BerthRange st b → (s : Side) → InTime (clock_of s b)
in-time st b r receive = go b.rx r.receive
  where
    go : (rx : Rx) → RxRange st b.settings.block b.last rx → InTime (rx_clock rx)
    go Rx.Idle q = tt
    go (Rx.OwesOverflow t) q = (omega arith, q.1)
    go (Rx.OwesGo p t) q = (omega arith, q.2)
    go (Rx.Awaits p t) q = (omega arith, q.2)
in-time st b r send = go b.tx r.send
  where
    go : (tx : Tx) → TxRange st tx → InTime (tx_clock tx)
    go Tx.Idle q = tt
    go (Tx.SingleDue party n t) q = (omega arith, q.2)
    go (Tx.FirstDue party n t) q = (omega arith, q.2)
    go (Tx.AwaitsFlow party o t) q = (omega arith, q.3)
    go (Tx.Consecutive party o t) q = (q.0.left-most, q.2)

-- it has at most 1,128 ticks left
pub time-most : (c : Clock) → InTime c → time_left c ≤ most_time
time-most still r = omega arith
time-most (runs g t code) r = omega (arith, r.0, r.1)

-- and within none it says nothing
pub none_within : (c : Clock) → InTime c → code_within 0 c ≡ 0
none_within still r = no_code (leb 0 0)
none_within (runs g t code) r = rw (leb-not (g + timeout - t) 0 (omega (arith, r.1)))

-- within all that are left it says its code
pub all-within : (c : Clock) (n : ℕ) → time_left c ≤ n → code_within n c ≡ end_code c
all-within c n l = rw (leb-is (time_left c) n l)

-- A SIDE IN ORDER THAT HAS NO TIME LEFT IS IDLE
pub over-idle : (s : Side) (b : Berth) → InTime (clock_of s b) → time_left (clock_of s b) ≡ 0 → Idle s b
over-idle receive b r e = go b.rx r e
  where
    go : (rx : Rx) → InTime (rx_clock rx) → time_left (rx_clock rx) ≡ 0 → rx ≡ Rx.Idle
    go Rx.Idle q z = refl
    go (Rx.OwesOverflow t) q z = absurd (omega (arith, q.1, z))
    go (Rx.OwesGo p t) q z = absurd (omega (arith, q.1, z))
    go (Rx.Awaits p t) q z = absurd (omega (arith, q.1, z))
over-idle send b r e = go b.tx r e
  where
    go : (tx : Tx) → InTime (tx_clock tx) → time_left (tx_clock tx) ≡ 0 → tx ≡ Tx.Idle
    go Tx.Idle q z = refl
    go (Tx.SingleDue party n t) q z = absurd (omega (arith, q.1, z))
    go (Tx.FirstDue party n t) q z = absurd (omega (arith, q.1, z))
    go (Tx.AwaitsFlow party o t) q z = absurd (omega (arith, q.1, z))
    go (Tx.Consecutive party o t) q z = absurd (omega (arith, q.1, z))

-- A SIDE THAT IS NOT IDLE HAS A CODE TO REPORT, an idle one none
pub one-report : (k : ℕ) (s : Side) (b : Berth) (party : Party) → (Idle s b → ⊥)
    → reported k s (end_code (clock_of s b)) party ≡ record { berth = k; side = s; code = end_code (clock_of s b); party = party } ∷ []
unfolding reported
one-report k receive b party some = go b.rx some
  where
    go : (rx : Rx) → (rx ≡ Rx.Idle → ⊥) → reported k receive (end_code (rx_clock rx)) party ≡ record { berth = k; side = receive; code = end_code (rx_clock rx); party = party } ∷ []
    go Rx.Idle ne = absurd (ne refl)
    go (Rx.OwesOverflow t) ne = refl
    go (Rx.OwesGo p t) ne = refl
    go (Rx.Awaits p t) ne = refl
one-report k send b party some = go b.tx some
  where
    go : (tx : Tx) → (tx ≡ Tx.Idle → ⊥) → reported k send (end_code (tx_clock tx)) party ≡ record { berth = k; side = send; code = end_code (tx_clock tx); party = party } ∷ []
    go Tx.Idle ne = absurd (ne refl)
    go (Tx.SingleDue own n t) ne = refl
    go (Tx.FirstDue own n t) ne = refl
    go (Tx.AwaitsFlow own o t) ne = refl
    go (Tx.Consecutive own o t) ne = refl

pub no-report : (k : ℕ) (s : Side) (b : Berth) (party : Party) → Idle s b → reported k s (end_code (clock_of s b)) party ≡ []
unfolding reported
no-report k receive b party e = rw e
no-report k send b party e = rw e

-- ---- what a tick counts

-- a reception is under way until the tick that ends it
pub under-way-stays : (rx : Rx) → 1 < time_left (rx_clock rx) → under_way (rx_ticked rx) ≡ under_way rx
unfolding ran
under-way-stays Rx.Idle l = refl
under-way-stays (Rx.OwesOverflow t) l = pick-either (λ (x : Rx). under_way x ≡ false) (ltb (t + 1) timeout) _ _ (λ u. refl) (λ u. refl)
under-way-stays (Rx.OwesGo p t) l = rw (ltb-is (t + 1) timeout (omega arith))
under-way-stays (Rx.Awaits p t) l = rw (ltb-is (t + 1) timeout (omega arith))
