-- Fairness. While berth k stays due, each answered call for a frame serves k or leaves its distance smaller; a list along
-- which a number below ten falls has no berth twice and at most nine.
use mathlib.Core.Path.{◌≡◌, refl, ap, ◌∙◌}
use Prim.Native.Nat.{ℕ, zero, suc, ◌+◌, ◌≤◌, ◌<◌}
use native.Mathlib.Omega.{arith}
use mathlib.Core.List.Memᴰ
use mathlib.Core.List.{List, [], ◌∷◌, ◌++◌, Memᴰ}
use mathlib.Core.Logic.{◌⊎◌, inl, inr}
use lib.ListN.{length, get_or}
use lib.Dec.{T, eqb}
use Rattle.rules.specs.Tests.{unless}
use Rattle.rules.specs.Numbers.{berth_count, to_berth}
use Rattle.rules.specs.Nodes.{berth_at, Held, with_berth}
use Rattle.rules.specs.Ranges.{InOrder}
use Rattle.rules.specs.Turns.{due}
use Rattle.rules.specs.Stores.{ticked_node, served_node, distance, passed_over, reached}
use Rattle.rules.specs.Events.{Call, frame, tick, send, turn, show, change}
use Rattle.rules.specs.Answers.{for_taker}
use Rattle.rules.specs.Refusals.{refusal}
use Rattle.rules.specs.Calls.{after_frame, after_turn, done, reply, written, buffer_of, Outcome, refused_outcome, outcome, answers}
use Rattle.rules.proofs.Cases.{Tested, holds, fails, eqb-cases, eqb_is, eqb-not, ltb-is}
use Rattle.rules.proofs.Ranges.{in-order-range}
use Rattle.rules.proofs.Round.{near}
use Rattle.rules.proofs.Answered.{turn-answered}
use Rattle.laws.specs.Own.{over}
use Rattle.laws.specs.Rounds.{Turn, served, nobody, turn_of, DueAt, StaysDue, before, NoTwice, Fair}
use Rattle.laws.proofs.Isolation.{said-to}
use Rattle.laws.proofs.Round.{some-reached, nearer}

module _ (k : ℕ) (small : k < berth_count) where
  -- what a call does to the berth served last, and the turns in its answer
  data Served (s s' : ℕ) (ts : List Turn) : Type 0 where
    no-turn : s' ≡ s → ts ≡ [] → Served s s' ts
    its_own : ts ≡ served k ∷ [] → Served s s' ts
    another : (j : ℕ) → (j ≡ k → ⊥) → s' ≡ j → ts ≡ served j ∷ [] → distance j k < distance s k → Served s s' ts

  served-turn : (h : Held) (buffer : List ℕ) → InOrder h.node → T (due (berth_at h.node k))
      → Served h.node.served (done h (turn buffer)).node.served (turn_of (reply h (turn buffer)))
  unfolding done reply after_turn served_node turn_of
  served-turn h buffer o t = rw (ltb-is (passed_over h.node) berth_count (some-reached h.node o k small t)) (go (eqb-cases (reached h.node) k))
    where
      to : for_taker (to_berth + reached h.node) served nobody ≡ served (reached h.node)
      to = said-to served nobody (reached h.node)

      go : Tested (eqb (reached h.node) k) (reached h.node ≡ k) (reached h.node ≡ k → ⊥)
          → Served h.node.served (reached h.node) (for_taker (to_berth + reached h.node) served nobody ∷ [])
      go (holds q e) = its_own (ap (λ (t : Turn). t ∷ []) (to ∙ ap served e))
      go (fails q ne) = another (reached h.node) ne refl (ap (λ (t : Turn). t ∷ []) to) (nearer h.node o k small t ne)

  served-done : (h : Held) (c : Call) → refusal h c ≡ 0 → DueAt k h c
      → Served h.node.served (done h c).node.served (turn_of (reply h c))
  unfolding done reply after_frame with_berth ticked_node turn_of
  served-done h (frame id d) e t = no-turn refl refl
  served-done h tick e t = no-turn refl refl
  served-done h (send j party m) e t = no-turn refl refl
  served-done h (turn buffer) e t = served-turn h buffer (in-order-range h.node (turn-answered h buffer e).order) (t e)
  served-done h (show j choice) e t = no-turn refl refl
  served-done h (change j parameter value) e t = no-turn refl refl

  served-step : (h : Held) (c : Call) → DueAt k h c
      → Served h.node.served (outcome h c).held.node.served (turn_of (outcome h c).answer)
  unfolding outcome refused_outcome
  served-step h c t = go (refusal h c) refl
    where
      after : ℕ → Outcome
      after n = unless n (refused_outcome h (buffer_of c)) (record { answer = reply h c; held = done h c; buffer = written h c })

      go : (n : ℕ) → refusal h c ≡ n → Served h.node.served (after n).held.node.served (turn_of (after n).answer)
      go zero e = served-done h c e t
      go (suc n) e = no-turn refl (unfold turn_of in refl)

  -- ---- a list of turns along which the distance to k falls

  unfoldable Falls : ℕ → List Turn → Type 0
  Falls s [] = Unit {0}
  Falls s (served j ∷ ts) = (distance j k < distance s k) × Falls j ts
  Falls s (nobody ∷ ts) = ⊥

  falls-on : (s s' : ℕ) (ts us : List Turn) → Served s s' ts → Falls s' (before k us) → Falls s (before k (ts ++ us))
  unfolding Falls before
  falls-on s s' ts us (no-turn e f) r = rw (f, ← e) r
  falls-on s s' ts us (its_own f) r = rw (f, eqb_is k k refl) tt
  falls-on s s' ts us (another j ne e f l) r = rw (f, eqb-not j k ne) (l, rw e at r)

  falling : (h : Held) (cs : List Call) → StaysDue k h cs → Falls h.node.served (before k (over turn_of (answers h cs)))
  unfolding StaysDue over answers before Falls
  falling h [] t = tt
  falling h (c ∷ cs) t =
      falls-on h.node.served (outcome h c).held.node.served (turn_of (outcome h c).answer) (over turn_of (answers (outcome h c).held cs))
      (served-step h c t.0) (falling (outcome h c).held cs t.1)

  falls-short : (s : ℕ) (ts : List Turn) → Falls s ts → length ts ≤ distance s k
  unfolding Falls
  falls-short s [] h = omega arith
  falls-short s (served j ∷ ts) h = let i : length ts ≤ distance j k = falls-short j ts h.1 in omega arith
  falls-short s (nobody ∷ ts) h = absurd h

  -- the distance of a turn's berth
  abbrev away : Turn → ℕ
  away (served j) = distance j k
  away nobody = 0

  falls_below : (s : ℕ) (ts : List Turn) → Falls s ts → (t : Turn) → Memᴰ t ts → away t < distance s k
  unfolding Falls
  falls_below s [] h t m = absurd (Memᴰ.not-nil m)
  falls_below s (served j ∷ ts) h t m = below (falls_below j ts h.1 t) (Memᴰ.cases_cons m)
    where
      below : (Memᴰ t ts → away t < distance j k) → (t ≡ served j) ⊎ Memᴰ t ts → away t < distance s k
      below ih (inl e) = rw e h.0
      below ih (inr m) = let l : away t < distance j k = ih m in omega arith
  falls_below s (nobody ∷ ts) h t m = absurd h

  falls-once : (s : ℕ) (ts : List Turn) → Falls s ts → NoTwice ts
  unfolding Falls NoTwice
  falls-once s [] h = tt
  falls-once s (served j ∷ ts) h =
      ((λ m. let l : distance j k < distance j k = falls_below j ts h.1 (served j) m in omega arith), falls-once j ts h.1)
  falls-once s (nobody ∷ ts) h = absurd h

  comes : (ts : List Turn) (n : ℕ) → length (before k ts) ≤ n → n < length ts → (i : ℕ) × (i ≤ n) × (get_or ts i nobody ≡ served k)
  unfolding before
  comes [] n h l = absurd (omega arith)
  comes (nobody ∷ ts) zero h l = absurd (omega arith)
  comes (nobody ∷ ts) (suc n) h l = let (i, b, e) = comes ts n (omega arith) (omega arith) in (suc i, omega arith, e)
  comes (served j ∷ ts) n h l = go (comes ts) (eqb-cases j k) n h l
    where
      go : ((n : ℕ) → length (before k ts) ≤ n → n < length ts → (i : ℕ) × (i ≤ n) × (get_or ts i nobody ≡ served k))
          → Tested (eqb j k) (j ≡ k) (j ≡ k → ⊥) → (n : ℕ) → length (before k (served j ∷ ts)) ≤ n → n < length (served j ∷ ts)
          → (i : ℕ) × (i ≤ n) × (get_or (served j ∷ ts) i nobody ≡ served k)
      go ih (holds t e) n h l = (0, omega arith, ap served e)
      go ih (fails t ne) zero h l = absurd (omega (arith, rw t at h))
      go ih (fails t ne) (suc n) h l =
          let (i, b, e) = ih n (omega (arith, rw t at h)) (omega arith) in
          (suc i, omega arith, e)

  -- ---- none answers None

  not-nobody : (s s' : ℕ) (ts us : List Turn) → Served s s' ts → (Memᴰ nobody us → ⊥) → Memᴰ nobody (ts ++ us) → ⊥
  not-nobody s s' ts us (no-turn e f) r m = r (rw f at m)
  not-nobody s s' ts us (its_own f) r m = one k (Memᴰ.cases_cons (rw f at m))
    where
      one : (j : ℕ) → (nobody ≡ served j) ⊎ Memᴰ nobody us → ⊥
      one j (inl e) = let z : ◌≡◌ {A = ℕ} 0 1 = cc in omega arith
      one j (inr m) = r m
  not-nobody s s' ts us (another j ne e f l) r m = one (Memᴰ.cases_cons (rw f at m))
    where
      one : (nobody ≡ served j) ⊎ Memᴰ nobody us → ⊥
      one (inl e) = let z : ◌≡◌ {A = ℕ} 0 1 = cc in omega arith
      one (inr m) = r m

  nobody-none : (h : Held) (cs : List Call) → StaysDue k h cs → Memᴰ nobody (over turn_of (answers h cs)) → ⊥
  unfolding StaysDue over answers
  nobody-none h [] t m = Memᴰ.not-nil m
  nobody-none h (c ∷ cs) t m =
      not-nobody h.node.served (outcome h c).held.node.served (turn_of (outcome h c).answer) (over turn_of (answers (outcome h c).held cs))
      (served-step h c t.0) (nobody-none (outcome h c).held cs t.1) m

  -- DEMAND 3, SECOND HALF. While berth k has a frame due at every answered call for a frame: none of these calls answers None; no
  -- berth has two turns before k's first, so they are at most nine; and with ten such calls k's own turn is among the ten.
  pub fair : (h : Held) (cs : List Call) → StaysDue k h cs → Fair k (over turn_of (answers h cs))
  fair h cs t =
      let f = falling h cs t in
      let l : length (before k (over turn_of (answers h cs))) ≤ 9 = omega (arith, falls-short h.node.served _ f, near h.node.served k) in
      record {
        some = nobody-none h cs t;
        once = falls-once h.node.served _ f;
        short = l;
        tenth = λ n. comes (over turn_of (answers h cs)) 9 l n;
      }
