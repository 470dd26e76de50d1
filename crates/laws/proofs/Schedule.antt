-- The line's law is not empty. Each call for a frame hands over the frame wanted or leaves its side's wait shorter, by the round; so
-- from every start a transfer can be led to its end, with ticks on both nodes only while a gap is left.
use mathlib.Core.Path.{◌≡◌, refl, sym, ap, ◌∙◌, subst}
use Prim.Native.Nat.{ℕ, zero, suc, ◌+◌, ◌*◌, ◌≤◌, ◌<◌}
use native.Mathlib.Omega.{arith}
use mathlib.Core.Bool.{Bool, true, false, not, ◌||◌}
use mathlib.Core.List.{List, [], ◌∷◌, ◌++◌}
use mathlib.Core.Logic.{◌⊎◌, inl, inr, ⊎_elim}
use lib.ListN.{length}
use lib.Dec.{T, eqb}
use mir.Facts.{yes_eqb}
use Rattle.rules.specs.Tests.{pick}
use Rattle.rules.specs.Numbers.{berth_count, short_most}
use Rattle.rules.specs.Nodes.{berth_at, Held}
use Rattle.rules.specs.Ticks.{rx_code, tx_code}
use Rattle.rules.specs.Turns.{flow_due, message_due, due, after_flow, hand_over}
use Rattle.rules.specs.Stores.{right_store, served_node, distance, passed_over, reached}
use Rattle.rules.specs.Answers.{Side, receive, send as send_side}
use Rattle.rules.specs.Cards.{right_cards}
use Rattle.rules.specs.Events.{Call, tick, turn, turns}
use Rattle.rules.specs.Refusals.{needs, refusal}
use Rattle.rules.specs.Calls.{after_turn, done, outcome}
use Rattle.rules.specs.Alone.{Part, part_of, state_after, part_after, alone}
use Rattle.rules.specs.declared.Settings.{Settings}
use Rattle.rules.specs.declared.BerthSettings.{BerthSettings}
use Rattle.rules.specs.declared.Party.{Party}
use Rattle.rules.specs.declared.Rx.{Rx}
use Rattle.rules.proofs.Cases.{Tested, holds, fails, test-cases, eqb-cases, ltb-is, is_true}
use Rattle.rules.proofs.Ranges.{range-in-order}
use Rattle.rules.proofs.Round.{near}
use Rattle.laws.specs.Own.{over, own_done, own, Sound}
use Rattle.laws.specs.Sides.{same_side, side_of, turn_side}
use Rattle.laws.specs.Line.{Handed, World, left_a, left_b, call_a, call_b, carried_a, carried_b, Deed, at_a, at_b, carry_a, carry_b, acts, living, spares, Spares, Apart, AllApart, AtRest, MayBegin, Arrived, begin, Act, turn_a, turn_b, bring_a, bring_b, tick_both, blank, deeds_of, Finishes}
use Rattle.laws.proofs.Isolation.{settings-step, part_step}
use Rattle.laws.proofs.SetUp.{sound-step}
use Rattle.laws.proofs.Round.{some-reached, nearer}
use Rattle.laws.proofs.Touch.{SparedBy, TurnOf, whole-heard, own_is, held-is, own-k, turn-of-side, turn-of-other, other-berth, touch-tick, neither-said, all-met, tick-met}
use Rattle.laws.proofs.Line.{Line, Phase, Nearer, tick_s, tick_r, hands-S, hands-R, there-whole, back_whole}
use Rattle.laws.proofs.World.{line_in, Alive, after-A, after-B, alive-carried_a, alive-carried_b, spared-A, tick-A, turn-A, spared-B, tick-B, turn-B, took-A, took-B, the_party, out_a, set_b, expected, fit-a, small_b, begun-alive, line-law}
use Rattle.laws.proofs.Onward.{Young, young-start, young-handed, young-flow, young-there, young-back, Next, bring-there, bring-back, hand-message, hand-flow, wait, at-end, next}

-- ---- a call for a frame is answered by a sound node

turn-met : (h : Held) → Sound h → refusal h (turn blank) ≡ 0
unfolding refusal needs right_store right_cards
turn-met h s = all-met (needs h (turn blank)) (range-in-order h.node s.order, (yes_eqb s.outgoing, (yes_eqb s.ten, (tt, tt))))

-- ---- how long side s of berth k has to wait for its turn: the berths before it, and ten more if the other side goes first

unfoldable waiting : Side → ℕ → Held → ℕ
waiting s k h = distance h.node.served k + pick (same_side s (turn_side (part_of k h))) 0 berth_count

waiting-most : (s : Side) (k : ℕ) (h : Held) → waiting s k h < 20
unfolding waiting
waiting-most s k h = go (same_side s (turn_side (part_of k h)))
  where
    go : (b : Bool) → distance h.node.served k + pick b 0 berth_count < 20
    go true = omega (arith, near h.node.served k)
    go false = omega (arith, near h.node.served k)

-- after flow control none is owed
flow-once : (rx : Rx) → flow_due (after_flow rx) ≡ false
flow-once Rx.Idle = refl
flow-once (Rx.OwesOverflow t) = refl
flow-once (Rx.OwesGo p t) = refl
flow-once (Rx.Awaits p t) = refl

side-due : (s : Side) (p : Part) → T (due (side_of s p).berth) → T (due p.berth)
unfolding due side_of
side-due receive p t = go (flow_due p.berth.rx) t
  where
    go : (b : Bool) → T (b || false) → T (b || message_due p.berth.tx)
    go true u = tt
    go false u = absurd u
side-due send_side p t = go (flow_due p.berth.rx)
  where
    go : (b : Bool) → T (b || message_due p.berth.tx)
    go true = tt
    go false = t

-- a side that is due and has to let the other go first has the next turn
then-its-own : (set : Settings) (s : Side) (p : Part) → T (due (side_of s p).berth) → same_side s (turn_side p) ≡ false
    → same_side s (turn_side (part_after set p turns)) ≡ true
unfolding due side_of turn_side state_after part_after hand_over
then-its-own set s p t e = go s (flow_due p.berth.rx) refl t e
  where
    go : (s : Side) (b : Bool) → flow_due p.berth.rx ≡ b → T (due (side_of s p).berth) → same_side s (turn_side p) ≡ false
        → same_side s (turn_side (part_after set p turns)) ≡ true
    go receive true u t e = let z : ◌≡◌ {A = ℕ} 0 1 = cc (rw u at e) in absurd (omega arith)
    go receive false u t e = absurd (rw u at t)
    go send_side true u t e = rw (u, flow-once p.berth.rx)
    go send_side false u t e = let z : ◌≡◌ {A = ℕ} 0 1 = cc (rw u at e) in absurd (omega arith)

module _ (s : Side) (k : ℕ) (h : Held) (sound : Sound h) (small : k < berth_count) (is-due : T (due (side_of s (part_of k h)).berth)) where
  due-k : T (due (berth_at h.node k))
  unfolding part_of
  due-k = side-due s (part_of k h) is-due

  some : passed_over h.node < berth_count
  some = some-reached h.node sound.order k small due-k

  abbrev after : Held
  after = (outcome h (turn blank)).held

  served-now : after.node.served ≡ reached h.node
  served-now = ap (λ (g : Held). g.node.served) (held-is k h (turn blank) (turn-met h sound)) ∙ served-done
    where
      served-done : (done h (turn blank)).node.served ≡ reached h.node
      served-done = unfold done after_turn served_node in (rw (ltb-is (passed_over h.node) berth_count some))

  -- it is this side's turn, or its wait is shorter after it
  turn-or-shorter : TurnOf k h s (turn blank) ⊎ (SparedBy k h s (turn blank) × (waiting s k after < waiting s k h))
  unfolding waiting
  turn-or-shorter = go (eqb-cases (reached h.node) k) (test-cases (same_side s (turn_side (part_of k h))))
    where
      met : refusal h (turn blank) ≡ 0
      met = turn-met h sound

      go : Tested (eqb (reached h.node) k) (reached h.node ≡ k) (reached h.node ≡ k → ⊥)
          → Tested (same_side s (turn_side (part_of k h))) (T (same_side s (turn_side (part_of k h)))) (T (not (same_side s (turn_side (part_of k h)))))
          → TurnOf k h s (turn blank) ⊎ (SparedBy k h s (turn blank) × (waiting s k after < waiting s k h))
      go (holds u q) (holds v t) = inl (turn-of-side k h sound small s blank met some q t)
      go (holds u q) (fails v t) =
          let part : part_of k after ≡ part_after h.node.settings (part_of k h) turns =
          part_step k h (turn blank) ∙ ap (alone h.node.settings (part_of k h)) (own-k k h sound small s blank met some q) ∙ unfold alone in refl in
          let mine : same_side s (turn_side (part_of k after)) ≡ true =
          ap (λ (p : Part). same_side s (turn_side p)) part ∙ then-its-own h.node.settings s (part_of k h) is-due v in
          let short : distance after.node.served k < berth_count = near after.node.served k in
          inr (turn-of-other k h sound small s blank met some q t, rw (v, mine) (omega arith))
      go (fails u ne) w =
          let nobody : own k h (turn blank) ≡ [] = own_is k h (turn blank) met ∙ unfold own_done in (rw (ltb-is (passed_over h.node) berth_count some, u)) in
          let part : part_of k after ≡ part_of k h = part_step k h (turn blank) ∙ ap (alone h.node.settings (part_of k h)) nobody ∙ unfold alone in refl in
          let l : distance after.node.served k < distance h.node.served k =
          subst (λ (x : ℕ). distance x k < distance h.node.served k) (sym served-now) (nearer h.node sound.order k small due-k ne) in
          let same : pick (same_side s (turn_side (part_of k after))) 0 berth_count ≡ pick (same_side s (turn_side (part_of k h))) 0 berth_count =
          ap (λ (p : Part). pick (same_side s (turn_side p)) 0 berth_count) part in
          inr (other-berth k h sound small s blank met some ne, omega arith)

module _ (i j : ℕ) (small-i : i < berth_count) (small-j : j < berth_count) (set : Settings) (party : Party) (n : ℕ) (out : List ℕ) (E : BerthSettings → List Handed)
    (fit : n ≤ length out) (some_bytes : 1 ≤ n) (in_area : n ≤ set.area) (small : set.area ≤ short_most) where
  abbrev Lives : World → Type 0
  Lives w = Alive i j small-i small-j set party n out E w

  -- how far it is to the end: the steps to come, each after at most so many turns of others
  unfoldable far : World → ℕ → ℕ
  far w m = 50 * m + (waiting send_side i w.a + waiting receive j w.b)

  record Onto (w : World) (m : ℕ) (w' : World) : Type 0 where
    alive : Lives w'
    young : Young (line_in i j w')
    less : far w' alive.steps < far w m

  -- fewer steps to come is less far, whatever the waits are
  fewer-steps : (w w' : World) (m m' : ℕ) → m' < m → far w' m' < far w m
  unfolding far
  fewer-steps w w' m m' h = omega (arith, waiting-most send_side i w'.a, waiting-most receive j w'.b)

  -- ---- what to do next, done

  onto-there : (w : World) (s : Lives w) (d : List ℕ) (q : List (List ℕ)) → (line_in i j w).to_r ≡ d ∷ q → Onto w s.steps (acts i j w carry_b)
  unfolding acts
  onto-there w s d q e =
      let z : w.to_b ≡ d ∷ q = unfold line_in in e in
      let g = alive-carried_b i j small-i small-j set party n out E fit some_bytes in_area small w d q z s in
      let (l, k) = there-whole i j set party n out E fit some_bytes in_area small (line_in i j w) s.steps d q e s.phase in
      let line = took-B i j small-i small-j set party n out E w d q s.sound-b s.settings-b (omega (arith, whole-heard)) k in
      let y : Young (line_in i j (carried_b j w (d ∷ q))) =
      subst (λ (x : Line). Young x) (sym line) (young-there i j set party n out E fit some_bytes in_area small (line_in i j w) s.steps d q e s.phase) in
      subst (λ (x : List (List ℕ)). Onto w s.steps (carried_b j w x)) (sym z)
      (record { alive = g.alive; young = y; less = fewer-steps w (carried_b j w (d ∷ q)) s.steps g.alive.steps g.fewer })

  onto-back : (w : World) (s : Lives w) → Young (line_in i j w) → (d : List ℕ) (q : List (List ℕ)) → (line_in i j w).to_s ≡ d ∷ q → Onto w s.steps (acts i j w carry_a)
  unfolding acts
  onto-back w s young d q e =
      let z : w.to_a ≡ d ∷ q = unfold line_in in e in
      let g = alive-carried_a i j small-i small-j set party n out E fit some_bytes in_area small w d q z s in
      let (l, k) = back_whole i j set party n out E fit some_bytes in_area small (line_in i j w) s.steps d q e s.phase in
      let (line, o) = took-A i j small-i small-j set party n out E w d q s.sound-a (omega (arith, whole-heard)) k in
      let y : Young (line_in i j (carried_a i w (d ∷ q))) =
      subst (λ (x : Line). Young x) (sym line) (young-back i j set party n out E fit some_bytes in_area small w.a.node.settings (line_in i j w) s.steps d q e s.phase young) in
      subst (λ (x : List (List ℕ)). Onto w s.steps (carried_a i w x)) (sym z)
      (record { alive = g.alive; young = y; less = fewer-steps w (carried_a i w (d ∷ q)) s.steps g.alive.steps g.fewer })

  shorter-A : (w : World) (c : Call) (m : ℕ) → waiting send_side i (outcome w.a c).held < waiting send_side i w.a → far (call_a i w c) m < far w m
  unfolding far left_a
  shorter-A w c m h = omega arith

  shorter-B : (w : World) (c : Call) (m : ℕ) → waiting receive j (outcome w.b c).held < waiting receive j w.b → far (call_b j w c) m < far w m
  unfolding far left_b
  shorter-B w c m h = omega arith

  message-due : (h : Held) → T (message_due (berth_at h.node i).tx) → T (due (side_of send_side (part_of i h)).berth)
  unfolding due side_of part_of
  message-due h t = t

  flow-due : (h : Held) → T (flow_due (berth_at h.node j).rx) → T (due (side_of receive (part_of j h)).berth)
  unfolding due side_of part_of
  flow-due h t = rw (is_true (flow_due (berth_at h.node j).rx) t) tt

  onto-message : (w : World) (s : Lives w) → Young (line_in i j w) → T (message_due (line_in i j w).tx) → Onto w s.steps (acts i j w (at_a (turn blank)))
  unfolding acts after-A
  onto-message w s young t =
      ⊎_elim
      (λ x.
      let (d, line, o) = turn-A i j small-i small-j set party n out E w (turn blank) s.kept x in
      let (m, h, ph) = hands-S i j set party n out E (line_in i j w) s.steps t s.phase in
      record {
        alive = after-A i j small-i small-j set party n out E w (turn blank) s m (subst (λ (l : Line). Phase i j set party n out E l m) (sym line) ph) o;
        young = subst (λ (l : Line). Young l) (sym line) (young-handed i j set party n out E (line_in i j w));
        less = fewer-steps w (call_a i w (turn blank)) s.steps m h;
      })
      (λ x.
      let (line, o) = spared-A i j small-i small-j set party n out E w (turn blank) s.kept x.0 in
      record {
        alive = after-A i j small-i small-j set party n out E w (turn blank) s s.steps (subst (λ (l : Line). Phase i j set party n out E l s.steps) (sym line) s.phase) o;
        young = subst (λ (l : Line). Young l) (sym line) young;
        less = shorter-A w (turn blank) s.steps x.1;
      })
      (turn-or-shorter send_side i w.a s.sound-a small-i (message-due w.a (unfold line_in in t)))

  free-turn : (k : ℕ) (s : Side) (h : Held) → Spares s k h (turn blank)
  unfolding spares
  free-turn k s h e = tt

  onto-flow : (w : World) (s : Lives w) → Young (line_in i j w) → T (flow_due (line_in i j w).rx) → Onto w s.steps (acts i j w (at_b (turn blank)))
  unfolding acts after-B
  onto-flow w s young t =
      let none = neither-said j w.b s.sound-b small-j (turn blank) (free-turn j receive w.b) in
      ⊎_elim
      (λ x.
      let (d, line) = turn-B i j small-i small-j set party n out E w (turn blank) none x in
      let (m, h, ph) = hands-R i j set party n out E (line_in i j w) s.steps t s.phase in
      record {
        alive = after-B i j small-i small-j set party n out E w (turn blank) s m (subst (λ (l : Line). Phase i j set party n out E l m) (sym line) ph);
        young = subst (λ (l : Line). Young l) (sym line) (young-flow i j set party n out E (line_in i j w) s.steps s.phase t);
        less = fewer-steps w (call_b j w (turn blank)) s.steps m h;
      })
      (λ x.
      let line = spared-B i j small-i small-j set party n out E w (turn blank) none x.0 in
      record {
        alive = after-B i j small-i small-j set party n out E w (turn blank) s s.steps (subst (λ (l : Line). Phase i j set party n out E l s.steps) (sym line) s.phase);
        young = subst (λ (l : Line). Young l) (sym line) young;
        less = shorter-B w (turn blank) s.steps x.1;
      })
      (turn-or-shorter receive j w.b s.sound-b small-j (flow-due w.b (unfold line_in in t)))

  -- a tick on both nodes
  abbrev ticked-both : World → World
  ticked-both w = call_b j (call_a i w tick) tick

  code-A : (w : World) → tx_code (line_in i j w).tx ≡ 0 → T (spares send_side i w.a tick)
  unfolding spares line_in
  code-A w z = yes_eqb z

  code-B : (w : World) → rx_code (line_in i j w).rx ≡ 0 → T (spares receive j (call_a i w tick).b tick)
  unfolding spares line_in left_a
  code-B w z = yes_eqb z

  onto-tick : (w : World) (s : Lives w) → tx_code (line_in i j w).tx ≡ 0 → rx_code (line_in i j w).rx ≡ 0
      → Nearer i j set party n out E s.steps (tick_r i j set party n out E (tick_s i j set party n out E (line_in i j w)))
      → Young (tick_r i j set party n out E (tick_s i j set party n out E (line_in i j w))) → Onto w s.steps (ticked-both w)
  unfolding left_a left_b
  onto-tick w s za zb near young =
      let v : World = call_a i w tick in
      let (x, line-a, o) = tick-A i j small-i small-j set party n out E w tick s.kept (touch-tick i w.a send_side (tick-met w.a s.sound-a.order s.sound-a.ten) (code-A w za)) in
      let none = neither-said j w.b s.sound-b small-j tick (λ e. code-B w zb) in
      let (y, line-b) = tick-B i j small-i small-j set party n out E (call_a i w tick) tick none (touch-tick j w.b receive (tick-met w.b s.sound-b.order s.sound-b.ten) (code-B w zb)) in
      let line : line_in i j (ticked-both w) ≡ tick_r i j set party n out E (tick_s i j set party n out E (line_in i j w)) = line-b ∙ ap (tick_r i j set party n out E) line-a in
      let (m, h, ph) = near in
      record {
        alive = record {
          sound-a = sound-step w.a tick s.sound-a;
          sound-b = sound-step w.b tick s.sound-b;
          settings-b = settings-step w.b tick ∙ s.settings-b;
          kept = o;
          steps = m;
          phase = subst (λ (l : Line). Phase i j set party n out E l m) (sym line) ph;
        };
        young = subst (λ (l : Line). Young l) (sym line) young;
        less = fewer-steps w (ticked-both w) s.steps m h;
      }

  -- ---- one act before a schedule

  before : (w : World) (act : Act) (d : Deed) (rest : List Act) → deeds_of act ≡ d ∷ [] → Apart i j w d → Finishes i j (acts i j w d) rest
      → Finishes i j w (act ∷ rest)
  unfolding over AllApart living
  before w act d rest e t f =
      record {
        apart = subst (λ (ds : List Deed). AllApart i j w (ds ++ over deeds_of rest)) (sym e) (t, f.apart);
        rest = subst (λ (ds : List Deed). AtRest i j (living i j w (ds ++ over deeds_of rest))) (sym e) f.rest;
      }

  before-tick : (w : World) (rest : List Act) → Spares send_side i w.a tick → Spares receive j (call_a i w tick).b tick → Finishes i j (ticked-both w) rest
      → Finishes i j w (tick_both ∷ rest)
  unfolding over AllApart living deeds_of acts
  before-tick w rest t u f = record { apart = (t, (u, f.apart)); rest = f.rest }

  abbrev Ends : World → Type 0
  Ends w = (schedule : List Act) × Finishes i j w schedule

  finish : (fuel : ℕ) (w : World) (s : Lives w) → Young (line_in i j w) → far w s.steps < fuel → Ends w
  finish zero w s young h = absurd (omega arith)
  finish (suc fuel) w s young h = go (next i j set party n out E fit some_bytes in_area small (line_in i j w) s.steps s.phase young)
      (λ w' o. finish fuel w' o.alive o.young (omega (arith, o.less)))
    where
      go : Next i j set party n out E fit some_bytes in_area small (line_in i j w) s.steps → ((w' : World) → Onto w s.steps w' → Ends w') → Ends w
      go (bring-there d q e) on = let (r, f) = on (acts i j w carry_b) (onto-there w s d q e) in (bring_b ∷ r, before w bring_b carry_b r (unfold deeds_of in refl) tt f)
      go (bring-back d q e) on = let (r, f) = on (acts i j w carry_a) (onto-back w s young d q e) in (bring_a ∷ r, before w bring_a carry_a r (unfold deeds_of in refl) tt f)
      go (hand-message t) on =
          let (r, f) = on (acts i j w (at_a (turn blank))) (onto-message w s young t) in
          (turn_a ∷ r, before w turn_a (at_a (turn blank)) r (unfold deeds_of in refl) (free-turn i send_side w.a) f)
      go (hand-flow t) on =
          let (r, f) = on (acts i j w (at_b (turn blank))) (onto-flow w s young t) in
          (turn_b ∷ r, before w turn_b (at_b (turn blank)) r (unfold deeds_of in refl) (free-turn j receive w.b) f)
      go (wait a b near y) on =
          let (r, f) = on (ticked-both w) (onto-tick w s a b near y) in
          (tick_both ∷ r, before-tick w r (λ e. code-A w a) (λ e. code-B w b) f)
      go (at-end a b c d e) on = ([], record { apart = unfold over AllApart in tt; rest = unfold over living line_in in (record { none-there = a; none-back = b; none-due = c; no_gap = d; no_flow = e }) })

-- THE LINE'S LAW IS NOT EMPTY. For either party, every message, both areas, block sizes and STmin, from every start that the law allows
-- (other berths due included), there is a schedule in which every tick falls on both nodes, nothing touches the two sides, no timer of
-- theirs reaches 1,000, and which ends at rest; so by the law the message has arrived.
pub schedule-exists : (i j party : ℕ) (m : List ℕ) (a b : Held) → MayBegin i j party m a b
    → (schedule : List Act) × Finishes i j (begin i party m a b) schedule × Arrived i j party m (living i j (begin i party m a b) (over deeds_of schedule))
schedule-exists i j party m a b may =
    let s = begun-alive i j party m a b may in
    let idle : (line_in i j (begin i party m a b)).rx ≡ Rx.Idle = unfold line_in in may.idle-b in
    let (schedule, f) =
    finish i j may.small-i may.small-j (set_b i j party m a b may) (the_party i j party m a b may) (length m) (out_a i j party m a b may) (expected i j party m a b may)
    (fit-a i j party m a b may) may.some may.fits-b (small_b i j party m a b may)
    (suc (far i j may.small-i may.small-j (set_b i j party m a b may) (the_party i j party m a b may) (length m) (out_a i j party m a b may) (expected i j party m a b may)
    (fit-a i j party m a b may) may.some may.fits-b (small_b i j party m a b may) (begin i party m a b) s.steps))
    (begin i party m a b) s
    (young-start (line_in i j (begin i party m a b)) idle)
    (omega arith) in
    (schedule, f, line-law i j party m a b may (over deeds_of schedule) f.apart f.rest)
