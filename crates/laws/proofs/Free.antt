-- Every berth comes free. A tick takes one off a side's time left, and where one was left ends the side with its code (rules/proofs/Clocks). So
-- by induction, of ticks that are a berth's only events, each side ends when its time has come and reports once; isolation brings this to
-- every run of the node in which the berth has no other events of its own.
use mathlib.Core.Path.{◌≡◌, refl, sym, ap, ap₂, ◌∙◌, subst}
use Prim.Native.Nat.{ℕ, zero, suc, ◌-◌, ◌≤◌, ◌<◌}
use native.Mathlib.Omega.{arith}
use mathlib.Core.Bool.{Bool, true, false, not, ◌&&◌}
use mathlib.Core.List.Memᴰ
use mathlib.Core.List.{List, [], ◌∷◌, ◌++◌, append-nil, Memᴰ}
use mathlib.Core.Logic.{⊎_elim}
use lib.ListN.{length, get_or, replicate}
use lib.Dec.{T, eqb}
use Rattle.rules.specs.Tests.{unless}
use Rattle.rules.specs.Numbers.{berth_count, N_TIMEOUT_A, N_TIMEOUT_Cr}
use Rattle.rules.specs.Parties.{scheduler, party_of, reporting}
use Rattle.rules.specs.Nodes.{berth_at, Held}
use Rattle.rules.specs.Ranges.{InOrder}
use Rattle.rules.specs.Ticks.{rx_code, rx_ticked, tx_code, tx_ticked, tx_party, ticked}
use Rattle.rules.specs.Stores.{area_of, ticked_node}
use Rattle.rules.specs.Answers.{refused, Side, receive, send, Report, reported}
use Rattle.rules.specs.Events.{Call, tick, Event, ticks}
use Rattle.rules.specs.Cards.{card_at, frozen, plus, raised, added, under_way, tick_adds, adds}
use Rattle.rules.specs.Refusals.{refusal}
use Rattle.rules.specs.Calls.{done, reply, written, buffer_of, refused_outcome, outcome, answers, final}
use Rattle.rules.specs.Alone.{Part, part_of, Says, expires, accepts, state_after, part_after, says, alone, says_all}
use Rattle.rules.specs.Clocks.{still, tx_clock, clock_of, time_left, most_time, end_code, tick_code, side_party, code_at, code_within}
use Rattle.rules.specs.declared.Settings.{Settings}
use Rattle.rules.specs.declared.Party.{Party}
use Rattle.rules.specs.declared.Berth.{Berth}
use Rattle.rules.specs.declared.Card.{Card}
use Rattle.rules.proofs.Cases.{split, pick-either, and-false}
use Rattle.rules.proofs.Parties.{kept-own, kept-ticked, named-alike, kept-reporting}
use Rattle.rules.proofs.Order.{order-kept, run-in-order}
use Rattle.rules.proofs.Clocks.{InTime, Tick, goes_on, ends, rests, side-tick, still-silent, silent-after, Within, is-now, is_later, one-more-tick, stays-in-time, time-ticked, code-first, code-next, code-within, in-time, time-most, none_within, all-within, over-idle, one-report, no-report, under-way-stays}
use Rattle.laws.specs.Own.{over, only, own_done, own, owns, says_of, said_reports}
use Rattle.laws.specs.Sides.{of_side}
use Rattle.laws.specs.Free.{clock_at, card_after, Keeps, LeftAlone, ComesFree, AllComeFree}
use Rattle.laws.proofs.Isolation.{settings-run, berth-alone, berth-says}
use Rattle.laws.proofs.Reports.{berth-reports}
use Rattle.laws.proofs.SetUp.{lengths-step}
use Rattle.laws.proofs.Sides.{of-side-append, tick-reported}
use Rattle.laws.proofs.Touch.{tick-met}

-- ---- a berth alone, with ticks its only events

abbrev Timely : Berth → Type 0
Timely b = (s : Side) → InTime (clock_of s b)

timely-on : (b : Berth) → Timely b → Timely (ticked b)
timely-on b t s = stays-in-time s b (t s)

-- two codes of one side, of which one at most is not 0, are reported as one
reported-both : (k : ℕ) (s : Side) (party : Party) (now later both : ℕ) → Within now later both
    → reported k s now party ++ reported k s later party ≡ reported k s both party
unfolding reported
reported-both k s party now later both (is-now none same) = rw (none, same) (append-nil (reported k s now party))
reported-both k s party now later both (is_later none same) = rw (none, same)

-- whatever a side still reports after a tick it reports for the same party
party-stays : (s : Side) (b : Berth) (c : ℕ) → (clock_of s (ticked b) ≡ still → c ≡ 0) → reporting c (side_party s (ticked b)) ≡ reporting c (side_party s b)
unfolding ticked
party-stays receive b c none = refl
party-stays send b c none = kept-reporting (party_of b.tx) (tx_ticked b.tx) c (kept-ticked (party_of b.tx) b.tx (kept-own b.tx)) (λ e. none (ap tx_clock e))

module _ (set : Settings) where
  abbrev aged : ℕ → Part → Part
  aged n p = alone set p (replicate n ticks)

  abbrev told : ℕ → Part → List Says
  told n p = says_all set p (replicate n ticks)

  time-aged : (s : Side) (n : ℕ) (p : Part) → Timely p.berth → time_left (clock_of s (aged n p).berth) ≡ time_left (clock_of s p.berth) - n
  unfolding alone part_after state_after
  time-aged s zero p t = omega arith
  time-aged s (suc n) p t =
      omega (arith, time-aged s n (part_after set p ticks) (timely-on p.berth t), time-ticked s p.berth (t s))

  -- what a tick does not touch
  rest-aged : (n : ℕ) (p : Part) → ((aged n p).berth.settings ≡ p.berth.settings) × ((aged n p).berth.last ≡ p.berth.last)
  unfolding alone part_after state_after ticked
  rest-aged zero p = (refl, refl)
  rest-aged (suc n) p = rest-aged n (part_after set p ticks)

  areas-aged : (n : ℕ) (p : Part) → ((aged n p).incoming ≡ p.incoming) × ((aged n p).outgoing ≡ p.outgoing)
  unfolding alone part_after state_after
  areas-aged zero p = (refl, refl)
  areas-aged (suc n) p = areas-aged n (part_after set p ticks)

  -- ---- what it says

  told-length : (n : ℕ) (p : Part) → length (told n p) ≡ n
  unfolding says_all
  told-length zero p = refl
  told-length (suc n) p = ap suc (told-length n (part_after set p ticks))

  told_at : (n : ℕ) (p : Part) → Timely p.berth → (i : ℕ) → i < n
      → get_or (told n p) i accepts
      ≡ expires (code_at (suc i) (clock_of receive p.berth)) (code_at (suc i) (clock_of send p.berth))
      (reporting (code_at (suc i) (clock_of send p.berth)) (side_party send p.berth))
  unfolding says_all says part_after state_after
  told_at zero p t i l = absurd (omega arith)
  told_at (suc n) p t zero l = ap₂ (λ (r s : ℕ). expires r s (reporting s (side_party send p.berth))) (code-first receive p.berth (t receive)) (code-first send p.berth (t send))
  told_at (suc n) p t (suc i) l =
      told_at n (part_after set p ticks) (timely-on p.berth t) i (omega arith)
      ∙ ap (expires (code_at (suc i) (clock_of receive (ticked p.berth))) (code_at (suc i) (clock_of send (ticked p.berth))))
      (party-stays send p.berth (code_at (suc i) (clock_of send (ticked p.berth))) (λ z. rw z (still-silent (suc i))))
      ∙ sym (ap₂ (λ (r s : ℕ). expires r s (reporting s (side_party send p.berth))) (code-next receive p.berth (t receive) i) (code-next send p.berth (t send) i))

  told-reports : (k : ℕ) (s : Side) (n : ℕ) (p : Part) → Timely p.berth
      → of_side s (over (said_reports k) (told n p)) ≡ reported k s (code_within n (clock_of s p.berth)) (side_party s p.berth)
  unfolding says_all says part_after state_after over said_reports
  told-reports k s zero p t = rw (none_within (clock_of s p.berth) (t s)) (unfold of_side only reported in refl)
  told-reports k s (suc n) p t =
      of-side-append s (reported k receive (rx_code p.berth.rx) scheduler ++ reported k send (tx_code p.berth.tx) (tx_party p.berth.tx)) (over (said_reports k) (told n (part_after set p ticks)))
      ∙ ap₂ (λ (x y : List Report). x ++ y) (tick-reported k p.berth s) (told-reports k s n (part_after set p ticks) (timely-on p.berth t) ∙ same)
      ∙ reported-both k s (side_party s p.berth) _ _ _ (code-within s p.berth (t s) n)
    where
      later : ℕ
      later = code_within n (clock_of s (ticked p.berth))

      same : reported k s later (side_party s (ticked p.berth)) ≡ reported k s later (side_party s p.berth)
      same = named-alike k s later _ _ (party-stays s p.berth later (λ z. rw z (all-within still n (omega arith))))

-- ---- its card

-- where there is no receive code it does not matter what was under way
no-code-adds : (was is : Bool) (code : ℕ) → tick_adds was 0 code ≡ tick_adds is 0 code
unfolding tick_adds
no-code-adds true true code = refl
no-code-adds true false code = refl
no-code-adds false true code = refl
no-code-adds false false code = refl

-- so a later tick adds the same, from what was under way before this one
adds-later : (b : Berth) → Timely b → (i code : ℕ)
    → tick_adds (under_way b.rx) (code_at (suc i) (clock_of receive (ticked b))) code
    ≡ tick_adds (under_way (ticked b).rx) (code_at (suc i) (clock_of receive (ticked b))) code
unfolding ticked
adds-later b t i code = go (side-tick receive b (t receive))
  where
    ended : clock_of receive (ticked b) ≡ still
        → tick_adds (under_way b.rx) (code_at (suc i) (clock_of receive (ticked b))) code
        ≡ tick_adds (under_way (ticked b).rx) (code_at (suc i) (clock_of receive (ticked b))) code
    ended z = rw (z, still-silent (suc i)) (no-code-adds (under_way b.rx) (under_way (rx_ticked b.rx)) code)

    go : Tick (clock_of receive b) (clock_of receive (ticked b)) (tick_code receive b)
        → tick_adds (under_way b.rx) (code_at (suc i) (clock_of receive (ticked b))) code
        ≡ tick_adds (under_way (ticked b).rx) (code_at (suc i) (clock_of receive (ticked b))) code
    go (goes_on some less same none) = rw (under-way-stays b.rx some)
    go (ends one z now) = ended z
    go (rests e z none) = ended z

-- the card after one tick and n more
card-first : (n : ℕ) (b : Berth) (card : Card) → Timely b
    → card_after (suc n) b card ≡ card_after n (ticked b) (added card (tick_adds (under_way b.rx) (rx_code b.rx) (tx_code b.tx)))
unfolding card_after
card-first zero b card t =
    ap₂ (λ (r s : ℕ). added card (tick_adds (under_way b.rx) r s)) (sym (code-first receive b (t receive))) (sym (code-first send b (t send)))
card-first (suc n) b card t =
    rw (code-next receive b (t receive) n, code-next send b (t send) n, adds-later b t n (code_at (suc n) (clock_of send (ticked b))))
    (ap (λ (c : Card). added c (tick_adds (under_way (ticked b).rx) (code_at (suc n) (clock_of receive (ticked b))) (code_at (suc n) (clock_of send (ticked b))))) (card-first n b card t))

card-aged : (set : Settings) (n : ℕ) (p : Part) → Timely p.berth → (aged set n p).card ≡ card_after n p.berth p.card
unfolding alone part_after state_after adds
card-aged set zero p t = unfold card_after in refl
card-aged set (suc n) p t =
    card-aged set n (part_after set p ticks) (timely-on p.berth t) ∙ sym (card-first n p.berth p.card t)

-- ---- a card that is not frozen at the end has grown by all that was reported

-- of two codes, of which one at most is not 0, a test that 0 fails counts one
plus-both : (test : ℕ → Bool) → test 0 ≡ false → (count now later both : ℕ) → Within now later both
    → plus (plus count (test now)) (test later) ≡ plus count (test both)
plus-both test fails count now later both (is-now none same) = rw (none, same, fails)
plus-both test fails count now later both (is_later none same) = rw (none, same, fails)

module _ (under : Bool) where
  raised-none : (c : Card) → raised c (tick_adds under 0 0) ≡ c
  unfolding tick_adds
  raised-none c = rw (and-false under)

  added_none : (c : Card) → added c (tick_adds under 0 0) ≡ c
  unfolding added
  added_none c = pick-either (λ (x : Card). x ≡ c) (frozen c) _ _ (λ t. refl) (λ t. raised-none c)

  raised_both : (c : Card) (r₁ r₂ r s₁ s₂ s : ℕ) → Within r₁ r₂ r → Within s₁ s₂ s
      → raised (raised c (tick_adds under r₁ s₁)) (tick_adds under r₂ s₂) ≡ raised c (tick_adds under r s)
  unfolding tick_adds
  raised_both c r₁ r₂ r s₁ s₂ s u v = λ i. record {
    begun = c.begun;
    delivered = c.delivered;
    failed2 = plus-both (λ x. under && eqb x N_TIMEOUT_A) (and-false under) c.failed2 r₁ r₂ r u i;
    failed4 = plus-both (λ x. under && eqb x N_TIMEOUT_Cr) (and-false under) c.failed4 r₁ r₂ r u i;
    failed5 = c.failed5;
    failed7 = c.failed7;
    toolong = c.toolong;
    sent = c.sent;
    unsent = plus-both (λ x. not (eqb x 0)) refl c.unsent s₁ s₂ s v i;
  }

card-grown : (n : ℕ) (b : Berth) (card : Card) → Timely b → frozen (card_after n b card) ≡ false
    → card_after n b card ≡ raised card (tick_adds (under_way b.rx) (code_within n (clock_of receive b)) (code_within n (clock_of send b)))
unfolding card_after added
card-grown zero b card t f =
    rw (none_within (clock_of receive b) (t receive), none_within (clock_of send b) (t send)) (sym (raised-none (under_way b.rx) card))
card-grown (suc n) b card t f = go (frozen (card_after n b card)) refl f (card-grown n b card t)
  where
    r : ℕ
    r = code_at (suc n) (clock_of receive b)

    s : ℕ
    s = code_at (suc n) (clock_of send b)

    go : (x : Bool) → frozen (card_after n b card) ≡ x → frozen (added (card_after n b card) (tick_adds (under_way b.rx) r s)) ≡ false
        → (frozen (card_after n b card) ≡ false
        → card_after n b card ≡ raised card (tick_adds (under_way b.rx) (code_within n (clock_of receive b)) (code_within n (clock_of send b))))
        → added (card_after n b card) (tick_adds (under_way b.rx) r s)
        ≡ raised card (tick_adds (under_way b.rx) (code_within (suc n) (clock_of receive b)) (code_within (suc n) (clock_of send b)))
    go true e g so_far = absurd (subst T (sym e ∙ (rw e at g)) tt)
    go false e g so_far =
        rw e (ap (λ (c : Card). raised c (tick_adds (under_way b.rx) r s)) (so_far e)
        ∙ raised_both (under_way b.rx) card _ r _ _ s _ (one-more-tick (clock_of receive b) n) (one-more-tick (clock_of send b) n))

-- ---- and when both times are over it stays

card-late : (n : ℕ) (b : Berth) (card : Card) → ((s : Side) → time_left (clock_of s b) ≤ n) → card_after (suc n) b card ≡ card_after n b card
unfolding card_after
card-late n b card over =
    let none : (s : Side) → code_at (suc n) (clock_of s b) ≡ 0 = λ s. silent-after (clock_of s b) (suc n) (omega (arith, over s)) in
    rw (none receive, none send) (added_none (under_way b.rx) (card_after n b card))

card-still : (n m : ℕ) (b : Berth) (card : Card) → ((s : Side) → time_left (clock_of s b) ≤ m) → m ≤ n → card_after n b card ≡ card_after m b card
card-still zero m b card over l = ap (λ (x : ℕ). card_after x b card) (omega arith)
card-still (suc n) m b card over l =
    split m n (λ few. card-late n b card (λ s. omega (arith, over s)) ∙ card-still n m b card over few)
    (λ all. ap (λ (x : ℕ). card_after x b card) (omega arith))

-- ---- in a run of the node

-- all of them are berth k's own
pub ticks-owned : (k n : ℕ) (h : Held) → InOrder h.node → length h.cards ≡ berth_count → owns k h (replicate n tick) ≡ replicate n ticks
unfolding owns own own_done
ticks-owned k zero h order ten = refl
ticks-owned k (suc n) h order ten =
    ap (λ (x : ℕ). unless x (λ y. []) (ticks ∷ []) ++ owns k (outcome h tick).held (replicate n tick)) (tick-met h order ten)
    ∙ ap (λ (es : List Event). ticks ∷ es) (ticks-owned k n (outcome h tick).held (order-kept h tick order) ((lengths-step h tick).2 ∙ ten))

module _ (n k : ℕ) (h : Held) (cs : List Call) (order : InOrder h.node) (small : k < berth_count) (only-ticks : owns k h cs ≡ replicate n ticks) where
  timely : Timely (berth_at h.node k)
  timely = in-time h.node.settings (berth_at h.node k) (order.berth k small)

  part_left : part_of k (final h cs) ≡ aged h.node.settings n (part_of k h)
  part_left = berth-alone k h cs ∙ ap (alone h.node.settings (part_of k h)) only-ticks

  part-told : over (says_of k) (answers h cs) ≡ told h.node.settings n (part_of k h)
  part-told = berth-says k h cs ∙ ap (says_all h.node.settings (part_of k h)) only-ticks

  keeps : Keeps k h (final h cs)
  unfolding part_of
  keeps =
      let area : area_of (final h cs).node.settings.area ≡ area_of h.node.settings.area = ap (λ (x : Settings). area_of x.area) (settings-run h cs) in
      let (settings, last) = rest-aged h.node.settings n (part_of k h) in
      let (incoming, outgoing) = areas-aged h.node.settings n (part_of k h) in
      record {
        settings = ap (λ (p : Part). p.berth.settings) part_left ∙ settings;
        last = ap (λ (p : Part). p.berth.last) part_left ∙ last;
        incoming = ap (λ (f : ℕ → List ℕ → List ℕ). f k (final h cs).incoming) (sym area) ∙ ap (λ (p : Part). p.incoming) part_left ∙ incoming;
        outgoing = ap (λ (f : ℕ → List ℕ → List ℕ). f k (final h cs).outgoing) (sym area) ∙ ap (λ (p : Part). p.outgoing) part_left ∙ outgoing;
      }

  -- A BERTH LEFT ALONE. Take any run of the six calls on a node in order in which the own events of berth k are n ticks, whatever the other
  -- berths do. Each of its sides has n ticks less left, or none, and is then idle; it says its code at the tick at which its time ends and at no
  -- other.
  pub run-left-alone : LeftAlone n k h (answers h cs) (final h cs)
  unfolding part_of
  run-left-alone =
      let timely-end = in-time (final h cs).node.settings (berth_at (final h cs).node k) ((run-in-order h cs order).berth k small) in
      let left : (s : Side) → time_left (clock_at s k (final h cs)) ≡ time_left (clock_at s k h) - n =
      λ s. ap (λ (p : Part). time_left (clock_of s p.berth)) part_left ∙ time-aged h.node.settings s n (part_of k h) timely in
      record {
        left = left;
        idle = λ s over. over-idle s (berth_at (final h cs).node k) (timely-end s) (omega (arith, left s));
        ticks = ap length part-told ∙ told-length h.node.settings n (part_of k h);
        when = λ i l. ap (λ (xs : List Says). get_or xs i accepts) part-told ∙ told_at h.node.settings n (part_of k h) timely i l;
        in_all = λ s.
            ap (of_side s) (berth-reports k h cs ∙ ap (λ (es : List Event). over (said_reports k) (says_all h.node.settings (part_of k h) es)) only-ticks)
            ∙ told-reports h.node.settings k s n (part_of k h) timely;
        card = ap (λ (p : Part). p.card) part_left ∙ card-aged h.node.settings n (part_of k h) timely;
        kept = keeps;
      }

  -- A BERTH THAT IS LEFT ALONE COMES FREE: the same with 1,128 ticks or more, whatever the other berths do.
  pub run-comes-free : most_time ≤ n → ComesFree k h (answers h cs) (final h cs)
  unfolding part_of
  run-comes-free enough =
      let alone = run-left-alone in
      let over : (s : Side) → time_left (clock_at s k h) ≤ n = λ s. omega (arith, time-most (clock_at s k h) (timely s)) in
      let all : (s : Side) → code_within n (clock_at s k h) ≡ end_code (clock_at s k h) = λ s. all-within (clock_at s k h) n (over s) in
      record {
        idle = λ s. alone.idle s (over s);
        one_code = λ s some. alone.in_all s ∙ ap (λ (c : ℕ). reported k s c (side_party s (berth_at h.node k))) (all s) ∙ one-report k s (berth_at h.node k) (side_party s (berth_at h.node k)) some;
        no_code = λ s none. alone.in_all s ∙ ap (λ (c : ℕ). reported k s c (side_party s (berth_at h.node k))) (all s) ∙ no-report k s (berth_at h.node k) (side_party s (berth_at h.node k)) none;
        card = alone.card ∙ card-still n most_time (berth_at h.node k) (card_at h.cards k) (λ s. time-most (clock_at s k h) (timely s)) enough;
        grown = λ f. alone.card ∙ card-grown n (berth_at h.node k) (card_at h.cards k) timely (ap frozen (sym alone.card) ∙ f)
            ∙ ap₂ (λ (r s : ℕ). raised (card_at h.cards k) (tick_adds (under_way (berth_at h.node k).rx) r s)) (all receive) (all send);
        kept = alone.kept;
      }

-- ---- ticks with no other call between

-- what no tick touches, answered or not
abbrev Rests : Held → Held → Type 0
Rests h g = (g.node.served ≡ h.node.served) × (g.incoming ≡ h.incoming) × (g.outgoing ≡ h.outgoing)

tick-rests : (h : Held) → Rests h (outcome h tick).held
unfolding outcome refused_outcome done ticked_node
tick-rests h = go (refusal h tick)
  where
    go : (n : ℕ) → Rests h (unless n (refused_outcome h (buffer_of tick)) (record { answer = reply h tick; held = done h tick; buffer = written h tick })).held
    go zero = (refl, refl, refl)
    go (suc n) = (refl, refl, refl)

ticks-rest : (n : ℕ) (h : Held) → Rests h (final h (replicate n tick))
unfolding final
ticks-rest zero h = (refl, refl, refl)
ticks-rest (suc n) h =
    let (served, incoming, outgoing) = ticks-rest n (outcome h tick).held in
    let r = tick-rests h in
    (served ∙ r.0, incoming ∙ r.1, outgoing ∙ r.2)

tick-codes : (h : Held) → refusal h tick ≡ 0 → (number : ℕ) → refused number ≡ (outcome h tick).answer → ⊥
unfolding outcome reply
tick-codes h e number q =
    let c = ap (λ (n : ℕ). (unless n (refused_outcome h (buffer_of tick)) (record { answer = reply h tick; held = done h tick; buffer = written h tick })).answer) e in
    let z : ◌≡◌ {A = ℕ} 0 1 = cc in omega arith

ticks-answered : (n : ℕ) (h : Held) → InOrder h.node → length h.cards ≡ berth_count → (number : ℕ)
    → Memᴰ (refused number) (answers h (replicate n tick)) → ⊥
unfolding answers
ticks-answered zero h order ten number m = Memᴰ.not-nil m
ticks-answered (suc n) h order ten number m =
    ⊎_elim (tick-codes h (tick-met h order ten) number)
    (ticks-answered n (outcome h tick).held (order-kept h tick order) ((lengths-step h tick).2 ∙ ten) number)
    (Memᴰ.cases_cons m)

-- EVERY BERTH COMES FREE. From any node in order, whatever the stores and the ten cards, 1,128 ticks with no other call between them, or more,
-- are all answered and leave both sides of all ten berths idle; each side that was not idle has reported exactly its code, an idle one
-- none; cards that are not frozen have grown by exactly these reports, but for a code 2 after an overflow owed; areas, last
-- lengths, settings and the berth served last stay.
pub all-come-free : (h : Held) → InOrder h.node → length h.cards ≡ berth_count → (n : ℕ) → most_time ≤ n
    → AllComeFree h (answers h (replicate n tick)) (final h (replicate n tick))
all-come-free h order ten n enough =
    let (served, incoming, outgoing) = ticks-rest n h in
    record {
      answered = ticks-answered n h order ten;
      each = λ k l. run-comes-free n k h (replicate n tick) order l (ticks-owned k n h order ten) enough;
      area = settings-run h (replicate n tick);
      served = served;
      incoming = incoming;
      outgoing = outgoing;
    }
