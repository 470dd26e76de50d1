-- The law of the cards. What an event adds to a count is 1 exactly where its moment is counted, so by induction a card that is not frozen
-- before an event counts the history; and what an event adds to begun, with what was under way, is what it adds to delivered and failed,
-- with what is under way after it (rules, `event-even`).
use mathlib.Core.Path.{◌≡◌, refl, sym, ap, ◌∙◌, subst}
use Prim.Native.Nat.{ℕ, ◌+◌, ◌<◌}
use native.Mathlib.Omega.{arith}
use mathlib.Core.Bool.{Bool, true, false}
use mathlib.Core.List.{List, [], ◌∷◌, ◌++◌}
use lib.ListN.{get_or-replicate}
use lib.Dec.{T}
use Rattle.rules.specs.Numbers.{berth_count, N_TIMEOUT_A, N_TIMEOUT_Cr}
use Rattle.rules.specs.Nodes.{Held}
use Rattle.rules.specs.Events.{Call, Event, arrives, ticks, sends, turns, changes}
use Rattle.rules.specs.Cards.{zero_card, card_at, frozen, plus, raised, added, frame_adds, under_way, tick_adds, turn_adds, adds}
use Rattle.rules.specs.Refusals.{set_up_refusal}
use Rattle.rules.specs.Calls.{outcome, final}
use Rattle.rules.specs.Alone.{Part, part_of, part_after, says, alone, AtEach}
use Rattle.rules.specs.declared.Settings.{Settings}
use Rattle.rules.specs.declared.BerthSettings.{BerthSettings}
use Rattle.rules.specs.declared.Card.{Card}
use Rattle.rules.specs.declared.Adds.{Adds}
use Rattle.rules.proofs.Even.{one, event-even}
use Rattle.laws.specs.Own.{own, owns, set_up}
use Rattle.laws.specs.Histories.{Moment, history, history_of, how_many}
use Rattle.laws.specs.Cards.{zero_cards, begins, delivers, times_out, misses_sn, ends_old, turns_away, ends_sending, fails_sending, counts_of, failed, Tallies, Unbegun, TalliesAt, UnbegunAt, frozen_at}
use Rattle.laws.proofs.Isolation.{part_step, settings-step, berth-alone}
use Rattle.laws.proofs.SetUp.{set-up-part}
use Rattle.laws.proofs.Histories.{own-either, at-each-append, history-is}

-- ---- a frozen card

-- A FROZEN CARD STAYS FOR EVER, whatever its berth's events.
pub frozen-stays : (s : Settings) (p : Part) (es : List Event) → frozen p.card ≡ true → (alone s p es).card ≡ p.card
unfolding alone
frozen-stays s p [] f = refl
frozen-stays s p (e ∷ es) f =
    let same : (part_after s p e).card ≡ p.card = unfold part_after added in (rw f) in
    frozen-stays s (part_after s p e) es (ap frozen same ∙ f) ∙ same

-- the card is frozen before none of these events
abbrev Unfrozen : Settings → Part → List Event → Type 0
Unfrozen = AtEach (λ s p e. frozen p.card ≡ false)

-- one that is not frozen was never
never-frozen : (s : Settings) (p : Part) (es : List Event) → frozen (alone s p es).card ≡ false → frozen p.card ≡ false
never-frozen s p es f = go (frozen p.card) refl
  where
    go : (b : Bool) → frozen p.card ≡ b → frozen p.card ≡ false
    go false e = e
    go true e = absurd (subst T (sym (ap frozen (frozen-stays s p es e) ∙ e) ∙ f) tt)

-- so the card before the last event tells
before_last : (s : Settings) (p : Part) (es : List Event) (e : Event) → frozen (alone s p es).card ≡ false → Unfrozen s p (es ++ e ∷ [])
unfolding alone AtEach
before_last s p [] e f = (f, tt)
before_last s p (x ∷ es) e f = (never-frozen s p (x ∷ es) f, before_last s (part_after s p x) es e f)

-- ---- each count

plus_one : (n : ℕ) (b : Bool) → plus n b ≡ n + one b
plus_one n true = refl
plus_one n false = omega arith

-- the counts that a moment counts for
abbrev counts_for : Moment → Adds
counts_for m =
    record {
      begun = begins m;
      delivered = delivers m;
      failed2 = times_out N_TIMEOUT_A m;
      failed4 = times_out N_TIMEOUT_Cr m;
      failed5 = misses_sn m;
      failed7 = ends_old m;
      toolong = turns_away m;
      sent = ends_sending m;
      unsent = fails_sending m;
    }

-- an event raises a card that is not frozen before it
raised_by : (s : Settings) (p : Part) (e : Event) → frozen p.card ≡ false
    → (part_after s p e).card ≡ raised p.card (adds s p.berth p.outgoing e)
unfolding part_after added
raised_by s p e f = rw f

-- what an event adds is what its moment counts for
moment-adds : (s : Settings) (p : Part) (e : Event) → adds s p.berth p.outgoing e ≡ counts_for (record { before = p.berth.rx; event = e; said = says s p e })
unfolding adds frame_adds tick_adds turn_adds says
moment-adds s p (arrives d) = refl
moment-adds s p ticks = refl
moment-adds s p (sends party m) = refl
moment-adds s p turns = refl
moment-adds s p (changes parameter value) = refl

-- one count of the nine
module _ (count : Card → ℕ) (add : Adds → Bool) (up : (c : Card) (a : Adds) → count (raised c a) ≡ plus (count c) (add a)) where
  count-is : (s : Settings) (p : Part) (es : List Event) → Unfrozen s p es
      → count (alone s p es).card ≡ count p.card + how_many (λ m. add (counts_for m)) (history s p es)
  unfolding alone AtEach history how_many
  count-is s p [] u = omega arith
  count-is s p (e ∷ es) u =
      let m : Moment = record { before = p.berth.rx; event = e; said = says s p e } in
      let now : count (part_after s p e).card ≡ count p.card + one (add (counts_for m)) =
      ap count (raised_by s p e u.0)
      ∙ up p.card (adds s p.berth p.outgoing e)
      ∙ ap (λ (a : Adds). plus (count p.card) (add a)) (moment-adds s p e)
      ∙ plus_one (count p.card) (add (counts_for m)) in
      omega (arith, now, count-is s (part_after s p e) es u.1)

module _ (s : Settings) (p : Part) (es : List Event) (u : Unfrozen s p es) where
  counts-are : p.card ≡ zero_card → (alone s p es).card ≡ counts_of (history s p es)
  counts-are z = λ i. record {
    begun = of (λ c. c.begun) (λ a. a.begun) (λ c a. refl) refl i;
    delivered = of (λ c. c.delivered) (λ a. a.delivered) (λ c a. refl) refl i;
    failed2 = of (λ c. c.failed2) (λ a. a.failed2) (λ c a. refl) refl i;
    failed4 = of (λ c. c.failed4) (λ a. a.failed4) (λ c a. refl) refl i;
    failed5 = of (λ c. c.failed5) (λ a. a.failed5) (λ c a. refl) refl i;
    failed7 = of (λ c. c.failed7) (λ a. a.failed7) (λ c a. refl) refl i;
    toolong = of (λ c. c.toolong) (λ a. a.toolong) (λ c a. refl) refl i;
    sent = of (λ c. c.sent) (λ a. a.sent) (λ c a. refl) refl i;
    unsent = of (λ c. c.unsent) (λ a. a.unsent) (λ c a. refl) refl i;
  }
    where
      of : (count : Card → ℕ) (add : Adds → Bool) (up : (c : Card) (a : Adds) → count (raised c a) ≡ plus (count c) (add a)) → count zero_card ≡ 0
          → count (alone s p es).card ≡ how_many (λ m. add (counts_for m)) (history s p es)
      of count add up none = omega (arith, count-is count add up s p es u, ap count z, none)

-- ---- begun

abbrev Balanced : Part → Type 0
Balanced p = p.card.begun ≡ p.card.delivered + failed p.card + one (under_way p.berth.rx)

balanced-after : (s : Settings) (p : Part) (e : Event) → frozen p.card ≡ false → Balanced p → Balanced (part_after s p e)
balanced-after s p e f b = rw (raised_by s p e f) (go (adds s p.berth p.outgoing e) (event-even s p e))
  where
    go : (a : Adds)
        → one a.begun + one (under_way p.berth.rx)
        ≡ one a.delivered + (one a.failed2 + one a.failed4 + one a.failed5 + one a.failed7) + one (under_way (part_after s p e).berth.rx)
        → (raised p.card a).begun ≡ (raised p.card a).delivered + failed (raised p.card a) + one (under_way (part_after s p e).berth.rx)
    go a even =
        omega (
          arith,
          even,
          b,
          plus_one p.card.begun a.begun,
          plus_one p.card.delivered a.delivered,
          plus_one p.card.failed2 a.failed2,
          plus_one p.card.failed4 a.failed4,
          plus_one p.card.failed5 a.failed5,
          plus_one p.card.failed7 a.failed7,
        )

balanced-run : (s : Settings) (p : Part) (es : List Event) → Unfrozen s p es → Balanced p → Balanced (alone s p es)
unfolding alone AtEach
balanced-run s p [] u b = b
balanced-run s p (e ∷ es) u b = balanced-run s (part_after s p e) es u.1 (balanced-after s p e u.0 b)

-- ---- the law of one berth

balanced-start : (p : Part) → Unbegun p.card p.berth.rx → Balanced p
balanced-start p start = rw (start.zeros, start.idle)

tallies : (s : Settings) (p : Part) (es : List Event) → Unbegun p.card p.berth.rx → Unfrozen s p es
    → Tallies (alone s p es).card (alone s p es).berth.rx (history s p es)
tallies s p es start u =
    record { counts = counts-are s p es u start.zeros; balance = balanced-run s p es u (balanced-start p start) }

-- EACH COUNT IS THAT OF THE HISTORY, AND BEGUN EQUALS DELIVERED PLUS FAILED, plus one if the berth owes go or awaits: in any run of a
-- berth's own events that begins with a card of zeros and no reception under way, after every event up to and including the one that
-- freezes the card.
pub card-tallies : (s : Settings) (p : Part) (es : List Event) (e : Event) → Unbegun p.card p.berth.rx → frozen (alone s p es).card ≡ false
    → Tallies (alone s p (es ++ e ∷ [])).card (alone s p (es ++ e ∷ [])).berth.rx (history s p (es ++ e ∷ []))
card-tallies s p es e start f = tallies s p (es ++ e ∷ []) start (before_last s p es e f)

-- ---- the node's runs: the card before the last call tells

unfrozen-own : (k : ℕ) (h : Held) (c : Call) → frozen_at k h ≡ false → Unfrozen h.node.settings (part_of k h) (own k h c)
unfolding AtEach part_of
unfrozen-own k h c f = own-either (Unfrozen h.node.settings (part_of k h)) k h c tt (λ e r. (f, tt))

never-frozen-at : (k : ℕ) (h : Held) (cs : List Call) → frozen_at k (final h cs) ≡ false → frozen_at k h ≡ false
unfolding part_of
never-frozen-at k h cs f = never-frozen h.node.settings (part_of k h) (owns k h cs) (ap (λ (p : Part). frozen p.card) (sym (berth-alone k h cs)) ∙ f)

before-call : (k : ℕ) (h : Held) (cs : List Call) (c : Call) → frozen_at k (final h cs) ≡ false
    → Unfrozen h.node.settings (part_of k h) (owns k h (cs ++ c ∷ []))
unfolding owns final
before-call k h [] c f = at-each-append _ h.node.settings (part_of k h) (own k h c) [] (unfrozen-own k h c f) (unfold AtEach in tt)
before-call k h (x ∷ cs) c f =
    at-each-append _ h.node.settings (part_of k h) (own k h x) (owns k (outcome h x).held (cs ++ c ∷ []))
    (unfrozen-own k h x (never-frozen-at k h (x ∷ cs) f))
    (rw (settings-step h x, part_step k h x) at (before-call k (outcome h x).held cs c f))

-- ---- the law

-- THE LAW OF THE CARDS, in any run of the six calls from any start where berth k's card is zeros and it has no reception under way: after
-- every call up to and including the one that freezes the card, each count is that of the history, and begun equals delivered plus
-- failed, plus one if the berth owes go or awaits.
pub run-tallies : (k : ℕ) (h : Held) (cs : List Call) (c : Call) → UnbegunAt k h → frozen_at k (final h cs) ≡ false
    → TalliesAt k (final h (cs ++ c ∷ [])) (history_of k h (cs ++ c ∷ []))
unfolding part_of
run-tallies k h cs c start f =
    rw (history-is k h (cs ++ c ∷ []))
    (subst (λ (p : Part). Tallies p.card p.berth.rx (history h.node.settings (part_of k h) (owns k h (cs ++ c ∷ []))))
    (sym (berth-alone k h (cs ++ c ∷ [])))
    (tallies h.node.settings (part_of k h) (owns k h (cs ++ c ∷ [])) start (before-call k h cs c f)))

-- A FROZEN CARD STAYS FOR EVER, in any run.
pub run-frozen-stays : (k : ℕ) (h : Held) (cs : List Call) → frozen_at k h ≡ true → card_at (final h cs).cards k ≡ card_at h.cards k
unfolding part_of
run-frozen-stays k h cs f = ap (λ (p : Part). p.card) (berth-alone k h cs) ∙ frozen-stays h.node.settings (part_of k h) (owns k h cs) f

-- after a set-up with cards of zeros every berth starts so
pub set-up-unbegun : (h : Held) (s : Settings) (alike : BerthSettings) (k : ℕ) → k < berth_count → set_up_refusal s.area alike.block alike.stmin ≡ 0 → h.cards ≡ zero_cards
    → UnbegunAt k (set_up h s alike)
unfolding part_of card_at
set-up-unbegun h s alike k l e z =
    let part = set-up-part h s alike k l e in
    record {
      zeros = ap (λ (p : Part). p.card) part ∙ ap (λ (cards : List Card). card_at cards k) z ∙ get_or-replicate berth_count k zero_card zero_card l;
      idle = ap (λ (p : Part). under_way p.berth.rx) part;
    }

-- THE LAW OF THE CARDS AFTER A SET-UP, from cards of zeros, of every berth.
pub tallies-after-set-up : (h : Held) (s : Settings) (alike : BerthSettings) (cs : List Call) (c : Call) (k : ℕ) → k < berth_count
    → set_up_refusal s.area alike.block alike.stmin ≡ 0 → h.cards ≡ zero_cards → frozen_at k (final (set_up h s alike) cs) ≡ false
    → TalliesAt k (final (set_up h s alike) (cs ++ c ∷ [])) (history_of k (set_up h s alike) (cs ++ c ∷ []))
tallies-after-set-up h s alike cs c k l e z f = run-tallies k (set_up h s alike) cs c (set-up-unbegun h s alike k l e z) f
