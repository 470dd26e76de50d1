-- A chain of the code's calls is a run of the rules: each call's promise says that it left the rule's outcome, so by induction the chain
-- says `answers` and leaves `final`, and what the laws say of these holds of the chain.
use Prim.Native.Nat.{ℕ, zero, suc, ◌≤◌, ◌<◌}
use Rattle.std.specs.Prelude.{Ok}
use mathlib.Core.Path.{◌≡◌, refl, sym, ap, ap₂, ◌∙◌, subst}
use mathlib.Core.Bool.{true, false}
use mathlib.Core.List.{List, [], ◌∷◌, ◌++◌, map}
use lib.ListN.{length, replicate}
use Rattle.rules.specs.Tests.{unless}
use Rattle.rules.specs.Numbers.{berth_count}
use Rattle.rules.specs.Parties.{Kept}
use Rattle.rules.specs.Nodes.{berth_at, Held, with_node}
use Rattle.rules.specs.Ranges.{InOrder}
use Rattle.rules.specs.Events.{Call, tick, change, Event, ticks}
use Rattle.rules.specs.Stores.{set_up_node}
use Rattle.rules.specs.Cards.{card_at}
use Rattle.rules.specs.Answers.{Side, Answer, ready, set_up_says}
use Rattle.rules.specs.Refusals.{set_up_refusal}
use Rattle.rules.specs.Calls.{Outcome, refused_outcome, outcome, set_up_outcome, outcomes, answers, final}
use Rattle.rules.specs.Alone.{Part, part_of}
use Rattle.rules.specs.Clocks.{most_time}
use Rattle.rules.specs.declared.Settings.{Settings}
use Rattle.rules.specs.declared.BerthSettings.{BerthSettings}
use Rattle.rules.specs.declared.Party.{Party}
use Rattle.rules.specs.declared.Node.{Node}
use Rattle.rules.proofs.Order.{run-in-order, set-up-in-order}
use Rattle.node.specs.Promises.{left, SetUpPromise}
use Rattle.node.proofs.Determined.{same}
use Rattle.laws.specs.Own.{own, owns, says_of, over, set_up, fresh_part, Alone}
use Rattle.laws.specs.Histories.{Moment, moments, history_of}
use Rattle.laws.specs.Cards.{zero_cards, TalliesAt, UnbegunAt, frozen_at}
use Rattle.laws.specs.Gaps.{TwoFrames, Spaced}
use Rattle.laws.specs.Free.{LeftAlone, ComesFree, AllComeFree}
use Rattle.laws.specs.Changes.{ChangesOnly, settings_after}
use Rattle.laws.specs.Sides.{side_of, side_events, SideAlone}
use Rattle.laws.specs.Rounds.{StaysDue, turn_of, Fair}
use Rattle.laws.specs.Parties.{last_sender, NamesLast, unnamed_held, unnamed_outcome, PartiesApart}
use Rattle.laws.proofs.SetUp.{ten-run, each-alone, each-alone-after-set-up}
use Rattle.laws.proofs.Changes.{change-only, run-settings}
use Rattle.laws.proofs.Cards.{run-tallies, run-frozen-stays, set-up-unbegun}
use Rattle.laws.proofs.Gaps.{run-spaced}
use Rattle.laws.proofs.Free.{run-left-alone, run-comes-free, all-come-free}
use Rattle.laws.proofs.SideRuns.{side-alone-in-run}
use Rattle.laws.proofs.Fairness.{fair}
use Rattle.laws.proofs.Parties.{run-names, names-after-set-up, parties-apart}
use Rattle.journal.specs.Entries.{is_tick}
use Rattle.journal.specs.Files.{answers_tick, Journals}
use Rattle.journal.proofs.Runs.{counts-answered}
use Rattle.journal.proofs.Within.{run-journals}
use Rattle.runs.specs.Chains.{Step, frame_step, tick_step, send_step, turn_step, show_step, change_step, Made, Chain, AfterSetUp, calls_of, outcomes_by, said_by, left_by, own_in, DueIn, history_in, NamesIn, EachAlone}

-- EACH CALL'S PROMISE says that it answered and left the rule's outcome.
pub step_is : {h : Held} {c : Call} {o : Outcome} → Step h c o → o ≡ outcome h c
step_is {h} (frame_step id d a n cards incoming p) = same (p h.outgoing)
step_is {h} (tick_step a n cards p) = same (p h.incoming h.outgoing)
step_is {h} (send_step k party m a n outgoing p) = same (p h.cards h.incoming)
step_is {h} (turn_step buffer a n cards buffer' p) = same (p h.incoming)
step_is {h} (show_step k choice part in_at out_at part_at p) = same (p.agrees h.cards)
step_is {h} (change_step k parameter value a n p) = same (p h.cards h.incoming h.outgoing)

-- ---- a chain is a run of the rules, from any start

module _ (h : Held) (m : Made) (e : m.out ≡ outcome h m.call) where
  held_same : m.out.held ≡ (outcome h m.call).held
  held_same = ap (λ (o : Outcome). o.held) e

-- A CHAIN answers and leaves, call by call, what the rules say of the same calls.
pub chain-is : (h : Held) (ms : List Made) → Chain h ms → outcomes_by ms ≡ outcomes h (calls_of ms)
unfolding Chain outcomes
chain-is h [] c = refl
chain-is h (m ∷ ms) c =
    let e = step_is c.0 in
    ap₂ (λ (o : Outcome) (rest : List Outcome). o ∷ rest) e
    (chain-is m.out.held ms c.1 ∙ ap (λ (g : Held). outcomes g (calls_of ms)) (held_same h m e))

-- A CHAIN SAYS `answers`,
pub chain-says : (h : Held) (ms : List Made) → Chain h ms → said_by ms ≡ answers h (calls_of ms)
unfolding Chain answers
chain-says h [] c = refl
chain-says h (m ∷ ms) c =
    let e = step_is c.0 in
    ap₂ (λ (a : Answer) (rest : List Answer). a ∷ rest) (ap (λ (o : Outcome). o.answer) e)
    (chain-says m.out.held ms c.1 ∙ ap (λ (g : Held). answers g (calls_of ms)) (held_same h m e))

-- AND LEAVES `final`;
pub chain-leaves : (h : Held) (ms : List Made) → Chain h ms → left_by h ms ≡ final h (calls_of ms)
unfolding Chain left_by final
chain-leaves h [] c = refl
chain-leaves h (m ∷ ms) c =
    chain-leaves m.out.held ms c.1 ∙ ap (λ (g : Held). final g (calls_of ms)) (held_same h m (step_is c.0))

-- a berth's own events in it are those of the run,
pub chain-owns : (k : ℕ) (h : Held) (ms : List Made) → Chain h ms → own_in k h ms ≡ owns k h (calls_of ms)
unfolding Chain own_in owns
chain-owns k h [] c = refl
chain-owns k h (m ∷ ms) c =
    ap (λ (es : List Event). own k h m.call ++ es)
    (chain-owns k m.out.held ms c.1 ∙ ap (λ (g : Held). owns k g (calls_of ms)) (held_same h m (step_is c.0)))

-- its history too,
pub chain-history : (k : ℕ) (h : Held) (ms : List Made) → Chain h ms → history_in k h ms ≡ history_of k h (calls_of ms)
unfolding Chain history_in history_of
chain-history k h [] c = refl
chain-history k h (m ∷ ms) c =
    let e = step_is c.0 in
    ap₂ (λ (a : Answer) (rest : List Moment). moments (berth_at h.node k).rx (own k h m.call) (says_of k a) ++ rest) (ap (λ (o : Outcome). o.answer) e)
    (chain-history k m.out.held ms c.1 ∙ ap (λ (g : Held). history_of k g (calls_of ms)) (held_same h m e))

-- and what is due in it is due in the run
chain-due : (k : ℕ) (h : Held) (ms : List Made) → Chain h ms → DueIn k h ms → StaysDue k h (calls_of ms)
unfolding Chain DueIn StaysDue
chain-due k h [] c t = tt
chain-due k h (m ∷ ms) c t =
    (t.0, rw (held_same h m (step_is c.0)) at (chain-due k m.out.held ms c.1 t.1))

-- ---- isolation and fairness

-- what a chain says and leaves is as alone, if that holds of the run of the same calls
as-run : (s : Settings) (p : Part) (k : ℕ) (h : Held) (ms : List Made) → Chain h ms
    → Alone s p k h (owns k h (calls_of ms)) (answers h (calls_of ms)) (final h (calls_of ms)) → Alone s p k h (own_in k h ms) (said_by ms) (left_by h ms)
as-run s p k h ms c a = rw (chain-owns k h ms c, chain-says h ms c, chain-leaves h ms c) a

-- EACH BERTH ALONE, in any chain of calls from any start.
pub chain-alone : (h : Held) (ms : List Made) (k : ℕ) → k < berth_count → Chain h ms
    → Alone h.node.settings (part_of k h) k h (own_in k h ms) (said_by ms) (left_by h ms)
chain-alone h ms k l c = as-run h.node.settings (part_of k h) k h ms c (each-alone h (calls_of ms) k l)

-- EACH SIDE ALONE, in any chain of calls from any start.
pub chain-side-alone : (s : Side) (k : ℕ) (h : Held) (ms : List Made) → Chain h ms
    → SideAlone h.node.settings (side_of s (part_of k h)) s k (side_events s h.node.settings (part_of k h) (own_in k h ms)) (calls_of ms) (said_by ms) (left_by h ms)
chain-side-alone s k h ms c = rw (chain-owns k h ms c, chain-says h ms c, chain-leaves h ms c) (side-alone-in-run s k h (calls_of ms))

-- A BERTH'S SETTINGS, in any chain of calls from any start: those of the start, changed by its own answered changes and by nothing else
pub chain-settings : (k : ℕ) (h : Held) (ms : List Made) → Chain h ms
    → (berth_at (left_by h ms).node k).settings ≡ settings_after (berth_at h.node k).settings (own_in k h ms)
chain-settings k h ms c = rw (chain-owns k h ms c, chain-leaves h ms c) (run-settings k h (calls_of ms))

-- A CHANGE OF THE CODE touches one setting of one berth, refused or not
pub step-change-only : (h : Held) (j parameter value : ℕ) (o : Outcome) → Step h (change j parameter value) o → ChangesOnly j parameter value h o.held
step-change-only h j parameter value o s = rw (step_is s) (change-only parameter value h j)

-- DEMAND 3, SECOND HALF, OF THE CODE. In any chain of calls, while berth k has a frame due at every answered call for a frame, none
-- of these calls answers None, no berth has two turns before k's first, and k's own comes by the tenth.
pub chain-fair : (k : ℕ) → k < berth_count → (h : Held) (ms : List Made) → Chain h ms → DueIn k h ms → Fair k (over turn_of (said_by ms))
chain-fair k l h ms c t = rw (chain-says h ms c) (fair k l h (calls_of ms) (chain-due k h ms c t))

-- a set-up that is answered Ready was not refused, and left what the rules leave
module _ (h : Held) (s : Settings) (alike : BerthSettings) (n : Node) (p : SetUpPromise h.node s.area alike.block alike.stmin (Ok tt) n) where
  set-up-left : left ready (with_node h n) [] ≡ set_up_outcome h s.area alike.block alike.stmin
  unfolding set_up_says
  set-up-left = same (p h.cards h.incoming h.outgoing)

  ready-free : set_up_refusal s.area alike.block alike.stmin ≡ 0
  unfolding set_up_outcome refused_outcome
  ready-free = go (set_up_refusal s.area alike.block alike.stmin) (ap (λ (o : Outcome). o.answer) set-up-left)
    where
      go : (number : ℕ)
          → ready ≡ (unless number (refused_outcome h []) (left ready (with_node h (set_up_node s alike)) [])).answer → number ≡ 0
      go zero e = refl
      go (suc number) e = cc

  ready_held : with_node h n ≡ set_up h s alike
  ready_held = ap (λ (o : Outcome). o.held) set-up-left

-- DEMAND 3, FIRST HALF, OF THE CODE. Take any chain of calls after a set-up that the code answered with Ready. Each berth's state,
-- areas, card, words, codes, frames and reports, and what is shown of it, are those that the rules give for that berth alone, fresh at
-- the start: its own frames, sends and changes, all ticks, and the turns it received, refused calls left out.
pub chain-alone-after-set-up : (h : Held) (s : Settings) (alike : BerthSettings) (n : Node) (ms : List Made) → AfterSetUp h s alike n ms → EachAlone h s alike n ms
chain-alone-after-set-up h s alike n ms r k l =
    as-run s (fresh_part h s alike k) k (with_node h n) ms r.chain
    (rw (ready_held h s alike n r.ready) (each-alone-after-set-up h s alike (calls_of ms) k l (ready-free h s alike n r.ready)))

-- ---- the cards

pub chain-front : (h : Held) (ms : List Made) (m : Made) → Chain h (ms ++ m ∷ []) → Chain h ms
unfolding Chain
chain-front h [] m c = tt
chain-front h (x ∷ ms) m c = (c.0, chain-front x.out.held ms m c.1)

calls-more : (ms : List Made) (m : Made) → calls_of (ms ++ m ∷ []) ≡ calls_of ms ++ m.call ∷ []
calls-more [] m = refl
calls-more (x ∷ ms) m = ap (λ (cs : List Call). x.call ∷ cs) (calls-more ms m)

-- THE LAW OF THE CARDS, OF THE CODE. Take any chain of calls from a start where berth k's card is zeros and it has no reception under way,
-- and one call more, before which the card was not frozen. After it each count is that of the history, as the code's own answers tell
-- it, and begun equals delivered plus failed, plus one if the berth owes go or awaits.
pub chain-tallies : (k : ℕ) (h : Held) (ms : List Made) (m : Made) → Chain h (ms ++ m ∷ []) → UnbegunAt k h → frozen_at k (left_by h ms) ≡ false
    → TalliesAt k (left_by h (ms ++ m ∷ [])) (history_in k h (ms ++ m ∷ []))
chain-tallies k h ms m c start f =
    let g : frozen_at k (final h (calls_of ms)) ≡ false = rw (chain-leaves h ms (chain-front h ms m c)) at f in
    rw (chain-leaves h (ms ++ m ∷ []) c, chain-history k h (ms ++ m ∷ []) c, calls-more ms m) (run-tallies k h (calls_of ms) m.call start g)

-- A FROZEN CARD STAYS FOR EVER, in any chain of calls.
pub chain-frozen-stays : (k : ℕ) (h : Held) (ms : List Made) → Chain h ms → frozen_at k h ≡ true → card_at (left_by h ms).cards k ≡ card_at h.cards k
chain-frozen-stays k h ms c f = rw (chain-leaves h ms c) (run-frozen-stays k h (calls_of ms) f)

-- AFTER A SET-UP that the code answered with Ready, lent cards of zeros, the law is every berth's.
pub chain-tallies-after-set-up : (h : Held) (s : Settings) (alike : BerthSettings) (n : Node) (ms : List Made) (m : Made) → AfterSetUp h s alike n (ms ++ m ∷ []) → h.cards ≡ zero_cards
    → (k : ℕ) → k < berth_count → frozen_at k (left_by (with_node h n) ms) ≡ false
    → TalliesAt k (left_by (with_node h n) (ms ++ m ∷ [])) (history_in k (with_node h n) (ms ++ m ∷ []))
chain-tallies-after-set-up h s alike n ms m r z k l f =
    chain-tallies k (with_node h n) ms m r.chain
    (subst (UnbegunAt k) (sym (ready_held h s alike n r.ready)) (set-up-unbegun h s alike k l (ready-free h s alike n r.ready) z)) f

-- ---- the gaps

-- THE LAW OF THE GAPS, OF THE CODE. Take any chain of calls, and two consecutive frames that a berth hands over in it with no frame answered
-- Going between them, as the code's own answers tell it. They are of one message; if the last Going carried an STmin that means
-- n > 0 ticks, at least n + 1 ticks are answered between the two, and hence n whole tick intervals pass.
pub chain-spaced : (k : ℕ) (h : Held) (ms : List Made) → Chain h ms → (f : TwoFrames (history_in k h ms)) → Spaced f
chain-spaced k h ms c =
    subst (λ (told : List Moment). (f : TwoFrames told) → Spaced f) (sym (chain-history k h ms c)) (run-spaced k h (calls_of ms))

-- ---- the service laptop

-- the reports of a chain name as those of the run of the same calls do
names-as-run : (k : ℕ) (last : Party) (h : Held) (ms : List Made) → Chain h ms → NamesLast k last h (calls_of ms) → NamesIn k last h ms
unfolding Chain NamesIn NamesLast
names-as-run k last h [] c t = tt
names-as-run k last h (m ∷ ms) c t =
    let e = step_is c.0 in (
      rw e t.0,
      names-as-run k (last_sender last (own k h m.call)) m.out.held ms c.1 (rw (held_same h m e) t.1),
    )

-- EACH REPORT OF A SEND SIDE NAMES THE PARTY, OF THE CODE. In any chain of calls from a start in which the side keeps the party of the last send
-- to its berth, each report of it names the party of the last send to the berth that the code answered.
pub chain-names : (k : ℕ) (last : Party) (h : Held) (ms : List Made) → Chain h ms → Kept last (berth_at h.node k).tx → NamesIn k last h ms
chain-names k last h ms c kept = names-as-run k last h ms c (run-names k last h (calls_of ms) kept)

-- AFTER A SET-UP that the code answered with Ready this holds of every berth. Before the first answered send to it there is no such report, so any
-- party may stand for the last.
pub chain-names-after-set-up : (h : Held) (s : Settings) (alike : BerthSettings) (n : Node) (ms : List Made) → AfterSetUp h s alike n ms
    → (k : ℕ) → k < berth_count → (last : Party) → NamesIn k last (with_node h n) ms
chain-names-after-set-up h s alike n ms r k l last =
    names-as-run k last (with_node h n) ms r.chain
    (rw (ready_held h s alike n r.ready) (names-after-set-up h s alike (calls_of ms) k l (ready-free h s alike n r.ready) last))

-- THE SAME WHICHEVER OF THE TWO SENDS, OF THE CODE. Take two chains of calls that differ only in which of the parties 0 and 1 their sends name,
-- from starts that differ only in whom their send sides name. What the code answers and leaves, call by call and at the end, differs in
-- nothing but these names.
pub chain-parties-apart : (h h' : Held) (ms ms' : List Made) → Chain h ms → Chain h' ms' → PartiesApart h h' (calls_of ms) (calls_of ms')
    → (map unnamed_outcome (outcomes_by ms) ≡ map unnamed_outcome (outcomes_by ms')) × (unnamed_held (left_by h ms) ≡ unnamed_held (left_by h' ms'))
chain-parties-apart h h' ms ms' c c' a =
    rw (chain-is h ms c, chain-is h' ms' c', chain-leaves h ms c, chain-leaves h' ms' c') (parties-apart h h' (calls_of ms) (calls_of ms') a)

-- ---- every berth comes free

-- A BERTH LEFT ALONE, OF THE CODE. Take any chain of calls on a node in order in which the own events of berth k are n ticks, whatever the
-- other berths do. Each of its sides has n ticks less left, or none, and is then idle; it says its code at the tick at which its time ends and
-- at no other.
pub chain-left-alone : (n k : ℕ) (h : Held) (ms : List Made) → Chain h ms → InOrder h.node → k < berth_count → own_in k h ms ≡ replicate n ticks
    → LeftAlone n k h (said_by ms) (left_by h ms)
chain-left-alone n k h ms c order small only-ticks =
    rw (chain-says h ms c, chain-leaves h ms c) (run-left-alone n k h (calls_of ms) order small (sym (chain-owns k h ms c) ∙ only-ticks))

-- IT COMES FREE: the same with 1,128 ticks or more.
pub chain-comes-free : (n k : ℕ) (h : Held) (ms : List Made) → Chain h ms → InOrder h.node → k < berth_count → own_in k h ms ≡ replicate n ticks
    → most_time ≤ n → ComesFree k h (said_by ms) (left_by h ms)
chain-comes-free n k h ms c order small only-ticks enough =
    rw (chain-says h ms c, chain-leaves h ms c) (run-comes-free n k h (calls_of ms) order small (sym (chain-owns k h ms c) ∙ only-ticks) enough)

-- EVERY BERTH COMES FREE, OF THE CODE. From any node in order, whatever the stores and the ten cards, 1,128 ticks with no other call between
-- them, or more, are all answered and leave both sides of all ten berths idle; each side that was not idle has reported exactly its code, an
-- idle one none.
pub chain-all-come-free : (h : Held) (ms : List Made) → Chain h ms → InOrder h.node → length h.cards ≡ berth_count → (n : ℕ) → most_time ≤ n
    → calls_of ms ≡ replicate n tick → AllComeFree h (said_by ms) (left_by h ms)
chain-all-come-free h ms c order ten n enough only-ticks =
    rw (chain-says h ms c, chain-leaves h ms c, only-ticks) (all-come-free h order ten n enough)

-- A CHAIN AFTER A SET-UP that the code answered with Ready leaves a node in order: so what follows it is such a chain as above.
pub chain-in-order : (h : Held) (s : Settings) (alike : BerthSettings) (n : Node) (ms : List Made) → AfterSetUp h s alike n ms → InOrder (left_by (with_node h n) ms).node
chain-in-order h s alike n ms r =
    let fresh = set-up-in-order h s.area alike.block alike.stmin (ready-free h s alike n r.ready) in
    let order : InOrder (with_node h n).node = subst (λ (g : Held). InOrder g.node) (sym (ready_held h s alike n r.ready)) fresh in
    rw (chain-leaves (with_node h n) ms r.chain) (run-in-order (with_node h n) (calls_of ms) order)

-- AFTER A SET-UP that the code answered with Ready, with ten cards, 1,128 ticks or more free every berth at any place of a run, whatever came
-- before.
pub chain-free-after-set-up : (h : Held) (s : Settings) (alike : BerthSettings) (n : Node) (ms : List Made) → AfterSetUp h s alike n ms → length h.cards ≡ berth_count
    → (ts : List Made) → Chain (left_by (with_node h n) ms) ts → (t : ℕ) → most_time ≤ t → calls_of ts ≡ replicate t tick
    → AllComeFree (left_by (with_node h n) ms) (said_by ts) (left_by (left_by (with_node h n) ms) ts)
chain-free-after-set-up h s alike n ms r ten ts c t enough only-ticks =
    let cards = ap (λ (g : Held). length g.cards) (chain-leaves (with_node h n) ms r.chain) ∙ ten-run (with_node h n) (calls_of ms) ∙ ten in
    chain-all-come-free (left_by (with_node h n) ms) ts c (chain-in-order h s alike n ms r) cards t enough only-ticks

-- ---- the journal

-- THE JOURNAL OF THE CODE'S RUN. The entries of any chain of calls are its reports and have the lengths of its messages delivered, and the
-- writer refuses none.
pub chain-journals : (h : Held) (ms : List Made) → Chain h ms → Journals (said_by ms)
chain-journals h ms c = subst Journals (sym (chain-says h ms c)) (run-journals h (calls_of ms))

-- WHAT IS COUNTED, OF THE CODE: a call's answer is that of an answered tick exactly if the call is a tick that is not refused.
pub step_counts : (h : Held) (c : Call) (o : Outcome) → Step h c o → is_tick o.answer ≡ answers_tick h c
step_counts h c o s = ap (λ (q : Outcome). is_tick q.answer) (step_is s) ∙ counts-answered h c
