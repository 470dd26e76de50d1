-- Isolation in the demand's own words: a run after a set-up. The set-up leaves every berth fresh and every card, and order and the
-- lengths of the stores and of the list of cards are kept by every call.
use mathlib.Core.Path.{◌≡◌, refl, sym, ap, ◌∙◌}
use Prim.Native.Nat.{ℕ, zero, suc, ◌*◌, ◌<◌}
use native.Mathlib.Omega.{arith}
use mathlib.Core.List.{List, [], ◌∷◌}
use lib.ListN.{length, get_or-replicate}
use lib.Seq.{length-sets}
use lib.Dec.{ltb}
use Rattle.rules.specs.Tests.{unless}
use Rattle.rules.specs.Numbers.{berth_count}
use Rattle.rules.specs.Nodes.{fresh_with, fresh, berth_at, Held, with_node}
use Rattle.rules.specs.Stores.{stored, set_up_node, passed_over, reached}
use Rattle.rules.specs.Answers.{Answer}
use Rattle.rules.specs.Events.{Call, frame, tick, send, turn, show, change, sender_of}
use Rattle.rules.specs.Refusals.{refusal, set_up_refusal}
use Rattle.rules.specs.Calls.{after_frame, after_turn, done, reply, written, buffer_of, refused_outcome, outcome, set_up_outcome, answers, final}
use Rattle.rules.specs.Alone.{Part, part_of}
use Rattle.rules.specs.declared.Settings.{Settings}
use Rattle.rules.specs.declared.BerthSettings.{BerthSettings}
use Rattle.rules.proofs.Cases.{pick-either}
use Rattle.rules.proofs.Cards.{added-at-length, ticked-cards-length}
use Rattle.rules.proofs.Ranges.{range-in-order}
use Rattle.rules.proofs.Order.{order-kept, set-up-in-order}
use Rattle.laws.specs.Own.{owns, part_shown, Sound, set_up, fresh_part, Alone}
use Rattle.laws.proofs.Isolation.{part-path, settings-step, berth-alone, berth-says}
use Rattle.laws.proofs.Reports.{berth-reports, berth-shown}

-- ---- every call keeps what is lent sound

abbrev SameLengths : Held → Held → Type 0
SameLengths h g =
    (length g.incoming ≡ length h.incoming) × (length g.outgoing ≡ length h.outgoing) × (length g.cards ≡ length h.cards)

lengths-done : (h : Held) (c : Call) → SameLengths h (done h c)
unfolding done after_frame after_turn stored
lengths-done h (frame id d) = (simp length-sets, refl, added-at-length h.cards (sender_of id) _)
lengths-done h tick = (refl, refl, ticked-cards-length h.node.berths h.cards)
lengths-done h (send k party m) = (refl, simp length-sets, refl)
lengths-done h (turn buffer) = pick-either (SameLengths h) (ltb (passed_over h.node) berth_count) _ _
    (λ t. (refl, refl, added-at-length h.cards (reached h.node) _)) (λ t. (refl, refl, refl))
lengths-done h (show k choice) = (refl, refl, refl)
lengths-done h (change k parameter value) = (refl, refl, refl)

pub lengths-step : (h : Held) (c : Call) → SameLengths h (outcome h c).held
unfolding outcome refused_outcome
lengths-step h c = go (refusal h c)
  where
    go : (n : ℕ)
        → SameLengths h (unless n (refused_outcome h (buffer_of c)) (record { answer = reply h c; held = done h c; buffer = written h c })).held
    go zero = lengths-done h c
    go (suc n) = (refl, refl, refl)

pub ten-run : (h : Held) (cs : List Call) → length (final h cs).cards ≡ length h.cards
unfolding final
ten-run h [] = refl
ten-run h (c ∷ cs) = ten-run (outcome h c).held cs ∙ (lengths-step h c).2

pub sound-step : (h : Held) (c : Call) → Sound h → Sound (outcome h c).held
sound-step h c s =
    let a : (outcome h c).held.node.settings.area ≡ h.node.settings.area = ap (λ (t : Settings). t.area) (settings-step h c) in
    record {
      order = order-kept h c s.order;
      incoming = omega (arith, (lengths-step h c).0, s.incoming, a);
      outgoing = omega (arith, (lengths-step h c).1, s.outgoing, a);
      ten = (lengths-step h c).2 ∙ s.ten;
    }

pub sound-run : (h : Held) (cs : List Call) → Sound h → Sound (final h cs)
unfolding final
sound-run h [] s = s
sound-run h (c ∷ cs) s = sound-run (outcome h c).held cs (sound-step h c s)

-- ---- after a set-up

set-up-held : (h : Held) (s : Settings) (alike : BerthSettings) → set_up_refusal s.area alike.block alike.stmin ≡ 0
    → set_up h s alike ≡ with_node h (set_up_node s alike)
unfolding set_up_outcome
set-up-held h s alike e =
    ap (λ (n : ℕ).
    (unless n (refused_outcome h [])
    (record { answer = Answer.ready; held = with_node h (set_up_node s alike); buffer = [] })).held)
    e

pub set-up-part : (h : Held) (s : Settings) (alike : BerthSettings) (k : ℕ) → k < berth_count → set_up_refusal s.area alike.block alike.stmin ≡ 0
    → part_of k (set_up h s alike) ≡ fresh_part h s alike k
unfolding part_of berth_at set_up_node
set-up-part h s alike k l e =
    ap (part_of k) (set-up-held h s alike e)
    ∙ part-path (get_or-replicate berth_count k (fresh_with alike) fresh l) refl refl refl

set-up-settings : (h : Held) (s : Settings) (alike : BerthSettings) → set_up_refusal s.area alike.block alike.stmin ≡ 0 → (set_up h s alike).node.settings ≡ s
unfolding set_up_node
set-up-settings h s alike e = ap (λ (g : Held). g.node.settings) (set-up-held h s alike e)

-- EACH BERTH ALONE, in any run of the six calls from any start.
pub each-alone : (h : Held) (cs : List Call) (k : ℕ) → k < berth_count → Alone h.node.settings (part_of k h) k h (owns k h cs) (answers h cs) (final h cs)
each-alone h cs k l =
    record {
      part = berth-alone k h cs;
      says = berth-says k h cs;
      reported = berth-reports k h cs;
      shown = λ s choice.
          let g = sound-run h cs s in
          berth-shown k (final h cs) choice l (range-in-order (final h cs).node g.order) g.incoming g.outgoing
          ∙ ap (λ (p : Part). part_shown p choice) (berth-alone k h cs);
    }

-- DEMAND 3, FIRST HALF. Take any run of the six calls after a set-up that was answered, the same node, the same two stores and the same
-- list of cards throughout. Each berth's state, areas, card, words, codes, frames and reports, and what is shown of it, are those that
-- the rules give for that berth alone, fresh at the start: its own frames, sends and changes, all ticks, and the turns it received, refused
-- calls left out.
pub each-alone-after-set-up : (h : Held) (s : Settings) (alike : BerthSettings) (cs : List Call) (k : ℕ) → k < berth_count
    → set_up_refusal s.area alike.block alike.stmin ≡ 0 → Alone s (fresh_part h s alike k) k (set_up h s alike) (owns k (set_up h s alike) cs) (answers (set_up h s alike) cs) (final (set_up h s alike) cs)
each-alone-after-set-up h s alike cs k l e = rw (set-up-settings h s alike e, set-up-part h s alike k l e) at (each-alone (set_up h s alike) cs k l)

-- after it what is lent is sound, if the stores and the list of cards have their lengths
pub set-up-sound : (h : Held) (s : Settings) (alike : BerthSettings) → set_up_refusal s.area alike.block alike.stmin ≡ 0
    → length h.incoming ≡ berth_count * s.area → length h.outgoing ≡ berth_count * s.area → length h.cards ≡ berth_count → Sound (set_up h s alike)
set-up-sound h s alike e i o t =
    let a : (set_up h s alike).node.settings.area ≡ s.area = ap (λ (x : Settings). x.area) (set-up-settings h s alike e) in
    let q = set-up-held h s alike e in
    record {
      order = set-up-in-order h s.area alike.block alike.stmin e;
      incoming = ap (λ (g : Held). length g.incoming) q ∙ i ∙ ap (λ (x : ℕ). berth_count * x) (sym a);
      outgoing = ap (λ (g : Held). length g.outgoing) q ∙ o ∙ ap (λ (x : ℕ). berth_count * x) (sym a);
      ten = ap (λ (g : Held). length g.cards) q ∙ t;
    }
