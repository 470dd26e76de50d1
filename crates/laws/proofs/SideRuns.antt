-- Each side alone in a run of the node: what an answer says of a side is what the berth's own event says for that side, call by call; so the
-- run says and leaves of the side what the side's own events do on that side alone.
use mathlib.Core.Path.{◌≡◌, refl, sym, ap, ap₂, ◌∙◌}
use Prim.Native.Nat.{ℕ, zero, suc, ◌≤◌, ◌<◌}
use mathlib.Core.Bool.{Bool, true, false, ◌&&◌}
use mathlib.Core.List.{List, [], ◌∷◌, ◌++◌, map, append_assoc}
use lib.Dec.{T, eqb, ltb}
use mir.Facts.{eqb_yes, ltb_yes}
use Rattle.rules.specs.Tests.{pick, unless}
use Rattle.rules.specs.Numbers.{berth_count}
use Rattle.rules.specs.Nodes.{Held, berth_at}
use Rattle.rules.specs.Turns.{due}
use Rattle.rules.specs.Stores.{passed_over, reached, handed_at}
use Rattle.rules.specs.Answers.{Answer, Side, receive, send as send_side}
use Rattle.rules.specs.Events.{Call, frame, tick, send, turn, show, change, sender_of, Event, arrives, sends, turns, changes}
use Rattle.rules.specs.Refusals.{refusal}
use Rattle.rules.specs.Calls.{done, reply, written, buffer_of, refused_outcome, outcome, answers, final}
use Rattle.rules.specs.Alone.{Part, part_of, Says, hands, part_after, says, alone, says_all}
use Rattle.rules.specs.declared.Settings.{Settings}
use Rattle.rules.proofs.Cases.{Tested, holds, fails, eqb-cases, ltb-cases, pick-either, and_left, and_right}
use Rattle.rules.proofs.Ranges.{in-order-range}
use Rattle.rules.proofs.Order.{reached-small}
use Rattle.rules.proofs.Round.{reached-due}
use Rattle.rules.proofs.Answered.{turn-answered}
use Rattle.laws.specs.Own.{over, own_done, own, owns, says_of}
use Rattle.laws.specs.Sides.{same_side, side_of, frame_side, turn_side, for_side, side_events, only_side, side_says, of_side, handed_in, handed_side, frames_by, hands_for, says_for, says_by, SideAlone}
use Rattle.laws.proofs.Isolation.{said-to, part_step, says-step, settings-step, berth-alone}
use Rattle.laws.proofs.Reports.{over-append, berth-reports}
use Rattle.laws.proofs.Sides.{side-alone, side-says, side-reports}
use Rattle.laws.proofs.Touch.{handed-side}

-- an event that is the side's, or not
alike : (b : Bool) (x : Says) (e : Event) → pick b (x ∷ []) [] ++ [] ≡ map (λ y. x) (pick b (e ∷ []) []) ++ []
alike true x e = refl
alike false x e = refl

module _ (s : Side) (k : ℕ) where
  said-append : (set : Settings) (p : Part) (es fs : List Event) → side_says s set p (es ++ fs) ≡ side_says s set p es ++ side_says s set (alone set p es) fs
  unfolding side_says alone
  said-append set p [] fs = refl
  said-append set p (e ∷ es) fs =
      ap (λ (r : List Says). map (λ x. only_side s (says set p e)) (for_side s p e) ++ r) (said-append set (part_after set p e) es fs)
      ∙ sym (append_assoc (map (λ x. only_side s (says set p e)) (for_side s p e)) _ _)

  -- ---- one call

  module _ (h : Held) where
    abbrev set : Settings
    set = h.node.settings

    -- what is said for the side of the berth's own events
    abbrev SaidAlike : Call → List Event → Type 0
    SaidAlike c es = over (says_for s c) (says_all set (part_of k h) es) ≡ side_says s set (part_of k h) es

    said-turn : (buffer : List ℕ) → refusal h (turn buffer) ≡ 0 → passed_over h.node < berth_count → reached h.node ≡ k → SaidAlike (turn buffer) (turns ∷ [])
    unfolding over says_for hands_for says_all says side_says for_side only_side part_of
    said-turn buffer e l q =
        let o = in-order-range h.node (turn-answered h buffer e).order in
        let d : T (due (berth_at h.node k)) = rw q at (reached-due h.node o l).0 in
        let small : k < berth_count = rw q at (reached-small h.node) in
        rw (handed-side set (part_of k h) o.settings.area-most (o.berth k small) d) (alike (same_side s (turn_side (part_of k h))) _ turns)

    said-done : (c : Call) → refusal h c ≡ 0 → SaidAlike c (own_done k h c)
    unfolding own_done over says_for says_all says side_says for_side only_side
    said-done (frame id d) e =
        pick-either (SaidAlike (frame id d)) (eqb (sender_of id) k) (arrives d ∷ []) [] (λ t. alike (same_side s (frame_side d)) _ (arrives d)) (λ t. refl)
    said-done tick e = refl
    said-done (send j party m) e = pick-either (SaidAlike (send j party m)) (eqb j k) (sends (record { 0 = party }) m ∷ []) [] (λ t. alike (same_side s send_side) _ (sends (record { 0 = party }) m)) (λ t. refl)
    said-done (turn buffer) e =
        let b = ltb (passed_over h.node) berth_count in
        let c = eqb (reached h.node) k in
        pick-either (SaidAlike (turn buffer)) (b && c) (turns ∷ []) [] (λ t. said-turn buffer e (ltb_yes (and_left b c t)) (eqb_yes (and_right b c t))) (λ t. refl)
    said-done (show j choice) e = refl
    said-done (change j parameter value) e =
        pick-either (SaidAlike (change j parameter value)) (eqb j k) (changes parameter value ∷ []) []
        (λ t. alike (same_side s receive) _ (changes parameter value)) (λ t. refl)

    side-step : (c : Call) → over (says_for s c) (says_of k (outcome h c).answer) ≡ side_says s set (part_of k h) (own k h c)
    unfolding own
    side-step c = ap (over (says_for s c)) (says-step k h c) ∙ go (refusal h c) refl
      where
        go : (n : ℕ) → refusal h c ≡ n → SaidAlike c (unless n (λ m. []) (own_done k h c))
        go zero e = said-done c e
        go (suc n) e = unfold says_all over side_says in refl

    -- the frames of the side in the answer are those in what it says of the side
    abbrev FramesAlike : Call → Answer → Type 0
    FramesAlike c a = frames_by s k a ≡ over handed_in (over (says_for s c) (says_of k a))

    frames-done : (c : Call) → FramesAlike c (reply h c)
    unfolding reply frames_by says_of over says_for hands_for handed_in only_side
    frames-done (frame id d) =
        pick-either (λ (xs : List Says). [] ≡ over handed_in (over (says_for s (frame id d)) xs)) (eqb (sender_of id) k) _ _
        (λ t. pick-either (λ (xs : List Says). [] ≡ over handed_in (xs ++ [])) (same_side s (frame_side d)) _ _ (λ u. refl) (λ u. refl)) (λ t. refl)
    frames-done tick = of-tick s
      where
        of-tick : (s : Side) → [] ≡ over handed_in (over (says_for s tick) (says_of k (reply h tick)))
        of-tick receive = refl
        of-tick send_side = refl
    frames-done (send j party m) =
        pick-either (λ (xs : List Says). [] ≡ over handed_in (over (says_for s (send j party m)) xs)) (eqb j k) _ _
        (λ t. pick-either (λ (xs : List Says). [] ≡ over handed_in (xs ++ [])) (same_side s send_side) _ _ (λ u. refl) (λ u. refl)) (λ t. refl)
    frames-done (turn buffer) = go (ltb-cases (passed_over h.node) berth_count) (eqb-cases (reached h.node) k)
      where
        f : List ℕ
        f = (handed_at h (reached h.node)).frame

        go : Tested (ltb (passed_over h.node) berth_count) (passed_over h.node < berth_count) (berth_count ≤ passed_over h.node)
            → Tested (eqb (reached h.node) k) (reached h.node ≡ k) (reached h.node ≡ k → ⊥) → FramesAlike (turn buffer) (reply h (turn buffer))
        go (holds u l) (holds t e) = simp (u, said-to, t) (by (same_side s (handed_side f)))
          where
            by : (b : Bool) → pick b (f ∷ []) [] ≡ over handed_in (pick b (hands f (handed_at h (reached h.node)).code (handed_at h (reached h.node)).party ∷ []) [] ++ [])
            by true = refl
            by false = refl
        go (holds u l) (fails t ne) = simp (u, said-to, t)
        go (fails u l) t = rw u
    frames-done (show j choice) = refl
    frames-done (change j parameter value) =
        pick-either (λ (xs : List Says). [] ≡ over handed_in (over (says_for s (change j parameter value)) xs)) (eqb j k) _ _
        (λ t. pick-either (λ (xs : List Says). [] ≡ over handed_in (xs ++ [])) (same_side s receive) _ _ (λ u. refl) (λ u. refl)) (λ t. refl)

    frames-step : (c : Call) → FramesAlike c (outcome h c).answer
    unfolding outcome refused_outcome
    frames-step c = go (refusal h c)
      where
        go : (n : ℕ) → FramesAlike c (unless n (refused_outcome h (buffer_of c)) (record { answer = reply h c; held = done h c; buffer = written h c })).answer
        go zero = frames-done c
        go (suc n) = unfold frames_by says_of over in refl

  -- ---- a run

  said-run : (h : Held) (cs : List Call) → says_by s k cs (answers h cs) ≡ side_says s h.node.settings (part_of k h) (owns k h cs)
  unfolding says_by answers owns side_says
  said-run h [] = refl
  said-run h (c ∷ cs) =
      ap₂ (λ (q r : List Says). q ++ r) (side-step h c) (said-run (outcome h c).held cs)
      ∙ ap₂ (λ (set : Settings) (p : Part). side_says s h.node.settings (part_of k h) (own k h c) ++ side_says s set p (owns k (outcome h c).held cs)) (settings-step h c) (part_step k h c)
      ∙ sym (said-append h.node.settings (part_of k h) (own k h c) (owns k (outcome h c).held cs))

  frames-run : (h : Held) (cs : List Call) → over (frames_by s k) (answers h cs) ≡ over handed_in (says_by s k cs (answers h cs))
  unfolding over says_by answers
  frames-run h [] = refl
  frames-run h (c ∷ cs) =
      ap₂ (λ (x y : List (List ℕ)). x ++ y) (frames-step h c) (frames-run (outcome h c).held cs)
      ∙ sym (over-append handed_in (over (says_for s c) (says_of k (outcome h c).answer)) (says_by s k cs (answers (outcome h c).held cs)))

-- EACH SIDE ALONE, in any run from any start: side s of berth k, with its area, its words, codes, frames and reports are those of its own
-- events on that side alone.
pub side-alone-in-run : (s : Side) (k : ℕ) (h : Held) (cs : List Call)
    → SideAlone h.node.settings (side_of s (part_of k h)) s k (side_events s h.node.settings (part_of k h) (owns k h cs)) cs (answers h cs) (final h cs)
side-alone-in-run s k h cs =
    let said = said-run s k h cs ∙ side-says h.node.settings s (part_of k h) (owns k h cs) in
    record {
      part = ap (side_of s) (berth-alone k h cs) ∙ side-alone h.node.settings s (part_of k h) (owns k h cs);
      says = said;
      frames = frames-run s k h cs ∙ ap (over handed_in) said;
      reported = ap (of_side s) (berth-reports k h cs) ∙ side-reports h.node.settings k s (part_of k h) (owns k h cs);
    }
