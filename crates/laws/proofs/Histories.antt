-- A call is one event of a berth or none, and a turn of its own comes where the berth is in order and has a frame due. So the history of the
-- calls, which the answers tell, is that of the berth's own events on that berth alone.
use mathlib.Core.Path.{◌≡◌, refl, sym, ap, ap₂, ◌∙◌}
use Prim.Native.Nat.{ℕ, zero, suc, ◌≤◌, ◌<◌}
use mathlib.Core.Bool.{◌&&◌}
use mathlib.Core.List.{List, [], ◌∷◌, ◌++◌}
use lib.Dec.{T, eqb, ltb}
use mir.Facts.{eqb_yes, ltb_yes}
use Rattle.rules.specs.Tests.{unless}
use Rattle.rules.specs.Numbers.{berth_count, short_most}
use Rattle.rules.specs.Nodes.{berth_at, Held}
use Rattle.rules.specs.Ranges.{BerthRange}
use Rattle.rules.specs.Turns.{due}
use Rattle.rules.specs.Stores.{passed_over, reached}
use Rattle.rules.specs.Events.{Call, frame, tick, send, turn, show, change, sender_of, Event, arrives, ticks, sends, turns, changes}
use Rattle.rules.specs.Refusals.{refusal}
use Rattle.rules.specs.Calls.{outcome}
use Rattle.rules.specs.Alone.{Part, part_of, part_after, says, alone, says_all, AtEach}
use Rattle.rules.specs.declared.Settings.{Settings}
use Rattle.rules.proofs.Cases.{pick-either, and_left, and_right}
use Rattle.rules.proofs.Answered.{turn-answered}
use Rattle.rules.proofs.Ranges.{in-order-range}
use Rattle.rules.proofs.Order.{reached-small}
use Rattle.rules.proofs.Round.{reached-due}
use Rattle.laws.specs.Own.{own_done, own, owns, says_of}
use Rattle.laws.specs.Histories.{Moment, history, moments, history_of}
use Rattle.laws.proofs.Isolation.{part_step, says-step, settings-step}

-- ---- a berth's own events

-- a turn that the berth received
pub record ServedRight (s : Settings) (p : Part) : Type 0 where
  pub small : s.area ≤ short_most
  pub range : BerthRange s p.berth
  pub is-due : T (due p.berth)

abbrev pub Served : Settings → Part → Event → Type 0
Served s p (arrives d) = Unit {0}
Served s p ticks = Unit {0}
Served s p (sends party m) = Unit {0}
Served s p turns = ServedRight s p
Served s p (changes parameter value) = Unit {0}

-- a call is one event of berth k or none
pub own-either : (P : List Event → Type 0) (k : ℕ) (h : Held) (c : Call) → P [] → ((e : Event) → Served h.node.settings (part_of k h) e → P (e ∷ []))
    → P (own k h c)
unfolding own own_done part_of
own-either P k h c none some = go (refusal h c) refl
  where
    turned : (buffer : List ℕ) → refusal h (turn buffer) ≡ 0 → T (ltb (passed_over h.node) berth_count && eqb (reached h.node) k)
        → ServedRight h.node.settings (part_of k h)
    turned buffer e t =
        let o = in-order-range h.node (turn-answered h buffer e).order in
        let l : passed_over h.node < berth_count = ltb_yes (and_left (ltb (passed_over h.node) berth_count) _ t) in
        let mine : reached h.node ≡ k = eqb_yes (and_right (ltb (passed_over h.node) berth_count) _ t) in
        record {
          small = o.settings.area-most;
          range = rw mine at (o.berth (reached h.node) (reached-small h.node));
          is-due = rw mine at (reached-due h.node o l).0;
        }

    its : (c : Call) → refusal h c ≡ 0 → P (own_done k h c)
    its (frame id d) e = pick-either P (eqb (sender_of id) k) _ _ (λ t. some (arrives d) tt) (λ t. none)
    its tick e = some ticks tt
    its (send j party m) e = pick-either P (eqb j k) _ _ (λ t. some (sends (record { 0 = party }) m) tt) (λ t. none)
    its (turn buffer) e =
        pick-either P (ltb (passed_over h.node) berth_count && eqb (reached h.node) k) _ _ (λ t. some turns (turned buffer e t)) (λ t. none)
    its (show j choice) e = none
    its (change j parameter value) e = pick-either P (eqb j k) _ _ (λ t. some (changes parameter value) tt) (λ t. none)

    go : (n : ℕ) → refusal h c ≡ n → P (unless n (λ m. []) (own_done k h c))
    go zero e = its c e
    go (suc n) e = none

-- ---- what holds before each event of a run

pub at-each-append : (P : Settings → Part → Event → Type 0) (s : Settings) (p : Part) (es fs : List Event) → AtEach P s p es → AtEach P s (alone s p es) fs
    → AtEach P s p (es ++ fs)
unfolding alone AtEach
at-each-append P s p [] fs u v = v
at-each-append P s p (e ∷ es) fs u v = (u.0, at-each-append P s (part_after s p e) es fs u.1 v)

pub served-run : (k : ℕ) (h : Held) (cs : List Call) → AtEach Served h.node.settings (part_of k h) (owns k h cs)
unfolding owns AtEach
served-run k h [] = tt
served-run k h (c ∷ cs) =
    at-each-append Served h.node.settings (part_of k h) (own k h c) (owns k (outcome h c).held cs)
    (own-either (AtEach Served h.node.settings (part_of k h)) k h c tt (λ e r. (r, tt)))
    (rw (settings-step h c, part_step k h c) at (served-run k (outcome h c).held cs))

-- ---- the history of the calls is that of the berth's own events

history-append : (s : Settings) (p : Part) (es fs : List Event) → history s p (es ++ fs) ≡ history s p es ++ history s (alone s p es) fs
unfolding history alone
history-append s p [] fs = refl
history-append s p (e ∷ es) fs = ap (λ (ms : List Moment). record { before = p.berth.rx; event = e; said = says s p e } ∷ ms) (history-append s (part_after s p e) es fs)

moments-step : (k : ℕ) (h : Held) (c : Call)
    → moments (berth_at h.node k).rx (own k h c) (says_of k (outcome h c).answer) ≡ history h.node.settings (part_of k h) (own k h c)
unfolding part_of
moments-step k h c =
    ap (moments (berth_at h.node k).rx (own k h c)) (says-step k h c)
    ∙ own-either (λ es. moments (berth_at h.node k).rx es (says_all h.node.settings (part_of k h) es) ≡ history h.node.settings (part_of k h) es)
    k h c (unfold moments history in refl) (λ e r. unfold moments says_all history in refl)

pub history-is : (k : ℕ) (h : Held) (cs : List Call) → history_of k h cs ≡ history h.node.settings (part_of k h) (owns k h cs)
unfolding history_of owns
history-is k h [] = unfold history in refl
history-is k h (c ∷ cs) =
    ap₂ (λ (q r : List Moment). q ++ r) (moments-step k h c) (history-is k (outcome h c).held cs)
    ∙ ap₂ (λ (s : Settings) (p : Part). history h.node.settings (part_of k h) (own k h c) ++ history s p (owns k (outcome h c).held cs)) (settings-step h c) (part_step k h c)
    ∙ sym (history-append h.node.settings (part_of k h) (own k h c) (owns k (outcome h c).held cs))
