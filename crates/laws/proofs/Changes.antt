-- A change touches one setting of one berth: whether a berth is due does not look at its settings, so the round stays too. And nothing else
-- touches them: every other rule builds the berth with its settings as they were.
use mathlib.Core.Path.{◌≡◌, refl, ap, ◌∙◌}
use Prim.Native.Nat.{ℕ, zero, suc, min}
use mathlib.Core.List.{List, [], ◌∷◌}
use lib.ListN.{get_or, set}
use Rattle.rules.specs.Tests.{pick, unless}
use Rattle.rules.specs.Numbers.{berth_count}
use Rattle.rules.specs.Nodes.{fresh, berth_at, Held, with_berth}
use Rattle.rules.specs.Arrivals.{Came, heard_by, told_by, frame_came}
use Rattle.rules.specs.Ticks.{ticked}
use Rattle.rules.specs.Turns.{flow_due, due, HandedOver, hand_over, sent}
use Rattle.rules.specs.Changes.{changed}
use Rattle.rules.specs.Stores.{distance, least_distance, passed_over}
use Rattle.rules.specs.Events.{Call, change, Event, arrives, ticks, sends, turns, changes}
use Rattle.rules.specs.Refusals.{refusal}
use Rattle.rules.specs.Calls.{done, refused_outcome, outcome, final}
use Rattle.rules.specs.Alone.{Part, part_of, state_after, part_after, alone}
use Rattle.rules.specs.declared.Settings.{Settings}
use Rattle.rules.specs.declared.BerthSettings.{BerthSettings}
use Rattle.rules.specs.declared.Berth.{Berth}
use Rattle.rules.proofs.Cases.{eqb-not, pick-either}
use Rattle.rules.proofs.Facts.{frame-either}
use Rattle.laws.specs.Own.{own_done, own, owns}
use Rattle.laws.specs.Changes.{ChangesOnly, settings_after}
use Rattle.laws.proofs.Isolation.{part_step, berth-alone}

-- ---- a berth's settings in a run

settings-frame : (s : Settings) (b : Berth) (d : List ℕ) → (frame_came s b d).berth.settings ≡ b.settings
unfolding heard_by told_by
settings-frame s b d = frame-either (λ (c : Came). c.berth.settings ≡ b.settings) s b d (λ why. refl) refl refl refl refl

settings-turn : (b : Berth) (area : List ℕ) → (hand_over b area).berth.settings ≡ b.settings
unfolding hand_over
settings-turn b area = pick-either (λ (g : HandedOver). g.berth.settings ≡ b.settings) (flow_due b.rx) _ _ (λ t. refl) (λ t. refl)

alone-settings : (s : Settings) (p : Part) (es : List Event) → (alone s p es).berth.settings ≡ settings_after p.berth.settings es
unfolding alone settings_after part_after state_after ticked sent changed
alone-settings s p [] = refl
alone-settings s p (arrives d ∷ es) =
    alone-settings s (part_after s p (arrives d)) es ∙ ap (λ (given : BerthSettings). settings_after given es) (settings-frame s p.berth d)
alone-settings s p (ticks ∷ es) = alone-settings s (part_after s p ticks) es
alone-settings s p (sends party m ∷ es) = alone-settings s (part_after s p (sends party m)) es
alone-settings s p (turns ∷ es) =
    alone-settings s (part_after s p turns) es ∙ ap (λ (given : BerthSettings). settings_after given es) (settings-turn p.berth p.outgoing)
alone-settings s p (changes parameter value ∷ es) = alone-settings s (part_after s p (changes parameter value)) es

-- ---- one change

module _ (parameter value : ℕ) where
  abbrev anew : List Berth → ℕ → List Berth
  anew bs j = set bs j (changed (get_or bs j fresh) parameter value)

  -- what does not look at the settings is kept at the berth itself
  kept_at : {X : Type 0} (f : Berth → X) → ((b : Berth) → f (changed b parameter value) ≡ f b)
      → (bs : List Berth) (j : ℕ) → f (get_or (anew bs j) j fresh) ≡ f (get_or bs j fresh)
  kept_at f same [] j = refl
  kept_at f same (b ∷ bs) zero = same b
  kept_at f same (b ∷ bs) (suc j) = kept_at f same bs j

  round-kept : (served k : ℕ) (bs : List Berth) (j : ℕ) → least_distance served k (anew bs j) ≡ least_distance served k bs
  unfolding least_distance due changed
  round-kept served k [] j = refl
  round-kept served k (b ∷ bs) zero = refl
  round-kept served k (b ∷ bs) (suc j) =
      ap (λ (n : ℕ). min (pick (due b) (distance served k) berth_count) n) (round-kept served (suc k) bs j)

  not_own : (h : Held) (j k : ℕ) → (j ≡ k → ⊥) → own k h (change j parameter value) ≡ []
  unfolding own own_done
  not_own h j k ne = go (refusal h (change j parameter value))
    where
      go : (n : ℕ) → unless n (λ m. []) (own_done k h (change j parameter value)) ≡ []
      go zero = rw (eqb-not j k ne)
      go (suc n) = refl

  -- A CHANGE TOUCHES ONE SETTING OF ONE BERTH, refused or not, at any node, stores and cards
  pub change-only : (h : Held) (j : ℕ) → ChangesOnly j parameter value h (outcome h (change j parameter value)).held
  unfolding outcome refused_outcome done with_berth berth_at passed_over changed alone part_of
  change-only h j = go (refusal h (change j parameter value)) refl
    where
      others : (k : ℕ) → (j ≡ k → ⊥) → part_of k (outcome h (change j parameter value)).held ≡ part_of k h
      others k ne = part_step k h (change j parameter value) ∙ ap (alone h.node.settings (part_of k h)) (not_own h j k ne)

      settings : (berth_at (outcome h (change j parameter value)).held.node j).settings
          ≡ settings_after (berth_at h.node j).settings (own j h (change j parameter value))
      settings =
          ap (λ (p : Part). p.berth.settings) (part_step j h (change j parameter value))
          ∙ alone-settings h.node.settings (part_of j h) (own j h (change j parameter value))

      go : (n : ℕ) → refusal h (change j parameter value) ≡ n → ChangesOnly j parameter value h (outcome h (change j parameter value)).held
      go zero e =
          rw e (record {
            settings = rw e at settings;
            others = rw e at others;
            receive = kept_at (λ b. b.rx) (λ b. refl) h.node.berths j;
            last = kept_at (λ b. b.last) (λ b. refl) h.node.berths j;
            send = kept_at (λ b. b.tx) (λ b. refl) h.node.berths j;
            area = refl;
            served = refl;
            incoming = refl;
            outgoing = refl;
            cards = refl;
            round = round-kept h.node.served 0 h.node.berths j;
          })
      go (suc n) e =
          rw e (record {
            settings = rw e at settings;
            others = λ k ne. refl;
            receive = refl;
            last = refl;
            send = refl;
            area = refl;
            served = refl;
            incoming = refl;
            outgoing = refl;
            cards = refl;
            round = refl;
          })

-- A BERTH'S SETTINGS IN A RUN are those of its start, changed by its own answered changes and by nothing else
pub run-settings : (k : ℕ) (h : Held) (cs : List Call)
    → (berth_at (final h cs).node k).settings ≡ settings_after (berth_at h.node k).settings (owns k h cs)
unfolding part_of
run-settings k h cs = ap (λ (p : Part). p.berth.settings) (berth-alone k h cs) ∙ alone-settings h.node.settings (part_of k h) (owns k h cs)
