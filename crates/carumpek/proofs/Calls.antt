-- A set-up that is allowed, a message that begins to be sent and a setting that is changed, as the outcomes of the rules.
use Prim.Native.Nat.{ℕ, ◌+◌, ◌*◌}
use native.Mathlib.Omega.{arith}
use mathlib.Core.Path.{◌≡◌, refl, sym, ◌∙◌}
use mathlib.Core.Bool.{Bool, true, false}
use mathlib.Core.List.{List}
use lib.ListN.{length, replicate}
use lib.Seq.{sets}
use Rattle.std.specs.Prelude.{Ok, Err}
use Rattle.rules.specs.Numbers.{berth_count}
use Rattle.rules.specs.Nodes.{berth_at, fresh_with, with_settings, with_tx, with_berth}
use Rattle.rules.specs.Ranges.{own_allowed, settings_allowed}
use Rattle.rules.specs.Refusals.{refusal, set_up_refusal}
use Rattle.rules.specs.Turns.{begins_with, sent as sent_berth}
use Rattle.rules.specs.Changes.{changed_settings, changed}
use Rattle.rules.specs.Stores.{stored, set_up_node}
use Rattle.rules.specs.Answers.{set_up_says, send_says, change_says}
use Rattle.rules.specs.Events.{send, change}
use Rattle.rules.specs.Calls.{done, reply, written, set_up_outcome, refused_outcome}
use Rattle.rules.specs.declared.BerthSettings.{BerthSettings}
use Rattle.rules.specs.declared.Card.{Card}
use Rattle.rules.specs.declared.Node.{Node}
use Rattle.rules.specs.declared.Refusal.TheVariants.{BadSetting}
use Rattle.rules.specs.declared.Tx.{Tx}
use Rattle.rules.proofs.Cases.{is_true, yes_of}
use Rattle.rules.proofs.Ranges.{own-allowed, settings-range}
use Rattle.node.specs.Promises.{lent, SetUpPromise, SendPromise, ChangePromise}
use Rattle.node.proofs.Outcomes.{meets, unmet, all-met, agrees, does}

module _ (area block stmin : ℕ) {allowed : Bool} (said : allowed ≡ settings_allowed area block stmin) where
  may-set : allowed ≡ true → settings_allowed area block stmin ≡ true
  may-set t = sym said ∙ t

  pub may-own : allowed ≡ true → own_allowed block stmin ≡ true
  may-own t = is_true (own_allowed block stmin) (own-allowed block stmin (settings-range area block stmin (yes_of (may-set t))).own)

  pub sets-up : allowed ≡ true → {own : BerthSettings} → own ≡ record { block = block; stmin = stmin }
      → (old : Node)
      → SetUpPromise old area block stmin (Ok tt) (record { settings = record { area = area }; served = 9; berths = replicate berth_count (fresh_with own) })
  unfolding set_up_outcome set_up_refusal set_up_says set_up_node
  sets-up t its old = λ cards incoming outgoing. rw (← meets _ _ (may-set t) all-met, its) (agrees refl)

  pub refuses-settings : allowed ≡ false → (old : Node) → SetUpPromise old area block stmin (Err BadSetting) old
  unfolding set_up_outcome set_up_refusal set_up_says refused_outcome
  refuses-settings t old = λ cards incoming outgoing. rw (← unmet _ _ (sym said ∙ t)) (agrees refl)

module _ (n : Node) (outgoing : List ℕ) (k party : ℕ) (m : List ℕ) where
  pub begins : ((cards : List Card) (incoming : List ℕ) → 0 ≡ refusal (lent n cards incoming outgoing) (send k party m))
      → (tx : Tx) → tx ≡ begins_with (length m) (record { 0 = party }) → (outgoing' : List ℕ) → outgoing' ≡ sets outgoing (k * n.settings.area) m
      → SendPromise n outgoing k party m (Ok k) (with_berth n k (with_tx (berth_at n k) tx)) outgoing'
  unfolding send_says done reply written sent_berth stored
  begins may tx begun outgoing' put =
      let front : k * n.settings.area + 0 ≡ k * n.settings.area = omega arith in
      λ cards incoming. does (lent n cards incoming outgoing) (send k party m) refl (may cards incoming) (rw (begun, put, front))

module _ (n : Node) (k parameter value : ℕ) where
  pub changes : ((cards : List Card) (incoming outgoing : List ℕ) → 0 ≡ refusal (lent n cards incoming outgoing) (change k parameter value))
      → (own : BerthSettings) → own ≡ changed_settings (berth_at n k).settings parameter value
      → ChangePromise n k parameter value (Ok k) (with_berth n k (with_settings (berth_at n k) own))
  unfolding change_says done reply written changed
  changes may own e =
      λ cards incoming outgoing. does (lent n cards incoming outgoing) (change k parameter value) refl (may cards incoming outgoing) (rw e)
