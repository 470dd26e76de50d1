-- The theorem, of the code: the plain engine, and the code's runs on two nodes under the line's law, do the same.
use mathlib.Core.Path.{◌≡◌, ap, ◌∙◌}
use mathlib.Core.Bool.{true}
use Prim.Native.Nat.{ℕ, ◌≤◌}
use mathlib.Core.List.{List}
use lib.ListN.{length}
use Rattle.rules.specs.Numbers.{least_long}
use Rattle.rules.specs.Nodes.{Held}
use Rattle.rules.specs.Events.{send}
use Rattle.rules.specs.Calls.{Outcome}
use Rattle.rules.specs.Ranges.{own_allowed}
use Rattle.rules.specs.declared.BerthSettings.{BerthSettings}
use Rattle.laws.specs.Line.{World, Deed, living, AtRest, quiet, begin, MayBegin, agreed}
use Rattle.laws.proofs.Agreed.{agreed-allowed}
use Rattle.plain.specs.Laws.{Same}
use Rattle.plain.proofs.Laws.{arrived-plain, short-message}
use Rattle.runs.specs.Chains.{Step}
use Rattle.runs.specs.Lines.{Along}
use Rattle.runs.proofs.Lines.{along-is, chain-line-law}
use Rattle.runs.proofs.Runs.{step_is}

module _ (i j party : ℕ) (m : List ℕ) (a b : Held) (may : MayBegin i j party m a b) where
  -- THE PLAIN ENGINE AND THE NODE'S CODE DO THE SAME. The code runs on two nodes under the line's law, any message, any calls. Then the frames
  -- that it handed over both ways, in order, are those that the plain engine lists for the settings that the taker had at Begun, byte for byte,
  -- and what stands in the taker's area and is shown is what the plain engine delivers. For a message in one frame any settings serve.
  pub chain-plain : {o : Outcome} {ds : List Deed} {w : World} → Step a (send i party m) o → Along i j (quiet o.held b) ds w → AtRest i j w
      → (s : BerthSettings) → (least_long ≤ length m → agreed w ≡ s) → Same j s m w
  chain-plain started along rest s same =
      arrived-plain (chain-line-law i j party m a b may started along rest) may.some (short-message i j party m a b may) s same

  -- and the engine answers for these settings: they are in their range
  pub chain-agreed : {o : Outcome} {ds : List Deed} {w : World} → Step a (send i party m) o → Along i j (quiet o.held b) ds w
      → own_allowed (agreed w).block (agreed w).stmin ≡ true
  chain-agreed {o} {ds} {w} started along =
      let begun : quiet o.held b ≡ begin i party m a b = ap (λ (x : Outcome). quiet x.held b) (step_is started) in
      let e : w ≡ living i j (begin i party m a b) ds = (along-is i j along).0 ∙ ap (λ (x : World). living i j x ds) begun in
      rw e (agreed-allowed i j party m a b may ds)
