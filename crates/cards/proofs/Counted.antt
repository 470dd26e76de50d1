-- What a frame adds, by its old code and its word: nothing where these do not count, and the same for every kind of frame where it
-- delivers nothing.
use Prim.Native.Nat.{ℕ}
use mathlib.Core.Path.{◌≡◌, ap, ◌∙◌}
use mathlib.Core.Bool.{Bool, true, false, ◌||◌}
use native.Mathlib.Omega.{arith}
use lib.Dec.{eqb}
use Rattle.rules.specs.Numbers.{N_UNEXP_PDU}
use Rattle.rules.specs.Cards.{added, nothing, frame_adds}
use Rattle.rules.specs.Words.{word_said}
use Rattle.rules.specs.declared.Word.{Word}
use Rattle.rules.specs.declared.Card.{Card}
use Rattle.rules.proofs.Cases.{or-neither, and-false}
use Rattle.rules.proofs.Cards.{added-nothing}
use Rattle.cards.specs.Counting.{word_counts}

clash : {X : Type 0} → ◌≡◌ {A = ℕ} 0 1 → X
clash e = absurd (omega arith)

or-true : (a : Bool) {X : Type 0} → (a || true) ≡ false → X
or-true true e = clash (cc)
or-true false e = clash (cc)

module _ (single : Bool) (old : ℕ) where
  adds-nothing : (w : Word) → eqb old N_UNEXP_PDU || word_counts (word_said w) ≡ false → frame_adds single old (word_said w) ≡ nothing
  unfolding frame_adds
  adds-nothing (Word.Delivered n) e = or-true (eqb old N_UNEXP_PDU) e
  adds-nothing (Word.Begun n) e = or-true (eqb old N_UNEXP_PDU) e
  adds-nothing (Word.Failed c party) e = or-true (eqb old N_UNEXP_PDU) e
  adds-nothing (Word.Ignored i) e = simp ((or-neither (eqb old N_UNEXP_PDU) false e).0, and-false)
  adds-nothing Word.TooLong e = or-true (eqb old N_UNEXP_PDU) e
  adds-nothing Word.Took e = simp ((or-neither (eqb old N_UNEXP_PDU) false e).0, and-false)
  adds-nothing Word.Going e = simp ((or-neither (eqb old N_UNEXP_PDU) false e).0, and-false)
  adds-nothing Word.Waiting e = simp ((or-neither (eqb old N_UNEXP_PDU) false e).0, and-false)

  pub uncounted : (c : Card) (w : Word) → eqb old N_UNEXP_PDU || word_counts (word_said w) ≡ false → added c (frame_adds single old (word_said w)) ≡ c
  uncounted c w e = ap (added c) (adds-nothing w e) ∙ added-nothing c
