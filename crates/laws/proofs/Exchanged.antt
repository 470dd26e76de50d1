-- What is handed over both ways: there the frames, and back one go for each block.
use mathlib.Core.Path.{◌≡◌, refl, sym, ap, ◌∙◌}
use Prim.Native.Nat.{ℕ, suc, ◌+◌, ◌-◌, ◌/◌, ◌<◌}
use native.Mathlib.Omega.{arith}
use native.Mathlib.Numerals.{add-one}
use native.Mathlib.Nat.{div-zero, div-eq_of_lt, add-div_left}
use mathlib.Core.Bool.{Bool, true, false}
use mathlib.Core.List.{List, [], ◌∷◌}
use lib.ListN.{length, replicate}
use lib.Dec.{eqb}
use Rattle.rules.specs.Tests.{pick}
use Rattle.rules.specs.Frames.{go_frame, counted, fills_block}
use Rattle.rules.specs.declared.BerthSettings.{BerthSettings}
use Rattle.rules.proofs.Cases.{Tested, holds, fails, eqb-cases, eqb-not}
use Rattle.rules.proofs.Order.{fills-cases}
use Rattle.laws.specs.Line.{there, back, in_blocks, exchanged, there_of, back_of, blocks}
use Rattle.laws.proofs.Frames.{counted-on}

there-blocks : (s : BerthSettings) (count : ℕ) (fs : List (List ℕ)) → there_of (in_blocks s count fs) ≡ fs
unfolding there_of in_blocks
there-blocks s count [] = refl
there-blocks s count (f ∷ []) = refl
there-blocks s count (f ∷ g ∷ fs) = go (fills_block s.block count) (there-blocks s 0 (g ∷ fs)) (there-blocks s (counted s.block count) (g ∷ fs))
  where
    go : (b : Bool) → there_of (in_blocks s 0 (g ∷ fs)) ≡ g ∷ fs → there_of (in_blocks s (counted s.block count) (g ∷ fs)) ≡ g ∷ fs
        → there_of (there f ∷ pick b (back (go_frame s) ∷ in_blocks s 0 (g ∷ fs)) (in_blocks s (counted s.block count) (g ∷ fs))) ≡ f ∷ g ∷ fs
    go true x y = ap (λ (r : List (List ℕ)). f ∷ r) x
    go false x y = ap (λ (r : List (List ℕ)). f ∷ r) y

-- what is handed over there are the frames
pub there-exchanged : (s : BerthSettings) (fs : List (List ℕ)) → there_of (exchanged s fs) ≡ fs
unfolding there_of exchanged
there-exchanged s [] = refl
there-exchanged s (f ∷ []) = refl
there-exchanged s (f ∷ g ∷ fs) = ap (λ (r : List (List ℕ)). f ∷ r) (there-blocks s 0 (g ∷ fs))

-- ---- the flow control back

-- with t frames of the block gone there is a go after each full block; dividing by a block size 0 gives 0, and none is full
quotient : (block t r : ℕ) → (0 < block → t < block) → r ≡ 0 → (t + r) / block ≡ 0
quotient block t r h e = go (eqb-cases block 0)
  where
    go : Tested (eqb block 0) (block ≡ 0) (block ≡ 0 → ⊥) → (t + r) / block ≡ 0
    go (holds q z) = rw z (div-zero (t + r))
    go (fails q ne) = let l : t < block = h (omega arith) in div-eq_of_lt (omega arith)

back-blocks : (s : BerthSettings) (t : ℕ) (f : List ℕ) (fs : List (List ℕ)) → (0 < s.block → t < s.block)
    → back_of (in_blocks s t (f ∷ fs)) ≡ replicate ((t + length fs) / s.block) (go_frame s)
unfolding back_of in_blocks
back-blocks s t f [] h = ap (λ (k : ℕ). replicate k (go_frame s)) (sym (quotient s.block t 0 h refl))
back-blocks s t f (g ∷ fs) h =
    go (fills-cases s.block t) (eqb-cases s.block 0) (back-blocks s 0 g fs (λ l. l)) (back-blocks s (counted s.block t) g fs)
  where
    go : Tested (fills_block s.block t) ((0 < s.block) × (t + 1 ≡ s.block)) (0 < s.block → t + 1 ≡ s.block → ⊥)
        → Tested (eqb s.block 0) (s.block ≡ 0) (s.block ≡ 0 → ⊥)
        → back_of (in_blocks s 0 (g ∷ fs)) ≡ replicate ((0 + length fs) / s.block) (go_frame s)
        → ((0 < s.block → counted s.block t < s.block)
        → back_of (in_blocks s (counted s.block t) (g ∷ fs)) ≡ replicate ((counted s.block t + length fs) / s.block) (go_frame s))
        → back_of (in_blocks s t (f ∷ g ∷ fs)) ≡ replicate ((t + suc (length fs)) / s.block) (go_frame s)
    go (holds q x) z ih jh =
        let e : t + suc (length fs) ≡ s.block + (0 + length fs) = omega (arith, x.1) in
        let d : (t + suc (length fs)) / s.block ≡ suc ((0 + length fs) / s.block) =
        ap (λ (k : ℕ). k / s.block) e ∙ add-div_left (0 + length fs) x.0 ∙ add-one ((0 + length fs) / s.block) in
        rw (q, d) (ap (λ (r : List (List ℕ)). go_frame s ∷ r) ih)
    go (fails q x) (holds r z) ih jh =
        let none : (k : ℕ) → k / s.block ≡ 0 = λ k. rw z (div-zero k) in
        rw q (jh (λ l. absurd (omega arith)) ∙ ap (λ (k : ℕ). replicate k (go_frame s)) (none (counted s.block t + length fs) ∙ sym (none (t + suc (length fs)))))
    go (fails q x) (fails r z) ih jh =
        let l : t < s.block = h (omega arith) in
        let ne : t + 1 ≡ s.block → ⊥ = x (omega arith) in
        let c : counted s.block t ≡ t + 1 = counted-on s.block t (omega arith) in
        let e : counted s.block t + length fs ≡ t + suc (length fs) = omega arith in
        rw q (jh (λ k. omega arith) ∙ ap (λ (k : ℕ). replicate (k / s.block) (go_frame s)) e)

-- the blocks of the frames that are counted from the first on
block-count : (size r c : ℕ) → c ≡ suc r → suc ((0 + r) / size) ≡ blocks size c
unfolding blocks
block-count size r c e = go (eqb-cases size 0)
  where
    some : eqb c 0 ≡ false
    some = eqb-not c 0 (λ z. omega arith)

    go : Tested (eqb size 0) (size ≡ 0) (size ≡ 0 → ⊥) → suc ((0 + r) / size) ≡ blocks size c
    go (holds q z) = rw (some, q) (ap suc (rw z (div-zero (0 + r))))
    go (fails q ne) =
        let f : c + (size - 1) ≡ size + (0 + r) = omega arith in
        let d : (c + (size - 1)) / size ≡ suc ((0 + r) / size) = ap (λ (k : ℕ). k / size) f ∙ add-div_left (0 + r) (omega arith) ∙ add-one ((0 + r) / size) in
        rw (some, q) (sym d)

-- what is handed over back is one go for each block
pub back-exchanged : (s : BerthSettings) (fs : List (List ℕ)) → back_of (exchanged s fs) ≡ replicate (blocks s.block (length fs - 1)) (go_frame s)
unfolding back_of exchanged blocks
back-exchanged s [] = refl
back-exchanged s (f ∷ []) = refl
back-exchanged s (f ∷ g ∷ fs) =
    ap (λ (r : List (List ℕ)). go_frame s ∷ r) (back-blocks s 0 g fs (λ l. l))
    ∙ ap (λ (k : ℕ). replicate k (go_frame s)) (block-count s.block (length fs) (length (f ∷ g ∷ fs) - 1) (omega arith))
