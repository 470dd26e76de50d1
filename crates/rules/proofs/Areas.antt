-- Bytes put down inside berth k's area change that area alone, and an area has A bytes.
use mathlib.Core.Path.{◌≡◌, refl, sym, ap, ◌∙◌}
use Prim.Native.Nat.{ℕ, suc, ◌+◌, ◌-◌, ◌*◌, ◌≤◌, ◌<◌}
use native.Mathlib.Nat.{mul-le-mul_right, add-suc}
use native.Mathlib.Omega.{arith}
use mathlib.Core.List.{List, [], ◌∷◌}
use lib.ListN.{length, take, drop, set, length-take, length-drop}
use lib.Seq.{sets, drop-set-add, drop-set-lt, take-set-lt, take-set-le}
use Rattle.rules.specs.Numbers.{berth_count}
use Rattle.rules.specs.Stores.{area_of, stored}
use Rattle.rules.proofs.Cases.{split}

byte-same : (a k : ℕ) (s : List ℕ) (at v : ℕ) → at < a → area_of a k (set s (k * a + at) v) ≡ set (area_of a k s) at v
unfolding area_of
byte-same a k s at v h = rw drop-set-add (take-set-lt a (drop (k * a) s) at v h)

byte-other : (a j k : ℕ) (s : List ℕ) (at v : ℕ) → (j ≡ k → ⊥) → at < a → area_of a j (set s (k * a + at) v) ≡ area_of a j s
unfolding area_of
byte-other a j k s at v ne h =
    split j k
    (λ l.
    let m : suc j * a ≤ k * a = mul-le-mul_right a (omega arith) in
    let e : k * a + at ≡ j * a + (k * a + at - j * a) = omega arith in
    rw (e, drop-set-add) (take-set-le a (drop (j * a) s) (k * a + at - j * a) v (omega arith)))
    (λ l.
    let m : suc k * a ≤ j * a = mul-le-mul_right a l in
    ap (take a) (drop-set-lt (j * a) s (k * a + at) v (omega arith)))

pub area_same : (a k at : ℕ) (bytes s : List ℕ) → at + length bytes ≤ a
    → area_of a k (stored a k at bytes s) ≡ sets (area_of a k s) at bytes
unfolding stored
area_same a k at [] s h = refl
area_same a k at (v ∷ vs) s h =
    ap (λ (i : ℕ). area_of a k (sets (set s (k * a + at) v) i vs)) (sym (add-suc (k * a) at))
    ∙ area_same a k (suc at) vs (set s (k * a + at) v) (omega arith)
    ∙ ap (λ (r : List ℕ). sets r (suc at) vs) (byte-same a k s at v (omega arith))

pub area-other : (a j k at : ℕ) (bytes s : List ℕ) → (j ≡ k → ⊥) → at + length bytes ≤ a
    → area_of a j (stored a k at bytes s) ≡ area_of a j s
unfolding stored
area-other a j k at [] s ne h = refl
area-other a j k at (v ∷ vs) s ne h =
    ap (λ (i : ℕ). area_of a j (sets (set s (k * a + at) v) i vs)) (sym (add-suc (k * a) at))
    ∙ area-other a j k (suc at) vs (set s (k * a + at) v) ne (omega arith)
    ∙ byte-other a j k s at v ne (omega arith)

-- an area of a store of ten has A bytes
pub area-length : (a k : ℕ) (store : List ℕ) → k < berth_count → length store ≡ berth_count * a → length (area_of a k store) ≡ a
unfolding area_of
area-length a k store h e =
    let m : suc k * a ≤ berth_count * a = mul-le-mul_right a h in
    simp (length-take, length-drop) (omega arith)
