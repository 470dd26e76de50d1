-- A list that a loop fills, place after place, with the images of another: the first i are images, the others as they were.
use Prim.Native.Nat.{ℕ, zero, suc, ◌+◌, ◌<◌, ◌≤◌}
use native.Mathlib.Numerals.{add-one}
use native.Mathlib.Nat.{le_of_suc-le-suc, not-suc-le-zero}
use native.Mathlib.Omega.{arith}
use mathlib.Core.Path.{◌≡◌, refl, ap, ◌∙◌}
use mathlib.Core.List.{List, [], ◌∷◌, ◌++◌, map, append-nil}
use lib.ListN.{length, get_or, drop, take, set, replicate, drop_of_length-le}
use lib.Seq.{take_all}

abbrev pub filled : {X Y : Type 0} → (X → Y) → List X → List Y → ℕ → List Y
filled f l r i = map f (take i l) ++ drop i r

filled-suc : {X Y : Type 0} (f : X → Y) (l : List X) (r : List Y) (i : ℕ) (d : X) → i < length l → i < length r →
    set (filled f l r i) i (f (get_or l i d)) ≡ filled f l r (suc i)
filled-suc f [] r i d h k = absurd (not-suc-le-zero h)
filled-suc f (x ∷ l) [] i d h k = absurd (not-suc-le-zero k)
filled-suc f (x ∷ l) (y ∷ r) zero d h k = refl
filled-suc f (x ∷ l) (y ∷ r) (suc i) d h k = ap (λ t. f x ∷ t) (filled-suc f l r i d (le_of_suc-le-suc h) (le_of_suc-le-suc k))

pub filled_more : {X Y : Type 0} (f : X → Y) (l : List X) (r : List Y) (i : ℕ) (d : X) → i < length l → i < length r →
    set (filled f l r i) i (f (get_or l i d)) ≡ filled f l r (i + 1)
filled_more f l r i d h k = rw add-one (filled-suc f l r i d h k)

-- the next to be filled is still what it was
pub filled_next : {X Y : Type 0} (f : X → Y) (l : List X) (r : List Y) (i : ℕ) (d : Y) → i < length l → i < length r →
    get_or (filled f l r i) i d ≡ get_or r i d
filled_next f [] r i d h k = absurd (not-suc-le-zero h)
filled_next f (x ∷ l) [] i d h k = absurd (not-suc-le-zero k)
filled_next f (x ∷ l) (y ∷ r) zero d h k = refl
filled_next f (x ∷ l) (y ∷ r) (suc i) d h k = filled_next f l r i d (le_of_suc-le-suc h) (le_of_suc-le-suc k)

pub filled-all : {X Y : Type 0} (f : X → Y) (l : List X) (r : List Y) (i : ℕ) → length l ≤ i → length r ≤ i →
    filled f l r i ≡ map f l
filled-all f l r i h k = rw (take_all i l h, drop_of_length-le r k, append-nil)

-- where the images are what stood there already, filling changes nothing
pub filled_none : {X Y : Type 0} (f : X → Y) (l : List X) (r : List Y) (i : ℕ) (d : X) (e : Y) → i ≤ length l → i ≤ length r
    → ((k : ℕ) → k < i → f (get_or l k d) ≡ get_or r k e) → filled f l r i ≡ r
filled_none f l r zero d e h k same = refl
filled_none f [] r (suc i) d e h k same = absurd (not-suc-le-zero h)
filled_none f (x ∷ l) [] (suc i) d e h k same = absurd (not-suc-le-zero k)
filled_none f (x ∷ l) (y ∷ r) (suc i) d e h k same =
    ap (λ z. z ∷ filled f l r i) (same 0 (omega arith))
    ∙ ap (λ t. y ∷ t) (filled_none f l r i d e (le_of_suc-le-suc h) (le_of_suc-le-suc k) (λ j l'. same (suc j) (omega (arith, l'))))

-- ---- one value in every place

pub same_at : {Y : Type 0} (y : Y) (n k : ℕ) → get_or (replicate n y) k y ≡ y
same_at y zero k = refl
same_at y (suc n) zero = refl
same_at y (suc n) (suc k) = same_at y n k
