-- Tests as the bits of a number, over any number of tests: which bit is which test, one test more, and the
-- bits twice over, in which a round goes on past the last of them. It says nothing of the product.
use Prim.Native.Nat.{ℕ, zero, suc, ◌+◌, ◌*◌, ◌-◌, ◌/◌, ◌%◌, ◌^◌, ◌<◌, ◌≤◌}
use native.Mathlib.Nat.{zero-div, pow-succ', add-mul-div_right, add_comm, mul_assoc}
use native.Mathlib.Omega.{arith}
use mathlib.Core.Path.{◌≡◌, refl, sym, ap, ◌∙◌}
use mathlib.Core.Bool.{Bool, true, false}
use mathlib.Core.List.{List, [], ◌∷◌}
use lib.ListN.{length, get_or, take}
use lib.Dec.{eqb}
use lib.Pow.{pow_pos, pow-add, shr-shr, high}
use lib.Bits.{block_odd}
use Rattle.rules.specs.Tests.{pick}
use Rattle.looks.specs.Bits.{bits_of, is_set}

-- ---- the lowest bit, and the others

low : (t : Bool) (n : ℕ) → (pick t 1 0 + 2 * n) % 2 ≡ pick t 1 0
low true n = omega arith
low false n = omega arith

rest : (t : Bool) (n : ℕ) → (pick t 1 0 + 2 * n) / 2 ≡ n
rest true n = omega arith
rest false n = omega arith

odd : (t : Bool) → eqb (pick t 1 0) 1 ≡ t
odd true = refl
odd false = refl

at_most : (t : Bool) → pick t 1 0 ≤ 1
at_most true = omega arith
at_most false = omega arith

doubled : (t : Bool) (n : ℕ) → pick t (2 * n) 0 ≡ 2 * pick t n 0
doubled true n = refl
doubled false n = refl

half : (n k : ℕ) → n / 2 ^ suc k ≡ n / 2 / 2 ^ k
half n k = let z : 1 + k ≡ suc k = omega arith in sym (shr-shr n 1 k ∙ ap (λ m. n / 2 ^ m) z)

-- ---- which bit is which test

pub bit-is-test : (ts : List Bool) (k : ℕ) → is_set (bits_of ts) k ≡ get_or ts k false
unfolding bits_of is_set
bit-is-test [] k = ap (λ m. eqb (m % 2) 1) (zero-div (2 ^ k))
bit-is-test (t ∷ ts) zero =
    let z : (pick t 1 0 + 2 * bits_of ts) / 2 ^ 0 % 2 ≡ pick t 1 0 = omega (arith, low t (bits_of ts)) in
    ap (λ m. eqb m 1) z ∙ odd t
bit-is-test (t ∷ ts) (suc k) =
    ap (λ m. eqb (m % 2) 1) (half (pick t 1 0 + 2 * bits_of ts) k ∙ ap (λ m. m / 2 ^ k) (rest t (bits_of ts))) ∙ bit-is-test ts k

-- as many bits as tests
pub bits_fit : (n : ℕ) (ts : List Bool) → length ts ≤ n → bits_of ts < 2 ^ n
unfolding bits_of
bits_fit n [] h = pow_pos n
bits_fit zero (t ∷ ts) h = absurd (omega arith)
bits_fit (suc n) (t ∷ ts) h = let e = pow-succ' 2 n in let l = bits_fit n ts (omega arith) in let c = at_most t in omega (arith, e, l, c)

-- the bits of the first tests, and one more
pub one-bit-more : (ts : List Bool) (i : ℕ) → i < length ts → bits_of (take i ts) + pick (get_or ts i false) (2 ^ i) 0 ≡ bits_of (take (suc i) ts)
unfolding bits_of
one-bit-more [] i h = absurd (omega arith)
one-bit-more (t ∷ ts) zero h = omega arith
one-bit-more (t ∷ ts) (suc i) h =
    let e = one-bit-more ts i (omega arith) in
    let d : pick (get_or ts i false) (2 ^ suc i) 0 ≡ 2 * pick (get_or ts i false) (2 ^ i) 0
    = ap (λ m. pick (get_or ts i false) m 0) (pow-succ' 2 i) ∙ doubled (get_or ts i false) (2 ^ i) in
    omega (arith, e, d)

-- ---- the bits twice over

module _ (n bits : ℕ) where
  -- in the first round they are themselves
  pub first_round : (j : ℕ) → j < n → is_set (bits * 2 ^ n + bits) j ≡ is_set bits j
  unfolding is_set
  first_round j h = ap (λ m. eqb m 1) (ap (λ m. m % 2) shifted ∙ block_odd bits (n - suc j) (bits / 2 ^ j))
    where
      width : 2 ^ n ≡ 2 ^ suc (n - suc j) * 2 ^ j
      width = let z : n ≡ suc (n - suc j) + j = omega (arith, h) in ap (λ m. 2 ^ m) z ∙ pow-add 2 (suc (n - suc j)) j

      shifted : (bits * 2 ^ n + bits) / 2 ^ j ≡ bits * 2 ^ suc (n - suc j) + bits / 2 ^ j
      shifted =
          ap (λ m. m / 2 ^ j) (ap (λ m. bits * m + bits) width ∙ add_comm (bits * (2 ^ suc (n - suc j) * 2 ^ j)) bits ∙ ap (λ m. bits + m) (sym (mul_assoc bits (2 ^ suc (n - suc j)) (2 ^ j))))
          ∙ add-mul-div_right bits (bits * 2 ^ suc (n - suc j)) (pow_pos j) ∙ add_comm (bits / 2 ^ j) (bits * 2 ^ suc (n - suc j))

  -- and in the second again
  pub second-round : bits < 2 ^ n → (j : ℕ) → is_set (bits * 2 ^ n + bits) (n + j) ≡ is_set bits j
  unfolding is_set
  second-round h j = ap (λ m. eqb (m % 2) 1) (sym (shr-shr (bits * 2 ^ n + bits) n j) ∙ ap (λ m. m / 2 ^ j) (high bits n h))
