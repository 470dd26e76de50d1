-- How the rules choose: by a test that is true or false, by several tests at once, and by a list of needs in order.
use Rattle.std.specs.Prelude.{ℕ, zero, suc, Bool, true, false, ◌&&◌, List, [], ◌∷◌}
use Rattle.std.specs.List.{list_all}

-- the first where the test holds, else the second
abbrev pub pick {ℓ} : {X : Type ℓ} → Bool → X → X → X
pick true x y = x
pick false x y = y

-- every test of a list holds
unfoldable pub all : List Bool → Bool
all [] = true
all (b ∷ bs) = b && all bs

-- a test holds of every element
abbrev pub each : {X : Type 0} → (X → Bool) → List X → Bool
each f xs = list_all f xs

-- one need of a call, and the number of the refusal where it is not met
pub record Need : Type 0 where
  pub number : ℕ
  pub met : Bool

abbrev pub need : ℕ → Bool → Need
need n b = record { number = n; met = b }

-- the number of the first need that is not met, 0 where all are
unfoldable pub first_unmet : List Need → ℕ
first_unmet [] = 0
first_unmet (n ∷ ns) = pick n.met (first_unmet ns) n.number

-- what a refusal leaves, or, where the number is 0, what the call does
abbrev pub unless {ℓ} : {X : Type ℓ} → ℕ → (ℕ → X) → X → X
unless zero refused done = done
unless (suc n) refused done = refused (suc n)
