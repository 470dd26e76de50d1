-- A chain of tests, each of which ends the function where it fails, computes what `all` says of the list of tests: one step of the
-- chain for each element of the list.
use mathlib.Core.Path.{◌≡◌, refl, sym, ap, ◌∙◌}
use mathlib.Core.Bool.{Bool, true, false, ◌&&◌, and-true}
use mathlib.Core.List.{List, [], ◌∷◌}
use Rattle.rules.specs.Tests.{all}

-- the first test holds, and the others decide
pub more : {b r : Bool} (bs : List Bool) → b ≡ true → r ≡ all bs → r ≡ all (b ∷ bs)
unfolding all
more bs e h = rw e h

-- the first test fails
pub stop : {b : Bool} (bs : List Bool) → b ≡ false → false ≡ all (b ∷ bs)
unfolding all
stop bs e = rw e

-- the last test decides
pub ends : {b r : Bool} → r ≡ b → r ≡ all (b ∷ [])
unfolding all
ends {b} e = e ∙ sym (and-true b)

-- the last two tests, joined
pub both : (a b : Bool) {r : Bool} → r ≡ a && b → r ≡ all (a ∷ b ∷ [])
unfolding all
both a b e = e ∙ ap (λ (x : Bool). a && x) (sym (and-true b))

-- a later test fails
pub later : (b : Bool) (bs : List Bool) → false ≡ all bs → false ≡ all (b ∷ bs)
unfolding all
later true bs h = h
later false bs h = refl
