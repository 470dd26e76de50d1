-- A part that is not the end, as a program's match tells it.
use mathlib.Core.Path.{◌≡◌, refl}
use mathlib.Core.Bool.{false}
use mathlib.Core.List.{[], ◌∷◌}
use denote.Enum.Declared.{tag_of}
use types.Run.{OneOf, miss}
use Rattle.reading.specs.contracts.input.Part.{the_type}
use Rattle.reading.specs.declared.input.Part.{Part}
use Rattle.reading.specs.declared.input.Part.TheVariants.{Whole, Cut, Long, End}
use Rattle.reading.specs.Input.{ends}

pub not_end : (p : Part) → OneOf (0 ∷ 1 ∷ 2 ∷ []) (tag_of the_type p) → ends p ≡ false
unfolding ends
not_end Whole o = refl
not_end Cut o = refl
not_end Long o = refl
not_end End o = absurd (miss (0 ∷ 1 ∷ 2 ∷ []) 3 tt o)
