-- The bytes that a frame stores end inside the area of its berth.
use Prim.Native.Nat.{ℕ, ◌+◌, ◌≤◌}
use mathlib.Core.Path.{◌≡◌}
use mathlib.Core.Bool.{true, ◌&&◌, ◌||◌}
use mathlib.Core.List.{List}
use lib.ListN.{length}
use lib.Dec.{leb, eqb}
use mir.Facts.{leb_yes}
use Rattle.rules.specs.Numbers.{frame_size, single_most}
use Rattle.rules.specs.Frames.{low, single_fits}
use Rattle.rules.proofs.Cases.{yes_of, and_left, and_right}

-- a single frame's
pub single-short : (d : List ℕ) → single_fits d ≡ true → low d ≤ single_most
unfolding single_fits
single-short d e =
    let sized = eqb (length d) frame_size || eqb (length d) (low d + 1) in
    leb_yes (and_left (leb (low d) single_most) sized (and_right (leb 1 (low d)) (leb (low d) single_most && sized) (yes_of e)))
