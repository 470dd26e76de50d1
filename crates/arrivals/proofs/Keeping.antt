-- Bytes of a frame copied to a part of an area, and the part put back, are bytes put down in the area.
use Prim.Native.Nat.{ℕ, ◌+◌, ◌-◌, ◌≤◌}
use native.Mathlib.Omega.{arith}
use mathlib.Core.Path.{◌≡◌}
use mathlib.Core.List.{List, ◌++◌}
use lib.ListN.{length, take, drop, length-take, length-drop}
use lib.Seq.{sets}
use borrow.Rule.Slice.PartMut.{post_of}
use Rattle.frames.proofs.Puts.{put-whole}

-- n is the count as the code has it
pub keeps : (area frame part : List ℕ) (place from count n : ℕ)
    → place + count ≤ length area
    → from + count ≤ length frame
    → n ≡ count
    → part ≡ take (from + n - from) (drop from frame)
    → take place area ++ (part ++ post_of place (place + n - place) area) ≡ sets area place (take count (drop from frame))
keeps area frame part place from count n fits within same is =
    let taken : from + n - from ≡ count = omega arith in
    let put : place + n - place ≡ count = omega arith in
    let size : length (take count (drop from frame)) ≡ count = simp (length-take, length-drop) (omega arith) in
    let whole = put-whole area place (take count (drop from frame)) (omega arith) in
    rw (is, taken, put) (rw size at whole)
