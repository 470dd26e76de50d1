-- Bytes put down in a berth's area, and the area put back into its store, are bytes put down in the store.
use Prim.Native.Nat.{ℕ, ◌+◌, ◌-◌, ◌*◌, ◌≤◌}
use native.Mathlib.Omega.{arith}
use mathlib.Core.Path.{◌≡◌}
use mathlib.Core.List.{List, ◌++◌}
use lib.ListN.{length, take, drop}
use lib.Seq.{sets}
use borrow.Rule.Slice.PartMut.{post_of}
use Rattle.rules.specs.Stores.{stored}
use Rattle.frames.proofs.Puts.{put-in-part}

pub put-in-area : (store area : List ℕ) (start a k place : ℕ) (bytes : List ℕ)
    → start ≡ k * a
    → start + a ≤ length store
    → place + length bytes ≤ a
    → area ≡ sets (take (start + a - start) (drop start store)) place bytes
    → take start store ++ (area ++ post_of start (start + a - start) store) ≡ stored a k place bytes store
unfolding stored
put-in-area store area start a k place bytes at fits inside is =
    let size : start + a - start ≡ a = omega arith in
    let put = put-in-part store start a bytes fits place inside in
    rw (is, size, ← at) put
