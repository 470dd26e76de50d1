-- What a test of a frame's length says where it held: so much of the frame is there.
use Prim.Native.Nat.{ℕ, ◌+◌, ◌≤◌}
use native.Mathlib.Omega.{arith}
use mathlib.Core.Path.{◌≡◌}
use mathlib.Core.Bool.{true, ◌&&◌, ◌||◌}
use mathlib.Core.Logic.{⊎_elim}
use mathlib.Core.List.{List}
use lib.ListN.{length}
use lib.Dec.{ltb, leb, eqb}
use mir.Facts.{leb_yes, eqb_yes}
use Rattle.rules.specs.Numbers.{frame_size, single_most, consecutive_most, least_flow, short_most}
use Rattle.rules.specs.Tests.{pick}
use Rattle.rules.specs.Frames.{low, single_fits, first_fits, consecutive_fits, flow_fits, share, short_length, escape_length}
use Rattle.rules.proofs.Cases.{yes_of, and_left, and_right, or_cases}

pub share-most : (r : ℕ) → (share consecutive_most r ≤ r) × (share consecutive_most r ≤ consecutive_most)
unfolding share
share-most r = omega arith

pub single-within : (d : List ℕ) → single_fits d ≡ true → 1 + low d ≤ length d
unfolding single_fits
single-within d e =
    let whole = eqb (length d) frame_size in
    let exact = eqb (length d) (low d + 1) in
    let t = and_right (leb 1 (low d)) (leb (low d) single_most && (whole || exact)) (yes_of e) in
    let most : low d ≤ single_most = leb_yes (and_left (leb (low d) single_most) (whole || exact) t) in
    ⊎_elim
    (λ h. let l : length d ≡ frame_size = eqb_yes h in omega arith)
    (λ h. let l : length d ≡ low d + 1 = eqb_yes h in omega arith)
    (or_cases whole exact (and_right (leb (low d) single_most) (whole || exact) t))

pub first-whole : (d : List ℕ) → first_fits d ≡ true → length d ≡ frame_size
unfolding first_fits
first-whole d e =
    let rest = pick (eqb (short_length d) 0) (ltb short_most (escape_length d)) (ltb single_most (short_length d)) in
    eqb_yes (and_left (eqb (length d) frame_size) rest (yes_of e))

pub consecutive-within : (r : ℕ) (d : List ℕ) → consecutive_fits r d ≡ true → share consecutive_most r + 1 ≤ length d
unfolding consecutive_fits
consecutive-within r d e =
    let most = share-most r in
    let whole = eqb (length d) frame_size in
    let exact = eqb (length d) (r + 1) in
    ⊎_elim
    (λ h. let l : length d ≡ frame_size = eqb_yes h in omega arith)
    (λ h. let l : length d ≡ r + 1 = eqb_yes (and_right (leb r consecutive_most) exact h) in omega arith)
    (or_cases whole (leb r consecutive_most && exact) (yes_of e))

pub flow-within : (d : List ℕ) → flow_fits d ≡ true → least_flow ≤ length d
unfolding flow_fits
flow-within d e = leb_yes (and_left (leb least_flow (length d)) (leb (length d) frame_size) (yes_of e))
