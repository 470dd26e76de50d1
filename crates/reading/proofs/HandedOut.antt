-- No byte that is held is lost, doubled or moved by a reader: what is handed out, and then what is held still, is what was held.
use Prim.Native.Nat.{ℕ, ◌+◌, ◌-◌, min}
use mathlib.Core.Path.{◌≡◌, sym, ap, ◌∙◌}
use mathlib.Core.List.{List, ◌++◌}
use native.Mathlib.Omega.{arith}
use lib.ListN.{length, take, drop, take-append-drop}
use lib.Seq.{drop-drop, take_all}
use Rattle.rules.proofs.Cases.{split}
use Rattle.reading.specs.declared.input.Source.{Source}
use Rattle.reading.specs.Input.{within, held}
use Rattle.reading.specs.Stream.{handed}
use Rattle.reading.proofs.Places.{within_order, held_length}

module _ (s : Source) (b : List ℕ) (n : ℕ) where
  -- what is held then begins behind what was handed out
  rest_held : held (handed s b n) b ≡ drop (min n (length (held s b))) (held s b)
  unfolding handed held within
  rest_held =
      let o = within_order s (length b) in
      let u : ℕ = (within s (length b)).used in
      let f : ℕ = (within s (length b)).filled in
      let filled : min f (length b) ≡ f = omega arith in
      let used : min (u + min n (f - u)) (min f (length b)) ≡ u + min n (f - u) = omega arith in
      rw (held_length s b, used, filled) (sym (drop-drop (min n (f - u)) u (take f b)))

  pub read_keeps : take n (held s b) ++ held (handed s b n) b ≡ held s b
  read_keeps =
      let h : List ℕ = held s b in
      let m : ℕ = min n (length h) in
      let front : take n h ≡ take m h =
      split n (length h)
      (λ few. ap (λ (i : ℕ). take i h) (omega arith))
      (λ all. take_all n h (omega arith) ∙ sym (take_all m h (omega arith))) in
      rw (front, rest_held) (take-append-drop m h)
