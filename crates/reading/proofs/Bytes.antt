-- Bytes that are copied to the end of a buffer, and bytes of a buffer that move to its front one by one.
use Prim.Native.Nat.{ℕ, suc, ◌+◌, ◌-◌, ◌≤◌, ◌<◌}
use mathlib.Core.Path.{◌≡◌, sym, ap, subst, ◌∙◌}
use mathlib.Core.List.{List, [], ◌++◌, append_assoc, append-nil}
use native.Mathlib.Omega.{arith}
use native.Mathlib.Numerals.{add-one}
use lib.ListN.{length, take, drop, get_or, set, length-drop, drop_of_length-le}
use lib.Seq.{paste, paste-suc, drop-paste, get_or-drop, take_all, drop-drop}
use borrow.Rule.Slice.PartMut.{put_mid}

module _ (buffer some : List ℕ) (at : ℕ) (fits : at + length some ≤ length buffer) where
  pub copied-in : put_mid at (length buffer - at) buffer (take (length some) some ++ drop (length some) (take (length buffer - at) (drop at buffer))) ≡ paste buffer at some (length some)
  copied-in =
      let rest : List ℕ = drop at buffer in
      let e : take (length buffer - at) rest ≡ rest = take_all (length buffer - at) rest (simp length-drop (omega arith)) in
      let z : drop (length buffer - at) rest ≡ [] = drop_of_length-le rest {i = length buffer - at} (simp length-drop (omega arith)) in
      rw (e, z, append-nil, drop-drop) (sym (append_assoc (take at buffer) (take (length some) some) (drop (at + length some) buffer)))

-- a byte further: it is read behind those that moved
module _ (b : List ℕ) (from i : ℕ) (inside : from + i < length b) where
  unmoved : get_or (paste b 0 (drop from b) i) (from + i) 0 ≡ get_or (drop from b) i 0
  unmoved =
      let m : List ℕ = paste b 0 (drop from b) i in
      let e : drop (0 + i) m ≡ drop (0 + i) b = drop-paste b 0 (drop from b) i (omega arith) (simp length-drop (omega arith)) in
      let s : from + i ≡ 0 + i + from = omega arith in
      rw s (sym (get_or-drop (0 + i) m from 0) ∙ ap (λ (l : List ℕ). get_or l from 0) e ∙ get_or-drop (0 + i) b from 0 ∙ rw (← s) (sym (get_or-drop from b i 0)))

  pub moved_on : set (paste b 0 (drop from b) i) i (get_or (paste b 0 (drop from b) i) (from + i) 0) ≡ paste b 0 (drop from b) (i + 1)
  moved_on =
      let d : List ℕ = drop from b in
      let n : 0 + i ≡ i = omega arith in
      rw (unmoved, add-one)
      (subst (λ (k : ℕ). set (paste b 0 d i) k (get_or d i 0) ≡ paste b 0 d (suc i)) n (paste-suc b 0 d i 0 (omega arith) (simp length-drop (omega arith))))
