-- No byte that is put is lost, doubled or moved: what is written and then what waits is what waited and then what was put.
-- In each of the three cases the bytes put stand in the buffer behind those that waited, alone, or not at all.
use Prim.Native.Nat.{ℕ, ◌+◌, ◌-◌, ◌≤◌, min}
use mathlib.Core.Path.{◌≡◌, refl, sym, ap, ◌∙◌}
use mathlib.Core.List.{List, ◌++◌, append-nil}
use native.Mathlib.Omega.{arith}
use lib.ListN.{length, take, drop, length-drop}
use lib.Seq.{paste, take-paste, take-take, take-add, take-length, length-take-le, length-paste}
use borrow.Author.Tests.{le-leb, lt-leb}
use Rattle.rules.proofs.Cases.{split}
use Rattle.reading.specs.declared.output.Sink.{Sink}
use Rattle.reading.specs.Output.{waiting_in, sink_after, buffer_after, waiting_bytes, to_file, lines_length, cleared, cleared_in, lines_to_file}

-- what stands in a buffer up to the end of what was put into it
laid : (b some : List ℕ) (at n : ℕ) → n ≡ at + length some → at + length some ≤ length b
    → take (min n (length (paste b at some (length some)))) (paste b at some (length some)) ≡ take at b ++ some
laid b some at n e fits =
    let l : length (paste b at some (length some)) ≡ length b = length-paste b at some (length some) fits (omega arith) in
    let m : min n (length (paste b at some (length some))) ≡ at + length some = omega arith in
    rw m (take-paste b at some (length some) (omega arith) (omega arith) ∙ ap (λ (l : List ℕ). take at b ++ l) (take-length some))

pub put_keeps : (s : Sink) (b some : List ℕ) → to_file s b some ++ waiting_bytes (sink_after s b some) (buffer_after s b some) ≡ waiting_bytes s b ++ some
unfolding to_file waiting_bytes sink_after buffer_after
put_keeps s b some =
    let none : min 0 (length b) ≡ 0 = omega arith in
    split (length some) (length b - waiting_in s b)
    (λ h. rw (le-leb (length some) (length b - waiting_in s b) h) (laid b some (waiting_in s b) (waiting_in s b + length some) refl (omega arith)))
    (λ h. rw (lt-leb (length some) (length b - waiting_in s b) h)
    (split (length some) (length b)
    (λ k. rw (le-leb (length some) (length b) k) (ap (λ (l : List ℕ). waiting_bytes s b ++ l) (laid b some 0 (length some) (omega arith) (omega arith))))
    (λ k. rw (lt-leb (length some) (length b) k, none) (append-nil (waiting_bytes s b ++ some)))))

-- nor where the whole lines that wait are written first: these are the front of what waited, and the rest of it waits
pub lines_keep : (s : Sink) (b : List ℕ) (n : ℕ) → lines_to_file s b n ++ waiting_bytes (cleared s b n) (cleared_in s b n) ≡ waiting_bytes s b
unfolding lines_to_file waiting_bytes cleared cleared_in lines_length
lines_keep s b n =
    let w : ℕ = waiting_in s b in
    let e : ℕ = lines_length (take w b) in
    let long : length (take w b) ≡ w = length-take-le w b (omega arith) in
    let front : e ≤ w = omega arith in
    split n (length b - w)
    (λ h. rw (le-leb n (length b - w) h) refl)
    (λ h. rw (lt-leb n (length b - w) h) (rest w e front (omega arith)))
  where
    rest : (w e : ℕ) → e ≤ w → w ≤ length b
        → take e (take w b) ++ take (min (w - e) (length (paste b 0 (drop e b) (w - e)))) (paste b 0 (drop e b) (w - e)) ≡ take w b
    rest w e front within =
        let left : w - e ≤ length (drop e b) = simp length-drop (omega arith) in
        let long : length (paste b 0 (drop e b) (w - e)) ≡ length b = length-paste b 0 (drop e b) (w - e) (omega arith) left in
        let m : min (w - e) (length (paste b 0 (drop e b) (w - e))) ≡ 0 + (w - e) = omega arith in
        let whole : e + (w - e) ≡ w = omega arith in
        rw (m, take-paste b 0 (drop e b) (w - e) (omega arith) left, take-take e w b front)
        (sym (take-add e (w - e) b) ∙ ap (λ (i : ℕ). take i b) whole)
