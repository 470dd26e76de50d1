-- A line part by part: what was taken so far stands in front, and what still comes of the line is the first line of the rest.
use Rattle.std.proofs.Common.{◌≡◌, ◌≢◌, ℕ, zero, suc, ◌+◌, ◌-◌, ◌<◌, ◌≤◌, Bool, true, false, ◌==◌, MatchBool, eq-eqb, eqb-true, ne_eqb, List, [], ◌∷◌, ◌++◌, All, min, length, take, drop, get_or, slice_index, Option, Some, None, Ok, IfSome, refl, sym, ap, ◌∙◌, append_assoc, append-nil, length-append, length-drop, length-take-le, get_or-take, take-take, arith}
use Rattle.std.specs.Io.KnownBytes.{Consumes}
use Rattle.std.proofs.KnownBytes.{Consumes-trans}
use Rattle.std.proofs.Math.Seq.{drop-append_seam}
use Rattle.std.proofs.lemmas.Bool.Decides.{nat_tests}
use Rattle.std.proofs.lemmas.List.{take_more, get_or_default}
use Rattle.std.proofs.lemmas.List.Elements.{All-head, All-tail}
use Rattle.memchr.specs.Find.{IsFirstByte, is_byte}
use Rattle.candump.specs.Lines.{LF}
use Rattle.pieces.specs.Pieces.{GivesNext}
use Rattle.candump_converter.specs.Lines.{longest, first_line, cut_lines, lines_of, known_lines, TakesLine}

-- ---- a line so far

abbrev pub Gathered : Option (List ℕ) → List ℕ → Option (List ℕ) → Type 0
Gathered old items now =
    Consumes old now items × IfSome old (λ xs. IfSome now (λ ys. first_line longest xs ≡ items ++ first_line (longest - length items) ys))

pub gathered_none : (old : Option (List ℕ)) → Gathered old [] old
gathered_none None = (tt, tt)
gathered_none (Some xs) = (refl, refl)

-- the byte that comes next is the line's next one
first_next : (n : ℕ) (b : ℕ) (bytes : List ℕ) → 0 < n → (b == LF) ≡ false → first_line n (b ∷ bytes) ≡ b ∷ first_line (n - 1) bytes
unfolding first_line
first_next zero b bytes some other = absurd (omega arith)
first_next (suc n) b bytes some other = let e : suc n - 1 ≡ n = omega arith in rw (other, e)

-- LF is its last
first_ends : (n : ℕ) (b : ℕ) (bytes : List ℕ) → 0 < n → (b == LF) ≡ true → first_line n (b ∷ bytes) ≡ b ∷ []
unfolding first_line
first_ends zero b bytes some is = absurd (omega arith)
first_ends (suc n) b bytes some is = rw is

first_none : (n : ℕ) → first_line n [] ≡ []
unfolding first_line
first_none zero = refl
first_none (suc n) = refl

first_full : (n : ℕ) (bytes : List ℕ) → n ≡ 0 → first_line n bytes ≡ []
unfolding first_line
first_full n bytes e = rw e

-- a part with no LF is the line's next one
first_more : (n : ℕ) (part rest : List ℕ) → length part ≤ n → All (λ b. b ≢ LF) part → first_line n (part ++ rest) ≡ part ++ first_line (n - length part) rest
first_more n [] rest few other = let e : n ≡ n - 0 = omega arith in ap (λ k. first_line k rest) e
first_more n (b ∷ part) rest few other =
    let left : n - 1 - length part ≡ n - suc (length part) = omega arith in
    first_next n b (part ++ rest) (omega arith) (ne_eqb b LF (All-head (λ x. x ≢ LF) b part other))
    ∙ ap (λ l. b ∷ l) (first_more (n - 1) part rest (omega arith) (All-tail (λ x. x ≢ LF) b part other))
    ∙ ap (λ k. b ∷ (part ++ first_line k rest)) left

-- one that ends in its first LF is all of it
first_through : (n : ℕ) (part : List ℕ) (b : ℕ) (rest : List ℕ) → length part < n → All (λ x. x ≢ LF) part → (b == LF) ≡ true
    → first_line n ((part ++ b ∷ []) ++ rest) ≡ part ++ b ∷ []
first_through n part b rest few other is =
    ap (first_line n) (append_assoc part (b ∷ []) rest) ∙ first_more n part (b ∷ rest) (omega arith) other
    ∙ ap (λ l. part ++ l) (first_ends (n - length part) b rest (omega arith) is)

pub gathered_more : (old now new : Option (List ℕ)) (items part : List ℕ) → Gathered old items now → Consumes now new part → length (items ++ part) ≤ longest → All (λ b. b ≢ LF) part
    → Gathered old (items ++ part) new
gathered_more None now new items part g took few other = (tt, tt)
gathered_more (Some xs) None new items part g took few other = absurd g.0
gathered_more (Some xs) (Some ys) None items part g took few other = absurd took
gathered_more (Some xs) (Some ys) (Some zs) items part g took few other =
    let long = length-append items part in
    let n : longest - length (items ++ part) ≡ longest - length items - length part = omega arith in (
      Consumes-trans (Some xs) (Some ys) (Some zs) items part g.0 took,
      g.1 ∙ ap (λ l. items ++ first_line (longest - length items) l) took ∙ ap (λ l. items ++ l) (first_more (longest - length items) part zs (omega arith) other)
          ∙ sym (append_assoc items part (first_line (longest - length items - length part) zs)) ∙ ap (λ k. (items ++ part) ++ first_line k zs) (sym n),
    )

pub taken_part : (old now new : Option (List ℕ)) (items part : List ℕ) → Gathered old items now → Consumes now new part → IfSome now (λ ys. part ≡ first_line (longest - length items) ys)
    → TakesLine old (items ++ part) new
taken_part None now new items part g took ends = (tt, tt)
taken_part (Some xs) None new items part g took ends = absurd g.0
taken_part (Some xs) (Some ys) None items part g took ends = absurd took
taken_part (Some xs) (Some ys) (Some zs) items part g took ends =
    (Consumes-trans (Some xs) (Some ys) (Some zs) items part g.0 took, ap (λ l. items ++ l) ends ∙ sym g.1)

pub taken_full : (old now : Option (List ℕ)) (items : List ℕ) → Gathered old items now → longest ≤ length items → TakesLine old items now
taken_full None now items g full = (tt, tt)
taken_full (Some xs) None items g full = absurd g.0
taken_full (Some xs) (Some ys) items g full =
    (g.0, sym (g.1 ∙ ap (λ l. items ++ l) (first_full (longest - length items) ys (omega arith)) ∙ append-nil items))

-- ---- what is taken of what is shown

-- a byte that fails the test is no LF
other_byte : (l : List ℕ) (k : ℕ) (d : ℕ) → k < length l → (slice_index l k == LF ≡ true → ⊥) → get_or l k d ≡ LF → ⊥
other_byte l k d within other is = other (eq-eqb _ _ (get_or_default l k 0 d within ∙ is))

-- where no LF is found there is none
none_LF : (shown : List ℕ) → IsFirstByte (is_byte LF) shown None → All (λ b. b ≢ LF) shown
none_LF shown none k d few = other_byte shown k d few (none k (omega arith) few)

-- up to the LF that is found there is no other
pub ends_LF : (old new : Option (List ℕ)) (n room : ℕ) (shown : List ℕ) (at : ℕ) → room ≤ n → room ≤ length shown → IsFirstByte (is_byte LF) (take room shown) (Some at)
    → Consumes old new (take (at + 1) shown) → IfSome old (λ bytes. take (at + 1) shown ≡ first_line n bytes)
ends_LF None new n room shown at few within found took = tt
ends_LF (Some xs) None n room shown at few within found took = absurd took
ends_LF (Some xs) (Some ys) n room shown at few within found took =
    let bytes = take room shown in
    let long = length-take-le room shown within in
    let line : take (at + 1) shown ≡ take at bytes ++ get_or bytes at 0 ∷ [] =
    sym (take-take (at + 1) room shown (omega (arith, found.0.high))) ∙ take_more bytes at 0 found.0.high in
    line ∙ sym (first_through n (take at bytes) (get_or bytes at 0) ys (omega (arith, length-take-le at bytes (omega (arith, found.0.high)), found.0.high)) before found.1)
    ∙ ap (first_line n) (sym (took ∙ ap (λ l. l ++ ys) line))
  where
    before : All (λ b. b ≢ LF) (take at (take room shown))
    before k d less =
        let bytes = take room shown in
        let under : k < at = omega (arith, less, length-take-le at bytes (omega (arith, found.0.high))) in
        let there : k < length bytes = omega (arith, under, found.0.high) in
        λ is. other_byte bytes k d there (found.0.before k (omega arith) under) (sym (get_or-take at bytes k d under) ∙ is)

-- it stands within
pub LF_within : (room : ℕ) (shown : List ℕ) (at : ℕ) → room ≤ length shown → IsFirstByte (is_byte LF) (take room shown) (Some at) → at < room
LF_within room shown at within found = omega (arith, found.0.high, length-take-le room shown within)

-- where nothing is shown the line has ended
ends_none : (old : Option (List ℕ)) (n : ℕ) (part : List ℕ) → length part ≡ 0 → IfSome old (λ bytes. bytes ≡ []) → IfSome old (λ bytes. part ≡ first_line n bytes)
ends_none None n part none left = tt
ends_none (Some xs) n [] none left = sym (ap (first_line n) left ∙ first_none n)
ends_none (Some xs) n (b ∷ part) none left = absurd (omega arith)

nothing_left : (old : Option (List ℕ)) (k : ℕ) → IfSome old (λ bytes. k ≡ 0 → bytes ≡ []) → k ≡ 0 → IfSome old (λ bytes. bytes ≡ [])
nothing_left None k end none = tt
nothing_left (Some xs) k end none = end none

-- all that is shown, where there is room for it and no LF in it
pub goes_on : (old : Option (List ℕ)) (n room : ℕ) (shown : List ℕ) → 0 < n → room ≡ min n (length shown) → IfSome old (λ bytes. length shown ≡ 0 → bytes ≡ [])
    → IsFirstByte (is_byte LF) (take room shown) None
    → MatchBool (room == 0) (IfSome old (λ bytes. take room shown ≡ first_line n bytes)) ((0 < length (take room shown)) × All (λ b. b ≢ LF) (take room shown))
goes_on old n room shown some is end none = go (room == 0) refl
  where
    go : (t : Bool) → (room == 0) ≡ t → MatchBool t (IfSome old (λ bytes. take room shown ≡ first_line n bytes)) ((0 < length (take room shown)) × All (λ b. b ≢ LF) (take room shown))
    go true e =
        let zero : room ≡ 0 = eqb-true room 0 e in
        ends_none old n (take room shown) (length-take-le room shown (omega arith) ∙ zero) (nothing_left old (length shown) end (omega (arith, zero)))
    go false e =
        let long = length-take-le room shown (omega arith) in
        (grind (arith, nat_tests, long), none_LF (take room shown) none)

-- ---- a whole line

-- the bound is none where it is no less than the bytes
first_some : (b : ℕ) (bytes : List ℕ) → 0 < length (first_line longest (b ∷ bytes))
unfolding first_line
first_some b bytes = omega arith

cut_same : (j k : ℕ) (xs : List ℕ) → length xs ≤ j → length xs ≤ k → cut_lines j xs ≡ cut_lines k xs
unfolding cut_lines
cut_same zero zero xs p q = refl
cut_same zero (suc k) [] p q = refl
cut_same zero (suc k) (x ∷ xs) p q = absurd (omega arith)
cut_same (suc j) zero [] p q = refl
cut_same (suc j) zero (x ∷ xs) p q = absurd (omega arith)
cut_same (suc j) (suc k) [] p q = refl
cut_same (suc j) (suc k) (x ∷ xs) p q =
    let few = first_some x xs in
    let l = length-drop (length (first_line longest (x ∷ xs))) (x ∷ xs) in
    rw (cut_same j k (drop (length (first_line longest (x ∷ xs))) (x ∷ xs)) (omega arith) (omega arith))

lines_first : (line rest : List ℕ) → 0 < length line → line ≡ first_line longest (line ++ rest) → lines_of (line ++ rest) ≡ line ∷ lines_of rest
unfolding lines_of cut_lines
lines_first [] rest some is = absurd (omega arith)
lines_first (b ∷ line) rest some is =
    let behind : drop (length (b ∷ line)) ((b ∷ line) ++ rest) ≡ rest = drop-append_seam (b ∷ line) rest in
    let more : (suc (length (line ++ rest)) == 0) ≡ false = grind (arith, nat_tests) in
    rw (← is, behind, more) (ap (λ ls. (b ∷ line) ∷ ls) (cut_same (length (line ++ rest)) (length rest) rest (omega (arith, length-append line rest)) (omega arith)))

lines_none : (xs : List ℕ) → [] ≡ first_line longest xs → lines_of xs ≡ []
unfolding lines_of cut_lines first_line
lines_none [] e = refl
lines_none (x ∷ xs) e = absurd (omega (arith, ap length e))

-- what was taken is the first of the lines that the reader had
pub given_line : (E : Type 0) (old new : Option (List ℕ)) (line : List ℕ) → TakesLine old line new → 0 < length line → GivesNext {E = E} (known_lines old) (Some (Ok line)) (known_lines new)
given_line E None new line t some = tt
given_line E (Some xs) None line t some = absurd t.0
given_line E (Some xs) (Some ys) line t some = (lines_of ys, refl, ap lines_of t.0 ∙ lines_first line ys some (t.1 ∙ ap (first_line longest) t.0))

pub given_none : (E : Type 0) (old new : Option (List ℕ)) (line : List ℕ) → TakesLine old line new → length line ≡ 0 → GivesNext {A = List ℕ} {E = E} (known_lines old) None (known_lines new)
given_none E None new line t none = tt
given_none E (Some xs) new [] t none = lines_none xs t.1
given_none E (Some xs) new (b ∷ line) t none = absurd (omega arith)
