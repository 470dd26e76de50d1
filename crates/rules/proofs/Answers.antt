-- The paper's number and values are one-to-one: from them each answer can be read back.
use mathlib.Core.Path.{◌≡◌, refl, sym, ap, ◌∙◌}
use Prim.Native.Nat.{ℕ}
use mathlib.Core.List.{List, [], ◌∷◌}
use lib.ListN.{get_or, drop}
use lib.Dec.{eqb}
use Rattle.rules.specs.Tests.{pick}
use Rattle.std.specs.Prelude.{Err}
use Rattle.rules.specs.Refused.{number_of}
use Rattle.rules.specs.declared.Refusal.{Refusal}
use Rattle.rules.specs.Answers.{Answer, refused, ready, heard, codes, sent, handed, none, shown, changed, Paper, tick_says, word_paper, codes_paper, paper_of}
use Rattle.rules.specs.Words.{Word, Delivered, Begun, Failed, Ignored, TooLong, Took, Going, Waiting, Codes}

word_read : List ℕ → Word
word_read l =
    let n = get_or l 0 0 in
    let v = get_or l 1 0 in
    pick (eqb n 1) (Delivered v)
    (pick (eqb n 2) (Begun v)
    (pick (eqb n 3) (Failed v (record { 0 = get_or l 2 0 }))
    (pick (eqb n 4) (Ignored v) (pick (eqb n 5) TooLong (pick (eqb n 6) Took (pick (eqb n 7) Going Waiting))))))

word_back : (w : Word) → word_read (word_paper w) ≡ w
unfolding word_read word_paper
word_back (Delivered n) = refl
word_back (Begun n) = refl
word_back (Failed c party) = refl
word_back (Ignored i) = refl
word_back TooLong = refl
word_back Took = refl
word_back Going = refl
word_back Waiting = refl

codes_read : List ℕ → List Codes
codes_read [] = []
codes_read (r ∷ []) = []
codes_read (r ∷ s ∷ []) = []
codes_read (r ∷ s ∷ p ∷ l) = record { receive = r; send = s; party = record { 0 = p } } ∷ codes_read l

codes-back : (cs : List Codes) → codes_read (codes_paper cs) ≡ cs
unfolding codes_read codes_paper
codes-back [] = refl
codes-back (c ∷ cs) = ap (λ (l : List Codes). c ∷ l) (codes-back cs)

paper_read : Paper → Answer
paper_read p =
    let v : ℕ → ℕ = λ i. get_or p.values i 0 in
    pick (eqb p.number 0) (refused (v 0))
    (pick (eqb p.number 1) ready
    (pick (eqb p.number 2) (heard (v 0) (v 1) (word_read (drop 2 p.values)))
    (pick (eqb p.number 3) (codes (codes_read p.values))
    (pick (eqb p.number 4) (sent (v 0))
    (pick (eqb p.number 5) (handed (v 0) (drop 4 p.values) (v 1) (v 2) (record { 0 = v 3 }))
    (pick (eqb p.number 6) (none (v 0)) (pick (eqb p.number 7) (shown p.values) (changed (v 0)))))))))

paper-back : (a : Answer) → paper_read (paper_of a) ≡ a
unfolding paper_read paper_of
paper-back (refused n) = refl
paper-back ready = refl
paper-back (heard k old w) = ap (heard k old) (word_back w)
paper-back (codes cs) = ap codes (codes-back cs)
paper-back (sent k) = refl
paper-back (handed id frame code passed party) = refl
paper-back (none passed) = refl
paper-back (shown part) = refl
paper-back (changed k) = refl

-- ONE-TO-ONE: two answers with the same number and values are the same
pub paper-one : (a b : Answer) → paper_of a ≡ paper_of b → a ≡ b
paper-one a b e = sym (paper-back a) ∙ ap paper_read e ∙ paper-back b

-- a tick that is refused says just that
pub tick-refused : (refusal : Refusal) → tick_says (Err refusal) ≡ refused (number_of refusal)
unfolding tick_says
tick-refused refusal = refl
