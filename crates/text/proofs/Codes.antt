-- The codes of one berth more.
use Rattle.std.proofs.Common.{◌≡◌, ℕ, suc, ◌+◌, ◌<◌, List, [], ◌∷◌, ◌++◌, length, map, take, drop, get_or, sym, ap, ◌∙◌, append-nil, append_assoc, add-one, arith, length-take-le, drop-cons}
use Rattle.std.proofs.lemmas.List.{take_more}
use Rattle.rules.specs.Words.{codes_said}
use Rattle.rules.specs.declared.Codes.{Codes}
use Rattle.text.specs.Answers.{code_text, codes_text}

codes_push : (k : ℕ) (cs : List Codes) (c : Codes)
    → codes_text k (map codes_said (cs ++ c ∷ [])) ≡ codes_text k (map codes_said cs) ++ code_text (k + length cs) (codes_said c)
unfolding codes_text
codes_push k [] c = let e : k + 0 ≡ k = omega arith in rw e (append-nil (code_text k (codes_said c)))
codes_push k (x ∷ cs) c =
    let e : suc k + length cs ≡ k + suc (length cs) = omega arith in
    ap (λ l. code_text k (codes_said x) ++ l) (codes_push (suc k) cs c ∙ ap (λ n. codes_text (suc k) (map codes_said cs) ++ code_text n (codes_said c)) e)
    ∙ sym (append_assoc (code_text k (codes_said x)) (codes_text (suc k) (map codes_said cs)) _)

pub codes_more : (cs : List Codes) (k : ℕ) (d : Codes) → k < length cs
    → codes_text 0 (map codes_said (take k cs)) ++ code_text k (codes_said (get_or cs k d)) ≡ codes_text 0 (map codes_said (take (k + 1) cs))
codes_more cs k d below =
    let long : length (take k cs) ≡ k = length-take-le k cs (omega arith) in
    let at_end : 0 + length (take k cs) ≡ k = omega (arith, long) in
    let so_far : List ℕ = codes_text 0 (map codes_said (take k cs)) in
    let here : codes_text 0 (map codes_said (take k cs ++ get_or cs k d ∷ [])) ≡ so_far ++ code_text k (codes_said (get_or cs k d)) =
    codes_push 0 (take k cs) (get_or cs k d) ∙ ap (λ n. so_far ++ code_text n (codes_said (get_or cs k d))) at_end in
    sym (ap (λ (l : List Codes). codes_text 0 (map codes_said l)) (take_more cs k d below) ∙ here)

-- what is left to be put, the codes of one berth and those behind it
pub codes_left : (cs : List Codes) (k : ℕ) (d : Codes) → k < length cs
    → codes_text k (map codes_said (drop k cs)) ≡ code_text k (codes_said (get_or cs k d)) ++ codes_text (k + 1) (map codes_said (drop (k + 1) cs))
unfolding codes_text
codes_left cs k d below = rw add-one (ap (λ (l : List Codes). codes_text k (map codes_said l)) (drop-cons cs k d below))
