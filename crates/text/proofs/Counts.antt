-- One count more.
use Rattle.std.proofs.Common.{◌≡◌, ℕ, ◌+◌, ◌^◌, ◌<◌, List, [], ◌∷◌, ◌++◌, length, take, get_or, sym, ap, ◌∙◌, append-nil, append_assoc}
use Rattle.std.proofs.lemmas.List.{take_more}
use Rattle.std.specs.Fmt.{decimal as printed}
use Rattle.text.specs.Building.{decimal, size_places}
use Rattle.text.specs.Answers.{space}
use Rattle.text.specs.Cards.{spaced_text}
use Rattle.text.proofs.Numbers.{size}

spaced_push : (ns : List ℕ) (n : ℕ) → spaced_text (ns ++ n ∷ []) ≡ spaced_text ns ++ (space ∷ decimal size_places n)
unfolding spaced_text
spaced_push [] n = ap (λ l. space ∷ l) (append-nil (decimal size_places n))
spaced_push (x ∷ ns) n =
    ap (λ l. space ∷ (decimal size_places x ++ l)) (spaced_push ns n) ∙ ap (λ l. space ∷ l) (sym (append_assoc (decimal size_places x) (spaced_text ns) _))

pub spaced_more : (ns : List ℕ) (k : ℕ) → k < length ns → get_or ns k 0 < 2 ^ 32 → spaced_text (take k ns) ++ (space ∷ printed (get_or ns k 0)) ≡ spaced_text (take (k + 1) ns)
spaced_more ns k below small =
    ap (λ l. spaced_text (take k ns) ++ (space ∷ l)) (size (get_or ns k 0) small)
    ∙ sym (ap spaced_text (take_more ns k 0 below) ∙ spaced_push (take k ns) (get_or ns k 0))
