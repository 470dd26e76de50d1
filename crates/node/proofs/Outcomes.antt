-- A call is refused with the number of its first need that is not met, and done where all are met; either way what the code leaves
-- agrees with the outcome of the rules.
use Prim.Native.Nat.{ℕ, zero, suc}
use mathlib.Core.Path.{◌≡◌, refl, sym, ap, ◌∙◌}
use mathlib.Core.Bool.{Bool, true, false, not, ◌&&◌}
use mathlib.Core.List.{List, [], ◌∷◌, ◌++◌}
use lib.Dec.{T, ltb}
use Rattle.rules.specs.Tests.{pick, Need, need, first_unmet}
use Rattle.rules.specs.Nodes.{Held}
use Rattle.rules.specs.Answers.{Answer, refused, paper_of}
use Rattle.rules.specs.Events.{Call}
use Rattle.rules.specs.Refusals.{refusal}
use Rattle.rules.specs.Calls.{Outcome, outcome, done, reply, written, buffer_of, refused_outcome}
use Rattle.rules.proofs.Cases.{Tested, holds, fails, test-cases, and_left, and_right, tests}
use Rattle.node.specs.Promises.{Agrees, left}

-- ---- needs tested one after the other: the first is met, and the others decide; the first is not met; none is left

pub meets : {b : Bool} {r : ℕ} (n : ℕ) (ns : List Need) → b ≡ true → r ≡ first_unmet ns → r ≡ first_unmet (need n b ∷ ns)
unfolding first_unmet
meets n ns e h = rw e h

pub unmet : {b : Bool} (n : ℕ) (ns : List Need) → b ≡ false → n ≡ first_unmet (need n b ∷ ns)
unfolding first_unmet
unmet n ns e = rw e

pub all-met : 0 ≡ first_unmet []
unfolding first_unmet
all-met = refl

-- ---- needs before others: the number of one that is not met stands; where all are met the others decide

pub stands : (ns ms : List Need) {r : ℕ} → (r ≡ 0 → ⊥) → r ≡ first_unmet ns → r ≡ first_unmet (ns ++ ms)
unfolding first_unmet
stands [] ms l e = absurd (l e)
stands (n ∷ ns) ms {r} l e = go (test-cases n.met) (stands ns ms l)
  where
    go : Tested n.met (T n.met) (T (not n.met)) → (r ≡ first_unmet ns → r ≡ first_unmet (ns ++ ms))
        → r ≡ pick n.met (first_unmet (ns ++ ms)) n.number
    go (holds t u) ih = rw t (ih (rw t at e))
    go (fails t u) ih = rw t (rw t at e)

-- every number is above 0
abbrev numbered : List Need → Bool
numbered [] = true
numbered (n ∷ ns) = ltb 0 n.number && numbered ns

pub go_on : (ns ms : List Need) {q r : ℕ} → T (numbered ns) → q ≡ 0 → q ≡ first_unmet ns → r ≡ first_unmet ms → r ≡ first_unmet (ns ++ ms)
unfolding first_unmet
go_on [] ms t z e h = h
go_on (n ∷ ns) ms {q} {r} t z e h = go (test-cases n.met) (λ f. go_on ns ms (and_right (ltb 0 n.number) _ t) z f h)
  where
    go : Tested n.met (T n.met) (T (not n.met)) → (q ≡ first_unmet ns → r ≡ first_unmet (ns ++ ms))
        → r ≡ pick n.met (first_unmet (ns ++ ms)) n.number
    go (holds u v) ih = rw u (ih (rw u at e))
    go (fails u v) ih =
        let f : q ≡ n.number = rw u at e in
        let l = and_left (ltb 0 n.number) (numbered ns) t in
        absurd (omega tests)

-- ---- outcomes

pub agrees : {o p : Outcome} → o ≡ p → Agrees o p
agrees e = record { answer = ap (λ o. paper_of o.answer) e; held = ap (λ o. o.held) e; buffer = ap (λ o. o.buffer) e }

as-refused : (h : Held) (c : Call) (number : ℕ) → (number ≡ 0 → ⊥) → number ≡ refusal h c → outcome h c ≡ refused_outcome h (buffer_of c) number
unfolding outcome
as-refused h c zero l e = absurd (l refl)
as-refused h c (suc n) l e = rw (← e)

-- the code refuses with that number, and gives back what it was lent
pub refuses : (h : Held) (c : Call) (number : ℕ) {a : Answer} {h' : Held} → (number ≡ 0 → ⊥) → a ≡ refused number → h' ≡ h
    → number ≡ refusal h c → Agrees (left a h' (buffer_of c)) (outcome h c)
unfolding refused_outcome
refuses h c number l says stays e = rw (says, stays, as-refused h c number l e) (agrees refl)

-- the code found no number, and does what the rules say
pub does : (h : Held) (c : Call) {o : Outcome} {number : ℕ} → number ≡ 0 → number ≡ refusal h c
    → o ≡ left (reply h c) (done h c) (written h c) → Agrees o (outcome h c)
unfolding outcome
does h c z e same = let none = sym e ∙ z in rw (same, none) (agrees refl)
