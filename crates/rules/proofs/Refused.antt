-- A refusal and its number tell each other; every number that a call is refused with is a refusal's.
use Prim.Native.Nat.{ℕ, suc}
use Rattle.std.specs.Prelude.{Result, Ok, Err, ⊤}
use mathlib.Core.Path.{◌≡◌, refl, sym, ap, ◌∙◌}
use mathlib.Core.Bool.{Bool, true, not, ◌&&◌}
use mathlib.Core.List.{List, [], ◌∷◌}
use lib.Dec.{T, eqb}
use mir.Facts.{eqb_yes}
use native.Mathlib.Omega.{arith}
use Rattle.rules.specs.Tests.{pick, Need, need, first_unmet}
use Rattle.rules.specs.Numbers.{bad_setting}
use Rattle.rules.specs.Ranges.{settings_allowed}
use Rattle.rules.specs.Nodes.{Held}
use Rattle.rules.specs.Events.{Call, frame, tick, send, turn, show, change}
use Rattle.rules.specs.Refused.{number_of, refused_by}
use Rattle.rules.specs.Refusals.{refusal, set_up_refusal, needs}
use Rattle.rules.specs.declared.Refusal.{Refusal}
use Rattle.rules.specs.declared.Refusal.TheVariants.{OutOfOrder, WrongStore, WrongIdentifier, TooManyBytes, NoSuchBerth, EmptyMessage, MessageTooLong, AlreadySending, ShortBuffer, BadSetting, WrongCards, UnknownParameter, ValueOutside, AlreadyReceiving, NoSuchParty}
use Rattle.rules.proofs.Cases.{Tested, holds, fails, test-cases, and_left, and_right, tests}

-- ---- the refusal of a number

-- of the first of a list with that number
abbrev among : List Refusal → ℕ → Refusal
among [] n = OutOfOrder
among (r ∷ rs) n = pick (eqb (number_of r) n) r (among rs n)

abbrev all_refusals : List Refusal
all_refusals =
    OutOfOrder ∷ WrongStore ∷ WrongIdentifier ∷ TooManyBytes ∷ NoSuchBerth ∷ EmptyMessage ∷ MessageTooLong ∷ AlreadySending ∷ ShortBuffer
    ∷ BadSetting ∷ WrongCards ∷ UnknownParameter ∷ ValueOutside ∷ AlreadyReceiving ∷ NoSuchParty ∷ []

abbrev pub refusal_from : ℕ → Refusal
refusal_from n = among all_refusals n

number-again : (r : Refusal) → refusal_from (number_of r) ≡ r
number-again OutOfOrder = refl
number-again WrongStore = refl
number-again WrongIdentifier = refl
number-again TooManyBytes = refl
number-again NoSuchBerth = refl
number-again EmptyMessage = refl
number-again MessageTooLong = refl
number-again AlreadySending = refl
number-again ShortBuffer = refl
number-again BadSetting = refl
number-again WrongCards = refl
number-again UnknownParameter = refl
number-again ValueOutside = refl
number-again AlreadyReceiving = refl
number-again NoSuchParty = refl

pub number-tells : (a b : Refusal) → number_of a ≡ number_of b → a ≡ b
number-tells a b e = sym (number-again a) ∙ ap refusal_from e ∙ number-again b

-- ---- the refusal that a call's number is of

abbrev named : List Need → Bool
named [] = true
named (n ∷ ns) = eqb (number_of (refusal_from n.number)) n.number && named ns

abbrev pub Refusing : ℕ → Type 0
Refusing n = (r : Refusal) × (number_of r ≡ n)

first-named : (ns : List Need) (m : ℕ) → T (named ns) → first_unmet ns ≡ suc m → Refusing (suc m)
unfolding first_unmet
first-named [] m t e = absurd (omega (tests, e))
first-named (n ∷ ns) m t e = go (test-cases n.met) (λ f. first-named ns m (and_right (eqb (number_of (refusal_from n.number)) n.number) (named ns) t) f)
  where
    go : Tested n.met (T n.met) (T (not n.met)) → (first_unmet ns ≡ suc m → Refusing (suc m)) → Refusing (suc m)
    go (holds u v) ih = ih (rw u at e)
    go (fails u v) ih =
        let f : n.number ≡ suc m = rw u at e in
        (refusal_from n.number, eqb_yes (and_left (eqb (number_of (refusal_from n.number)) n.number) (named ns) t) ∙ f)

pub refusing : (h : Held) (c : Call) (m : ℕ) → refusal h c ≡ suc m → Refusing (suc m)
unfolding refusal needs
refusing h (frame id d) m e = first-named (needs h (frame id d)) m tt e
refusing h tick m e = first-named (needs h tick) m tt e
refusing h (send k party l) m e = first-named (needs h (send k party l)) m tt e
refusing h (turn buffer) m e = first-named (needs h (turn buffer)) m tt e
refusing h (show k choice) m e = first-named (needs h (show k choice)) m tt e
refusing h (change k parameter value) m e = first-named (needs h (change k parameter value)) m tt e

pub set-up-refusing : (a bs stmin m : ℕ) → set_up_refusal a bs stmin ≡ suc m → Refusing (suc m)
unfolding set_up_refusal
set-up-refusing a bs stmin m e = first-named (need bad_setting (settings_allowed a bs stmin) ∷ []) m tt e

-- no refusal has the number 0
pub above-zero : (r : Refusal) → number_of r ≡ 0 → ⊥
above-zero OutOfOrder e = absurd (omega (arith, e))
above-zero WrongStore e = absurd (omega (arith, e))
above-zero WrongIdentifier e = absurd (omega (arith, e))
above-zero TooManyBytes e = absurd (omega (arith, e))
above-zero NoSuchBerth e = absurd (omega (arith, e))
above-zero EmptyMessage e = absurd (omega (arith, e))
above-zero MessageTooLong e = absurd (omega (arith, e))
above-zero AlreadySending e = absurd (omega (arith, e))
above-zero ShortBuffer e = absurd (omega (arith, e))
above-zero BadSetting e = absurd (omega (arith, e))
above-zero WrongCards e = absurd (omega (arith, e))
above-zero UnknownParameter e = absurd (omega (arith, e))
above-zero ValueOutside e = absurd (omega (arith, e))
above-zero AlreadyReceiving e = absurd (omega (arith, e))
above-zero NoSuchParty e = absurd (omega (arith, e))

-- ---- what a call's tests found and its number tell each other

pub refused-tells : (a b : Result ⊤ Refusal) → refused_by a ≡ refused_by b → a ≡ b
refused-tells (Ok t) (Ok u) e = refl
refused-tells (Ok t) (Err r) e = absurd (above-zero r (sym e))
refused-tells (Err r) (Ok u) e = absurd (above-zero r e)
refused-tells (Err r) (Err q) e = ap Err (number-tells r q e)
