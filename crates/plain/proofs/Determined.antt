-- The promise of the plain engine's call determines what it answers and what it leaves in both buffers.
use Prim.Native.Nat.{ℕ}
use mathlib.Core.Path.{◌≡◌, refl, sym, ap, ◌∙◌}
use mathlib.Core.List.{List}
use lib.ListN.{get_or}
use lib.Dec.{eqb}
use Rattle.rules.specs.Tests.{pick}
use Rattle.rules.specs.Answers.{Paper}
use Rattle.plain.specs.Promise.{number_of, exchange_paper, said, list_after, room_after}
use Rattle.plain.specs.declared.Refusal.{Refusal}
use Rattle.plain.specs.declared.Refusal.TheVariants.{EmptyMessage, MessageTooLong, ShortBuffer, BadSetting}
use Rattle.plain.specs.declared.Exchanged.{Exchanged}
use Rattle.std.specs.Prelude.{Result, Ok, Err}

-- the refusal with this number
abbrev refusal_at : ℕ → Refusal
refusal_at n = pick (eqb n 6) EmptyMessage (pick (eqb n 7) MessageTooLong (pick (eqb n 9) ShortBuffer BadSetting))

refusal-back : (why : Refusal) → refusal_at (number_of why) ≡ why
refusal-back EmptyMessage = refl
refusal-back MessageTooLong = refl
refusal-back ShortBuffer = refl
refusal-back BadSetting = refl

-- the answer with this number and these values
abbrev answer_of : Paper → Result Exchanged Refusal
answer_of p = pick (eqb p.number 0) (Err (refusal_at (get_or p.values 0 0))) (Ok (record { frames = get_or p.values 0 0; bytes = get_or p.values 1 0 }))

paper-back : (r : Result Exchanged Refusal) → answer_of (exchange_paper r) ≡ r
paper-back (Err why) = ap Err (refusal-back why)
paper-back (Ok e) = refl

-- ONE-TO-ONE: two answers with the same number and values are the same
pub exchange-paper-one : (r q : Result Exchanged Refusal) → exchange_paper r ≡ exchange_paper q → r ≡ q
exchange-paper-one r q e = sym (paper-back r) ∙ ap answer_of e ∙ paper-back q

-- TWO OUTCOMES THAT MEET THE PROMISE ARE EQUAL: the answer, the list and the room.
pub exchange-determined : (m : List ℕ) (bs stmin : ℕ) (list room : List ℕ) (r q : Result Exchanged Refusal) (list-r list-q room-r room-q : List ℕ)
    → exchange_paper r ≡ said m bs stmin list room → list-r ≡ list_after m bs stmin list room → room-r ≡ room_after m bs stmin list room
    → exchange_paper q ≡ said m bs stmin list room → list-q ≡ list_after m bs stmin list room → room-q ≡ room_after m bs stmin list room
    → (r ≡ q) × (list-r ≡ list-q) × (room-r ≡ room-q)
exchange-determined m bs stmin list room r q list-r list-q room-r room-q a b c d e f =
    (exchange-paper-one r q (a ∙ sym d), b ∙ sym e, c ∙ sym f)
