-- Facts about cards: what adds nothing leaves them, the list keeps its length, and an event of one berth leaves the other cards.
use Prim.Native.Nat.{ℕ, zero, suc, ◌<◌}
use native.Mathlib.Omega.{arith}
use mathlib.Core.Path.{◌≡◌, refl, sym, ap, ◌∙◌}
use mathlib.Core.Bool.{Bool, true, false}
use mathlib.Core.List.{List, [], ◌∷◌}
use lib.ListN.{length, get_or, set, length-set}
use lib.Seq.{set-get_or, get_or-set_same, get_or-set_other}
use Rattle.rules.specs.Tests.{pick}
use Rattle.rules.specs.Nodes.{fresh}
use Rattle.rules.specs.Ticks.{rx_code, tx_code}
use Rattle.rules.specs.Cards.{zero_card, card_at, frozen, added, added_at, under_way, tick_adds, ticked_cards, turn_adds, nothing}
use Rattle.rules.specs.declared.Berth.{Berth}
use Rattle.rules.specs.declared.Card.{Card}
use Rattle.rules.specs.declared.Adds.{Adds}

pick_same : (b : Bool) (x : Card) → pick b x x ≡ x
pick_same true x = refl
pick_same false x = refl

-- what adds nothing leaves the card
pub added-nothing : (c : Card) → added c nothing ≡ c
unfolding added
added-nothing c = pick_same (frozen c) c

-- and the list
pub added-at-nothing : (cards : List Card) (k : ℕ) → added_at cards k nothing ≡ cards
unfolding added_at card_at
added-at-nothing cards k = ap (set cards k) (added-nothing (get_or cards k zero_card)) ∙ set-get_or cards k zero_card

-- a turn without a code adds nothing
pub no-code-adds : (cards : List Card) (k : ℕ) → added_at cards k (turn_adds 0) ≡ cards
unfolding turn_adds
no-code-adds cards k = added-at-nothing cards k

-- ---- the list keeps its length

pub added-at-length : (cards : List Card) (k : ℕ) (a : Adds) → length (added_at cards k a) ≡ length cards
unfolding added_at
added-at-length cards k a = length-set cards k _

pub ticked-cards-length : (bs : List Berth) (cards : List Card) → length (ticked_cards bs cards) ≡ length cards
unfolding ticked_cards
ticked-cards-length [] cards = refl
ticked-cards-length (b ∷ bs) [] = refl
ticked-cards-length (b ∷ bs) (c ∷ cards) = ap suc (ticked-cards-length bs cards)

-- ---- the berth's own card is added to, and the others stay

pub card-same : (cards : List Card) (k : ℕ) (a : Adds) → k < length cards → card_at (added_at cards k a) k ≡ added (card_at cards k) a
unfolding card_at added_at
card-same cards k a l = get_or-set_same cards k _ zero_card l

pub card-other : (cards : List Card) (j k : ℕ) (a : Adds) → (j ≡ k → ⊥) → card_at (added_at cards j a) k ≡ card_at cards k
unfolding card_at added_at
card-other cards j k a ne = get_or-set_other cards j k _ zero_card (λ e. ne (sym e))

-- a tick, berth by berth: as many cards as berths
pub card-ticked : (bs : List Berth) (cards : List Card) (k : ℕ) → length bs ≡ length cards
    → card_at (ticked_cards bs cards) k
    ≡ added (card_at cards k) (tick_adds (under_way (get_or bs k fresh).rx) (rx_code (get_or bs k fresh).rx) (tx_code (get_or bs k fresh).tx))
unfolding card_at ticked_cards
card-ticked [] [] k e = unfold added frozen tick_adds in refl
card-ticked [] (c ∷ cards) k e = absurd (omega arith)
card-ticked (b ∷ bs) [] k e = absurd (omega arith)
card-ticked (b ∷ bs) (c ∷ cards) zero e = refl
card-ticked (b ∷ bs) (c ∷ cards) (suc k) e = card-ticked bs cards k (omega arith)
