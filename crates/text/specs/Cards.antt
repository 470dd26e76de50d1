-- A card per berth: a card as its text, in bytes.
use Rattle.std.specs.Prelude.{ℕ, List, [], ◌∷◌, ◌++◌}
use Rattle.rules.specs.Tests.{pick}
use Rattle.rules.specs.Cards.{frozen}
use Rattle.rules.specs.declared.Card.{Card}
use Rattle.text.specs.Building.{decimal, small_places, size_places}
use Rattle.text.specs.Answers.{space, LF, numbered_text}

-- ---- the names

-- "card "
abbrev pub card_name : List ℕ
card_name = 99 ∷ 97 ∷ 114 ∷ 100 ∷ 32 ∷ []

-- " begun "
abbrev pub begun_name : List ℕ
begun_name = 32 ∷ 98 ∷ 101 ∷ 103 ∷ 117 ∷ 110 ∷ 32 ∷ []

-- " delivered "
abbrev pub delivered_name : List ℕ
delivered_name = 32 ∷ 100 ∷ 101 ∷ 108 ∷ 105 ∷ 118 ∷ 101 ∷ 114 ∷ 101 ∷ 100 ∷ 32 ∷ []

-- " failed 2:"
abbrev pub two_name : List ℕ
two_name = 32 ∷ 102 ∷ 97 ∷ 105 ∷ 108 ∷ 101 ∷ 100 ∷ 32 ∷ 50 ∷ 58 ∷ []

-- " 4:"
abbrev pub four_name : List ℕ
four_name = 32 ∷ 52 ∷ 58 ∷ []

-- " 5:"
abbrev pub five_name : List ℕ
five_name = 32 ∷ 53 ∷ 58 ∷ []

-- " 7:"
abbrev pub seven_name : List ℕ
seven_name = 32 ∷ 55 ∷ 58 ∷ []

-- " toolong "
abbrev pub too_long_name : List ℕ
too_long_name = 32 ∷ 116 ∷ 111 ∷ 111 ∷ 108 ∷ 111 ∷ 110 ∷ 103 ∷ 32 ∷ []

-- " sent "
abbrev pub sent_name : List ℕ
sent_name = 32 ∷ 115 ∷ 101 ∷ 110 ∷ 116 ∷ 32 ∷ []

-- " unsent "
abbrev pub unsent_name : List ℕ
unsent_name = 32 ∷ 117 ∷ 110 ∷ 115 ∷ 101 ∷ 110 ∷ 116 ∷ 32 ∷ []

-- " frozen"
abbrev pub frozen_name : List ℕ
frozen_name = 32 ∷ 102 ∷ 114 ∷ 111 ∷ 122 ∷ 101 ∷ 110 ∷ []

-- "card"
abbrev pub look_name : List ℕ
look_name = 99 ∷ 97 ∷ 114 ∷ 100 ∷ []

-- ---- the texts

-- a frozen card is marked, another is not
unfoldable pub frozen_text : Card → List ℕ
frozen_text c = pick (frozen c) frozen_name []

-- failed, by code; too long, sent and failed in sending
unfoldable pub failed_text : Card → List ℕ
failed_text c =
    two_name
    ++ (decimal size_places c.failed2
    ++ (four_name
    ++ (decimal size_places c.failed4
    ++ (five_name
    ++ (decimal size_places c.failed5
    ++ (seven_name
    ++ decimal size_places c.failed7))))))

unfoldable pub rest_text : Card → List ℕ
rest_text c =
    too_long_name
    ++ (decimal size_places c.toolong
    ++ (sent_name
    ++ (decimal size_places c.sent
    ++ (unsent_name
    ++ decimal size_places c.unsent))))

-- the line of berth k's card
unfoldable pub card_line : ℕ → Card → List ℕ
card_line k c =
    card_name
    ++ (decimal small_places k
    ++ (begun_name
    ++ (decimal size_places c.begun
    ++ (delivered_name
    ++ (decimal size_places c.delivered
    ++ (failed_text c
    ++ (rest_text c
    ++ (frozen_text c
    ++ (LF ∷ [])))))))))

-- the answer to a look at a card: the nine counts in their order, a space before each
unfoldable pub spaced_text : List ℕ → List ℕ
spaced_text [] = []
spaced_text (n ∷ ns) = space ∷ (decimal size_places n ++ spaced_text ns)

unfoldable pub counted_text : Card → List ℕ
counted_text c =
    spaced_text (
    c.begun
    ∷ c.delivered
    ∷ c.failed2
    ∷ c.failed4
    ∷ c.failed5
    ∷ c.failed7
    ∷ c.toolong
    ∷ c.sent
    ∷ c.unsent
    ∷ []
    )

unfoldable pub card_text : ℕ → Card → List ℕ
card_text n c = numbered_text n (look_name ++ (counted_text c ++ frozen_text c))
