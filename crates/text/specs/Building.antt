-- Texts in bytes: what a text under construction says, numbers in decimal, bytes in hex.
use Rattle.std.specs.Prelude.{ℕ, zero, suc, ◌+◌, ◌-◌, ◌*◌, ◌/◌, ◌%◌, ◌≤◌, ◌≡◌, List, [], ◌∷◌, ◌++◌, length, take, ltb}
use Rattle.rules.specs.Tests.{pick}
use Rattle.text.specs.declared.building.Text.{Text}

-- ---- a text under construction: its bytes so far, and what of a list of bytes has room; no text of the programs is longer

unfoldable pub text_of : Text → List ℕ
text_of text = take text.length text.bytes

abbrev pub room : ℕ
room = 320

unfoldable pub clipped : List ℕ → List ℕ
clipped bytes = take room bytes

-- so many bytes stand at the front of a list. The second part follows from the first; with both, a caller that lends that front
-- needs no proof
abbrev pub Fronts : ℕ → List ℕ → Type 0
Fronts n xs = (n ≤ length xs) × (n ≡ length (take n xs))

-- ---- numbers

-- decimal in at most so many places: below ten one digit, else the digits of a tenth before the last one
unfoldable pub decimal : ℕ → ℕ → List ℕ
decimal zero n = []
decimal (suc places) n = pick (ltb n 10) ((48 + n) ∷ []) (decimal places (n / 10) ++ ((48 + n % 10) ∷ []))

-- and back, the value of digits after a number: what the digits before are worth is multiplied by ten, and the next one added
unfoldable pub value_after : ℕ → List ℕ → ℕ
value_after n [] = n
value_after n (d ∷ ds) = value_after (n * 10 + (d - 48)) ds

-- as many places as the largest number of a type has: of 8, 32 and 64 bits
abbrev pub small_places : ℕ
small_places = 3

abbrev pub size_places : ℕ
size_places = 10

abbrev pub number_places : ℕ
number_places = 20

-- upper-case hex, two digits for a byte
unfoldable pub hex_digit : ℕ → ℕ
hex_digit d = pick (ltb d 10) (48 + d) (55 + d)

unfoldable pub hex_text : List ℕ → List ℕ
hex_text [] = []
hex_text (b ∷ bs) = hex_digit (b / 16) ∷ hex_digit (b % 16) ∷ hex_text bs
