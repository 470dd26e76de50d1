-- The program's three words: which are numbers, which numbers are in their ranges, and which word is told where one is wrong.
use Rattle.std.specs.Prelude.{ℕ, Bool, ◌&&◌, List, length, leb, Option, Some, None, Result, Ok, Err}
use Rattle.std.specs.Char.{is_ascii_digit}
use Rattle.std.specs.List.{list_all}
use Rattle.rules.specs.Tests.{pick}
use Rattle.rules.specs.Numbers.{short_most, largest_block}
use Rattle.rules.specs.Ranges.{stmin_allowed}
use Rattle.text.specs.Building.{value_after}
use Rattle.plain_ladder.specs.declared.asked.Name.{Name}
use Rattle.plain_ladder.specs.declared.asked.Refusal.{Refusal}
use Rattle.plain_ladder.specs.declared.exchange.Exchange.{Exchange}

-- ---- numbers

abbrev pub most_digits : ℕ
most_digits = 9

-- one to nine digits and nothing else
unfoldable pub is_number : List ℕ → Bool
is_number word = (leb 1 (length word) && leb (length word) most_digits) && list_all is_ascii_digit word

abbrev pub value_of : List ℕ → ℕ
value_of word = value_after 0 word

abbrev pub number_in : List ℕ → Option ℕ
number_in word = pick (is_number word) (Some (value_of word)) None

-- ---- ranges

-- a message has 1 to 4,095 bytes, BS is 0 to 255, and STmin is 0 to 127 or 241 to 249
unfoldable pub in_range : Name → ℕ → Bool
in_range Name.Length n = leb 1 n && leb n short_most
in_range Name.Bs n = leb n largest_block
in_range Name.Stmin n = stmin_allowed n

-- ---- the first word that is wrong: no number, or outside its range

unfoldable pub tested_as : Name → List ℕ → Result ℕ Refusal
tested_as name word =
    pick (is_number word)
    (pick (in_range name (value_of word)) (Ok (value_of word)) (Err (Refusal.Outside name)))
    (Err (Refusal.NoNumber name))

abbrev pub where_good : {T : Type 0} → Result ℕ Refusal → (ℕ → Result T Refusal) → Result T Refusal
where_good (Ok n) next = next n
where_good (Err refusal) next = Err refusal

-- the three numbers, where no word is wrong
unfoldable pub asked_for : (length bs stmin : List ℕ) → Result (ℕ × ℕ × ℕ) Refusal
asked_for length bs stmin =
    where_good (tested_as Name.Length length)
    (λ n. where_good (tested_as Name.Bs bs) (λ k. where_good (tested_as Name.Stmin stmin) (λ t. Ok (n, k, t))))

abbrev pub numbers_of : Result Exchange Refusal → Result (ℕ × ℕ × ℕ) Refusal
numbers_of (Ok e) = Ok (e.length, e.bs, e.stmin)
numbers_of (Err refusal) = Err refusal
