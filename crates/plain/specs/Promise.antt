-- What is promised of the plain engine's call, for every message, block size, STmin and pair of buffers.
use Rattle.std.specs.Prelude.{ℕ, ◌*◌, ◌/◌, ◌≡◌, List, [], ◌∷◌, ◌++◌, length, drop, leb, Result, Ok, Err}
use Rattle.rules.specs.Tests.{pick, need, first_unmet, unless}
use Rattle.rules.specs.Numbers.{short_most, empty_message, message_too_long, short_buffer, bad_setting}
use Rattle.rules.specs.Ranges.{own_allowed}
use Rattle.rules.specs.Answers.{Paper}
use Rattle.rules.specs.declared.BerthSettings.{BerthSettings}
use Rattle.laws.specs.Line.{Handed}
use Rattle.plain.specs.Engine.{row_size, exchange, listed, joined, delivered}
use Rattle.plain.specs.declared.Refusal.{Refusal}
use Rattle.plain.specs.declared.Refusal.TheVariants.{EmptyMessage, MessageTooLong, ShortBuffer, BadSetting}
use Rattle.plain.specs.declared.Exchanged.{Exchanged}

-- the number and values of each answer: 0, refused with its number; 1, so many frames listed and so many bytes delivered
abbrev pub refused_paper : ℕ → Paper
refused_paper n = record { number = 0; values = n ∷ [] }

abbrev pub exchanged_paper : (frames bytes : ℕ) → Paper
exchanged_paper frames bytes = record { number = 1; values = frames ∷ bytes ∷ [] }

-- the number of each refusal, and 0 where nothing is refused
abbrev pub number_of : Refusal → ℕ
number_of EmptyMessage = empty_message
number_of MessageTooLong = message_too_long
number_of ShortBuffer = short_buffer
number_of BadSetting = bad_setting

abbrev pub refused_by : {T : Type 0} → Result T Refusal → ℕ
refused_by (Ok _) = 0
refused_by (Err why) = number_of why

abbrev pub exchange_paper : Result Exchanged Refusal → Paper
exchange_paper (Err why) = refused_paper (number_of why)
exchange_paper (Ok e) = exchanged_paper e.frames e.bytes

-- the frames of the longest exchange, 4,095 bytes with a go for each frame: 586 there and 585 back
abbrev pub most_rows : ℕ
most_rows = 1171

-- a message of 1 to 4,095 bytes (6, 7), room for the longest exchange and the longest message (9), and the taker's BS and STmin (10)
unfoldable pub refusal : (m : List ℕ) → (bs stmin : ℕ) → (list room : List ℕ) → ℕ
refusal m bs stmin list room =
    first_unmet (
    need empty_message (leb 1 (length m))
    ∷ need message_too_long (leb (length m) short_most)
    ∷ need short_buffer (leb (most_rows * row_size) (length list))
    ∷ need short_buffer (leb short_most (length room))
    ∷ need bad_setting (own_allowed bs stmin)
    ∷ [])

abbrev pub settings : (bs stmin : ℕ) → BerthSettings
settings bs stmin = record { block = bs; stmin = stmin }

-- a taker's settings are refused where they are out of their ranges
abbrev pub where_allowed : (bs stmin : ℕ) → Result BerthSettings Refusal
where_allowed bs stmin = pick (own_allowed bs stmin) (Ok (settings bs stmin)) (Err BadSetting)

-- bytes at the front of a buffer, and the rest of it as it was
abbrev pub at_front : List ℕ → List ℕ → List ℕ
at_front bytes buffer = bytes ++ drop (length bytes) buffer

-- frames go to the front of a list: so many, and their rows
abbrev pub Lists : List Handed → (count : ℕ) → (list after : List ℕ) → Type 0
Lists hs count list after = (count ≡ length hs) × (after ≡ at_front (listed hs) list)

-- the message bytes of some rows go to the front of a room, as far as it goes: so many
abbrev pub joined_in : (rows room : List ℕ) → List ℕ
joined_in rows room = joined (length rows / row_size) (length room) rows

abbrev pub Joins : (rows : List ℕ) → (count : ℕ) → (room after : List ℕ) → Type 0
Joins rows count room after = (count ≡ length (joined_in rows room)) × (after ≡ at_front (joined_in rows room) room)

-- a refusal writes nothing
module _ (m : List ℕ) (bs stmin : ℕ) (list room : List ℕ) where
  unfoldable pub said : Paper
  said =
      unless (refusal m bs stmin list room) refused_paper
      (exchanged_paper (length (exchange (settings bs stmin) m)) (length (delivered (exchange (settings bs stmin) m))))

  unfoldable pub list_after : List ℕ
  list_after = unless (refusal m bs stmin list room) (λ n. list) (at_front (listed (exchange (settings bs stmin) m)) list)

  unfoldable pub room_after : List ℕ
  room_after = unless (refusal m bs stmin list room) (λ n. room) (at_front (delivered (exchange (settings bs stmin) m)) room)
