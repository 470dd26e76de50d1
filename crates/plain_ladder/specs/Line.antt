-- A row of the plain engine's list as a line of text, in bytes.
use Rattle.std.specs.Prelude.{ℕ, ◌+◌, ◌*◌, ◌/◌, ◌%◌, List, [], ◌∷◌, ◌++◌, drop, eqb}
use Rattle.rules.specs.Tests.{pick}
use Rattle.rules.specs.Numbers.{single_kind, first_kind, consecutive_kind}
use Rattle.rules.specs.Frames.{byte_at}
use Rattle.text.specs.Answers.{LF}
use Rattle.text.specs.Building.{decimal, small_places, size_places, number_places, hex_text}
use Rattle.plain.specs.Engine.{there_mark}

-- ---- the direction

-- " there "
abbrev pub there_word : List ℕ
there_word = 32 ∷ 116 ∷ 104 ∷ 101 ∷ 114 ∷ 101 ∷ 32 ∷ []

-- " back "
abbrev pub back_word : List ℕ
back_word = 32 ∷ 98 ∷ 97 ∷ 99 ∷ 107 ∷ 32 ∷ []

unfoldable pub direction_word : ℕ → List ℕ
direction_word mark = pick (eqb mark there_mark) there_word back_word

-- ---- what the frame is, by its first byte

-- " single frame, length "
abbrev pub single_word : List ℕ
single_word = 32 ∷ 115 ∷ 105 ∷ 110 ∷ 103 ∷ 108 ∷ 101 ∷ 32 ∷ 102 ∷ 114 ∷ 97 ∷ 109 ∷ 101 ∷ 44 ∷ 32 ∷ 108 ∷ 101 ∷ 110 ∷ 103 ∷ 116 ∷ 104 ∷ 32 ∷ []

-- " first frame, length "
abbrev pub first_word : List ℕ
first_word = 32 ∷ 102 ∷ 105 ∷ 114 ∷ 115 ∷ 116 ∷ 32 ∷ 102 ∷ 114 ∷ 97 ∷ 109 ∷ 101 ∷ 44 ∷ 32 ∷ 108 ∷ 101 ∷ 110 ∷ 103 ∷ 116 ∷ 104 ∷ 32 ∷ []

-- " consecutive frame, SN "
abbrev pub consecutive_word : List ℕ
consecutive_word = 32 ∷ 99 ∷ 111 ∷ 110 ∷ 115 ∷ 101 ∷ 99 ∷ 117 ∷ 116 ∷ 105 ∷ 118 ∷ 101 ∷ 32 ∷ 102 ∷ 114 ∷ 97 ∷ 109 ∷ 101 ∷ 44 ∷ 32 ∷ 83 ∷ 78 ∷ 32 ∷ []

-- " flow control, go, BS "
abbrev pub go_word : List ℕ
go_word = 32 ∷ 102 ∷ 108 ∷ 111 ∷ 119 ∷ 32 ∷ 99 ∷ 111 ∷ 110 ∷ 116 ∷ 114 ∷ 111 ∷ 108 ∷ 44 ∷ 32 ∷ 103 ∷ 111 ∷ 44 ∷ 32 ∷ 66 ∷ 83 ∷ 32 ∷ []

-- ", STmin "
abbrev pub stmin_word : List ℕ
stmin_word = 44 ∷ 32 ∷ 83 ∷ 84 ∷ 109 ∷ 105 ∷ 110 ∷ 32 ∷ []

-- " other frame"
abbrev pub other_word : List ℕ
other_word = 32 ∷ 111 ∷ 116 ∷ 104 ∷ 101 ∷ 114 ∷ 32 ∷ 102 ∷ 114 ∷ 97 ∷ 109 ∷ 101 ∷ []

-- go is 30, BS, STmin
abbrev pub go_byte : ℕ
go_byte = 0x30

unfoldable pub flow_words : (bs stmin : ℕ) → List ℕ
flow_words bs stmin = go_word ++ (decimal small_places bs ++ (stmin_word ++ decimal small_places stmin))

-- of a first byte and the two behind it: a single frame's length in four bits, a first frame's in twelve, an SN in four
unfoldable pub frame_words : (first second third : ℕ) → List ℕ
frame_words first second third =
    pick (eqb (first / 16) single_kind) (single_word ++ decimal small_places (first % 16))
    (pick (eqb (first / 16) first_kind) (first_word ++ decimal size_places (first % 16 * 256 + second))
    (pick (eqb (first / 16) consecutive_kind) (consecutive_word ++ decimal small_places (first % 16))
    (pick (eqb first go_byte) (flow_words second third) other_word)))

-- of a whole frame
abbrev pub words_of : List ℕ → List ℕ
words_of frame = frame_words (byte_at frame 0) (byte_at frame 1) (byte_at frame 2)

-- ---- the line: `3 there 21060708090A0B0C consecutive frame, SN 1`

unfoldable pub line_of : (number : ℕ) → (row : List ℕ) → List ℕ
line_of number row =
    decimal number_places number
    ++ (direction_word (byte_at row 0)
    ++ (hex_text (drop 1 row) ++ (frame_words (byte_at row 1) (byte_at row 2) (byte_at row 3) ++ (LF ∷ []))))

-- "delivered "
abbrev pub delivered_word : List ℕ
delivered_word = 100 ∷ 101 ∷ 108 ∷ 105 ∷ 118 ∷ 101 ∷ 114 ∷ 101 ∷ 100 ∷ 32 ∷ []

-- `delivered 20`
unfoldable pub delivered_text : ℕ → List ℕ
delivered_text n = delivered_word ++ (decimal number_places n ++ (LF ∷ []))
