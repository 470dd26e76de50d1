-- What the program prints, line by line: each frame of the exchange, and the number of bytes delivered; or one refusal.
use Rattle.std.specs.Prelude.{ℕ, zero, suc, ◌+◌, List, [], ◌∷◌, ◌++◌, length, take, drop, Result, Ok, Err}
use Rattle.laws.specs.Line.{Handed}
use Rattle.plain.specs.Engine.{row_size, row, exchange, delivered}
use Rattle.plain.specs.Promise.{settings}
use Rattle.records.specs.Records.{rising_from}
use Rattle.plain_ladder.specs.declared.asked.Refusal.{Refusal}
use Rattle.plain_ladder.specs.declared.exchange.Exchange.{Exchange}
use Rattle.plain_ladder.specs.Line.{line_of, delivered_text}
use Rattle.plain_ladder.specs.Refusals.{refusal_text}

-- ---- the lines

-- of the first rows of a list, numbered from this number on
unfoldable pub row_lines : (number rows : ℕ) → (list : List ℕ) → List (List ℕ)
row_lines number zero list = []
row_lines number (suc rows) list = line_of number (take row_size list) ∷ row_lines (number + 1) rows (drop row_size list)

-- of frames
unfoldable pub frame_lines : (number : ℕ) → List Handed → List (List ℕ)
frame_lines number [] = []
frame_lines number (h ∷ hs) = line_of number (row h) ∷ frame_lines (number + 1) hs

-- of an exchange
unfoldable pub exchange_lines : List Handed → List (List ℕ)
exchange_lines hs = frame_lines 1 hs ++ (delivered_text (length (delivered hs)) ∷ [])

-- the exchange of the rising message 00 01 02 .. of that length, to a taker with these settings
abbrev pub exchange_printed : Exchange → List (List ℕ)
exchange_printed e = exchange_lines (exchange (settings e.bs e.stmin) (rising_from 0 e.length))

unfoldable pub printed : Result Exchange Refusal → List (List ℕ)
printed (Ok e) = exchange_printed e
printed (Err refusal) = refusal_text refusal ∷ []
