-- What a frame leaves at a berth and what it did there, read as the rules say it: where a rule has bytes and their place, the code has
-- put them down in the berth's area.
use Rattle.std.specs.Prelude.{ℕ, ◌≡◌, Bool, false, List, length, eqb}
use Rattle.std.proofs.lemmas.List.Edits.{sets}
use Rattle.rules.specs.Tests.{pick}
use Rattle.rules.specs.Numbers.{single_kind, first_kind, consecutive_kind, flow_kind, no_data, other_kind, wrong_length, not_awaited}
use Rattle.rules.specs.Frames.{kind, single_fits, first_fits, consecutive_fits}
use Rattle.rules.specs.Words.{code_said, word_said}
use Rattle.rules.specs.Arrivals.{Heard, Told, Came, ignored, single_came, first_came, missing, consecutive_came}
use Rattle.rules.specs.declared.Settings.{Settings}
use Rattle.rules.specs.declared.Rx.{Rx}
use Rattle.rules.specs.declared.Tx.{Tx}
use Rattle.rules.specs.declared.Berth.{Berth}
use Rattle.rules.specs.declared.Word.{Word}
use Rattle.arrivals.specs.declared.Arrival.{Arrival}

-- the berth after it, the old code and the word
abbrev pub Answers : Came → Arrival → Berth → Type 0
Answers came answer berth =
    (berth ≡ came.berth) × (code_said answer.old ≡ came.old) × (word_said answer.word ≡ came.word)

-- and the area with the bytes put down
abbrev pub Leaves : Came → Arrival → Berth → (area area' : List ℕ) → Type 0
Leaves came answer berth area area' = Answers came answer berth × (area' ≡ sets area came.place came.bytes)

abbrev pub told_of : Tx × Word → Told
told_of r = record { tx = r.0; word = word_said r.1 }

-- ---- a frame at one berth, by the side that it touches

-- flow control: the frame has data, and its kind says so
unfoldable pub is_flow : List ℕ → Bool
is_flow d = pick (eqb (length d) 0) false (eqb (kind d) flow_kind)

-- what any other frame makes of a receive side: no data and other kinds come first, then the tests of the kind
unfoldable pub rx_came : Settings → ℕ → Rx → ℕ → List ℕ → Heard
rx_came s bs rx last d =
    pick (eqb (length d) 0) (ignored no_data rx last)
    (pick (eqb (kind d) single_kind) (single_came rx last d)
    (pick (eqb (kind d) first_kind) (first_came s rx last d)
    (pick (eqb (kind d) consecutive_kind) (consecutive_came bs rx last d)
    (ignored other_kind rx last))))

-- why such a frame is ignored: the number of the reason, 0 where it is not
abbrev pub unless_fits : Bool → ℕ
unless_fits fits = pick fits 0 wrong_length

abbrev pub why_consecutive : Rx → List ℕ → ℕ
why_consecutive Rx.Idle d = not_awaited
why_consecutive (Rx.OwesOverflow t) d = not_awaited
why_consecutive (Rx.OwesGo p t) d = not_awaited
why_consecutive (Rx.Awaits p t) d = unless_fits (consecutive_fits (missing p) d)

unfoldable pub why_ignored : Rx → List ℕ → ℕ
why_ignored rx d =
    pick (eqb (length d) 0) no_data
    (pick (eqb (kind d) single_kind) (unless_fits (single_fits d))
    (pick (eqb (kind d) first_kind) (unless_fits (first_fits d))
    (pick (eqb (kind d) consecutive_kind) (why_consecutive rx d)
    other_kind)))
