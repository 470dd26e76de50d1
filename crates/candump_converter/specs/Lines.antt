-- The lines of an input, as far as each has room, and what an iterator over them gives.
use Rattle.std.specs.Prelude.{◌≡◌, ◌≢◌, ℕ, zero, suc, ◌-◌, ◌<◌, ◌≤◌, Bool, MatchBool, List, [], ◌∷◌, ◌++◌, All, length, drop, Option, Some, None, Result, Ok, Err, IfSome, if◌then◌else◌, ◌==◌}
use Rattle.std.specs.Io.KnownBytes.{Consumes}
use Rattle.std.specs.Option.{option_map}
use Rattle.arrayvec.specs.ArrayVec.{ArrayVec}
use Rattle.rules.specs.Tests.{pick}
use Rattle.candump.specs.Lines.{LF}
use Rattle.candump_converter.specs.declared.lines.Lines.{Lines}

-- no line of the form is longer
abbrev pub longest : ℕ
longest = 57

-- what stands up to the first LF, with it, and no more than so many bytes
unfoldable pub first_line : ℕ → List ℕ → List ℕ
first_line zero bytes = []
first_line (suc n) [] = []
first_line (suc n) (b ∷ bytes) = b ∷ pick (b == LF) [] (first_line n bytes)

-- at most so many lines of some bytes
unfoldable pub cut_lines : ℕ → List ℕ → List (List ℕ)
cut_lines zero bytes = []
cut_lines (suc k) bytes =
    if length bytes == 0 then [] else first_line longest bytes ∷ cut_lines k (drop (length (first_line longest bytes)) bytes)

-- the lines of a file, each with its LF; what stands behind the last LF is a line too, and one that is longer than a line may be comes in parts
unfoldable pub lines_of : List ℕ → List (List ℕ)
lines_of bytes = cut_lines (length bytes) bytes

-- those of an input, where its bytes are known
abbrev pub known_lines : Option (List ℕ) → Option (List (List ℕ))
known_lines = option_map lines_of

-- what still comes, where the input's bytes are known and the iterator has not given up
abbrev pub lines_left : {R : Type 0} → (R → Option (List ℕ)) → Lines R → Option (List (List ℕ))
lines_left remaining s = if s.turns == 0 then None else known_lines (remaining s.input)

-- a line that came, as its bytes
abbrev pub bytes_read : {E : Type 0} → Option (Result (ArrayVec ℕ) E) → Option (Result (List ℕ) E)
bytes_read None = None
bytes_read (Some (Ok line)) = Some (Ok line.items)
bytes_read (Some (Err e)) = Some (Err e)

-- Behind some bytes of a line a part of it was taken: the line ends with it, or it has some bytes and none is LF.
abbrev pub TakesPart : Option (List ℕ) → List ℕ → Bool → List ℕ → Option (List ℕ) → Type 0
TakesPart old before ends after new =
    (part : List ℕ) × (after ≡ before ++ part) × (length after ≤ longest) × Consumes old new part
    × MatchBool ends (IfSome old (λ bytes. part ≡ first_line (longest - length before) bytes)) ((0 < length part) × All (λ b. b ≢ LF) part)

-- the first line was taken
abbrev pub TakesLine : Option (List ℕ) → List ℕ → Option (List ℕ) → Type 0
TakesLine old line new = Consumes old new line × IfSome old (λ bytes. line ≡ first_line longest bytes)
