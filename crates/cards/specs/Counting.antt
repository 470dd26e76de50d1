-- What a call may count, and what it counts, beside the rules.
use Rattle.std.specs.Prelude.{ℕ, Bool, true, false}
use Rattle.rules.specs.Cards.{tick_adds}
use Rattle.rules.specs.Words.{Word, Delivered, Begun, Failed, Ignored, TooLong, Took, Going, Waiting}
use Rattle.rules.specs.declared.Adds.{Adds}

-- a word with which something may be counted
abbrev pub word_counts : Word → Bool
word_counts (Delivered n) = true
word_counts (Begun n) = true
word_counts (Failed c party) = true
word_counts (Ignored i) = false
word_counts TooLong = true
word_counts Took = false
word_counts Going = false
word_counts Waiting = false

-- a tick, by the code with which a reception failed and the send code, 0 for none
unfoldable pub end_adds : ℕ → ℕ → Adds
end_adds failed send = tick_adds true failed send
