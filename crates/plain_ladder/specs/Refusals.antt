-- The one line that is printed where a word is wrong, in bytes.
use Rattle.std.specs.Prelude.{ℕ, List, [], ◌∷◌, ◌++◌}
use Rattle.text.specs.Answers.{LF}
use Rattle.plain_ladder.specs.declared.asked.Name.{Name}
use Rattle.plain_ladder.specs.declared.asked.Refusal.{Refusal}

-- "refused: "
abbrev pub refused_word : List ℕ
refused_word = 114 ∷ 101 ∷ 102 ∷ 117 ∷ 115 ∷ 101 ∷ 100 ∷ 58 ∷ 32 ∷ []

-- "LENGTH, BS and STMIN are wanted"
abbrev pub count_word : List ℕ
count_word = 76 ∷ 69 ∷ 78 ∷ 71 ∷ 84 ∷ 72 ∷ 44 ∷ 32 ∷ 66 ∷ 83 ∷ 32 ∷ 97 ∷ 110 ∷ 100 ∷ 32 ∷ 83 ∷ 84 ∷ 77 ∷ 73 ∷ 78 ∷ 32 ∷ 97 ∷ 114 ∷ 101 ∷ 32 ∷ 119 ∷ 97 ∷ 110 ∷ 116 ∷ 101 ∷ 100 ∷ []

-- " is no number of one to nine digits"
abbrev pub no_number_word : List ℕ
no_number_word = 32 ∷ 105 ∷ 115 ∷ 32 ∷ 110 ∷ 111 ∷ 32 ∷ 110 ∷ 117 ∷ 109 ∷ 98 ∷ 101 ∷ 114 ∷ 32 ∷ 111 ∷ 102 ∷ 32 ∷ 111 ∷ 110 ∷ 101 ∷ 32 ∷ 116 ∷ 111 ∷ 32 ∷ 110 ∷ 105 ∷ 110 ∷ 101 ∷ 32 ∷ 100 ∷ 105 ∷ 103 ∷ 105 ∷ 116 ∷ 115 ∷ []

-- " is not "
abbrev pub outside_word : List ℕ
outside_word = 32 ∷ 105 ∷ 115 ∷ 32 ∷ 110 ∷ 111 ∷ 116 ∷ 32 ∷ []

-- LENGTH, BS, STMIN
unfoldable pub name_word : Name → List ℕ
name_word Name.Length = 76 ∷ 69 ∷ 78 ∷ 71 ∷ 84 ∷ 72 ∷ []
name_word Name.Bs = 66 ∷ 83 ∷ []
name_word Name.Stmin = 83 ∷ 84 ∷ 77 ∷ 73 ∷ 78 ∷ []

-- 1 to 4095, 0 to 255, 0 to 127 or 241 to 249
unfoldable pub range_word : Name → List ℕ
range_word Name.Length = 49 ∷ 32 ∷ 116 ∷ 111 ∷ 32 ∷ 52 ∷ 48 ∷ 57 ∷ 53 ∷ []
range_word Name.Bs = 48 ∷ 32 ∷ 116 ∷ 111 ∷ 32 ∷ 50 ∷ 53 ∷ 53 ∷ []
range_word Name.Stmin = 48 ∷ 32 ∷ 116 ∷ 111 ∷ 32 ∷ 49 ∷ 50 ∷ 55 ∷ 32 ∷ 111 ∷ 114 ∷ 32 ∷ 50 ∷ 52 ∷ 49 ∷ 32 ∷ 116 ∷ 111 ∷ 32 ∷ 50 ∷ 52 ∷ 57 ∷ []

unfoldable pub refusal_words : Refusal → List ℕ
refusal_words Refusal.Count = count_word
refusal_words (Refusal.NoNumber name) = name_word name ++ no_number_word
refusal_words (Refusal.Outside name) = name_word name ++ (outside_word ++ range_word name)

-- `refused: LENGTH, BS and STMIN are wanted`, `refused: BS is no number of one to nine digits`, `refused: BS is not 0 to 255`
unfoldable pub refusal_text : Refusal → List ℕ
refusal_text refusal = refused_word ++ (refusal_words refusal ++ (LF ∷ []))
