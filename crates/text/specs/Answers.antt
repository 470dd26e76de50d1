-- "The exerciser": an answer as its text, in bytes.
use Rattle.std.specs.Prelude.{ℕ, suc, ◌/◌, ◌%◌, ◌&&◌, List, [], ◌∷◌, ◌++◌, length, eqb}
use Rattle.rules.specs.Tests.{pick}
use Rattle.rules.specs.Answers.{Answer, refused, ready, heard, codes, sent, handed, none, shown, changed}
use Rattle.rules.specs.Words.{Word, Delivered, Begun, Failed, Ignored, TooLong, Took, Going, Waiting, Codes}
use Rattle.text.specs.Building.{decimal, small_places, size_places, number_places, hex_text}

-- ---- the paper's words

-- "refused "
abbrev pub refused_word : List ℕ
refused_word = 114 ∷ 101 ∷ 102 ∷ 117 ∷ 115 ∷ 101 ∷ 100 ∷ 32 ∷ []

-- "berth "
abbrev pub berth_word : List ℕ
berth_word = 98 ∷ 101 ∷ 114 ∷ 116 ∷ 104 ∷ 32 ∷ []

-- " old "
abbrev pub old_word : List ℕ
old_word = 32 ∷ 111 ∷ 108 ∷ 100 ∷ 32 ∷ []

-- "tick"
abbrev pub tick_word : List ℕ
tick_word = 116 ∷ 105 ∷ 99 ∷ 107 ∷ []

-- "sent "
abbrev pub sent_word : List ℕ
sent_word = 115 ∷ 101 ∷ 110 ∷ 116 ∷ 32 ∷ []

-- "frame "
abbrev pub frame_word : List ℕ
frame_word = 102 ∷ 114 ∷ 97 ∷ 109 ∷ 101 ∷ 32 ∷ []

-- " passed "
abbrev pub passed_word : List ℕ
passed_word = 32 ∷ 112 ∷ 97 ∷ 115 ∷ 115 ∷ 101 ∷ 100 ∷ 32 ∷ []

-- " code "
abbrev pub code_word : List ℕ
code_word = 32 ∷ 99 ∷ 111 ∷ 100 ∷ 101 ∷ 32 ∷ []

-- "none"
abbrev pub none_word : List ℕ
none_word = 110 ∷ 111 ∷ 110 ∷ 101 ∷ []

-- " delivered "
abbrev pub delivered_word : List ℕ
delivered_word = 32 ∷ 100 ∷ 101 ∷ 108 ∷ 105 ∷ 118 ∷ 101 ∷ 114 ∷ 101 ∷ 100 ∷ 32 ∷ []

-- " begun "
abbrev pub begun_word : List ℕ
begun_word = 32 ∷ 98 ∷ 101 ∷ 103 ∷ 117 ∷ 110 ∷ 32 ∷ []

-- " failed "
abbrev pub failed_word : List ℕ
failed_word = 32 ∷ 102 ∷ 97 ∷ 105 ∷ 108 ∷ 101 ∷ 100 ∷ 32 ∷ []

-- " ignored "
abbrev pub ignored_word : List ℕ
ignored_word = 32 ∷ 105 ∷ 103 ∷ 110 ∷ 111 ∷ 114 ∷ 101 ∷ 100 ∷ 32 ∷ []

-- " toolong"
abbrev pub too_long_word : List ℕ
too_long_word = 32 ∷ 116 ∷ 111 ∷ 111 ∷ 108 ∷ 111 ∷ 110 ∷ 103 ∷ []

-- " took"
abbrev pub took_word : List ℕ
took_word = 32 ∷ 116 ∷ 111 ∷ 111 ∷ 107 ∷ []

-- " going"
abbrev pub going_word : List ℕ
going_word = 32 ∷ 103 ∷ 111 ∷ 105 ∷ 110 ∷ 103 ∷ []

-- " waiting"
abbrev pub waiting_word : List ℕ
waiting_word = 32 ∷ 119 ∷ 97 ∷ 105 ∷ 116 ∷ 105 ∷ 110 ∷ 103 ∷ []

-- "bad"
abbrev pub bad_word : List ℕ
bad_word = 98 ∷ 97 ∷ 100 ∷ []

-- "short"
abbrev pub short_word : List ℕ
short_word = 115 ∷ 104 ∷ 111 ∷ 114 ∷ 116 ∷ []

-- set-up, show and change have no line in the paper; these are the words of the scenes: "setup", "show", "changed "
abbrev pub setup_word : List ℕ
setup_word = 115 ∷ 101 ∷ 116 ∷ 117 ∷ 112 ∷ []

abbrev pub show_word : List ℕ
show_word = 115 ∷ 104 ∷ 111 ∷ 119 ∷ []

abbrev pub changed_word : List ℕ
changed_word = 99 ∷ 104 ∷ 97 ∷ 110 ∷ 103 ∷ 101 ∷ 100 ∷ 32 ∷ []

abbrev pub space : ℕ
space = 32

abbrev pub colon : ℕ
colon = 58

abbrev pub LF : ℕ
LF = 10

-- ---- the texts; the party of a report is not told

-- an identifier has four digits
unfoldable pub id_text : ℕ → List ℕ
id_text id = hex_text (id / 256 % 256 ∷ id % 256 ∷ [])

unfoldable pub word_text : Word → List ℕ
word_text (Delivered n) = delivered_word ++ decimal size_places n
word_text (Begun n) = begun_word ++ decimal size_places n
word_text (Failed c party) = failed_word ++ decimal small_places c
word_text (Ignored i) = ignored_word ++ decimal small_places i
word_text TooLong = too_long_word
word_text Took = took_word
word_text Going = going_word
word_text Waiting = waiting_word

-- a berth's two codes, nothing where it has none
unfoldable pub code_text : ℕ → Codes → List ℕ
code_text k c =
    pick (eqb c.receive 0 && eqb c.send 0) []
    (space ∷ (decimal small_places k ++ (colon ∷ (decimal small_places c.receive ++ (colon ∷ decimal small_places c.send)))))

unfoldable pub codes_text : ℕ → List Codes → List ℕ
codes_text k [] = []
codes_text k (c ∷ cs) = code_text k c ++ codes_text (suc k) cs

unfoldable pub words_of : Answer → List ℕ
words_of (refused n) = refused_word ++ decimal small_places n
words_of ready = setup_word
words_of (heard k old w) = berth_word ++ (decimal small_places k ++ (old_word ++ (decimal small_places old ++ word_text w)))
words_of (codes cs) = tick_word ++ codes_text 0 cs
words_of (sent k) = sent_word ++ decimal small_places k
words_of (handed id frame code passed party) =
    frame_word ++ (id_text id ++ (space ∷ (hex_text frame ++ (passed_word ++ (decimal small_places passed ++ (code_word ++ decimal small_places code))))))
words_of (none passed) = none_word
words_of (shown part) = pick (eqb (length part) 0) show_word (show_word ++ (space ∷ hex_text part))
words_of (changed k) = changed_word ++ decimal small_places k

-- the record's number, a space, the words, LF
unfoldable pub numbered_text : ℕ → List ℕ → List ℕ
numbered_text n words = decimal number_places n ++ (space ∷ (words ++ (LF ∷ [])))

unfoldable pub answer_text : ℕ → Answer → List ℕ
answer_text n answer = numbered_text n (words_of answer)

unfoldable pub bad_text : ℕ → List ℕ
bad_text n = numbered_text n bad_word

unfoldable pub short_text : ℕ → List ℕ
short_text n = numbered_text n short_word
