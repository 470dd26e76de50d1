-- Entries as the code holds them: one more stands behind those that are held, so a list of them, and so those of an answer, berth by berth;
-- and how many an answer has at most.
use Rattle.std.specs.Prelude.{Result, Ok, Err, None}
use mathlib.Core.Path.{◌≡◌, refl, sym, ap, ◌∙◌}
use Prim.Native.Nat.{ℕ, zero, suc, ◌+◌, ◌-◌, ◌*◌, ◌≤◌, ◌<◌}
use native.Mathlib.Omega.{arith}
use native.Mathlib.Numerals.{add-one}
use mathlib.Core.List.{List, [], ◌∷◌, ◌++◌, map, append_assoc, append-nil}
use lib.ListN.{length, get_or, take, drop, set, length-append, length-map, drop_of_length-le}
use lib.Dec.{leb}
use lib.Seq.{drop-cons, set-append_seam, take-append_seam}
use Rattle.rules.specs.Numbers.{to_berth, frame_size}
use Rattle.rules.specs.Answers.{Side, receive, send, failed_side, handed, frame_says, tick_says, turn_says}
use Rattle.rules.specs.Words.{Word, Codes, Delivered, Begun, Failed, Ignored, TooLong, Took, Going, Waiting, code_said, reported_code, reported_party, word_said, codes_said}
use Rattle.rules.specs.declared.Party.{Party}
use Rattle.rules.specs.declared.Refusal.{Refusal}
use Rattle.rules.specs.declared.Heard.{Heard}
use Rattle.rules.specs.declared.Turn.{Turn}
use Rattle.rules.specs.declared.Codes.{Codes as CodeCodes}
use Rattle.rules.proofs.Cases.{pick-either}
use Rattle.journal.specs.Entries.{kind_of, side_of, most_entries, holding, listed, Gains, noted, word_entries, codes_entries, entries_of}
use Rattle.journal.specs.declared.Entry.{Entry}
use Rattle.journal.specs.declared.entries.Entries.{Entries}
use Rattle.journal.specs.declared.Kind.{Kind}
use Rattle.journal.specs.declared.Kind.TheVariants.{Receive, Send}
use Rattle.journal.specs.Records.{kind_number}

-- ---- one entry more

abbrev added : Entries → Entry → Entries
added s e = record { count = s.count + 1; list = set s.list s.count e }

holding-more : (es : List Entry) (e : Entry) → length es < 20 → added (holding es) e ≡ holding (es ++ e ∷ [])
unfolding holding
holding-more es e h =
    let n : length (es ++ e ∷ []) ≡ length es + 1 = length-append es (e ∷ []) in
    let m : 20 - length es ≡ suc (20 - (length es + 1)) = omega arith in
    rw (n, m, set-append_seam, append_assoc)

pub gains-one : (s : Entries) (e : Entry) → Gains s (e ∷ []) (added s e)
gains-one s e es h room = ap (λ (q : Entries). added q e) h ∙ holding-more es e (omega arith)

pub gains-none : (s : Entries) → Gains s [] s
gains-none s es h room = h ∙ ap holding (sym (append-nil es))

pub gains-then : (s r q : Entries) (xs ys : List Entry) → Gains s xs r → Gains r ys q → Gains s (xs ++ ys) q
gains-then s r q xs ys f g es h room =
    let n : length (xs ++ ys) ≡ length xs + length ys = length-append xs ys in
    let m : length (es ++ xs) ≡ length es + length xs = length-append es xs in
    g (es ++ xs) (f es h (omega arith)) (omega arith) ∙ ap holding (append_assoc es xs ys)

pub gains-all : (n : ℕ) (s r : Entries) (more : List Entry) → s ≡ holding [] → Gains s more r → length more ≤ n → n ≤ 20 → r ≡ holding more
gains-all n s r more e f few small = f [] e (omega arith)

-- ---- and as they are read

pub listed-holding : (es : List Entry) → listed (holding es) ≡ es
unfolding holding
listed-holding es = take-append_seam es _

-- just those that are counted are held, with nothing behind
abbrev pub Holds : Entries → Type 0
Holds s = s ≡ holding (listed s)

pub holds-none : (s : Entries) → s ≡ holding [] → Holds s × (listed s ≡ [])
unfolding holding
holds-none s e = rw e (refl, refl)

pub holds-more : (s r : Entries) (more : List Entry) → Holds s → Gains s more r → s.count + length more ≤ 20
    → Holds r × (listed r ≡ listed s ++ more)
unfolding holding
holds-more s r more h gains room =
    let n : s.count ≡ length (listed s) = ap (λ (q : Entries). q.count) h in
    let e : r ≡ holding (listed s ++ more) = gains (listed s) h (omega arith) in
    let l : listed r ≡ listed s ++ more = ap listed e ∙ listed-holding (listed s ++ more) in
    (e ∙ ap holding (sym l), l)

abbrev pub no-codes : CodeCodes
no-codes = record { receive = None; send = None }

-- ---- what is reported

-- a code that is not 0 is one entry
pub noted_one : (k : ℕ) (s : Side) (c n t : ℕ) → (c ≡ 0 → ⊥) → noted k s c n t ≡ record { kind = kind_of s; berth = k; code = c; length = n; tick = t } ∷ []
unfolding noted
noted_one k s zero n t some = absurd (some refl)
noted_one k s (suc c) n t some = refl

-- and 0 none
pub noted_none : (k : ℕ) (s : Side) (c n t : ℕ) → c ≡ 0 → noted k s c n t ≡ []
unfolding noted
noted_none k s zero n t e = refl
noted_none k s (suc c) n t e = absurd (omega arith)

pub kind_side : (kind : Kind) → kind_number kind ≡ kind_of (side_of kind)
unfolding kind_of
kind_side Receive = refl
kind_side Send = refl

pub noted-most : (k : ℕ) (s : Side) (c n t : ℕ) → length (noted k s c n t) ≤ 1
unfolding noted
noted-most k s zero n t = omega arith
noted-most k s (suc c) n t = omega arith

pub word-most : (k : ℕ) (w : Word) (t : ℕ) → length (word_entries k w t) ≤ 1
unfolding word_entries
word-most k (Delivered n) t = noted-most k receive 1 n t
word-most k (Begun n) t = omega arith
word-most k (Failed c party) t = noted-most k (failed_side c) c 0 t
word-most k (Ignored i) t = omega arith
word-most k TooLong t = omega arith
word-most k Took t = omega arith
word-most k Going t = omega arith
word-most k Waiting t = omega arith

-- a frame has at most two
pub heard-most : (k old : ℕ) (w : Word) (t : ℕ) → length (noted k receive old 0 t ++ word_entries k w t) ≤ 2
heard-most k old w t = rw length-append (omega (arith, noted-most k receive old 0 t, word-most k w t))

-- ---- a tick's, berth by berth

-- a berth has at most two
pub two-most : (k receives sends t : ℕ) → length (noted k receive receives 0 t ++ noted k send sends 0 t) ≤ 2
two-most k receives sends t = rw length-append (omega (arith, noted-most k receive receives 0 t, noted-most k send sends 0 t))

-- one berth more
pub codes_more : (held noted' : List Entry) (cs : List CodeCodes) (k t : ℕ) → k < length cs
    → noted' ≡ noted k receive (code_said (get_or cs k no-codes).receive) 0 t ++ noted k send (reported_code (get_or cs k no-codes).send) 0 t
    → (held ++ noted') ++ codes_entries (k + 1) (map codes_said (drop (k + 1) cs)) t ≡ held ++ codes_entries k (map codes_said (drop k cs)) t
unfolding codes_entries
codes_more held noted' cs k t inside e =
    rw (e, append_assoc, append_assoc, drop-cons cs k no-codes inside, add-one) refl

-- none is left
pub codes_end : (held : List Entry) (cs : List CodeCodes) (k t : ℕ) → length cs ≤ k → held ++ codes_entries k (map codes_said (drop k cs)) t ≡ held
unfolding codes_entries
codes_end held cs k t over = rw (drop_of_length-le cs over) (append-nil held)

-- a tick that is answered has those of its codes
pub tick_codes : (a : Result (List CodeCodes) Refusal) (all : List CodeCodes) (t : ℕ) → a ≡ Ok all
    → codes_entries 0 (map codes_said all) t ≡ entries_of (tick_says a) t
unfolding tick_says entries_of
tick_codes a all t e = rw e refl

-- ---- at most two of a frame, twenty of a tick, one of a turn

pub codes-most : (k : ℕ) (cs : List Codes) (t : ℕ) → length (codes_entries k cs t) ≤ 2 * length cs
unfolding codes_entries
codes-most k [] t = omega arith
codes-most k (c ∷ cs) t =
    simp length-append
    (omega (arith, noted-most k receive c.receive 0 t, noted-most k send c.send 0 t, codes-most (suc k) cs t))

pub frame-few : (a : Result Heard Refusal) (t : ℕ) → length (entries_of (frame_says a) t) ≤ 2
unfolding frame_says entries_of
frame-few (Err why) t = omega arith
frame-few (Ok h) t = heard-most h.berth (code_said h.old) (word_said h.word) t

pub tick-few : (a : Result (List CodeCodes) Refusal) (t : ℕ) → ((all : List CodeCodes) → a ≡ Ok all → length all ≡ 10)
    → length (entries_of (tick_says a) t) ≤ most_entries
unfolding tick_says entries_of
tick-few (Err why) t ten = omega arith
tick-few (Ok all) t ten = omega (arith, codes-most 0 (map codes_said all) t, length-map all codes_said, ten all refl)

-- a turn has at most one, whatever its numbers
pub turn-most : (id : ℕ) (bytes : List ℕ) (code passed : ℕ) (party : Party) (t : ℕ) → length (entries_of (handed id bytes code passed party) t) ≤ 1
unfolding entries_of
turn-most id bytes code passed party t =
    pick-either (λ (es : List Entry). length es ≤ 1) (leb to_berth id) _ _ (λ u. noted-most (id - to_berth) send code 0 t) (λ u. omega arith)

pub turn-few : (a : Result Turn Refusal) (buffer : List ℕ) (t : ℕ) → length (entries_of (turn_says a buffer) t) ≤ 1
unfolding turn_says entries_of
turn-few (Err why) buffer t = omega arith
turn-few (Ok (Turn.None passed)) buffer t = omega arith
turn-few (Ok (Turn.HandedOver id report passed)) buffer t =
    turn-most id (take frame_size buffer) (reported_code report) passed (reported_party report) t
