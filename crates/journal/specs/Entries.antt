-- The entries of an answer, and the journal of a run. The party of a report is left out.
use Rattle.std.specs.Prelude.{ℕ, zero, suc, ◌+◌, ◌-◌, ◌≤◌, ◌≡◌, Bool, true, false, List, [], ◌∷◌, ◌++◌, length, take, replicate}
use Rattle.rules.specs.Tests.{pick}
use Rattle.rules.specs.Numbers.{N_OK}
use Rattle.rules.specs.Answers.{Answer, refused, ready, heard, codes, sent, handed, none, shown, changed, Side, receive, send, failed_side, for_taker}
use Rattle.rules.specs.Words.{Word, Delivered, Begun, Failed, Ignored, TooLong, Took, Going, Waiting, Codes}
use Rattle.journal.specs.Records.{receive_kind, send_kind}
use Rattle.journal.specs.declared.Entry.{Entry}
use Rattle.journal.specs.declared.entries.Entries.{Entries}
use Rattle.journal.specs.declared.Kind.{Kind}
use Rattle.journal.specs.declared.Kind.TheVariants.{Receive, Send}

-- kind: 1 receive, 2 send
unfoldable pub kind_of : Side → ℕ
kind_of receive = receive_kind
kind_of send = send_kind

-- the side of a kind
abbrev pub side_of : Kind → Side
side_of Receive = receive
side_of Send = send

-- ---- the entries of an answer, with the tick count that they carry

-- each nonzero report becomes one: of a berth's side its code, with this length
unfoldable pub noted : ℕ → Side → ℕ → ℕ → ℕ → List Entry
noted k side zero n t = []
noted k side (suc c) n t = record { kind = kind_of side; berth = k; code = suc c; length = n; tick = t } ∷ []

-- a message delivered has its length; Failed 5 is the receive side's, 6 and 9 are the send side's; TooLong itself gives none
unfoldable pub word_entries : ℕ → Word → ℕ → List Entry
word_entries k (Delivered n) t = noted k receive N_OK n t
word_entries k (Begun n) t = []
word_entries k (Failed c party) t = noted k (failed_side c) c 0 t
word_entries k (Ignored i) t = []
word_entries k TooLong t = []
word_entries k Took t = []
word_entries k Going t = []
word_entries k Waiting t = []

-- a tick's go by berth, receive before send
unfoldable pub codes_entries : ℕ → List Codes → ℕ → List Entry
codes_entries k [] t = []
codes_entries k (c ∷ cs) t = noted k receive c.receive 0 t ++ (noted k send c.send 0 t ++ codes_entries (suc k) cs t)

-- a frame's old reception comes first; a turn has that of a message's last frame, code 1; a refused call has none
unfoldable pub entries_of : Answer → ℕ → List Entry
entries_of (refused n) t = []
entries_of ready t = []
entries_of (heard k old w) t = noted k receive old 0 t ++ word_entries k w t
entries_of (codes cs) t = codes_entries 0 cs t
entries_of (sent k) t = []
entries_of (handed id frame code passed party) t = for_taker id (λ k. noted k send code 0 t) []
entries_of (none passed) t = []
entries_of (shown part) t = []
entries_of (changed k) t = []

-- ---- the entries as the code holds them: at most so many, at the front of a list; behind them stands none

-- no answer has more: a tick has two of each berth
abbrev pub most_entries : ℕ
most_entries = 20

abbrev pub no_entry : Entry
no_entry = record { kind = 0; berth = 0; code = 0; length = 0; tick = 0 }

unfoldable pub holding : List Entry → Entries
holding es = record { count = length es; list = es ++ replicate (most_entries - length es) no_entry }

abbrev pub listed : Entries → List Entry
listed es = take es.count es.list

-- some entries more stand behind those that are held, where they have room
abbrev pub Gains : Entries → List Entry → Entries → Type 0
Gains before more after = (es : List Entry) → before ≡ holding es → length es + length more ≤ most_entries → after ≡ holding (es ++ more)

-- ---- the journal of a run's answers, behind so many answered ticks

-- a tick that is answered
unfoldable pub is_tick : Answer → Bool
is_tick (refused n) = false
is_tick ready = false
is_tick (heard k old w) = false
is_tick (codes cs) = true
is_tick (sent k) = false
is_tick (handed id frame code passed party) = false
is_tick (none passed) = false
is_tick (shown part) = false
is_tick (changed k) = false

-- the answered ticks up to and including a call
unfoldable pub ticks_after : Answer → ℕ → ℕ
ticks_after a t = pick (is_tick a) (t + 1) t

unfoldable pub journal_from : ℕ → List Answer → List Entry
journal_from t [] = []
journal_from t (a ∷ rs) = entries_of a (ticks_after a t) ++ journal_from (ticks_after a t) rs

abbrev pub journal_of : List Answer → List Entry
journal_of rs = journal_from 0 rs
