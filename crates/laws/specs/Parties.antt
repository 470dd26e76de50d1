-- The service laptop: whose message a report of a send side is, and that all else is the same whichever of the two sends.
use Rattle.std.specs.Prelude.{ℕ, ◌≡◌, List, [], ◌∷◌, map}
use Rattle.rules.specs.Tests.{pick}
use Rattle.rules.specs.Numbers.{the_scheduler}
use Rattle.rules.specs.Parties.{party_allowed}
use Rattle.rules.specs.Nodes.{Held, with_tx, with_berths, with_node}
use Rattle.rules.specs.Answers.{Answer, refused, ready, heard, codes, sent, handed, none, shown, changed, send as send_side, Report, reports}
use Rattle.rules.specs.Events.{Call, frame, tick, send, turn, show, change, Event, arrives, ticks, sends, turns, changes}
use Rattle.rules.specs.Calls.{Outcome, outcome}
use Rattle.rules.specs.declared.Party.{Party}
use Rattle.rules.specs.declared.Tx.{Tx}
use Rattle.rules.specs.declared.Berth.{Berth}
use Rattle.rules.specs.declared.Node.{Node}
use Rattle.rules.specs.Words.{Codes, Word, Delivered, Begun, Failed, Ignored, TooLong, Took, Going, Waiting}
use Rattle.laws.specs.Own.{own, of_berth}
use Rattle.laws.specs.Sides.{of_side}

-- ---- each report of a send side names the party of the last answered send to that berth

-- the party of the last send among a berth's own events, which are answered; where there is none, as it was before them
unfoldable pub last_sender : Party → List Event → Party
last_sender last [] = last
last_sender last (arrives d ∷ es) = last_sender last es
last_sender last (ticks ∷ es) = last_sender last es
last_sender last (sends party m ∷ es) = last_sender party es
last_sender last (turns ∷ es) = last_sender last es
last_sender last (changes parameter value ∷ es) = last_sender last es

-- each of these reports names this party
unfoldable pub AllName : Party → List Report → Type 0
AllName party [] = Unit {0}
AllName party (r ∷ rs) = (r.party ≡ party) × AllName party rs

-- at each call of a run, what the answer reports of berth k's send side names the party of the last answered send to k before that call
unfoldable pub NamesLast : ℕ → Party → Held → List Call → Type 0
NamesLast k last h [] = Unit {0}
NamesLast k last h (c ∷ cs) =
    AllName last (of_side send_side (of_berth k (reports (outcome h c).answer))) × NamesLast k (last_sender last (own k h c)) (outcome h c).held cs

-- ---- the same without the party: 0 and 1 are not told apart; another number stays, since it is refused

abbrev pub unnamed : ℕ → ℕ
unnamed party = pick (party_allowed party) the_scheduler party

abbrev pub unnamed_party : Party → Party
unnamed_party party = record { 0 = unnamed party.0 }

-- a send side, a berth, the node, and what is lent
abbrev pub unnamed_side : Tx → Tx
unnamed_side Tx.Idle = Tx.Idle
unnamed_side (Tx.SingleDue party n t) = Tx.SingleDue (unnamed_party party) n t
unnamed_side (Tx.FirstDue party n t) = Tx.FirstDue (unnamed_party party) n t
unnamed_side (Tx.AwaitsFlow party o t) = Tx.AwaitsFlow (unnamed_party party) o t
unnamed_side (Tx.Consecutive party o t) = Tx.Consecutive (unnamed_party party) o t

abbrev pub unnamed_berth : Berth → Berth
unnamed_berth b = with_tx b (unnamed_side b.tx)

abbrev pub unnamed_node : Node → Node
unnamed_node n = with_berths n (map unnamed_berth n.berths)

abbrev pub unnamed_held : Held → Held
unnamed_held h = with_node h (unnamed_node h.node)

-- a call: a send names its party
abbrev pub unnamed_call : Call → Call
unnamed_call (frame id d) = frame id d
unnamed_call tick = tick
unnamed_call (send k party m) = send k (unnamed party) m
unnamed_call (turn buffer) = turn buffer
unnamed_call (show k choice) = show k choice
unnamed_call (change k parameter value) = change k parameter value

-- an answer: a Failed, the codes of a tick and a hand-over name it
abbrev pub unnamed_word : Word → Word
unnamed_word (Delivered n) = Delivered n
unnamed_word (Begun n) = Begun n
unnamed_word (Failed c party) = Failed c (unnamed_party party)
unnamed_word (Ignored i) = Ignored i
unnamed_word TooLong = TooLong
unnamed_word Took = Took
unnamed_word Going = Going
unnamed_word Waiting = Waiting

abbrev pub unnamed_codes : Codes → Codes
unnamed_codes c = record { receive = c.receive; send = c.send; party = unnamed_party c.party }

abbrev pub unnamed_answer : Answer → Answer
unnamed_answer (refused n) = refused n
unnamed_answer ready = ready
unnamed_answer (heard k old w) = heard k old (unnamed_word w)
unnamed_answer (codes cs) = codes (map unnamed_codes cs)
unnamed_answer (sent k) = sent k
unnamed_answer (handed id f code passed party) = handed id f code passed (unnamed_party party)
unnamed_answer (none passed) = none passed
unnamed_answer (shown part) = shown part
unnamed_answer (changed k) = changed k

-- and an outcome: both stores, the cards and the buffer are kept as they are, and so are the frames in the answers
abbrev pub unnamed_outcome : Outcome → Outcome
unnamed_outcome o = record { answer = unnamed_answer o.answer; held = unnamed_held o.held; buffer = o.buffer }

-- two runs that differ only in which of 0 and 1 their sends name, and in whom their starts name
pub record PartiesApart (h h' : Held) (cs cs' : List Call) : Type 0 where
  pub start : unnamed_held h ≡ unnamed_held h'
  pub calls : map unnamed_call cs ≡ map unnamed_call cs'
