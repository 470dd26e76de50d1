-- The promise of each call, one predicate each over what the call is given, its answer, and the node, cards, stores and buffer after it:
-- what the code leaves is the outcome of the rules at that call. Answers are compared as the paper numbers them.
use Rattle.std.specs.Prelude.{ℕ, ◌+◌, ◌*◌, ◌≡◌, Result, ⊤, List, []}
use Rattle.rules.specs.Tests.{pick}
use Rattle.rules.specs.Frames.{frames_needed}
use Rattle.rules.specs.Nodes.{Held}
use Rattle.rules.specs.Answers.{Answer, shown, set_up_says, frame_says, tick_says, send_says, turn_says, change_says, paper_of}
use Rattle.rules.specs.Events.{frame, tick, send, turn, show, change}
use Rattle.rules.specs.Calls.{Outcome, outcome, set_up_outcome, showable, chosen}
use Rattle.rules.specs.declared.Node.{Node}
use Rattle.rules.specs.declared.Card.{Card}
use Rattle.rules.specs.declared.Choice.{Choice}
use Rattle.rules.specs.declared.Codes.{Codes}
use Rattle.rules.specs.declared.Refusal.{Refusal}
use Rattle.rules.specs.declared.Heard.{Heard}
use Rattle.rules.specs.declared.Turn.{Turn}

-- ---- what a call is lent, what it leaves, and when two outcomes are the same

abbrev pub lent : Node → List Card → List ℕ → List ℕ → Held
lent n cards incoming outgoing = record { node = n; incoming = incoming; outgoing = outgoing; cards = cards }

abbrev pub left : Answer → Held → List ℕ → Outcome
left a h buffer = record { answer = a; held = h; buffer = buffer }

pub record Agrees (o p : Outcome) : Type 0 where
  pub answer : paper_of o.answer ≡ paper_of p.answer
  pub held : o.held ≡ p.held
  pub buffer : o.buffer ≡ p.buffer

-- ---- the promises. What a call is not given of stores and cards may be any, and it stays; a call without a buffer has the empty one

abbrev pub SetUpPromise : Node → ℕ → ℕ → ℕ → Result ⊤ Refusal → Node → Type 0
SetUpPromise n area block stmin a n' =
    (cards : List Card) (incoming outgoing : List ℕ) →
    Agrees (left (set_up_says a) (lent n' cards incoming outgoing) []) (set_up_outcome (lent n cards incoming outgoing) area block stmin)

abbrev pub FramePromise : Node → List Card → List ℕ → ℕ → List ℕ → Result Heard Refusal → Node → List Card → List ℕ → Type 0
FramePromise n cards incoming id d a n' cards' incoming' =
    (outgoing : List ℕ) →
    Agrees (left (frame_says a) (lent n' cards' incoming' outgoing) []) (outcome (lent n cards incoming outgoing) (frame id d))

abbrev pub TickPromise : Node → List Card → Result (List Codes) Refusal → Node → List Card → Type 0
TickPromise n cards a n' cards' =
    (incoming outgoing : List ℕ) →
    Agrees (left (tick_says a) (lent n' cards' incoming outgoing) []) (outcome (lent n cards incoming outgoing) tick)

abbrev pub SendPromise : Node → List ℕ → (berth party : ℕ) → List ℕ → Result ℕ Refusal → Node → List ℕ → Type 0
SendPromise n outgoing k party m a n' outgoing' =
    (cards : List Card) (incoming : List ℕ) →
    Agrees (left (send_says a) (lent n' cards incoming outgoing') []) (outcome (lent n cards incoming outgoing) (send k party m))

abbrev pub TurnPromise : Node → List Card → List ℕ → List ℕ → Result Turn Refusal → Node → List Card → List ℕ → Type 0
TurnPromise n cards outgoing buffer a n' cards' buffer' =
    (incoming : List ℕ) →
    Agrees (left (turn_says a buffer') (lent n' cards' incoming outgoing) buffer') (outcome (lent n cards incoming outgoing) (turn buffer))

-- where a part starts: a block of memory, and the place in it. Berth k's area in the chosen store, or the front of the incoming
-- store where nothing can be shown
abbrev pub starts_at : Held → ℕ → Choice → ℕ × ℕ → ℕ × ℕ → ℕ × ℕ
starts_at h k choice incoming outgoing =
    pick (showable h k)
    ((chosen choice incoming outgoing).0, k * h.node.settings.area + (chosen choice incoming outgoing).1)
    incoming

-- show is lent everything to look at only, so nothing else changes
pub record ShowPromise (n : Node) (incoming outgoing : List ℕ) (k : ℕ) (choice : Choice) (part : List ℕ) (in_at out_at part_at : ℕ × ℕ) : Type 0 where
  pub agrees :
      (cards : List Card) →
      Agrees (left (shown part) (lent n cards incoming outgoing) []) (outcome (lent n cards incoming outgoing) (show k choice))
  pub starts : (cards : List Card) → part_at ≡ starts_at (lent n cards incoming outgoing) k choice in_at out_at

-- a change takes no store and no card
abbrev pub ChangePromise : Node → (k parameter value : ℕ) → Result ℕ Refusal → Node → Type 0
ChangePromise n k parameter value a n' =
    (cards : List Card) (incoming outgoing : List ℕ) →
    Agrees (left (change_says a) (lent n' cards incoming outgoing) [])
    (outcome (lent n cards incoming outgoing) (change k parameter value))

abbrev pub NeededPromise : ℕ → ℕ → Type 0
NeededPromise n r = r ≡ frames_needed n
