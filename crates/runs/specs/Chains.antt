-- A run of the code: a chain of calls, the same node, the same two stores and the same list of cards throughout. Of a call only its
-- promise is known.
use Rattle.std.specs.Prelude.{ℕ, ◌<◌, ◌≡◌, Result, Ok, List, [], ◌∷◌, ◌++◌, map}
use Rattle.rules.specs.Numbers.{berth_count}
use Rattle.rules.specs.Nodes.{berth_at, Held, with_node, with_incoming, with_outgoing, with_cards}
use Rattle.rules.specs.Events.{Call, frame, tick, send, turn, show, change, Event}
use Rattle.rules.specs.Answers.{Answer, shown, send as send_side, reports, frame_says, tick_says, send_says, turn_says, change_says}
use Rattle.rules.specs.Calls.{Outcome, outcome}
use Rattle.rules.specs.Alone.{Part, part_of}
use Rattle.rules.specs.declared.Party.{Party}
use Rattle.rules.specs.declared.Choice.{Choice}
use Rattle.rules.specs.declared.Settings.{Settings}
use Rattle.rules.specs.declared.BerthSettings.{BerthSettings}
use Rattle.rules.specs.declared.Node.{Node}
use Rattle.rules.specs.declared.Card.{Card}
use Rattle.rules.specs.declared.Codes.{Codes}
use Rattle.rules.specs.declared.Refusal.{Refusal}
use Rattle.rules.specs.declared.Heard.{Heard}
use Rattle.rules.specs.declared.Turn.{Turn}
use Rattle.node.specs.Promises.{left, SetUpPromise, FramePromise, TickPromise, SendPromise, TurnPromise, ShowPromise, ChangePromise}
use Rattle.laws.specs.Own.{own, says_of, of_berth, fresh_part, Alone}
use Rattle.laws.specs.Histories.{Moment, moments}
use Rattle.laws.specs.Rounds.{DueAt}
use Rattle.laws.specs.Sides.{of_side}
use Rattle.laws.specs.Parties.{last_sender, AllName}

-- one call of the code: it was given h, and answered and left this, of which its promise alone is known. A store that it is not given, and
-- cards that it is not given, are as they were
pub data Step (h : Held) : Call → Outcome → Type 0 where
  frame_step : (id : ℕ) (d : List ℕ) (a : Result Heard Refusal) (n : Node) (cards : List Card) (incoming : List ℕ)
      → FramePromise h.node h.cards h.incoming id d a n cards incoming
      → Step h (frame id d) (left (frame_says a) (with_cards (with_incoming (with_node h n) incoming) cards) [])
  tick_step : (a : Result (List Codes) Refusal) (n : Node) (cards : List Card) → TickPromise h.node h.cards a n cards
      → Step h tick (left (tick_says a) (with_cards (with_node h n) cards) [])
  send_step : (k party : ℕ) (m : List ℕ) (a : Result ℕ Refusal) (n : Node) (outgoing : List ℕ) → SendPromise h.node h.outgoing k party m a n outgoing
      → Step h (send k party m) (left (send_says a) (with_outgoing (with_node h n) outgoing) [])
  turn_step : (buffer : List ℕ) (a : Result Turn Refusal) (n : Node) (cards : List Card) (buffer' : List ℕ)
      → TurnPromise h.node h.cards h.outgoing buffer a n cards buffer'
      → Step h (turn buffer) (left (turn_says a buffer') (with_cards (with_node h n) cards) buffer')
  show_step : (k : ℕ) (choice : Choice) (part : List ℕ) (in_at out_at part_at : ℕ × ℕ)
      → ShowPromise h.node h.incoming h.outgoing k choice part in_at out_at part_at
      → Step h (show k choice) (left (shown part) h [])
  change_step : (k parameter value : ℕ) (a : Result ℕ Refusal) (n : Node) → ChangePromise h.node k parameter value a n
      → Step h (change k parameter value) (left (change_says a) (with_node h n) [])

-- a call that was made, and what it answered and left
pub record Made : Type 0 where
  pub call : Call
  pub out : Outcome

-- a chain: each call is given what the one before it left
unfoldable pub Chain : Held → List Made → Type 0
Chain h [] = Unit {0}
Chain h (m ∷ ms) = Step h m.call m.out × Chain m.out.held ms

-- a set-up that the code answered with Ready, and a chain on the node that it left, the stores and the cards, which it does not touch
pub record AfterSetUp (h : Held) (s : Settings) (alike : BerthSettings) (n : Node) (ms : List Made) : Type 0 where
  pub ready : SetUpPromise h.node s.area alike.block alike.stmin (Ok tt) n
  pub chain : Chain (with_node h n) ms

-- a run of the rules as a chain: the calls of a list, each with the rule's outcome
unfoldable pub made_of : Held → List Call → List Made
made_of h [] = []
made_of h (c ∷ cs) = record { call = c; out = outcome h c } ∷ made_of (outcome h c).held cs

-- ---- what a chain said and left, read off its calls

-- its calls, its outcomes, its answers, and what the last call left
abbrev pub calls_of : List Made → List Call
calls_of ms = map (λ (m : Made). m.call) ms

abbrev pub outcomes_by : List Made → List Outcome
outcomes_by ms = map (λ (m : Made). m.out) ms

abbrev pub said_by : List Made → List Answer
said_by ms = map (λ (m : Made). m.out.answer) ms

unfoldable pub left_by : Held → List Made → Held
left_by h [] = h
left_by h (m ∷ ms) = left_by m.out.held ms

-- berth k's own events, each call at what it was given
unfoldable pub own_in : ℕ → Held → List Made → List Event
own_in k h [] = []
own_in k h (m ∷ ms) = own k h m.call ++ own_in k m.out.held ms

-- berth k has a frame due at each answered call for a frame
unfoldable pub DueIn : ℕ → Held → List Made → Type 0
DueIn k h [] = Unit {0}
DueIn k h (m ∷ ms) = DueAt k h m.call × DueIn k m.out.held ms

-- berth k's history in it: at each of its own events the receive side that the call was given, and what the code's answer says of k
unfoldable pub history_in : ℕ → Held → List Made → List Moment
history_in k h [] = []
history_in k h (m ∷ ms) =
    moments (berth_at h.node k).rx (own k h m.call) (says_of k m.out.answer) ++ history_in k m.out.held ms

-- at each call, what the code's answer reports of berth k's send side names the party of the last answered send to k before that call
unfoldable pub NamesIn : ℕ → Party → Held → List Made → Type 0
NamesIn k last h [] = Unit {0}
NamesIn k last h (m ∷ ms) =
    AllName last (of_side send_side (of_berth k (reports m.out.answer))) × NamesIn k (last_sender last (own k h m.call)) m.out.held ms

-- what isolation says of the answers and of what is left after a set-up, of every berth
abbrev pub EachAlone : Held → Settings → BerthSettings → Node → List Made → Type 0
EachAlone h s alike n ms =
    (k : ℕ) → k < berth_count → Alone s (fresh_part h s alike k) k (with_node h n) (own_in k (with_node h n) ms) (said_by ms) (left_by (with_node h n) ms)

-- a run after a set-up and one call more, which is given berth k's part p and is k's own event e: isolation holds with it and without it
pub record OneMore (h : Held) (s : Settings) (alike : BerthSettings) (n : Node) (ms : List Made) (k : ℕ) (p : Part) (e : Event) (m : Made) : Type 0 where
  pub small : k < berth_count
  pub given : part_of k (left_by (with_node h n) ms) ≡ p
  pub its : own k (left_by (with_node h n) ms) m.call ≡ e ∷ []
  pub without : EachAlone h s alike n ms
  pub with : EachAlone h s alike n (ms ++ m ∷ [])
