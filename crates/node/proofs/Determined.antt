-- A promise determines everything: what a call leaves is the outcome of the rules, so two that meet a promise are equal, and what holds of
-- an outcome holds of the code.
use Prim.Native.Nat.{ℕ}
use Rattle.std.specs.Prelude.{Result, Ok, Err, ⊤, Option, Some, None, IfOk, IfSome, IfNone}
use mathlib.Core.Path.{◌≡◌, refl, sym, ap, ◌∙◌}
use mathlib.Core.Bool.{true, false, true≢false}
use mathlib.Core.List.{List, [], map}
use lib.ListN.{length}
use Rattle.rules.specs.Frames.{byte_at}
use Rattle.rules.specs.Nodes.{Held}
use Rattle.rules.specs.Refused.{refused_by}
use Rattle.rules.specs.Stores.{Outside}
use Rattle.rules.specs.Answers.{shown, set_up_says, frame_says, tick_says, send_says, turn_says, change_says}
use Rattle.rules.specs.Events.{frame, tick, send, turn, show, change, sender_of}
use Rattle.rules.specs.Calls.{Outcome, outcome, set_up_outcome, showable}
use Rattle.rules.specs.declared.Node.{Node}
use Rattle.rules.specs.declared.Card.{Card}
use Rattle.rules.specs.declared.Choice.{Choice}
use Rattle.rules.specs.declared.Codes.{Codes}
use Rattle.rules.specs.declared.Refusal.{Refusal}
use Rattle.rules.specs.declared.Code.{Code}
use Rattle.rules.specs.declared.Word.{Word}
use Rattle.rules.specs.declared.Heard.{Heard}
use Rattle.rules.specs.declared.Turn.{Turn}
use Rattle.rules.specs.declared.places.BerthNumber.{BerthNumber}
use Rattle.node.specs.Found.{numbered, shown_number}
use Rattle.node.specs.Promises.{lent, left, Agrees, SetUpPromise, FramePromise, TickPromise, SendPromise, TurnPromise, ShowPromise, ChangePromise, NeededPromise}
use Rattle.rules.proofs.Inside.{outside-stays}
use Rattle.rules.proofs.Answers.{paper-one}
use Rattle.rules.proofs.Refused.{above-zero, number-tells}
use Rattle.rules.proofs.Words.{said-tells, report-tells, word-tells, all-codes-tell}

-- outcomes that agree are equal
pub same : {o p : Outcome} → Agrees o p → o ≡ p
same {o} {p} e =
    ap (λ a. left a o.held o.buffer) (paper-one o.answer p.answer e.answer)
    ∙ ap (λ h. left p.answer h o.buffer) e.held
    ∙ ap (λ b. left p.answer p.held b) e.buffer

-- ---- what the code leaves is the rule's outcome

module _ (n : Node) (n' : Node) where
  pub set-up-is : (area block stmin : ℕ) (a : Result ⊤ Refusal) → SetUpPromise n area block stmin a n' → (cards : List Card) (incoming outgoing : List ℕ)
      → left (set_up_says a) (lent n' cards incoming outgoing) [] ≡ set_up_outcome (lent n cards incoming outgoing) area block stmin
  set-up-is area block stmin a p cards incoming outgoing = same (p cards incoming outgoing)

  pub send-is : (outgoing outgoing' : List ℕ) (k party : ℕ) (m : List ℕ) (a : Result ℕ Refusal) → SendPromise n outgoing k party m a n' outgoing'
      → (cards : List Card) (incoming : List ℕ)
      → left (send_says a) (lent n' cards incoming outgoing') [] ≡ outcome (lent n cards incoming outgoing) (send k party m)
  send-is outgoing outgoing' k party m a p cards incoming = same (p cards incoming)

  pub change-is : (k parameter value : ℕ) (a : Result ℕ Refusal) → ChangePromise n k parameter value a n' → (cards : List Card) (incoming outgoing : List ℕ)
      → left (change_says a) (lent n' cards incoming outgoing) [] ≡ outcome (lent n cards incoming outgoing) (change k parameter value)
  change-is k parameter value a p cards incoming outgoing = same (p cards incoming outgoing)

module _ (n : Node) (cards : List Card) (n' : Node) (cards' : List Card) where
  pub frame_is : (incoming incoming' : List ℕ) (id : ℕ) (d : List ℕ) (a : Result Heard Refusal)
      → FramePromise n cards incoming id d a n' cards' incoming'
      → (outgoing : List ℕ) → left (frame_says a) (lent n' cards' incoming' outgoing) [] ≡ outcome (lent n cards incoming outgoing) (frame id d)
  frame_is incoming incoming' id d a p outgoing = same (p outgoing)

  pub tick_is : (a : Result (List Codes) Refusal) → TickPromise n cards a n' cards' → (incoming outgoing : List ℕ)
      → left (tick_says a) (lent n' cards' incoming outgoing) [] ≡ outcome (lent n cards incoming outgoing) tick
  tick_is a p incoming outgoing = same (p incoming outgoing)

  pub turn_is : (outgoing buffer buffer' : List ℕ) (a : Result Turn Refusal) → TurnPromise n cards outgoing buffer a n' cards' buffer'
      → (incoming : List ℕ)
      → left (turn_says a buffer') (lent n' cards' incoming outgoing) buffer' ≡ outcome (lent n cards incoming outgoing) (turn buffer)
  turn_is outgoing buffer buffer' a p incoming = same (p incoming)

pub show-is : (n : Node) (incoming outgoing : List ℕ) (k : ℕ) (choice : Choice) (part : List ℕ) (in_at out_at part_at : ℕ × ℕ)
    → ShowPromise n incoming outgoing k choice part in_at out_at part_at
    → (cards : List Card)
    → left (shown part) (lent n cards incoming outgoing) [] ≡ outcome (lent n cards incoming outgoing) (show k choice)
show-is n incoming outgoing k choice part in_at out_at part_at p cards = same (p.agrees cards)

-- ---- what holds of a frame's outcome holds of the code

-- A FRAME CHANGES NO BYTE OUTSIDE ITS BERTH'S AREA, whatever arrives, and the store keeps its length
pub frame-outside-stays : (n : Node) (cards : List Card) (incoming : List ℕ) (id : ℕ) (d : List ℕ)
    (a : Result Heard Refusal) (n' : Node) (cards' : List Card) (incoming' : List ℕ) → FramePromise n cards incoming id d a n' cards' incoming'
    → ((i : ℕ) → Outside n.settings.area (sender_of id) i → byte_at incoming' i ≡ byte_at incoming i) × (length incoming' ≡ length incoming)
frame-outside-stays n cards incoming id d a n' cards' incoming' p =
    let after : incoming' ≡ (outcome (lent n cards incoming []) (frame id d)).held.incoming =
    ap (λ (o : Outcome). o.held.incoming) (frame_is n cards n' cards' incoming incoming' id d a p []) in
    let stays = outside-stays (lent n cards incoming []) id d in
    rw after (stays.0, stays.1)

-- ---- two answers of the code that say the same are the same

set-up-tells : (a b : Result ⊤ Refusal) → set_up_says a ≡ set_up_says b → a ≡ b
unfolding set_up_says
set-up-tells (Err r) (Err q) e = ap Err (number-tells r q (cc))
set-up-tells (Err r) (Ok done) e = cc
set-up-tells (Ok done) (Err r) e = cc
set-up-tells (Ok done) (Ok again) e = refl

frame-tells : (a b : Result Heard Refusal) → frame_says a ≡ frame_says b → a ≡ b
unfolding frame_says
frame-tells (Err r) (Err q) e = ap Err (number-tells r q (cc))
frame-tells (Err r) (Ok h) e = cc
frame-tells (Ok h) (Err r) e = cc
frame-tells (Ok h) (Ok g) e =
    ap (λ (k : ℕ). Ok (record { berth = k; old = h.old; word = h.word })) (cc)
    ∙ ap (λ (c : Option Code). Ok (record { berth = g.berth; old = c; word = h.word })) (said-tells h.old g.old (cc))
    ∙ ap (λ (w : Word). Ok (record { berth = g.berth; old = g.old; word = w })) (word-tells h.word g.word (cc))

tick-tells : (a b : Result (List Codes) Refusal) → tick_says a ≡ tick_says b → a ≡ b
unfolding tick_says
tick-tells (Err r) (Err q) e = ap Err (number-tells r q (cc))
tick-tells (Err r) (Ok l) e = cc
tick-tells (Ok l) (Err r) e = cc
tick-tells (Ok l) (Ok m) e = ap Ok (all-codes-tell l m (cc))

send-tells : (a b : Result ℕ Refusal) → send_says a ≡ send_says b → a ≡ b
unfolding send_says
send-tells (Err r) (Err q) e = ap Err (number-tells r q (cc))
send-tells (Err r) (Ok k) e = cc
send-tells (Ok k) (Err r) e = cc
send-tells (Ok k) (Ok l) e = cc

change-tells : (a b : Result ℕ Refusal) → change_says a ≡ change_says b → a ≡ b
unfolding change_says
change-tells (Err r) (Err q) e = ap Err (number-tells r q (cc))
change-tells (Err r) (Ok k) e = cc
change-tells (Ok k) (Err r) e = cc
change-tells (Ok k) (Ok l) e = cc

turn-tells : (b₁ b₂ : List ℕ) (a b : Result Turn Refusal) → turn_says a b₁ ≡ turn_says b b₂ → a ≡ b
unfolding turn_says
turn-tells b₁ b₂ (Err r) (Err q) e = ap Err (number-tells r q (cc))
turn-tells b₁ b₂ (Err r) (Ok (Turn.None p)) e = cc
turn-tells b₁ b₂ (Err r) (Ok (Turn.HandedOver i c p)) e = cc
turn-tells b₁ b₂ (Ok (Turn.None p)) (Err r) e = cc
turn-tells b₁ b₂ (Ok (Turn.None p)) (Ok (Turn.None q)) e = cc
turn-tells b₁ b₂ (Ok (Turn.None p)) (Ok (Turn.HandedOver i c q)) e = cc
turn-tells b₁ b₂ (Ok (Turn.HandedOver i c p)) (Err r) e = cc
turn-tells b₁ b₂ (Ok (Turn.HandedOver i c p)) (Ok (Turn.None q)) e = cc
turn-tells b₁ b₂ (Ok (Turn.HandedOver i c p)) (Ok (Turn.HandedOver j d q)) e =
    let report = report-tells c d (cc) (cc) in
    cc

-- ---- any two that meet a promise are equal

module _ (n : Node) (n₁ n₂ : Node) where
  pub set-up-determined : (area block stmin : ℕ) (a b : Result ⊤ Refusal) → SetUpPromise n area block stmin a n₁ → SetUpPromise n area block stmin b n₂
      → (a ≡ b) × (n₁ ≡ n₂)
  set-up-determined area block stmin a b p q =
      let e = set-up-is n n₁ area block stmin a p [] [] [] ∙ sym (set-up-is n n₂ area block stmin b q [] [] []) in
      (set-up-tells a b (ap (λ o. o.answer) e), ap (λ o. o.held.node) e)

  pub send-determined : (outgoing s₁ s₂ : List ℕ) (k party : ℕ) (m : List ℕ) (a b : Result ℕ Refusal)
      → SendPromise n outgoing k party m a n₁ s₁ → SendPromise n outgoing k party m b n₂ s₂ → (a ≡ b) × (n₁ ≡ n₂) × (s₁ ≡ s₂)
  send-determined outgoing s₁ s₂ k party m a b p q =
      let e = send-is n n₁ outgoing s₁ k party m a p [] [] ∙ sym (send-is n n₂ outgoing s₂ k party m b q [] []) in
      (send-tells a b (ap (λ o. o.answer) e), ap (λ o. o.held.node) e, ap (λ o. o.held.outgoing) e)

  pub change-determined : (k parameter value : ℕ) (a b : Result ℕ Refusal)
      → ChangePromise n k parameter value a n₁ → ChangePromise n k parameter value b n₂ → (a ≡ b) × (n₁ ≡ n₂)
  change-determined k parameter value a b p q =
      let e = change-is n n₁ k parameter value a p [] [] [] ∙ sym (change-is n n₂ k parameter value b q [] [] []) in
      (change-tells a b (ap (λ o. o.answer) e), ap (λ o. o.held.node) e)

-- a frame, a tick and a turn also determine the cards
module _ (n : Node) (cards : List Card) (n₁ n₂ : Node) (c₁ c₂ : List Card) where
  pub frame-determined : (incoming s₁ s₂ : List ℕ) (id : ℕ) (d : List ℕ) (a b : Result Heard Refusal)
      → FramePromise n cards incoming id d a n₁ c₁ s₁ → FramePromise n cards incoming id d b n₂ c₂ s₂
      → (a ≡ b) × (n₁ ≡ n₂) × (c₁ ≡ c₂) × (s₁ ≡ s₂)
  frame-determined incoming s₁ s₂ id d a b p q =
      let e = frame_is n cards n₁ c₁ incoming s₁ id d a p [] ∙ sym (frame_is n cards n₂ c₂ incoming s₂ id d b q []) in
      (frame-tells a b (ap (λ o. o.answer) e), ap (λ o. o.held.node) e, ap (λ o. o.held.cards) e, ap (λ o. o.held.incoming) e)

  pub tick-determined : (a b : Result (List Codes) Refusal) → TickPromise n cards a n₁ c₁ → TickPromise n cards b n₂ c₂ → (a ≡ b) × (n₁ ≡ n₂) × (c₁ ≡ c₂)
  tick-determined a b p q =
      let e = tick_is n cards n₁ c₁ a p [] [] ∙ sym (tick_is n cards n₂ c₂ b q [] []) in
      (tick-tells a b (ap (λ o. o.answer) e), ap (λ o. o.held.node) e, ap (λ o. o.held.cards) e)

  pub turn-determined : (outgoing buffer b₁ b₂ : List ℕ) (a b : Result Turn Refusal)
      → TurnPromise n cards outgoing buffer a n₁ c₁ b₁ → TurnPromise n cards outgoing buffer b n₂ c₂ b₂
      → (a ≡ b) × (n₁ ≡ n₂) × (c₁ ≡ c₂) × (b₁ ≡ b₂)
  turn-determined outgoing buffer b₁ b₂ a b p q =
      let e = turn_is n cards n₁ c₁ outgoing buffer b₁ a p [] ∙ sym (turn_is n cards n₂ c₂ outgoing buffer b₂ b q []) in
      (turn-tells b₁ b₂ a b (ap (λ o. o.answer) e), ap (λ o. o.held.node) e, ap (λ o. o.held.cards) e, ap (λ o. o.buffer) e)

shown-tells : (p q : List ℕ) → shown p ≡ shown q → p ≡ q
shown-tells p q e = cc

pub show-determined : (n : Node) (incoming outgoing : List ℕ) (k : ℕ) (choice : Choice) (p₁ p₂ : List ℕ) (in_at out_at at₁ at₂ : ℕ × ℕ)
    → ShowPromise n incoming outgoing k choice p₁ in_at out_at at₁ → ShowPromise n incoming outgoing k choice p₂ in_at out_at at₂
    → (p₁ ≡ p₂) × (at₁ ≡ at₂)
show-determined n incoming outgoing k choice p₁ p₂ in_at out_at at₁ at₂ p q =
    let e = same (p.agrees []) ∙ sym (same (q.agrees [])) in
    (shown-tells p₁ p₂ (ap (λ o. o.answer) e), p.starts [] ∙ sym (q.starts []))

pub needed-determined : (n r₁ r₂ : ℕ) → NeededPromise n r₁ → NeededPromise n r₂ → r₁ ≡ r₂
needed-determined n r₁ r₂ p q = p ∙ sym q

-- ---- what a call's tests find

pub found-determined : (m k : ℕ) (r s : Result ℕ Refusal) → refused_by r ≡ m → IfOk r (λ n. n ≡ k) → refused_by s ≡ m → IfOk s (λ n. n ≡ k) → r ≡ s
found-determined m k (Ok n) (Ok o) d e f g = ap Ok (e ∙ sym g)
found-determined m k (Ok n) (Err q) d e f g = absurd (above-zero q (f ∙ sym d))
found-determined m k (Err p) (Ok o) d e f g = absurd (above-zero p (d ∙ sym f))
found-determined m k (Err p) (Err q) d e f g = ap Err (number-tells p q (d ∙ sym f))

pub berth-determined : (m k : ℕ) (r s : Result BerthNumber Refusal) → refused_by r ≡ m → IfOk r (λ b. b.number ≡ k) → refused_by s ≡ m → IfOk s (λ b. b.number ≡ k)
    → numbered r ≡ numbered s
berth-determined m k (Ok b) (Ok c) d e f g = ap Ok (e ∙ sym g)
berth-determined m k (Ok b) (Err q) d e f g = absurd (above-zero q (f ∙ sym d))
berth-determined m k (Err p) (Ok c) d e f g = absurd (above-zero p (d ∙ sym f))
berth-determined m k (Err p) (Err q) d e f g = ap Err (number-tells p q (d ∙ sym f))

pub showable-determined : (h : Held) (k : ℕ) (r s : Option BerthNumber)
    → IfSome r (λ b. (showable h k ≡ true) × (b.number ≡ k)) → IfNone r (showable h k ≡ false)
    → IfSome s (λ b. (showable h k ≡ true) × (b.number ≡ k)) → IfNone s (showable h k ≡ false) → shown_number r ≡ shown_number s
showable-determined h k (Some b) (Some c) d e f g = ap Some (d.1 ∙ sym f.1)
showable-determined h k (Some b) None d e f g = absurd (true≢false (sym d.0 ∙ g))
showable-determined h k None (Some c) d e f g = absurd (true≢false (sym f.0 ∙ e))
showable-determined h k None None d e f g = refl
