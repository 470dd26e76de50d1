-- Five poor nodes, and one that counts nothing, shut out by the promises at every input
-- that the paper answers. A promise says that the call left the rule's outcome, and each poor node's is another one.
use Prim.Native.Nat.{ℕ, suc, ◌+◌, ◌-◌, ◌*◌, ◌≤◌, ◌<◌}
use native.Mathlib.Omega.{arith}
use native.Mathlib.Nat.{mul-le-mul_right}
use Rattle.std.specs.Prelude.{Result, Ok, Err, ⊤, Option}
use mathlib.Core.Path.{◌≡◌, refl, sym, ap, ◌∙◌}
use mathlib.Core.Bool.{false}
use mathlib.Core.List.{List, [], ◌∷◌, ◌++◌, append_assoc}
use lib.ListN.{length, get_or, take, drop, replicate}
use lib.Seq.{sets, sets-eq, take_at, drop_at, get_or-set_same, length-take-le}
use lib.Dec.{T, eqb, ltb}
use Rattle.rules.specs.Tests.{all, first_unmet}
use Rattle.rules.specs.Numbers.{berth_count, to_berth, timeout, consecutive_kind, frame_size, out_of_order, bad_setting}
use Rattle.rules.specs.Nodes.{fresh, with_rx, blank_node, berth_at, with_berth, Held}
use Rattle.rules.specs.Ranges.{settings_allowed, in_block, taking_in_range, berth_in_order, in_order}
use Rattle.rules.specs.Frames.{kind, low, single_fits, short_length, announced, first_fits, consecutive_fits, share}
use Rattle.rules.specs.Arrivals.{single_came, begun, first_came, missing, piece, heard_by, by_kind, frame_came}
use Rattle.rules.specs.Ticks.{ran, closer, rx_ticked, tx_ticked, ticked}
use Rattle.rules.specs.Turns.{due}
use Rattle.rules.specs.Changes.{value_allowed, changed_settings, changed as changed_berth}
use Rattle.rules.specs.Cards.{zero_card, right_cards, card_at, frozen, added, added_at, frame_adds}
use Rattle.rules.specs.Events.{Call, frame, tick, send, turn, show, change, sender_of}
use Rattle.rules.specs.Stores.{right_store, area_of, stored, distance, least_distance, passed_over, reached, came_at, handed_at}
use Rattle.rules.specs.Answers.{Answer, refused, ready, heard, codes, sent, handed, none, shown, changed, set_up_says, frame_says, tick_says, send_says, turn_says, change_says, word_paper}
use Rattle.rules.specs.Refusals.{needs, refusal, set_up_refusal}
use Rattle.rules.specs.Calls.{Outcome, showable, shown_length, showing, after_frame, done, reply, written, refused_outcome, outcome, set_up_outcome}
use Rattle.rules.specs.declared.BerthSettings.{BerthSettings}
use Rattle.rules.specs.declared.Taking.{Taking}
use Rattle.rules.specs.declared.Sending.{Sending}
use Rattle.rules.specs.declared.Rx.{Rx}
use Rattle.rules.specs.declared.Tx.{Tx}
use Rattle.rules.specs.declared.Berth.{Berth}
use Rattle.rules.specs.declared.Party.{Party}
use Rattle.rules.specs.declared.Node.{Node}
use Rattle.rules.specs.declared.Card.{Card}
use Rattle.rules.specs.Refused.{number_of}
use Rattle.rules.specs.Words.{Begun, reported_code, reported_party}
use Rattle.rules.specs.declared.Choice.{Choice}
use Rattle.rules.specs.declared.Codes.{Codes}
use Rattle.rules.specs.declared.Refusal.{Refusal}
use Rattle.rules.specs.declared.Report.{Report}
use Rattle.rules.specs.declared.Heard.{Heard}
use Rattle.rules.specs.declared.Turn.{Turn}
use Rattle.rules.proofs.Cases.{Tested, holds, fails, eqb-cases, ltb-cases, pick-either}
use Rattle.rules.proofs.Ranges.{in-order-range}
use Rattle.rules.proofs.Areas.{area-length, area_same}
use Rattle.rules.proofs.Order.{berth-ticked}
use Rattle.rules.proofs.Round.{passed-ten, reached-due}
use Rattle.rules.proofs.Facts.{consecutive-came, frame-area}
use Rattle.rules.proofs.Answered.{frame-answered, send-answered, turn-answered, change-answered}
use Rattle.rules.proofs.Inside.{answered-inside}
use Rattle.node.specs.Promises.{lent, left, Agrees, SetUpPromise, FramePromise, TickPromise, SendPromise, TurnPromise, ShowPromise, ChangePromise}
use Rattle.node.proofs.Determined.{same}

-- two numbers that are not the same
clash : {X : Type 0} → ◌≡◌ {A = ℕ} 0 1 → X
clash e = absurd (omega arith)

-- a call that the paper answers leaves what the rules say
answered : (h : Held) (c : Call) {o : Outcome} → refusal h c ≡ 0 → Agrees o (outcome h c) → o ≡ left (reply h c) (done h c) (written h c)
unfolding outcome
answered h c e a = same a ∙ rw e

-- ---- one that refuses everything

replied : (h : Held) (c : Call) (number : ℕ) → reply h c ≡ refused number → ⊥
unfolding reply
replied h (frame id d) number = λ e. clash (cc)
replied h tick number = λ e. clash (cc)
replied h (send k party m) number = λ e. clash (cc)
replied h (turn buffer) number = pick-either (λ (a : Answer). a ≡ refused number → ⊥) (ltb (passed_over h.node) berth_count) _ _ (λ t e. clash (cc)) (λ t e. clash (cc))
replied h (show k choice) number = λ e. clash (cc)
replied h (change k parameter value) number = λ e. clash (cc)

-- REFUSING EVERYTHING: at every call that the paper answers, every refusal number is shut out
pub not-refusing : (h : Held) (number : ℕ) (c : Call) {g : Held} {b : List ℕ} → refusal h c ≡ 0 → Agrees (left (refused number) g b) (outcome h c) → ⊥
not-refusing h number c e a = replied h c number (sym (ap (λ (o : Outcome). o.answer) (answered h c e a)))

-- and every number at every set-up that the paper answers
pub not-refusing-any-set-up : (h : Held) (number a bs stmin : ℕ) {g : Held} {b : List ℕ} → set_up_refusal a bs stmin ≡ 0
    → Agrees (left (refused number) g b) (set_up_outcome h a bs stmin) → ⊥
unfolding set_up_outcome
not-refusing-any-set-up h number a bs stmin e p =
    let z : ready ≡ refused number = sym (ap (λ (o : Outcome). o.answer) (same p) ∙ rw e) in
    clash (cc)

module _ (h : Held) (n : Node) (why : Refusal) where
  -- so is every refusal at every frame, tick, send, turn and change that the paper answers, and at every such set-up
  pub not-refusing-frame : (id : ℕ) (d : List ℕ) (cards : List Card) (incoming : List ℕ) → refusal h (frame id d) ≡ 0
      → FramePromise h.node h.cards h.incoming id d (Err why) n cards incoming → ⊥
  unfolding frame_says
  not-refusing-frame id d cards incoming e p = not-refusing h (number_of why) (frame id d) e (p h.outgoing)

  pub not-refusing-tick : (cards : List Card) → refusal h tick ≡ 0 → TickPromise h.node h.cards (Err why) n cards → ⊥
  unfolding tick_says
  not-refusing-tick cards e p = not-refusing h (number_of why) tick e (p h.incoming h.outgoing)

  pub not-refusing-send : (k party : ℕ) (m outgoing : List ℕ) → refusal h (send k party m) ≡ 0
      → SendPromise h.node h.outgoing k party m (Err why) n outgoing → ⊥
  unfolding send_says
  not-refusing-send k party m outgoing e p = not-refusing h (number_of why) (send k party m) e (p h.cards h.incoming)

  pub not-refusing-turn : (buffer buffer' : List ℕ) (cards : List Card) → refusal h (turn buffer) ≡ 0
      → TurnPromise h.node h.cards h.outgoing buffer (Err why) n cards buffer' → ⊥
  unfolding turn_says
  not-refusing-turn buffer buffer' cards e p = not-refusing h (number_of why) (turn buffer) e (p h.incoming)

  pub not-refusing-change : (k parameter value : ℕ) → refusal h (change k parameter value) ≡ 0
      → ChangePromise h.node k parameter value (Err why) n → ⊥
  unfolding change_says
  not-refusing-change k parameter value e p = not-refusing h (number_of why) (change k parameter value) e (p h.cards h.incoming h.outgoing)

  pub not-refusing-set-up : (a bs stmin : ℕ) → set_up_refusal a bs stmin ≡ 0
      → SetUpPromise h.node a bs stmin (Err why) n → ⊥
  unfolding set_up_says
  not-refusing-set-up a bs stmin e p = not-refusing-any-set-up (lent h.node h.cards h.incoming h.outgoing) (number_of why) a bs stmin e (p h.cards h.incoming h.outgoing)

-- ---- one with a fixed answer: of two calls that the rules answer otherwise, one shuts it out

-- what is one number at x and another at y is not the same at both
not-both : {X : Type 0} (P : X → Type 0) (x y : X) (r a b : ℕ) → (a ≡ b → ⊥) → (P x → r ≡ a) → (P y → r ≡ b) → (z : X) × (P z → ⊥)
not-both P x y r a b ne f g = go (eqb-cases r a)
  where
    go : Tested (eqb r a) (r ≡ a) (r ≡ a → ⊥) → (z : _) × (P z → ⊥)
    go (holds t e) = (y, λ p. ne (sym e ∙ g p))
    go (fails t e) = (x, λ p. e (f p))

-- the number that an answer names: the refusal, the length delivered, the berth sent to or changed, the berths passed over, the bytes shown
abbrev named : Answer → ℕ
named (refused n) = n
named ready = 0
named (heard k old w) = get_or (word_paper w) 1 0
named (codes cs) = 0
named (sent k) = k
named (handed id f c passed party) = passed
named (none passed) = passed
named (shown part) = length part
named (changed k) = k

names : (h : Held) (c : Call) {o : Outcome} → refusal h c ≡ 0 → Agrees o (outcome h c) → named o.answer ≡ named (reply h c)
names h c e a = ap (λ (o : Outcome). named o.answer) (answered h c e a)

-- A FIXED ANSWER TO A FRAME: at every node and store, of a single frame of one byte and one of two one shuts it out
pub not-fixed-frame : (h : Held) (id : ℕ) → refusal h (frame id (0x01 ∷ 7 ∷ [])) ≡ 0 → refusal h (frame id (0x02 ∷ 7 ∷ 8 ∷ [])) ≡ 0
    → (a : Result Heard Refusal)
    → (d : List ℕ) × ((n : Node) × (cards : List Card) × (incoming : List ℕ) × FramePromise h.node h.cards h.incoming id d a n cards incoming → ⊥)
unfolding reply came_at frame_came by_kind kind low heard_by single_came single_fits word_paper
not-fixed-frame h id e f a =
    not-both (λ d. (n : Node) × (cards : List Card) × (incoming : List ℕ) × FramePromise h.node h.cards h.incoming id d a n cards incoming)
    (0x01 ∷ 7 ∷ []) (0x02 ∷ 7 ∷ 8 ∷ []) (named (frame_says a)) 1 2 (λ z. omega arith)
    (λ p. names h (frame id (0x01 ∷ 7 ∷ [])) e (p.3 h.outgoing))
    (λ p. names h (frame id (0x02 ∷ 7 ∷ 8 ∷ [])) f (p.3 h.outgoing))

-- the place of a berth's first byte lies in a store of ten areas
in-store : (a k size : ℕ) → 1 ≤ a → k < berth_count → size ≡ berth_count * a → k * a + 0 < size
in-store a k size some l e = let m : suc k * a ≤ berth_count * a = mul-le-mul_right a l in omega arith

first_byte : (h : Held) (id x : ℕ) (a : Result Heard Refusal) (n : Node) (cards : List Card) (incoming : List ℕ) → refusal h (frame id (0x01 ∷ x ∷ [])) ≡ 0
    → FramePromise h.node h.cards h.incoming id (0x01 ∷ x ∷ []) a n cards incoming → get_or incoming (sender_of id * h.node.settings.area + 0) 0 ≡ x
unfolding done after_frame stored came_at frame_came by_kind kind low heard_by single_came single_fits
first_byte h id x a n cards incoming e p =
    let ok = frame-answered h id (0x01 ∷ x ∷ []) e in
    let range = (in-order-range h.node ok.order).settings.area-least in
    ap (λ (o : Outcome). get_or o.held.incoming (sender_of id * h.node.settings.area + 0) 0) (answered h (frame id (0x01 ∷ x ∷ [])) e (p h.outgoing))
    ∙ get_or-set_same h.incoming _ x 0 (in-store h.node.settings.area (sender_of id) _ (omega arith) ok.mine ok.store)

-- FIXED BYTES: at every node and store, of two single frames of one byte one shuts out every store
pub not-fixed-bytes : (h : Held) (id x y : ℕ) → (x ≡ y → ⊥) → refusal h (frame id (0x01 ∷ x ∷ [])) ≡ 0 → refusal h (frame id (0x01 ∷ y ∷ [])) ≡ 0
    → (incoming : List ℕ)
    → (d : List ℕ) × ((n : Node) × (cards : List Card) × (a : Result Heard Refusal) × FramePromise h.node h.cards h.incoming id d a n cards incoming → ⊥)
not-fixed-bytes h id x y ne e f incoming =
    not-both (λ d. (n : Node) × (cards : List Card) × (a : Result Heard Refusal) × FramePromise h.node h.cards h.incoming id d a n cards incoming)
    (0x01 ∷ x ∷ []) (0x01 ∷ y ∷ []) (get_or incoming (sender_of id * h.node.settings.area + 0) 0) x y ne
    (λ p. first_byte h id x p.2 p.0 p.1 incoming e p.3)
    (λ p. first_byte h id y p.2 p.0 p.1 incoming f p.3)

-- A FIXED ANSWER TO A SEND, A CHANGE, A TURN, A TICK, A SET-UP; A FIXED PART: of two calls with another berth, another number passed over, one
-- in order and one not, allowed settings and others, and a part of another length, one shuts it out
pub not-fixed-send : (h : Held) (j k party : ℕ) (m : List ℕ) → (j ≡ k → ⊥) → refusal h (send j party m) ≡ 0 → refusal h (send k party m) ≡ 0 → (a : Result ℕ Refusal)
    → (i : ℕ) × ((n : Node) × (outgoing : List ℕ) × SendPromise h.node h.outgoing i party m a n outgoing → ⊥)
unfolding reply
not-fixed-send h j k party m ne e f a =
    not-both (λ i. (n : Node) × (outgoing : List ℕ) × SendPromise h.node h.outgoing i party m a n outgoing) j k (named (send_says a)) j k ne
    (λ p. names h (send j party m) e (p.2 h.cards h.incoming)) (λ p. names h (send k party m) f (p.2 h.cards h.incoming))

pub not-fixed-change : (h : Held) (j k parameter value : ℕ) → (j ≡ k → ⊥) → refusal h (change j parameter value) ≡ 0
    → refusal h (change k parameter value) ≡ 0 → (a : Result ℕ Refusal) → (i : ℕ) × ((n : Node) × ChangePromise h.node i parameter value a n → ⊥)
unfolding reply
not-fixed-change h j k parameter value ne e f a =
    not-both (λ i. (n : Node) × ChangePromise h.node i parameter value a n) j k (named (change_says a)) j k ne
    (λ p. names h (change j parameter value) e (p.1 h.cards h.incoming h.outgoing))
    (λ p. names h (change k parameter value) f (p.1 h.cards h.incoming h.outgoing))

-- the berths passed over are named, 10 where none is due
passes : (h : Held) (buffer : List ℕ) → named (reply h (turn buffer)) ≡ passed_over h.node
unfolding reply
passes h buffer = go (ltb-cases (passed_over h.node) berth_count)
  where
    go : Tested (ltb (passed_over h.node) berth_count) (passed_over h.node < berth_count) (berth_count ≤ passed_over h.node)
        → named (reply h (turn buffer)) ≡ passed_over h.node
    go (holds t l) = rw t
    go (fails t l) = rw t (omega (arith, passed-ten h.node))

-- a turn's number stands in its answer, whatever the buffer
any-buffer : (a : Result Turn Refusal) (b : List ℕ) → named (turn_says a []) ≡ named (turn_says a b)
unfolding turn_says
any-buffer (Err why) b = refl
any-buffer (Ok (Turn.None passed)) b = refl
any-buffer (Ok (Turn.HandedOver id report passed)) b = refl

pub not-fixed-turn : (g h : Held) (buffer : List ℕ) → (passed_over g.node ≡ passed_over h.node → ⊥)
    → refusal g (turn buffer) ≡ 0 → refusal h (turn buffer) ≡ 0 → (a : Result Turn Refusal)
    → (f : Held) × ((n : Node) × (cards : List Card) × (buffer' : List ℕ) × TurnPromise f.node f.cards f.outgoing buffer a n cards buffer' → ⊥)
not-fixed-turn g h buffer ne e f a =
    not-both (λ (f : Held). (n : Node) × (cards : List Card) × (buffer' : List ℕ) × TurnPromise f.node f.cards f.outgoing buffer a n cards buffer') g h
    (named (turn_says a [])) (passed_over g.node) (passed_over h.node) ne
    (λ p. any-buffer a p.2 ∙ names g (turn buffer) e (p.3 g.incoming) ∙ passes g buffer)
    (λ p. any-buffer a p.2 ∙ names h (turn buffer) f (p.3 h.incoming) ∙ passes h buffer)

pub not-fixed-tick : (g h : Held) → refusal g tick ≡ 0 → refusal h tick ≡ out_of_order → (a : Result (List Codes) Refusal)
    → (f : Held) × ((n : Node) × (cards : List Card) × TickPromise f.node f.cards a n cards → ⊥)
unfolding reply outcome refused_outcome
not-fixed-tick g h e f a =
    not-both (λ (f : Held). (n : Node) × (cards : List Card) × TickPromise f.node f.cards a n cards) g h (named (tick_says a)) 0 out_of_order (λ z. omega arith)
    (λ p. names g tick e (p.2 g.incoming g.outgoing))
    (λ p. ap (λ (o : Outcome). named o.answer) (same (p.2 h.incoming h.outgoing)) ∙ rw f)

pub not-fixed-set-up : (n : Node) (s t : ℕ × ℕ × ℕ) → set_up_refusal s.0 s.1 s.2 ≡ 0 → set_up_refusal t.0 t.1 t.2 ≡ bad_setting
    → (a : Result ⊤ Refusal) → (r : ℕ × ℕ × ℕ) × ((n' : Node) × SetUpPromise n r.0 r.1 r.2 a n' → ⊥)
unfolding set_up_outcome refused_outcome
not-fixed-set-up n s t e f a =
    not-both (λ (r : ℕ × ℕ × ℕ). (n' : Node) × SetUpPromise n r.0 r.1 r.2 a n') s t (named (set_up_says a)) 0 bad_setting (λ z. omega arith)
    (λ p. ap (λ (o : Outcome). named o.answer) (same (p.1 [] [] [])) ∙ rw e)
    (λ p. ap (λ (o : Outcome). named o.answer) (same (p.1 [] [] [])) ∙ rw f)

pub not-fixed-part : (h : Held) (choice : Choice) (j k : ℕ) → (length (showing h j choice) ≡ length (showing h k choice) → ⊥) → (part : List ℕ)
    → (i : ℕ) × ((at in_at out_at : ℕ × ℕ) × ShowPromise h.node h.incoming h.outgoing i choice part in_at out_at at → ⊥)
unfolding reply refusal needs first_unmet
not-fixed-part h choice j k ne part =
    not-both (λ i. (at in_at out_at : ℕ × ℕ) × ShowPromise h.node h.incoming h.outgoing i choice part in_at out_at at) j k
    (length part) (length (showing h j choice)) (length (showing h k choice)) ne
    (λ p. names h (show j choice) refl (p.3.agrees h.cards)) (λ p. names h (show k choice) refl (p.3.agrees h.cards))

-- ---- one that does nothing

-- a timer that runs does not stand still: a side that a tick leaves as it was has ended
ended-still : {X : Type 0} (t : ℕ) (on : ℕ → X) (ended : X) → (on (t + 1) ≡ on t → t + 1 ≡ t) → ran t on ended ≡ on t → on t ≡ ended
unfolding ran
ended-still t on ended one-to-one =
    pick-either (λ x. x ≡ on t → on t ≡ ended) (ltb (t + 1) timeout) _ _
    (λ u e. let z : t + 1 ≡ t = one-to-one e in absurd (omega arith)) (λ u e. sym e)

rx-still : (rx : Rx) → rx_ticked rx ≡ rx → rx ≡ Rx.Idle
rx-still Rx.Idle e = refl
rx-still (Rx.OwesOverflow t) e = ended-still t (λ u. Rx.OwesOverflow u) Rx.Idle (λ q. cc) e
rx-still (Rx.OwesGo p t) e = ended-still t (λ u. Rx.OwesGo p u) Rx.Idle (λ q. cc) e
rx-still (Rx.Awaits p t) e = ended-still t (λ u. Rx.Awaits p u) Rx.Idle (λ q. cc) e

tx-still : (tx : Tx) → tx_ticked tx ≡ tx → tx ≡ Tx.Idle
tx-still Tx.Idle e = refl
tx-still (Tx.SingleDue party n t) e = ended-still t (λ u. Tx.SingleDue party n u) Tx.Idle (λ q. cc) e
tx-still (Tx.FirstDue party n t) e = ended-still t (λ u. Tx.FirstDue party n u) Tx.Idle (λ q. cc) e
tx-still (Tx.AwaitsFlow party o t) e = ended-still t (λ u. Tx.AwaitsFlow party o u) Tx.Idle (λ q. cc) e
tx-still (Tx.Consecutive party o t) e = go (eqb-cases o.left 0)
  where
    go : Tested (eqb o.left 0) (o.left ≡ 0) (o.left ≡ 0 → ⊥) → Tx.Consecutive party o t ≡ Tx.Idle
    go (holds z l) = ended-still t (λ u. Tx.Consecutive party o u) Tx.Idle (λ q. cc) (rw z at e)
    go (fails z l) =
        let f : Tx.Consecutive party (closer o) t ≡ Tx.Consecutive party o t = rw z at e in
        let g : closer o ≡ o = cc in
        let m : o.left - 1 ≡ o.left = ap (λ (x : Sending). x.left) g in
        absurd (l (omega arith))

-- A TICK MOVES EVERY TIMER AND GAP: one that leaves a berth as it was finds both sides idle
pub still-idle : (b : Berth) → ticked b ≡ b → (b.rx ≡ Rx.Idle) × (b.tx ≡ Tx.Idle)
unfolding ticked
still-idle b e = (rx-still b.rx (ap (λ (x : Berth). x.rx) e), tx-still b.tx (ap (λ (x : Berth). x.tx) e))

-- DOING NOTHING, TIMERS: at every tick that the paper answers, of a node with a side that is not idle, a node left as it was is shut out
pub not-idle-timers : (h : Held) (k : ℕ) (a : Result (List Codes) Refusal) (cards : List Card) → refusal h tick ≡ 0
    → (((berth_at h.node k).rx ≡ Rx.Idle) × ((berth_at h.node k).tx ≡ Tx.Idle) → ⊥) → TickPromise h.node h.cards a h.node cards → ⊥
unfolding done
not-idle-timers h k a cards e busy p =
    let q = ap (λ (o : Outcome). berth_at o.held.node k) (answered h tick e (p h.incoming h.outgoing)) in
    busy (still-idle (berth_at h.node k) (sym (q ∙ berth-ticked h.node k)))

-- DOING NOTHING, SETTINGS: at every change that the paper answers, to another value than the berth had, a node left as it was is shut out
pub not-idle-settings : (h : Held) (k parameter value : ℕ) (a : Result ℕ Refusal) → refusal h (change k parameter value) ≡ 0
    → (changed_settings (berth_at h.node k).settings parameter value ≡ (berth_at h.node k).settings → ⊥)
    → ChangePromise h.node k parameter value a h.node → ⊥
unfolding done with_berth berth_at changed_berth
not-idle-settings h k parameter value a e differ p =
    let ok = change-answered h k parameter value e in
    let ten = (in-order-range h.node ok.order).ten in
    let q = ap (λ (o : Outcome). (berth_at o.held.node k).settings) (answered h (change k parameter value) e (p h.cards h.incoming h.outgoing)) in
    differ (sym (q ∙ ap (λ (b : Berth). b.settings) (get_or-set_same h.node.berths k _ fresh (omega (arith, ten, ok.mine)))))

-- bytes put down are found at their place
bytes-there : (l : List ℕ) (at : ℕ) (v : List ℕ) → at + length v ≤ length l → take (length v) (drop at (sets l at v)) ≡ v
bytes-there l at v h =
    ap (λ (x : List ℕ). take (length v) (drop at x)) (sets-eq v l at h ∙ append_assoc (take at l) v (drop (at + length v) l))
    ∙ ap (take (length v)) (drop_at (take at l) (v ++ drop (at + length v) l) at (length-take-le at l (omega arith)))
    ∙ take_at v (drop (at + length v) l) (length v) refl

-- BYTES PUT DOWN leave an area as it was only if they stood there before
pub stood-before : (area : List ℕ) (at : ℕ) (v : List ℕ) → at + length v ≤ length area → sets area at v ≡ area → take (length v) (drop at area) ≡ v
stood-before area at v h e = ap (λ (x : List ℕ). take (length v) (drop at x)) (sym e) ∙ bytes-there area at v h

module _ (h : Held) (id : ℕ) (d : List ℕ) (a : Result Heard Refusal) (n : Node) (cards : List Card) (incoming : List ℕ) (e : refusal h (frame id d) ≡ 0) where
  area-after : FramePromise h.node h.cards h.incoming id d a n cards incoming
      → area_of h.node.settings.area (sender_of id) incoming
      ≡ sets (area_of h.node.settings.area (sender_of id) h.incoming) (came_at h (sender_of id) d).place (came_at h (sender_of id) d).bytes
  area-after p =
      ap (λ (o : Outcome). area_of h.node.settings.area (sender_of id) o.held.incoming) (answered h (frame id d) e (p h.outgoing))
      ∙ frame-area h id d e

  -- DOING NOTHING, STORED BYTES: at every frame that the paper answers, whose bytes differ from those at their place, an area left as it was
  -- is shut out
  pub not-idle-bytes :
      (take (length (came_at h (sender_of id) d).bytes) (drop (came_at h (sender_of id) d).place (area_of h.node.settings.area (sender_of id) h.incoming))
      ≡ (came_at h (sender_of id) d).bytes → ⊥)
      → area_of h.node.settings.area (sender_of id) incoming ≡ area_of h.node.settings.area (sender_of id) h.incoming
      → FramePromise h.node h.cards h.incoming id d a n cards incoming → ⊥
  not-idle-bytes differ kept p =
      let ok = frame-answered h id d e in
      let room = area-length h.node.settings.area (sender_of id) h.incoming ok.mine ok.store in
      differ (stood-before (area_of h.node.settings.area (sender_of id) h.incoming) _ _ (omega (arith, answered-inside h id d e)) (sym (area-after p) ∙ kept))

-- so is it at every send that the paper answers, whose message differs from the bytes at the front of the area
pub not-idle-message : (h : Held) (k party : ℕ) (m : List ℕ) (a : Result ℕ Refusal) (n : Node) (outgoing : List ℕ) → refusal h (send k party m) ≡ 0
    → (take (length m) (area_of h.node.settings.area k h.outgoing) ≡ m → ⊥)
    → area_of h.node.settings.area k outgoing ≡ area_of h.node.settings.area k h.outgoing
    → SendPromise h.node h.outgoing k party m a n outgoing → ⊥
unfolding done
not-idle-message h k party m a n outgoing e differ kept p =
    let ok = send-answered h k party m e in
    let fits = ok.fits in
    let after = ap (λ (o : Outcome). area_of h.node.settings.area k o.held.outgoing) (answered h (send k party m) e (p h.cards h.incoming))
    ∙ area_same h.node.settings.area k 0 m h.outgoing (omega arith) in
    let room = area-length h.node.settings.area k h.outgoing ok.mine ok.store in
    differ (stood-before (area_of h.node.settings.area k h.outgoing) 0 m (omega arith) (sym after ∙ kept))

-- ---- one that stores the first frame and only counts the rest

-- COUNTING ONLY: at every right awaited consecutive frame whose bytes differ from those at their place, an area left as it was is shut out
pub not-counting : (h : Held) (id : ℕ) (d : List ℕ) (p : Taking) (t : ℕ) (a : Result Heard Refusal) (n : Node) (cards : List Card) (incoming : List ℕ) → refusal h (frame id d) ≡ 0
    → (berth_at h.node (sender_of id)).rx ≡ Rx.Awaits p t → kind d ≡ consecutive_kind → T (consecutive_fits (missing p) d) → low d ≡ p.sn.0
    → (take (length (piece p d)) (drop p.got (area_of h.node.settings.area (sender_of id) h.incoming)) ≡ piece p d → ⊥)
    → area_of h.node.settings.area (sender_of id) incoming ≡ area_of h.node.settings.area (sender_of id) h.incoming
    → FramePromise h.node h.cards h.incoming id d a n cards incoming → ⊥
unfolding came_at
not-counting h id d p t a n cards incoming e r c f l differ =
    let (at, bytes) = consecutive-came h.node.settings (berth_at h.node (sender_of id)) p t d r c f l in
    not-idle-bytes h id d a n cards incoming e (rw (at, bytes) differ)

-- ---- one that makes up the passed-over number

-- MADE UP: at every turn that the paper answers, every number other than the distance from the berth served last to the one that is
-- handed a frame is shut out, and every one but ten where none is
pub not-any-made-up : (h : Held) (buffer bytes : List ℕ) (k code passed : ℕ) (party : Party) {g : Held} {b : List ℕ} → refusal h (turn buffer) ≡ 0
    → (passed ≡ distance h.node.served k → ⊥)
    → Agrees (left (handed (to_berth + k) bytes code passed party) g b) (outcome h (turn buffer)) → ⊥
unfolding reply
not-any-made-up h buffer bytes k code passed party e other p = go (ltb-cases (passed_over h.node) berth_count) (ap (λ (o : Outcome). o.answer) (answered h (turn buffer) e p))
  where
    go : Tested (ltb (passed_over h.node) berth_count) (passed_over h.node < berth_count) (berth_count ≤ passed_over h.node)
        → handed (to_berth + k) bytes code passed party ≡ reply h (turn buffer) → ⊥
    go (holds t l) q =
        let z : handed (to_berth + k) bytes code passed party
        ≡ handed (to_berth + reached h.node) (handed_at h (reached h.node)).frame (handed_at h (reached h.node)).code (passed_over h.node) (handed_at h (reached h.node)).party = rw t at q in
        let same_id : to_berth + k ≡ to_berth + reached h.node = cc in
        let same_number : passed ≡ passed_over h.node = cc in
        let (is-due, least) = reached-due h.node (in-order-range h.node (turn-answered h buffer e).order) l in
        other (same_number ∙ least ∙ ap (distance h.node.served) (omega arith))
    go (fails t l) q = let z : handed (to_berth + k) bytes code passed party ≡ none berth_count = rw t at q in clash (cc)

pub not-made-up : (h : Held) (buffer buffer' : List ℕ) (n : Node) (cards : List Card) (k passed : ℕ) (report : Option Report) → refusal h (turn buffer) ≡ 0
    → (passed ≡ distance h.node.served k → ⊥)
    → TurnPromise h.node h.cards h.outgoing buffer (Ok (Turn.HandedOver (to_berth + k) report passed)) n cards buffer' → ⊥
unfolding turn_says
not-made-up h buffer buffer' n cards k passed report e other p =
    not-any-made-up h buffer (take frame_size buffer') k (reported_code report) passed (reported_party report) e other (p h.incoming)

pub not-made-up-none : (h : Held) (buffer buffer' : List ℕ) (n : Node) (cards : List Card) (passed : ℕ) → refusal h (turn buffer) ≡ 0
    → (passed ≡ berth_count → ⊥) → TurnPromise h.node h.cards h.outgoing buffer (Ok (Turn.None passed)) n cards buffer' → ⊥
unfolding reply turn_says
not-made-up-none h buffer buffer' n cards passed e other p =
    pick-either (λ (a : Answer). none passed ≡ a → ⊥) (ltb (passed_over h.node) berth_count) _ _ (λ t q. clash (cc)) (λ t q. other (cc))
    (ap (λ (o : Outcome). o.answer) (answered h (turn buffer) e (p h.incoming)))

-- ---- one that counts nothing on a card

-- UNCOUNTED: at every frame that the paper answers with Begun, of a berth whose card is not frozen, cards left as they were are shut out
pub not-uncounted : (h : Held) (id : ℕ) (d : List ℕ) (l : ℕ) (a : Result Heard Refusal) (n : Node) (incoming : List ℕ) → refusal h (frame id d) ≡ 0
    → (came_at h (sender_of id) d).word ≡ Begun l → frozen (card_at h.cards (sender_of id)) ≡ false
    → FramePromise h.node h.cards h.incoming id d a n h.cards incoming → ⊥
unfolding done after_frame added_at card_at added frame_adds
not-uncounted h id d l a n incoming e w thawed p =
    let k = sender_of id in
    let ok = frame-answered h id d e in
    let z : (get_or h.cards k zero_card).begun ≡ (get_or h.cards k zero_card).begun + 1 =
    ap (λ (o : Outcome). (get_or o.held.cards k zero_card).begun) (answered h (frame id d) e (p h.outgoing))
    ∙ ap (λ (c : Card). c.begun) (get_or-set_same h.cards k _ zero_card (omega (arith, ok.ten, ok.mine)))
    ∙ simp (thawed, w) in
    absurd (omega arith)

-- ---- nodes at which the premises are met: areas of 8 bytes of zeros, and berth 0 with a receive side and a last length

abbrev blank_cards : List Card
blank_cards = replicate berth_count zero_card

abbrev hearing : Rx → ℕ → Held
hearing rx last =
    record {
      node = record {
        settings = record { area = 8 };
        served = 9;
        berths = with_rx fresh rx last ∷ replicate 9 fresh;
      };
      incoming = replicate 80 0;
      outgoing = replicate 80 0;
      cards = blank_cards;
    }

-- a reception of eight bytes of which six are there
abbrev six_of_eight : Taking
six_of_eight = record { total = 8; got = 6; sn = record { 0 = 1 }; taken = 0 }

-- the first frame of a message of eight bytes
abbrev eight_begun : List ℕ
eight_begun = 0x10 ∷ 8 ∷ 1 ∷ 2 ∷ 3 ∷ 4 ∷ 5 ∷ 6 ∷ []

-- the calls below are answered; a node that no set-up has filled is out of order, and settings of 0 are not allowed
pub answered-here : (refusal (hearing Rx.Idle 0) (frame 0x640 (0x01 ∷ 7 ∷ [])) ≡ 0) × (refusal (hearing Rx.Idle 0) (frame 0x640 (0x02 ∷ 7 ∷ 8 ∷ [])) ≡ 0)
    × (refusal (hearing Rx.Idle 0) (send 0 0 (1 ∷ [])) ≡ 0) × (refusal (hearing Rx.Idle 0) (send 1 0 (1 ∷ [])) ≡ 0)
    × (refusal (hearing (Rx.OwesOverflow 0) 0) (turn (replicate 8 0)) ≡ 0) × (refusal (hearing Rx.Idle 0) (turn (replicate 8 0)) ≡ 0)
    × (refusal (hearing (Rx.OwesOverflow 0) 0) tick ≡ 0) × (refusal (lent blank_node [] [] []) tick ≡ out_of_order)
    × (set_up_refusal 8 0 0 ≡ 0) × (set_up_refusal 0 0 0 ≡ bad_setting)
    × (refusal (hearing (Rx.Awaits six_of_eight 0) 0) (frame 0x640 (0x21 ∷ 7 ∷ 8 ∷ [])) ≡ 0)
    × (refusal (hearing Rx.Idle 0) (frame 0x640 (0x01 ∷ 8 ∷ [])) ≡ 0)
    × (refusal (hearing Rx.Idle 0) (frame 0x640 eight_begun) ≡ 0)
    × (refusal (hearing Rx.Idle 0) (change 0 1 5) ≡ 0) × (refusal (hearing Rx.Idle 0) (change 1 1 5) ≡ 0)
unfolding
    all first_unmet settings_allowed value_allowed in_block taking_in_range berth_in_order berth_at in_order right_store right_cards needs refusal set_up_refusal
answered-here = (refl, refl, refl, refl, refl, refl, refl, refl, refl, refl, refl, refl, refl, refl, refl)

-- so for every fixed answer, and for every part, there is a call that shuts it out
pub not-fixed-here :
    ((a : Result Heard Refusal) → (d : List ℕ) × ((n : Node) × (cards : List Card) × (incoming : List ℕ) × FramePromise (hearing Rx.Idle 0).node blank_cards (replicate 80 0) 0x640 d a n cards incoming → ⊥))
    × ((a : Result ℕ Refusal) → (k : ℕ) × ((n : Node) × (outgoing : List ℕ) × SendPromise (hearing Rx.Idle 0).node (replicate 80 0) k 0 (1 ∷ []) a n outgoing → ⊥))
    × ((a : Result Turn Refusal) → (h : Held) × ((n : Node) × (cards : List Card) × (buffer : List ℕ) × TurnPromise h.node h.cards h.outgoing (replicate 8 0) a n cards buffer → ⊥))
    × ((a : Result (List Codes) Refusal) → (h : Held) × ((n : Node) × (cards : List Card) × TickPromise h.node h.cards a n cards → ⊥))
    × ((a : Result ⊤ Refusal) → (s : ℕ × ℕ × ℕ) × ((n : Node) × SetUpPromise blank_node s.0 s.1 s.2 a n → ⊥))
    × ((part : List ℕ) → (k : ℕ) × ((at in_at out_at : ℕ × ℕ) × ShowPromise (hearing Rx.Idle 1).node (replicate 80 0) (replicate 80 0) k Choice.Arrived part in_at out_at at → ⊥))
    × ((a : Result ℕ Refusal) → (k : ℕ) × ((n : Node) × ChangePromise (hearing Rx.Idle 0).node k 1 5 a n → ⊥))
unfolding
    passed_over least_distance due distance showing shown_length showable in_order all berth_in_order right_store berth_at area_of
not-fixed-here = (
  not-fixed-frame (hearing Rx.Idle 0) 0x640 answered-here.0 answered-here.1,
  not-fixed-send (hearing Rx.Idle 0) 0 1 0 (1 ∷ []) (λ z. omega arith) answered-here.2 answered-here.3,
  not-fixed-turn (hearing (Rx.OwesOverflow 0) 0) (hearing Rx.Idle 0) (replicate 8 0) (λ z. omega arith) answered-here.4 answered-here.5,
  not-fixed-tick (hearing (Rx.OwesOverflow 0) 0) (lent blank_node [] [] []) answered-here.6 answered-here.7,
  not-fixed-set-up blank_node (8, 0, 0) (0, 0, 0) answered-here.8 answered-here.9,
  not-fixed-part (hearing Rx.Idle 1) Choice.Arrived 0 10 (λ z. omega arith),
  not-fixed-change (hearing Rx.Idle 0) 0 1 1 5 (λ z. omega arith) answered-here.13 answered-here.14,
)

-- for every incoming store there is a frame that shuts it out
pub not-fixed-bytes-here : (incoming : List ℕ)
    → (d : List ℕ) × ((n : Node) × (cards : List Card) × (a : Result Heard Refusal) × FramePromise (hearing Rx.Idle 0).node blank_cards (replicate 80 0) 0x640 d a n cards incoming → ⊥)
not-fixed-bytes-here = not-fixed-bytes (hearing Rx.Idle 0) 0x640 7 8 (λ z. omega arith) answered-here.0 answered-here.11

pub not-idle-here : (a : Result (List Codes) Refusal) (cards : List Card) → TickPromise (hearing (Rx.OwesOverflow 0) 0).node blank_cards a (hearing (Rx.OwesOverflow 0) 0).node cards → ⊥
unfolding berth_at
not-idle-here a cards =
    not-idle-timers (hearing (Rx.OwesOverflow 0) 0) 0 a cards answered-here.6 (λ q. let e : Rx.OwesOverflow 0 ≡ Rx.Idle = q.0 in clash (cc))

pub not-idle-settings-here : (a : Result ℕ Refusal) → ChangePromise (hearing Rx.Idle 0).node 0 1 5 a (hearing Rx.Idle 0).node → ⊥
unfolding berth_at changed_settings
not-idle-settings-here a =
    not-idle-settings (hearing Rx.Idle 0) 0 1 5 a answered-here.13 (λ q. let z : ◌≡◌ {A = ℕ} 5 0 = ap (λ (s : BerthSettings). s.block) q in omega arith)

pub not-idle-message-here : (a : Result ℕ Refusal) (n : Node) → SendPromise (hearing Rx.Idle 0).node (replicate 80 0) 0 0 (1 ∷ []) a n (replicate 80 0) → ⊥
unfolding area_of
not-idle-message-here a n =
    not-idle-message (hearing Rx.Idle 0) 0 0 (1 ∷ []) a n (replicate 80 0) answered-here.2
    (λ q. let z : ◌≡◌ {A = ℕ} 0 1 = ap (λ (l : List ℕ). get_or l 0 0) q in omega arith) refl

pub not-counting-here : (a : Result Heard Refusal) (n : Node) (cards : List Card)
    → FramePromise (hearing (Rx.Awaits six_of_eight 0) 0).node blank_cards (replicate 80 0) 0x640 (0x21 ∷ 7 ∷ 8 ∷ []) a n cards (replicate 80 0) → ⊥
unfolding berth_at kind low consecutive_fits piece share area_of
not-counting-here a n cards =
    not-counting (hearing (Rx.Awaits six_of_eight 0) 0) 0x640 (0x21 ∷ 7 ∷ 8 ∷ []) six_of_eight 0 a n cards (replicate 80 0) answered-here.10 refl refl tt refl
    (λ q. let z : ◌≡◌ {A = ℕ} 0 7 = ap (λ (l : List ℕ). get_or l 0 0) q in omega arith) refl

pub not-uncounted-here : (a : Result Heard Refusal) (n : Node) (incoming : List ℕ)
    → FramePromise (hearing Rx.Idle 0).node blank_cards (replicate 80 0) 0x640 eight_begun a n blank_cards incoming → ⊥
unfolding came_at berth_at frame_came by_kind kind low heard_by short_length announced first_fits begun first_came card_at frozen
not-uncounted-here a n incoming = not-uncounted (hearing Rx.Idle 0) 0x640 eight_begun 8 a n incoming answered-here.12 refl refl

pub not-made-up-here : (n : Node) (cards : List Card) (report : Option Report) (buffer : List ℕ)
    → TurnPromise (hearing (Rx.OwesOverflow 0) 0).node blank_cards (replicate 80 0) (replicate 8 0) (Ok (Turn.HandedOver 0x660 report 5)) n cards buffer → ⊥
unfolding distance
not-made-up-here n cards report buffer = not-made-up (hearing (Rx.OwesOverflow 0) 0) (replicate 8 0) buffer n cards 0 5 report answered-here.4 (λ z. omega arith)
