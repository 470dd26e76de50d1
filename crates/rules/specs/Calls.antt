-- The calls: what each leaves and answers where it is not refused, the outcome of a call, and a run.
use Rattle.std.specs.Prelude.{ℕ, ◌+◌, Bool, ◌&&◌, List, [], ◌∷◌, ◌++◌, map, length, take, drop, ltb}
use Rattle.rules.specs.Tests.{pick, unless}
use Rattle.rules.specs.Numbers.{berth_count, to_berth, frame_size}
use Rattle.rules.specs.Nodes.{berth_at, with_berth, Held, with_node, with_incoming, with_outgoing, with_cards}
use Rattle.rules.specs.Ranges.{in_order}
use Rattle.rules.specs.Arrivals.{Came}
use Rattle.rules.specs.Ticks.{codes_of}
use Rattle.rules.specs.Turns.{HandedOver, sent as sent_berth, length_sending}
use Rattle.rules.specs.Changes.{changed as changed_berth}
use Rattle.rules.specs.Stores.{right_store, area_of, stored, ticked_node, served_node, set_up_node, passed_over, reached, came_at, handed_at}
use Rattle.rules.specs.Answers.{Answer, refused, ready, heard, codes, sent, handed, none, shown, changed}
use Rattle.rules.specs.Events.{Call, frame, tick, send, turn, show, change, sender_of}
use Rattle.rules.specs.Cards.{added_at, is_single, frame_adds, ticked_cards, turn_adds}
use Rattle.rules.specs.Refusals.{refusal, set_up_refusal}
use Rattle.rules.specs.declared.Choice.{Choice}

-- ---- show: the part that holds the last message arrived, or the message now being sent. It is empty if there is none, the berth
-- is above 9, the node is out of order or either store has a wrong length

unfoldable pub showable : Held → ℕ → Bool
showable h k =
    in_order h.node && (right_store h.node h.incoming && (right_store h.node h.outgoing && ltb k berth_count))

-- the first for the last message arrived, the second for the message now being sent
abbrev pub chosen {ℓ} : {X : Type ℓ} → Choice → X → X → X
chosen Choice.Arrived x y = x
chosen Choice.Sending x y = y

unfoldable pub shown_length : Held → ℕ → Choice → ℕ
shown_length h k choice =
    pick (showable h k) (chosen choice (berth_at h.node k).last (length_sending (berth_at h.node k).tx)) 0

abbrev pub chosen_store : Held → Choice → List ℕ
chosen_store h choice = chosen choice h.incoming h.outgoing

unfoldable pub showing : Held → ℕ → Choice → List ℕ
showing h k choice = take (shown_length h k choice) (area_of h.node.settings.area k (chosen_store h choice))

-- ---- what a call that is not refused leaves: the node, the stores and the cards

-- a frame changes its berth, stores in its area, and counts on its card
unfoldable pub after_frame : Held → ℕ → List ℕ → Came → Held
after_frame h k d c =
    with_cards
    (with_incoming (with_node h (with_berth h.node k c.berth))
    (stored h.node.settings.area k c.place c.bytes h.incoming))
    (added_at h.cards k (frame_adds (is_single d) c.old c.word))

-- a turn changes the berth that it serves, and counts on its card
unfoldable pub after_turn : Held → ℕ → HandedOver → Held
after_turn h k o = with_cards (with_node h (served_node h.node k o.berth)) (added_at h.cards k (turn_adds o.code))

unfoldable pub done : Held → Call → Held
done h (frame id d) = after_frame h (sender_of id) d (came_at h (sender_of id) d)
done h tick = with_cards (with_node h (ticked_node h.node)) (ticked_cards h.node.berths h.cards)
done h (send k party m) =
    with_outgoing (with_node h (with_berth h.node k (sent_berth (berth_at h.node k) (length m) (record { 0 = party }))))
    (stored h.node.settings.area k 0 m h.outgoing)
done h (turn buffer) =
    pick (ltb (passed_over h.node) berth_count)
    (after_turn h (reached h.node) (handed_at h (reached h.node)))
    h
done h (show k choice) = h
done h (change k parameter value) = with_node h (with_berth h.node k (changed_berth (berth_at h.node k) parameter value))

-- ---- what it answers

unfoldable pub reply : Held → Call → Answer
reply h (frame id d) = heard (sender_of id) (came_at h (sender_of id) d).old (came_at h (sender_of id) d).word
reply h tick = codes (map codes_of h.node.berths)
reply h (send k party m) = sent k
reply h (turn buffer) =
    pick (ltb (passed_over h.node) berth_count)
    (handed (to_berth + reached h.node) (handed_at h (reached h.node)).frame (handed_at h (reached h.node)).code (passed_over h.node) (handed_at h (reached h.node)).party)
    (none berth_count)
reply h (show k choice) = shown (showing h k choice)
reply h (change k parameter value) = changed k

-- ---- the buffer after it: a turn puts the frame down at its front, and bytes past 8 are never written

abbrev pub buffer_of : Call → List ℕ
buffer_of (frame id d) = []
buffer_of tick = []
buffer_of (send k party m) = []
buffer_of (turn buffer) = buffer
buffer_of (show k choice) = []
buffer_of (change k parameter value) = []

unfoldable pub written : Held → Call → List ℕ
written h (frame id d) = []
written h tick = []
written h (send k party m) = []
written h (turn buffer) =
    pick (ltb (passed_over h.node) berth_count) ((handed_at h (reached h.node)).frame ++ drop frame_size buffer) buffer
written h (show k choice) = []
written h (change k parameter value) = []

-- ---- the outcome of a call: the answer, the node, both stores and the cards, the buffer. A refusal gives only its number; all else stays

pub record Outcome : Type 0 where
  pub answer : Answer
  pub held : Held
  pub buffer : List ℕ

unfoldable pub refused_outcome : Held → List ℕ → ℕ → Outcome
refused_outcome h buffer n = record { answer = refused n; held = h; buffer = buffer }

unfoldable pub outcome : Held → Call → Outcome
outcome h c =
    unless (refusal h c) (refused_outcome h (buffer_of c)) (record { answer = reply h c; held = done h c; buffer = written h c })

-- set-up touches no store and no card
unfoldable pub set_up_outcome : Held → ℕ → ℕ → ℕ → Outcome
set_up_outcome h a bs stmin =
    unless (set_up_refusal a bs stmin) (refused_outcome h [])
    (record {
      answer = ready;
      held = with_node h (set_up_node (record { area = a }) (record { block = bs; stmin = stmin }));
      buffer = [];
    })

-- ---- a run of calls: its outcomes, its answers, and what it leaves

unfoldable pub outcomes : Held → List Call → List Outcome
outcomes h [] = []
outcomes h (c ∷ cs) = outcome h c ∷ outcomes (outcome h c).held cs

unfoldable pub answers : Held → List Call → List Answer
answers h [] = []
answers h (c ∷ cs) = (outcome h c).answer ∷ answers (outcome h c).held cs

unfoldable pub final : Held → List Call → Held
final h [] = h
final h (c ∷ cs) = final (outcome h c).held cs
