-- A turn that is not refused: the berth that is passed to is due (`reached-due`) and in order, and what it hands over put back is the
-- outcome of the rules, with the frame at the front of the buffer.
use Prim.Native.Nat.{ℕ, ◌+◌, ◌<◌}
use native.Mathlib.Nat.{mod-lt}
use mathlib.Core.Path.{◌≡◌, refl, sym, ap, ◌∙◌}
use mathlib.Core.Bool.{true}
use mathlib.Core.List.{List, [], ◌++◌}
use lib.ListN.{length, take, drop}
use lib.Seq.{take_at}
use lib.Dec.{lit<}
use borrow.Author.Tests.{lt-ltb}
use Rattle.std.specs.Prelude.{Ok}
use Rattle.rules.specs.Numbers.{berth_count, to_berth, frame_size}
use Rattle.rules.specs.Nodes.{berth_at}
use Rattle.rules.specs.Ranges.{in_order}
use Rattle.rules.specs.Turns.{due}
use Rattle.rules.specs.Stores.{served_node, passed_over, reached, handed_at}
use Rattle.rules.specs.Cards.{added_at, turn_adds}
use Rattle.rules.specs.Answers.{handed, turn_says}
use Rattle.rules.specs.Events.{turn}
use Rattle.rules.specs.Refusals.{refusal}
use Rattle.rules.specs.Calls.{after_turn, done, reply, written}
use Rattle.rules.specs.declared.Node.{Node}
use Rattle.rules.specs.declared.Card.{Card}
use Rattle.rules.specs.declared.Turn.{Turn}
use Rattle.rules.proofs.Cases.{is_true}
use Rattle.rules.proofs.Answered.{turn-answered, TurnAnswered}
use Rattle.rules.proofs.Ranges.{in-order-range}
use Rattle.rules.proofs.Round.{reached-due}
use Rattle.looks.specs.Probes.{probe_at}
use Rattle.node.specs.Promises.{lent, TurnPromise}
use Rattle.node.proofs.Outcomes.{does}
use Rattle.handing.specs.Turns.{AreaInRange, Due, handed_by}

module _ (n : Node) (cards : List Card) (outgoing buffer : List ℕ) (may : (incoming : List ℕ) → 0 ≡ refusal (lent n cards incoming outgoing) (turn buffer)) where
  -- what the tests found
  pub met : TurnAnswered (lent n cards [] outgoing) buffer
  met = turn-answered (lent n cards [] outgoing) buffer (sym (may []))

  pub found-order : in_order n ≡ true
  found-order = is_true (in_order n) met.order

  pub area-in-range : AreaInRange n.settings
  area-in-range = let s = (in-order-range n met.order).settings in (s.area-least, s.area-most)

  -- the berth that is passed to
  within : reached n < berth_count
  unfolding reached
  within = mod-lt (n.served + 1 + passed_over n) (lit< tt)

  module _ {passed at : ℕ} (some : passed < berth_count) (counted : passed ≡ passed_over n) (probed : at ≡ probe_at n.served passed) where
    place : at ≡ reached n
    unfolding reached
    place = probed ∙ ap (probe_at n.served) counted

    pub reached-is-due : Due n.settings (berth_at n at)
    reached-is-due =
        let o = in-order-range n met.order in
        rw place
        (is_true (due (berth_at n (reached n))) (reached-due n o (rw counted at some)).0, (o.berth (reached n) within).send)

    pub hands : {n' : Node} {cards' : List Card} {buffer' : List ℕ} (t : Turn)
        → n' ≡ served_node n at (handed_by n at outgoing).berth
        → cards' ≡ added_at cards at (turn_adds (handed_by n at outgoing).code)
        → length (handed_by n at outgoing).frame ≡ frame_size
        → buffer' ≡ (handed_by n at outgoing).frame ++ drop frame_size buffer
        → turn_says (Ok t) buffer' ≡ handed (to_berth + at) (take frame_size buffer') (handed_by n at outgoing).code passed (handed_by n at outgoing).party
        → TurnPromise n cards outgoing buffer (Ok t) n' cards' buffer'
    unfolding after_turn done reply written handed_at
    hands t node counts eight laid says incoming =
        does (lent n cards incoming outgoing) (turn buffer) refl (may incoming)
        (simp (rw laid at says, node, counts, laid, ← place, ← counted, lt-ltb _ _ some, take_at (handed_by n at outgoing).frame (drop frame_size buffer) frame_size eight))
