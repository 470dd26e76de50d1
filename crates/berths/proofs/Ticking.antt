-- A tick that is not refused: the node is in order, with a card for each berth, and each berth ticked is the outcome of the rules.
use mathlib.Core.Path.{◌≡◌, refl, sym}
use mathlib.Core.Bool.{true}
use mathlib.Core.List.{List, [], map}
use Prim.Native.Nat.{ℕ, ◌<◌, ◌≤◌}
use lib.ListN.{length}
use Rattle.std.specs.Prelude.{Ok}
use Rattle.rules.specs.Numbers.{berth_count}
use Rattle.rules.specs.Nodes.{berth_at, with_berths}
use Rattle.rules.specs.Ranges.{in_order}
use Rattle.rules.specs.Stores.{ticked_node}
use Rattle.rules.specs.Ticks.{ticked, codes_of}
use Rattle.rules.specs.Answers.{tick_says}
use Rattle.rules.specs.Words.{codes_said}
use Rattle.rules.specs.Cards.{ticked_cards}
use Rattle.rules.specs.Events.{tick}
use Rattle.rules.specs.Refusals.{refusal}
use Rattle.rules.specs.Calls.{done, reply, written}
use Rattle.rules.specs.declared.Node.{Node}
use Rattle.rules.specs.declared.Card.{Card}
use Rattle.rules.specs.declared.Codes.{Codes as CodeCodes}
use Rattle.rules.proofs.Cases.{is_true}
use Rattle.rules.proofs.Answered.{TickAnswered, tick-answered}
use Rattle.berth.specs.Idle.{idle}
use Rattle.looks.specs.Order.{leading_idle}
use Rattle.looks.proofs.Ordered.{idle-most, idle-there}
use Rattle.node.specs.Promises.{lent, TickPromise}
use Rattle.node.proofs.Outcomes.{does}

module _ (n : Node) (cards : List Card) (may : (incoming outgoing : List ℕ) → 0 ≡ refusal (lent n cards incoming outgoing) tick) where
  answered : TickAnswered (lent n cards [] [])
  answered = tick-answered (lent n cards [] []) (sym (may [] []))

  pub ten-cards : length cards ≡ berth_count
  ten-cards = answered.ten

  pub idle-within : {from : ℕ} → from ≡ leading_idle n.berths → from ≤ berth_count
  idle-within is = rw is (idle-most n (is_true (in_order n) answered.order))

  pub idle-before : {from : ℕ} → from ≡ leading_idle n.berths → (k : ℕ) → k < from → idle (berth_at n k) ≡ true
  unfolding berth_at
  idle-before is k l = idle-there n k (rw is at l)

  pub ticks : {n' : Node} {cards' : List Card} (codes : List CodeCodes) → map codes_said codes ≡ map codes_of n.berths
      → n' ≡ with_berths n (map ticked n.berths) → cards' ≡ ticked_cards n.berths cards → TickPromise n cards (Ok codes) n' cards'
  unfolding ticked_node tick_says done reply written
  ticks codes said after counted incoming outgoing =
      rw (said, after, counted) (does (lent n cards incoming outgoing) tick refl (may incoming outgoing) refl)
