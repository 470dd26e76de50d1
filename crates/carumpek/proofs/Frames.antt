-- A frame that is not refused is of a berth in order, and what its berth makes of it is the outcome of the rules.
use Prim.Native.Nat.{ℕ, ◌*◌, ◌<◌}
use mathlib.Core.Path.{◌≡◌, refl, sym, ◌∙◌}
use mathlib.Core.List.{List, []}
use lib.ListN.{length}
use Rattle.std.specs.Prelude.{Ok}
use Rattle.rules.specs.Numbers.{berth_count}
use Rattle.rules.specs.Nodes.{berth_at, with_berth}
use Rattle.rules.specs.Ranges.{AreaRange, BerthRange}
use Rattle.rules.specs.Arrivals.{Came, frame_came}
use Rattle.rules.specs.Stores.{stored, came_at}
use Rattle.rules.specs.Cards.{added_at, is_single, frame_adds}
use Rattle.rules.specs.Answers.{heard, frame_says}
use Rattle.rules.specs.Events.{frame, sender_of}
use Rattle.rules.specs.Refusals.{refusal}
use Rattle.rules.specs.Calls.{done, after_frame, reply, written}
use Rattle.rules.specs.declared.Card.{Card}
use Rattle.rules.specs.declared.Heard.{Heard}
use Rattle.rules.specs.declared.Node.{Node}
use Rattle.rules.proofs.Answered.{FrameAnswered, frame-answered}
use Rattle.rules.proofs.Ranges.{in-order-range}
use Rattle.node.specs.Promises.{lent, FramePromise}
use Rattle.node.proofs.Outcomes.{does}

module _ (n : Node) (cards : List Card) (incoming : List ℕ) (id : ℕ) (d : List ℕ) (k : ℕ)
    (may : (outgoing : List ℕ) → 0 ≡ refusal (lent n cards incoming outgoing) (frame id d)) (is : k ≡ sender_of id) where
  -- a frame's refusal does not ask for the outgoing store, so any will do
  met : FrameAnswered (lent n cards incoming []) id d
  met = frame-answered (lent n cards incoming []) id d (sym (may []))

  pub area : AreaRange n.settings.area
  area = (in-order-range n met.order).settings

  pub berth : BerthRange n.settings (berth_at n k)
  berth = rw is ((in-order-range n met.order).berth (sender_of id) met.mine)

  pub ten : length cards ≡ berth_count
  ten = met.ten

  pub store : length incoming ≡ berth_count * n.settings.area
  store = met.store

  pub hears : (a : Heard) → frame_says (Ok a) ≡ heard k (frame_came n.settings (berth_at n k) d).old (frame_came n.settings (berth_at n k) d).word
      → FramePromise n cards incoming id d (Ok a) (with_berth n k (frame_came n.settings (berth_at n k) d).berth)
      (added_at cards k (frame_adds (is_single d) (frame_came n.settings (berth_at n k) d).old (frame_came n.settings (berth_at n k) d).word))
      (stored n.settings.area k (frame_came n.settings (berth_at n k) d).place (frame_came n.settings (berth_at n k) d).bytes incoming)
  unfolding done after_frame reply written came_at
  hears a says = λ outgoing. does (lent n cards incoming outgoing) (frame id d) refl (may outgoing) (rw (says, is))
