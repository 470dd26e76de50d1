-- What can be shown lies within its berth's area, so the part of the store is the part of the area.
use Prim.Native.Nat.{ℕ, ◌+◌, ◌-◌, ◌*◌, ◌≤◌, ◌<◌}
use native.Mathlib.Omega.{arith}
use mathlib.Core.Path.{◌≡◌, refl}
use mathlib.Core.Bool.{true, false}
use mathlib.Core.List.{List, []}
use lib.ListN.{length, take, drop}
use lib.Seq.{take-take}
use mir.Facts.{eqb_yes, ltb_yes}
use Rattle.rules.specs.Numbers.{berth_count, least_area}
use Rattle.rules.specs.Nodes.{berth_at}
use Rattle.rules.specs.Ranges.{RxRange, TxRange, InOrder, BerthRange, in_order}
use Rattle.rules.specs.Turns.{length_sending}
use Rattle.rules.specs.Stores.{right_store, area_of}
use Rattle.rules.specs.Events.{show}
use Rattle.rules.specs.Refusals.{needs, refusal}
use Rattle.rules.specs.Calls.{showable, chosen, shown_length, showing, done, reply, written}
use Rattle.rules.specs.declared.Settings.{Settings}
use Rattle.rules.specs.declared.Choice.{Choice}
use Rattle.rules.specs.declared.Rx.{Rx}
use Rattle.rules.specs.declared.Tx.{Tx}
use Rattle.rules.specs.declared.Berth.{Berth}
use Rattle.rules.specs.declared.Node.{Node}
use Rattle.rules.specs.declared.Card.{Card}
use Rattle.rules.proofs.Cases.{yes_of, and_left, and_right}
use Rattle.rules.proofs.Ranges.{in-order-range}
use Rattle.node.specs.Promises.{lent, ShowPromise}
use Rattle.node.proofs.Outcomes.{all-met, does}

-- ---- a length that can be shown is at most A

last_fits : (s : Settings) (bs last : ℕ) (rx : Rx) → RxRange s bs last rx → last ≤ s.area
last_fits s bs last Rx.Idle h = h
last_fits s bs last (Rx.OwesOverflow t) h = h.0
last_fits s bs last (Rx.OwesGo p t) h = omega arith
last_fits s bs last (Rx.Awaits p t) h = omega arith

sending-fits : (s : Settings) (tx : Tx) → least_area ≤ s.area → TxRange s tx → length_sending tx ≤ s.area
sending-fits s Tx.Idle l h = omega arith
sending-fits s (Tx.SingleDue party n t) l h = omega arith
sending-fits s (Tx.FirstDue party n t) l h = omega arith
sending-fits s (Tx.AwaitsFlow party o t) l h = h.0.length_most
sending-fits s (Tx.Consecutive party o t) l h = h.0.length_most

pub shown-fits : (s : Settings) (b : Berth) (choice : Choice) → least_area ≤ s.area → BerthRange s b
    → chosen choice b.last (length_sending b.tx) ≤ s.area
shown-fits s b Choice.Arrived l h = last_fits s b.settings.block b.last b.rx h.receive
shown-fits s b Choice.Sending l h = sending-fits s b.tx l h.send

-- ---- what is known where a part can be shown, and what is shown where it can and where it cannot

pub record Able (n : Node) (incoming outgoing : List ℕ) (k : ℕ) : Type 0 where
  pub order : InOrder n
  pub incoming-right : length incoming ≡ berth_count * n.settings.area
  pub outgoing-right : length outgoing ≡ berth_count * n.settings.area
  pub mine : k < berth_count

module _ (n : Node) (incoming outgoing : List ℕ) (k : ℕ) where
  pub able : (cards : List Card) → showable (lent n cards incoming outgoing) k ≡ true → Able n incoming outgoing k
  unfolding showable right_store
  able cards e =
      let t = and_right (in_order n) _ (yes_of e) in
      let u = and_right (right_store n incoming) _ t in
      record {
        order = in-order-range n (and_left (in_order n) _ (yes_of e));
        incoming-right = eqb_yes (and_left (right_store n incoming) _ t);
        outgoing-right = eqb_yes (and_left (right_store n outgoing) _ u);
        mine = ltb_yes (and_right (right_store n outgoing) _ u);
      }

module _ (n : Node) (incoming outgoing : List ℕ) (k : ℕ) (in_at out_at : ℕ × ℕ) where
  pub shows-none : (choice : Choice) → ((cards : List Card) → showable (lent n cards incoming outgoing) k ≡ false)
      → ShowPromise n incoming outgoing k choice [] in_at out_at in_at
  unfolding refusal needs reply done written showing shown_length
  shows-none choice e =
      record {
        agrees = λ cards. does (lent n cards incoming outgoing) (show k choice) refl all-met (simp (e cards));
        starts = λ cards. simp (e cards);
      }

  -- the part that the code takes of the store that it chose, from the area's start to its end
  pub shows : (choice one : Choice) (lo shown : ℕ) → choice ≡ one → lo ≡ k * n.settings.area
      → ((cards : List Card) → showable (lent n cards incoming outgoing) k ≡ true)
      → shown ≡ chosen choice (berth_at n k).last (length_sending (berth_at n k).tx) → shown ≤ n.settings.area
      → ShowPromise n incoming outgoing k choice (take (lo + shown - lo) (drop lo (chosen one incoming outgoing)))
      in_at out_at ((chosen one in_at out_at).0, lo + (chosen one in_at out_at).1)
  unfolding refusal needs reply done written showing shown_length area_of
  shows choice one lo shown same-choice starts e is fits =
      let length-is = rw same-choice at is in
      let part : lo + shown - lo ≡ shown = omega arith in
      let same = take-take shown n.settings.area (drop lo (chosen one incoming outgoing)) fits in
      rw same-choice (record {
        agrees = λ cards. does (lent n cards incoming outgoing) (show k one) refl all-met (simp (e cards, ← length-is, ← starts, part, same));
        starts = λ cards. simp (e cards, starts);
      })
