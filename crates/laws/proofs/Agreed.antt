-- The settings that the taker had at Begun are settings that set-up and change allow: its node is in order after every deed, and the
-- settings of a Begun are its berth's own.
use mathlib.Core.Path.{◌≡◌}
use Prim.Native.Nat.{ℕ, ◌+◌, ◌<◌}
use native.Mathlib.Omega.{arith}
use mathlib.Core.Bool.{true}
use mathlib.Core.List.{List, [], ◌∷◌, ◌++◌}
use lib.ListN.{get_or}
use lib.Dec.{T}
use Rattle.rules.specs.Tests.{all}
use Rattle.rules.specs.Numbers.{berth_count, from_berth}
use Rattle.rules.specs.Nodes.{zero_settings, berth_at, Held}
use Rattle.rules.specs.Ranges.{own_allowed, InOrder}
use Rattle.rules.specs.Events.{frame}
use Rattle.rules.specs.Refusals.{set_up_refusal}
use Rattle.rules.specs.Calls.{Outcome, refused_outcome, outcome, set_up_outcome}
use Rattle.rules.specs.Alone.{Says, hears, expires, accepts, hands, adopts}
use Rattle.rules.specs.declared.BerthSettings.{BerthSettings}
use Rattle.rules.specs.Words.{Delivered, Begun, Failed, Ignored, TooLong, Took, Going, Waiting}
use Rattle.rules.proofs.Cases.{is_true, split}
use Rattle.rules.proofs.Ranges.{own-allowed}
use Rattle.rules.proofs.Facts.{set-up-refusal-leaves}
use Rattle.rules.proofs.Order.{order-kept, set-up-in-order}
use Rattle.laws.specs.Own.{over, says_of}
use Rattle.laws.specs.Line.{World, begun_in, left_a, left_b, still_to_b, carried_a, carried_b, Deed, at_a, at_b, set_up_a, set_up_b, carry_a, carry_b, acts, living, begin, MayBegin, agreed}

-- ---- the first of a list of settings, or settings 0 of none, is allowed

abbrev Allowed : BerthSettings → Type 0
Allowed own = T (own_allowed own.block own.stmin)

abbrev FirstAllowed : List BerthSettings → Type 0
FirstAllowed l = Allowed (get_or l 0 zero_settings)

none_allowed : FirstAllowed []
unfolding all
none_allowed = tt

first-append : (xs ys : List BerthSettings) → FirstAllowed xs → FirstAllowed ys → FirstAllowed (xs ++ ys)
first-append [] ys t u = u
first-append (x ∷ xs) ys t u = t

first-begun : (own : BerthSettings) (say : Says) → Allowed own → FirstAllowed (begun_in own say)
unfolding begun_in
first-begun own (hears old (Delivered n)) t = none_allowed
first-begun own (hears old (Begun n)) t = t
first-begun own (hears old (Failed c party)) t = none_allowed
first-begun own (hears old (Ignored why)) t = none_allowed
first-begun own (hears old TooLong) t = none_allowed
first-begun own (hears old Took) t = none_allowed
first-begun own (hears old Going) t = none_allowed
first-begun own (hears old Waiting) t = none_allowed
first-begun own (expires r c party) t = none_allowed
first-begun own accepts t = none_allowed
first-begun own (hands f c party) t = none_allowed
first-begun own adopts t = none_allowed

first-over : (own : BerthSettings) (said : List Says) → Allowed own → FirstAllowed (over (begun_in own) said)
unfolding over
first-over own [] t = none_allowed
first-over own (say ∷ said) t = first-append (begun_in own say) (over (begun_in own) said) (first-begun own say t) (first-over own said t)

-- ---- a set-up leaves a node in order, refused or not

set-up-kept : (h : Held) (area block stmin : ℕ) → InOrder h.node → InOrder (set_up_outcome h area block stmin).held.node
unfolding refused_outcome
set-up-kept h area block stmin o =
    split (set_up_refusal area block stmin) 0 (λ z. set-up-in-order h area block stmin (omega (arith, z)))
    (λ l. rw (set-up-refusal-leaves h area block stmin l) o)

-- ---- every deed

module _ (i j : ℕ) (small-j : j < berth_count) where
  record Kept (w : World) : Type 0 where
    order : InOrder w.b.node
    allowed : FirstAllowed w.begun

  kept-left : (w : World) (o : Outcome) → InOrder o.held.node → Kept w → Kept (left_b j w o)
  unfolding left_b
  kept-left w o order s =
      let own = own-allowed _ _ (order.berth j small-j).own in
      record {
        order = order;
        allowed = first-append w.begun _ s.allowed (first-over (berth_at o.held.node j).settings (says_of j o.answer) own);
      }

  kept-carried_a : (w : World) (q : List (List ℕ)) → Kept w → Kept (carried_a i w q)
  unfolding carried_a left_a
  kept-carried_a w [] s = s
  kept-carried_a w (d ∷ q) s = record { order = s.order; allowed = s.allowed }

  kept-carried_b : (w : World) (q : List (List ℕ)) → Kept w → Kept (carried_b j w q)
  unfolding carried_b
  kept-carried_b w [] s = s
  kept-carried_b w (d ∷ q) s =
      kept-left (still_to_b w q) (outcome w.b (frame (from_berth + j) d)) (order-kept w.b (frame (from_berth + j) d) s.order)
      (record { order = s.order; allowed = s.allowed })

  kept-acts : (w : World) (d : Deed) → Kept w → Kept (acts i j w d)
  unfolding acts left_a
  kept-acts w (at_a c) s = record { order = s.order; allowed = s.allowed }
  kept-acts w (at_b c) s = kept-left w (outcome w.b c) (order-kept w.b c s.order) s
  kept-acts w (set_up_a area block stmin) s = record { order = s.order; allowed = s.allowed }
  kept-acts w (set_up_b area block stmin) s =
      kept-left w (set_up_outcome w.b area block stmin) (set-up-kept w.b area block stmin s.order) s
  kept-acts w carry_a s = kept-carried_a w w.to_a s
  kept-acts w carry_b s = kept-carried_b w w.to_b s

  kept_on : (w : World) (ds : List Deed) → Kept w → Kept (living i j w ds)
  unfolding living
  kept_on w [] s = s
  kept_on w (d ∷ ds) s = kept_on (acts i j w d) ds (kept-acts w d s)

-- THE SETTINGS AT BEGUN ARE ALLOWED, after any deeds at all; and so are settings 0, if there was no Begun
module _ (i j party : ℕ) (m : List ℕ) (a b : Held) (may : MayBegin i j party m a b) where
  pub agreed-allowed : (ds : List Deed)
      → own_allowed (agreed (living i j (begin i party m a b) ds)).block (agreed (living i j (begin i party m a b) ds)).stmin ≡ true
  agreed-allowed ds =
      is_true _ (kept_on i j may.small-j (begin i party m a b) ds (record { order = may.sound-b.order; allowed = none_allowed })).allowed
