-- What a call that is not refused may count on: each of its needs is met.
use mathlib.Core.Path.{◌≡◌}
use Prim.Native.Nat.{ℕ, ◌+◌, ◌*◌, ◌≤◌, ◌<◌}
use native.Mathlib.Omega.{arith}
use mathlib.Core.Bool.{not}
use mathlib.Core.List.{List, ◌++◌}
use lib.ListN.{length}
use lib.Dec.{T, ltb, leb}
use mir.Facts.{leb_yes, ltb_yes, eqb_yes}
use Rattle.rules.specs.Tests.{Need, first_unmet}
use Rattle.rules.specs.Numbers.{berth_count, from_berth, most_data, least_buffer, the_laptop}
use Rattle.rules.specs.Nodes.{berth_at, Held}
use Rattle.rules.specs.Ranges.{in_order}
use Rattle.rules.specs.Turns.{busy}
use Rattle.rules.specs.Changes.{known, value_allowed}
use Rattle.rules.specs.Stores.{right_store}
use Rattle.rules.specs.Events.{Call, sender_of}
use Rattle.rules.specs.Cards.{right_cards, under_way}
use Rattle.rules.specs.Refusals.{order_and_store, needs, refusal}
use Rattle.rules.specs.declared.Node.{Node}
use Rattle.rules.proofs.Cases.{met, and_left, and_right}

-- the needs that frame, send and turn share; what is left is that no other is unmet
first_two : (n : Node) (store : List ℕ) (ns : List Need) → first_unmet (order_and_store n store ++ ns) ≡ 0
    → T (in_order n) × (length store ≡ berth_count * n.settings.area) × (first_unmet ns ≡ 0)
unfolding right_store
first_two n store ns e =
    let (r1, e1) = met _ _ _ e in
    let (r2, e2) = met _ _ _ e1 in
    (r1, eqb_yes r2, e2)

pub record FrameAnswered (h : Held) (id : ℕ) (d : List ℕ) : Type 0 where
  pub order : T (in_order h.node)
  pub store : length h.incoming ≡ berth_count * h.node.settings.area
  pub ten : length h.cards ≡ berth_count
  pub known : from_berth ≤ id
  pub mine : sender_of id < berth_count
  pub short : length d ≤ most_data

pub frame-answered : (h : Held) (id : ℕ) (d : List ℕ) → refusal h (Call.frame id d) ≡ 0 → FrameAnswered h id d
unfolding refusal needs right_cards
frame-answered h id d e =
    let (r1, r2, e2) = first_two h.node h.incoming _ e in
    let (r12, e12) = met _ _ _ e2 in
    let (r3, e3) = met _ _ _ e12 in
    let from : from_berth ≤ id = leb_yes (and_left (leb from_berth id) (ltb id (from_berth + berth_count)) r3) in
    let below : id < from_berth + berth_count = ltb_yes (and_right (leb from_berth id) (ltb id (from_berth + berth_count)) r3) in
    record { order = r1; store = r2; ten = eqb_yes r12; known = from; mine = omega arith; short = leb_yes (met _ _ _ e3).0 }

pub record SendAnswered (h : Held) (k party : ℕ) (m : List ℕ) : Type 0 where
  pub order : T (in_order h.node)
  pub store : length h.outgoing ≡ berth_count * h.node.settings.area
  pub mine : k < berth_count
  pub allowed : party ≤ the_laptop
  pub some : 1 ≤ length m
  pub fits : length m ≤ h.node.settings.area
  pub free : T (not (busy (berth_at h.node k).tx))

pub send-answered : (h : Held) (k party : ℕ) (m : List ℕ) → refusal h (Call.send k party m) ≡ 0 → SendAnswered h k party m
unfolding refusal needs
send-answered h k party m e =
    let (r1, r2, e2) = first_two h.node h.outgoing _ e in
    let (r5, e5) = met _ _ _ e2 in
    let (r18, e18) = met _ _ _ e5 in
    let (r6, e6) = met _ _ _ e18 in
    let (r7, e7) = met _ _ _ e6 in
    record { order = r1; store = r2; mine = ltb_yes r5; allowed = leb_yes r18; some = ltb_yes r6; fits = leb_yes r7; free = (met _ _ _ e7).0 }

pub record TurnAnswered (h : Held) (buffer : List ℕ) : Type 0 where
  pub order : T (in_order h.node)
  pub store : length h.outgoing ≡ berth_count * h.node.settings.area
  pub ten : length h.cards ≡ berth_count
  pub room : least_buffer ≤ length buffer

pub turn-answered : (h : Held) (buffer : List ℕ) → refusal h (Call.turn buffer) ≡ 0 → TurnAnswered h buffer
unfolding refusal needs right_cards
turn-answered h buffer e =
    let (r1, r2, e2) = first_two h.node h.outgoing _ e in
    let (r12, e12) = met _ _ _ e2 in
    record { order = r1; store = r2; ten = eqb_yes r12; room = leb_yes (met _ _ _ e12).0 }

pub record TickAnswered (h : Held) : Type 0 where
  pub order : T (in_order h.node)
  pub ten : length h.cards ≡ berth_count

pub tick-answered : (h : Held) → refusal h Call.tick ≡ 0 → TickAnswered h
unfolding refusal needs right_cards
tick-answered h e =
    let (r1, e1) = met _ _ _ e in
    record { order = r1; ten = eqb_yes (met _ _ _ e1).0 }

pub record ChangeAnswered (h : Held) (k parameter value : ℕ) : Type 0 where
  pub order : T (in_order h.node)
  pub mine : k < berth_count
  pub named : T (known parameter)
  pub allowed : T (value_allowed parameter value)
  pub free : T (not (under_way (berth_at h.node k).rx))

pub change-answered : (h : Held) (k parameter value : ℕ) → refusal h (Call.change k parameter value) ≡ 0 → ChangeAnswered h k parameter value
unfolding refusal needs
change-answered h k parameter value e =
    let (r1, e1) = met _ _ _ e in
    let (r5, e5) = met _ _ _ e1 in
    let (r13, e13) = met _ _ _ e5 in
    let (r14, e14) = met _ _ _ e13 in
    record { order = r1; mine = ltb_yes r5; named = r13; allowed = r14; free = (met _ _ _ e14).0 }
