-- The test of order. A berth that is idle, with a last length in range, has its sides in order, and one that has fails that test only
-- where it is not idle. So the berths behind those at rest decide, and where all are in order, those at rest are the idle ones. The
-- settings of all berths first and then their sides is the order of each. Then what follows of a node from the count.
use Prim.Native.Nat.{ℕ, zero, suc, ◌+◌, ◌<◌, ◌≤◌}
use native.Mathlib.Omega.{arith}
use mathlib.Core.Path.{◌≡◌, refl, sym, ◌∙◌, ap}
use mathlib.Core.Bool.{Bool, true, false, cond, not, ◌&&◌, true≢false}
use mathlib.Core.List.{List, [], ◌∷◌}
use lib.ListN.{length, get_or, drop}
use lib.Dec.{leb, ltb, eqb}
use borrow.Author.Tests.{eq-eqb}
use Rattle.std.specs.List.{list_all, prefix_len}
use Rattle.rules.specs.Numbers.{berth_count}
use Rattle.rules.specs.Tests.{pick, all}
use Rattle.rules.specs.Nodes.{fresh}
use Rattle.rules.specs.Ranges.{area_allowed, rx_in_range, tx_in_range, party_in_range, berth_in_order, in_order}
use Rattle.rules.specs.Turns.{busy}
use Rattle.rules.specs.declared.Settings.{Settings}
use Rattle.rules.specs.declared.Rx.{Rx}
use Rattle.rules.specs.declared.Tx.{Tx}
use Rattle.rules.specs.declared.Berth.{Berth}
use Rattle.rules.specs.declared.Node.{Node}
use Rattle.rules.proofs.Cases.{yes_of, is_true, pick-either, and_left, and_right, all_yes}
use Rattle.rules.proofs.Ranges.{in-order-range}
use Rattle.berth.specs.Idle.{receiving, idle}
use Rattle.berth.proofs.Chains.{more, stop, ends}
use Rattle.berth.proofs.Guards.{not-busy}
use Rattle.looks.specs.Order.{own_in_order, sides_in_order, at_rest, leading_idle}

-- ---- the idle berths at the front

leading-most : (l : List Berth) → leading_idle l ≤ length l
unfolding leading_idle
leading-most [] = omega arith
leading-most (b ∷ l) =
    let m = leading-most l in
    pick-either (λ i. i ≤ suc (length l)) (idle b) (suc (leading_idle l)) 0 (λ t. omega (arith, m)) (λ t. omega arith)

leading-idle : (l : List Berth) (k : ℕ) → k < leading_idle l → idle (get_or l k fresh) ≡ true
unfolding leading_idle
leading-idle [] k h = absurd (omega arith)
leading-idle (b ∷ l) k h = go (idle b) refl k h (λ j. leading-idle l j)
  where
    go : (t : Bool) → idle b ≡ t → (k : ℕ) → k < pick t (suc (leading_idle l)) 0
        → ((j : ℕ) → j < leading_idle l → idle (get_or l j fresh) ≡ true) → idle (get_or (b ∷ l) k fresh) ≡ true
    go true e zero h others = e
    go true e (suc k) h others = others k (omega (arith, h))
    go false e k h others = absurd (omega (arith, h))

-- ---- one berth

pub rx-idle : (b : Berth) → idle b ≡ true → b.rx ≡ Rx.Idle
unfolding idle
rx-idle b e = go b.rx (is_true _ (and_left (not (receiving b.rx)) (not (busy b.tx)) (yes_of e)))
  where
    go : (rx : Rx) → not (receiving rx) ≡ true → rx ≡ Rx.Idle
    go Rx.Idle h = refl
    go (Rx.OwesOverflow t) h = absurd (true≢false (sym h))
    go (Rx.OwesGo p t) h = absurd (true≢false (sym h))
    go (Rx.Awaits p t) h = absurd (true≢false (sym h))

pub tx-idle : (b : Berth) → idle b ≡ true → b.tx ≡ Tx.Idle
unfolding idle
tx-idle b e = not-busy b.tx (is_true _ (and_right (not (receiving b.rx)) (not (busy b.tx)) (yes_of e)))

-- of an idle berth only the last length may be out of range
idle-by-last : (s : Settings) (b : Berth) → idle b ≡ true → sides_in_order s b ≡ leb b.last s.area
unfolding sides_in_order
idle-by-last s b e = sym (go (leb b.last s.area) refl)
  where
    tx : tx_in_range s b.tx ≡ true
    tx = ap (tx_in_range s) (tx-idle b e)

    party : true ≡ party_in_range b.tx
    party = sym (ap party_in_range (tx-idle b e))

    go : (t : Bool) → leb b.last s.area ≡ t → t ≡ all (rx_in_range s b.settings.block b.last b.rx ∷ tx_in_range s b.tx ∷ party_in_range b.tx ∷ [])
    go true h = more _ (ap (rx_in_range s b.settings.block b.last) (rx-idle b e) ∙ h) (more _ tx (ends party))
    go false h = stop _ (ap (rx_in_range s b.settings.block b.last) (rx-idle b e) ∙ h)

rests-idle : (s : Settings) (b : Berth) → at_rest s b ≡ true → idle b ≡ true
rests-idle s b e = is_true _ (all_yes (idle b ∷ leb b.last s.area ∷ []) (yes_of e)).0

rests-in-order : (s : Settings) (b : Berth) → at_rest s b ≡ true → sides_in_order s b ≡ true
rests-in-order s b e = idle-by-last s b (rests-idle s b e) ∙ is_true _ (all_yes (idle b ∷ leb b.last s.area ∷ []) (yes_of e)).1.0

not-idle : (s : Settings) (b : Berth) → at_rest s b ≡ false → sides_in_order s b ≡ true → idle b ≡ false
not-idle s b r o = go (idle b) refl
  where
    go : (t : Bool) → idle b ≡ t → t ≡ false
    go true e = absurd (true≢false (more _ e (ends (sym (sym (idle-by-last s b e) ∙ o))) ∙ r))
    go false e = refl

-- ---- the berths at rest at the front: the others decide, and where these are in order, those are the idle ones

module _ (s : Settings) where
  abbrev ok : Berth → Bool
  ok = sides_in_order s

  pub rest-decides : (bs : List Berth) → list_all ok (drop (prefix_len (at_rest s) bs) bs) ≡ list_all ok bs
  rest-decides [] = refl
  rest-decides (b ∷ bs) = go (at_rest s b) refl (rest-decides bs)
    where
      go : (t : Bool) → at_rest s b ≡ t → list_all ok (drop (prefix_len (at_rest s) bs) bs) ≡ list_all ok bs
          → list_all ok (drop (cond t (1 + prefix_len (at_rest s) bs) 0) (b ∷ bs)) ≡ (ok b && list_all ok bs)
      go true e ih =
          let one : 1 + prefix_len (at_rest s) bs ≡ suc (prefix_len (at_rest s) bs) = omega arith in
          rw (rests-in-order s b e, one) ih
      go false e ih = refl

  pub resting-idle : (bs : List Berth) → list_all ok bs ≡ true → prefix_len (at_rest s) bs ≡ leading_idle bs
  unfolding leading_idle
  resting-idle [] e = refl
  resting-idle (b ∷ bs) e = go (at_rest s b) refl (resting-idle bs (is_true _ (and_right (ok b) (list_all ok bs) (yes_of e))))
    where
      go : (t : Bool) → at_rest s b ≡ t → prefix_len (at_rest s) bs ≡ leading_idle bs
          → cond t (1 + prefix_len (at_rest s) bs) 0 ≡ pick (idle b) (suc (leading_idle bs)) 0
      go true r ih = rw (rests-idle s b r) (omega (arith, ih))
      go false r ih = rw (not-idle s b r (is_true _ (and_left (ok b) (list_all ok bs) (yes_of e))))

-- ---- the node

-- the settings of all berths and then the sides of all are the order of each
settings-and-sides : (s : Settings) (bs : List Berth) → list_all (berth_in_order s) bs ≡ (list_all own_in_order bs && list_all (sides_in_order s) bs)
unfolding berth_in_order sides_in_order all
settings-and-sides s [] = refl
settings-and-sides s (b ∷ bs) =
    ap (λ (t : Bool). berth_in_order s b && t) (settings-and-sides s bs)
    ∙ sorted (own_in_order b) (sides_in_order s b) (list_all own_in_order bs) (list_all (sides_in_order s) bs)
  where
    sorted : (o t p u : Bool) → ((o && t) && (p && u)) ≡ ((o && p) && (t && u))
    sorted true true true u = refl
    sorted true true false u = refl
    sorted true false true u = refl
    sorted true false false u = refl
    sorted false t p u = refl

module _ (n : Node) where
  abbrev front : Bool
  front = all (area_allowed n.settings.area ∷ ltb n.served berth_count ∷ [])

  abbrev owns : Bool
  owns = list_all own_in_order n.berths

  abbrev berths : Bool
  berths = list_all (sides_in_order n.settings) n.berths

  order_is : in_order n ≡ (front && (eqb (length n.berths) berth_count && (owns && berths)))
  unfolding in_order all
  order_is =
      joins (area_allowed n.settings.area) (ltb n.served berth_count) (eqb (length n.berths) berth_count) (list_all (berth_in_order n.settings) n.berths)
      ∙ ap (λ (t : Bool). front && (eqb (length n.berths) berth_count && t)) (settings-and-sides n.settings n.berths)
    where
      joins : (a b c d : Bool) → (a && (b && (c && (d && true)))) ≡ ((a && (b && true)) && (c && d))
      joins true true true true = refl
      joins true true true false = refl
      joins true true false d = refl
      joins true false c d = refl
      joins false b c d = refl

  order_parts : length n.berths ≡ berth_count → in_order n ≡ (front && (owns && berths))
  order_parts ten = order_is ∙ ap (λ t. front && (t && (owns && berths))) (eq-eqb _ _ ten)

  pub front-fails : length n.berths ≡ berth_count → front ≡ false → in_order n ≡ false
  front-fails ten e = order_parts ten ∙ ap (λ t. t && (owns && berths)) e

  pub owns-fail : length n.berths ≡ berth_count → front ≡ true → owns ≡ false → in_order n ≡ false
  owns-fail ten e f = order_parts ten ∙ rw (e, f)

  pub sides-decide : length n.berths ≡ berth_count → front ≡ true → owns ≡ true → {i : ℕ} → i ≡ prefix_len (at_rest n.settings) n.berths
      → in_order n ≡ list_all (sides_in_order n.settings) (drop i n.berths)
  sides-decide ten e f i = order_parts ten ∙ rw (e, f, i) (sym (rest-decides n.settings n.berths))

  pub counts-idle : length n.berths ≡ berth_count → in_order n ≡ true → {i : ℕ} → i ≡ prefix_len (at_rest n.settings) n.berths → i ≡ leading_idle n.berths
  counts-idle ten e i =
      let all-hold = yes_of (sym (order_parts ten) ∙ e) in
      i ∙ resting-idle n.settings n.berths (is_true berths (and_right owns berths (and_right front (owns && berths) all-hold)))

-- ---- what follows from the count of the idle berths

pub idle-there : (n : Node) (k : ℕ) → k < leading_idle n.berths → idle (get_or n.berths k fresh) ≡ true
idle-there n = leading-idle n.berths

pub idle-most : (n : Node) → in_order n ≡ true → leading_idle n.berths ≤ berth_count
idle-most n e = let most = leading-most n.berths in omega (arith, most, (in-order-range n (yes_of e)).ten)
