-- Refusals exactly: the number of a call's first need that is not met is n if and only if the paper's condition n holds and no earlier
-- one of that call's list does. The needs and the conditions go row by row, each test deciding its condition, no number 0.
use mathlib.Core.Path.{◌≡◌, refl, sym, ◌∙◌}
use mathlib.Core.Logic.{◌⊎◌, ◌↔◌, inl, inr, ⊎_elim}
use Prim.Native.Nat.{ℕ, ◌+◌, ◌*◌, ◌≤◌, ◌<◌}
use native.Mathlib.Omega.{arith}
use mathlib.Core.Bool.{Bool, true, false, not, ◌&&◌}
use mathlib.Core.List.{List, [], ◌∷◌}
use lib.ListN.{length, drop}
use lib.Dec.{T, ltb, leb, eqb}
use mir.Facts.{leb_yes, leb_no, ltb_yes, ltb_no, eqb_yes, eqb_no, yes_leb, yes_ltb, yes_and}
use Rattle.rules.specs.Tests.{Need, need, first_unmet}
use Rattle.rules.specs.Numbers.{berth_count, from_berth, out_of_order, bad_setting, unused, stmin_parameter, block_parameter}
use Rattle.rules.specs.Nodes.{berth_at, Held}
use Rattle.rules.specs.Ranges.{settings_allowed, in_order, InOrder}
use Rattle.rules.specs.Turns.{busy}
use Rattle.rules.specs.Changes.{known, value_allowed}
use Rattle.rules.specs.Stores.{right_store}
use Rattle.rules.specs.Cards.{right_cards, under_way}
use Rattle.rules.specs.Events.{Call}
use Rattle.rules.specs.Refusals.{needs, refusal, set_up_refusal, Condition, conditions, set_up_conditions, Holds, Refuses}
use Rattle.rules.specs.Calls.{set_up_outcome, final}
use Rattle.rules.proofs.Cases.{Tested, holds, fails, test-cases, eqb-cases, and_left, and_right, or_cases, tests}
use Rattle.rules.proofs.Ranges.{settings-range, settings-allowed, value-range, value-allowed, in-order-range, range-in-order}
use Rattle.rules.proofs.Order.{run-in-order, set-up-in-order}

-- row by row: the same number, above 0; the test decides the condition
abbrev Decides : List Need → List Condition → Type 0
Decides [] [] = Unit {0}
Decides [] (c ∷ cs) = ⊥
Decides (n ∷ ns) [] = ⊥
Decides (n ∷ ns) (c ∷ cs) =
    ((n.number ≡ c.number) × (0 < c.number)) × (T n.met → c.when → ⊥) × (T (not n.met) → c.when) × Decides ns cs

-- ---- where no need is unmet, no condition holds, and the other way round

none-holds : (ns : List Need) (cs : List Condition) → Decides ns cs → first_unmet ns ≡ 0 → (m : ℕ) → Holds cs m → ⊥
unfolding first_unmet
none-holds [] [] d e m x = x
none-holds [] (c ∷ cs) d e m x = d
none-holds (n ∷ ns) [] d e m x = d
none-holds (n ∷ ns) (c ∷ cs) d e m x = go (test-cases n.met) (none-holds ns cs d.3)
  where
    go : Tested n.met (T n.met) (T (not n.met)) → (first_unmet ns ≡ 0 → (m : ℕ) → Holds cs m → ⊥) → ⊥
    go (holds t u) ih = ⊎_elim (λ h. d.1 u h.1) (ih (rw t at e) m) x
    go (fails t u) ih = let f : n.number ≡ 0 = rw t at e in let l = d.0 in omega arith

all-met : (ns : List Need) (cs : List Condition) → Decides ns cs → ((m : ℕ) → Holds cs m → ⊥) → first_unmet ns ≡ 0
unfolding first_unmet
all-met [] [] d f = refl
all-met [] (c ∷ cs) d f = absurd d
all-met (n ∷ ns) [] d f = absurd d
all-met (n ∷ ns) (c ∷ cs) d f = go (test-cases n.met) (all-met ns cs d.3 (λ m x. f m (inr x)))
  where
    go : Tested n.met (T n.met) (T (not n.met)) → first_unmet ns ≡ 0 → first_unmet (n ∷ ns) ≡ 0
    go (holds t u) ih = rw t ih
    go (fails t u) ih = absurd (f c.number (inl (refl, d.2 u)))

-- ---- a number above 0

first-refuses : (ns : List Need) (cs : List Condition) → Decides ns cs → (k : ℕ) → 0 < k → first_unmet ns ≡ k → Refuses cs k
unfolding first_unmet
first-refuses [] [] d k p e = omega arith
first-refuses [] (c ∷ cs) d k p e = absurd d
first-refuses (n ∷ ns) [] d k p e = absurd d
first-refuses (n ∷ ns) (c ∷ cs) d k p e = go (test-cases n.met) (first-refuses ns cs d.3 k p)
  where
    go : Tested n.met (T n.met) (T (not n.met)) → (first_unmet ns ≡ k → Refuses cs k) → Refuses (c ∷ cs) k
    go (holds t u) ih = inr (d.1 u, ih (rw t at e))
    go (fails t u) ih = let f : n.number ≡ k = rw t at e in inl (sym f ∙ d.0.0, d.2 u)

refuses-first : (ns : List Need) (cs : List Condition) → Decides ns cs → (k : ℕ) → Refuses cs k → first_unmet ns ≡ k
unfolding first_unmet
refuses-first [] [] d k r = absurd r
refuses-first [] (c ∷ cs) d k r = absurd d
refuses-first (n ∷ ns) [] d k r = absurd d
refuses-first (n ∷ ns) (c ∷ cs) d k r = go (test-cases n.met) (refuses-first ns cs d.3 k) r
  where
    go : Tested n.met (T n.met) (T (not n.met)) → (Refuses cs k → first_unmet ns ≡ k) → ((k ≡ c.number) × c.when) ⊎ ((c.when → ⊥) × Refuses cs k)
        → first_unmet (n ∷ ns) ≡ k
    go (holds t u) ih (inl q) = absurd (d.1 u q.1)
    go (holds t u) ih (inr q) = rw t (ih q.1)
    go (fails t u) ih (inl q) = rw t (d.0.0 ∙ sym q.0)
    go (fails t u) ih (inr q) = absurd (q.0 (d.2 u))

-- what refuses holds
refuses-holds : (cs : List Condition) (n : ℕ) → Refuses cs n → Holds cs n
refuses-holds [] n r = r
refuses-holds (c ∷ cs) n r = ⊎_elim inl (λ q. inr (refuses-holds cs n q.1)) r

-- ---- the rows of the paper's table

contradicts : (b : Bool) → T (not b) → T b → ⊥
contradicts true n t = n
contradicts false n t = t

not-not : (b : Bool) → T (not (not b)) → b ≡ true
not-not true t = refl
not-not false t = absurd t

abbrev OfTheTen : ℕ → Type 0
OfTheTen id = (0x640 ≤ id) × (id ≤ 0x649)

of-the-ten : (id : ℕ)
    → (T (leb from_berth id && ltb id (from_berth + berth_count)) → (OfTheTen id → ⊥) → ⊥)
    × (T (not (leb from_berth id && ltb id (from_berth + berth_count))) → OfTheTen id → ⊥)
of-the-ten id = (
  (λ t f.
      let u : id < from_berth + berth_count = ltb_yes (and_right (leb from_berth id) _ t) in
      f (leb_yes (and_left (leb from_berth id) _ t), omega arith)),
  (λ t f.
      let u : id < from_berth + berth_count = omega (arith, f.1) in
      contradicts (leb from_berth id && ltb id (from_berth + berth_count)) t (yes_and (leb from_berth id) _ (yes_leb f.0) (yes_ltb u))),
)

parameter-decided : (q : ℕ) → (T (known q) → 1 < q → ⊥) × (T (not (known q)) → 1 < q)
parameter-decided q = (
  (λ t l. ⊎_elim (λ (u : T (eqb q stmin_parameter)). let e : q ≡ 0 = eqb_yes u in omega arith) (λ (u : T (eqb q block_parameter)). let e : q ≡ 1 = eqb_yes u in omega arith) (or_cases (eqb q stmin_parameter) _ t)),
  (λ t. go (eqb-cases q stmin_parameter) (eqb-cases q block_parameter) t),
)
  where
    go : Tested (eqb q stmin_parameter) (q ≡ stmin_parameter) (q ≡ stmin_parameter → ⊥) → Tested (eqb q block_parameter) (q ≡ block_parameter) (q ≡ block_parameter → ⊥)
        → T (not (known q)) → 1 < q
    go (holds e x) w t = absurd (rw e at t)
    go (fails e x) (holds f y) t = absurd (rw (e, f) at t)
    go (fails e x) (fails f y) t = omega arith

module _ (h : Held) where
  in-order-decided : (T (in_order h.node) → (InOrder h.node → ⊥) → ⊥) × (T (not (in_order h.node)) → InOrder h.node → ⊥)
  in-order-decided = ((λ t f. f (in-order-range h.node t)), (λ t o. contradicts (in_order h.node) t (range-in-order h.node o)))

  abbrev RightStore : List ℕ → Type 0
  RightStore store = length store ≡ berth_count * h.node.settings.area

  right-store : (store : List ℕ) → (T (right_store h.node store) → (RightStore store → ⊥) → ⊥) × (T (not (right_store h.node store)) → RightStore store → ⊥)
  unfolding right_store
  right-store store = ((λ t f. f (eqb_yes t)), (λ t e. eqb_no t e))

  abbrev TenCards : Type 0
  TenCards = length h.cards ≡ berth_count

  ten-cards : (T (right_cards h.cards) → (TenCards → ⊥) → ⊥) × (T (not (right_cards h.cards)) → TenCards → ⊥)
  unfolding right_cards
  ten-cards = ((λ t f. f (eqb_yes t)), (λ t e. eqb_no t e))

  decides : (c : Call) → Decides (needs h c) (conditions h c)
  unfolding needs right_store
  decides (Call.frame id d) = (
    (refl, omega arith),
    in-order-decided.0,
    in-order-decided.1,
    (
      (refl, omega arith),
      (right-store h.incoming).0,
      (right-store h.incoming).1,
      (
        (refl, omega arith),
        ten-cards.0,
        ten-cards.1,
        (
          (refl, omega arith),
          (of-the-ten id).0,
          (of-the-ten id).1,
          ((refl, omega arith), (λ t f. omega tests), (λ t. leb_no t), tt),
        ),
      ),
    ),
  )
  decides Call.tick = ((refl, omega arith), in-order-decided.0, in-order-decided.1, ((refl, omega arith), ten-cards.0, ten-cards.1, tt))
  decides (Call.send k party m) = (
    (refl, omega arith),
    in-order-decided.0,
    in-order-decided.1,
    (
      (refl, omega arith),
      (right-store h.outgoing).0,
      (right-store h.outgoing).1,
      (
        (refl, omega arith),
        (λ t f. omega tests),
        (λ t. ltb_no t),
        (
          (refl, omega arith),
          (λ t f. omega tests),
          (λ t. leb_no t),
          (
            (refl, omega arith),
            (λ t f. omega tests),
            (λ t. omega tests),
            (
              (refl, omega arith),
              (λ t f. omega tests),
              (λ t. leb_no t),
              ((refl, omega arith), (λ t f. rw f at t), not-not (busy (berth_at h.node k).tx), tt),
            ),
          ),
        ),
      ),
    ),
  )
  decides (Call.turn buffer) = (
    (refl, omega arith),
    in-order-decided.0,
    in-order-decided.1,
    (
      (refl, omega arith),
      (right-store h.outgoing).0,
      (right-store h.outgoing).1,
      ((refl, omega arith), ten-cards.0, ten-cards.1, ((refl, omega arith), (λ t f. omega tests), (λ t. leb_no t), tt)),
    ),
  )
  decides (Call.show k choice) = tt
  decides (Call.change k parameter value) = (
    (refl, omega arith),
    in-order-decided.0,
    in-order-decided.1,
    (
      (refl, omega arith),
      (λ t f. omega tests),
      (λ t. ltb_no t),
      (
        (refl, omega arith),
        (parameter-decided parameter).0,
        (parameter-decided parameter).1,
        (
          (refl, omega arith),
          (λ t f. f (value-range parameter value t)),
          (λ t r. contradicts (value_allowed parameter value) t (value-allowed parameter value r)),
          ((refl, omega arith), (λ t f. rw f at t), not-not (under_way (berth_at h.node k).rx), tt),
        ),
      ),
    ),
  )

set-up-decides : (a bs stmin : ℕ) → Decides (need bad_setting (settings_allowed a bs stmin) ∷ []) (set_up_conditions a bs stmin)
set-up-decides a bs stmin = (
  (refl, omega arith),
  (λ t f. f (settings-range a bs stmin t)),
  (λ t r. contradicts (settings_allowed a bs stmin) t (settings-allowed a bs stmin r)),
  tt,
)

-- REFUSALS EXACTLY: the refusal of a call is n if and only if condition n holds and no earlier one of that call's list does
pub refused-exactly : (h : Held) (c : Call) (n : ℕ) → 0 < n → (refusal h c ≡ n) ↔ Refuses (conditions h c) n
unfolding refusal
refused-exactly h c n p = (first-refuses (needs h c) (conditions h c) (decides h c) n p, refuses-first (needs h c) (conditions h c) (decides h c) n)

-- and there is none if and only if none of its conditions holds
pub answered-exactly : (h : Held) (c : Call) → (refusal h c ≡ 0) ↔ ((n : ℕ) → Holds (conditions h c) n → ⊥)
unfolding refusal
answered-exactly h c = (none-holds (needs h c) (conditions h c) (decides h c), all-met (needs h c) (conditions h c) (decides h c))

pub set-up-refused-exactly : (a bs stmin n : ℕ) → 0 < n → (set_up_refusal a bs stmin ≡ n) ↔ Refuses (set_up_conditions a bs stmin) n
unfolding set_up_refusal
set-up-refused-exactly a bs stmin n p = (first-refuses _ (set_up_conditions a bs stmin) (set-up-decides a bs stmin) n p, refuses-first _ (set_up_conditions a bs stmin) (set-up-decides a bs stmin) n)

pub set-up-answered-exactly : (a bs stmin : ℕ) → (set_up_refusal a bs stmin ≡ 0) ↔ ((n : ℕ) → Holds (set_up_conditions a bs stmin) n → ⊥)
unfolding set_up_refusal
set-up-answered-exactly a bs stmin = (none-holds _ (set_up_conditions a bs stmin) (set-up-decides a bs stmin), all-met _ (set_up_conditions a bs stmin) (set-up-decides a bs stmin))

-- ---- refusal 1 never comes where the node is in order, and 11 nowhere

-- a number that no condition of a list has
abbrev absent : ℕ → List Condition → Bool
absent n [] = true
absent n (c ∷ cs) = not (eqb n c.number) && absent n cs

not_there : (n : ℕ) (cs : List Condition) → T (absent n cs) → Holds cs n → ⊥
not_there n [] t x = x
not_there n (c ∷ cs) t x =
    ⊎_elim (λ q. eqb_no (and_left (not (eqb n c.number)) (absent n cs) t) q.0)
    (not_there n cs (and_right (not (eqb n c.number)) (absent n cs) t)) x

-- condition 1 says that the node is out of order, whatever the call
first-condition : (h : Held) (c : Call) → Holds (conditions h c) out_of_order → InOrder h.node → ⊥
first-condition h (Call.frame id d) x o = ⊎_elim (λ q. q.1 o) (not_there out_of_order (drop 1 (conditions h (Call.frame id d))) tt) x
first-condition h Call.tick x o = ⊎_elim (λ q. q.1 o) (not_there out_of_order (drop 1 (conditions h Call.tick)) tt) x
first-condition h (Call.send k party m) x o = ⊎_elim (λ q. q.1 o) (not_there out_of_order (drop 1 (conditions h (Call.send k party m))) tt) x
first-condition h (Call.turn buffer) x o = ⊎_elim (λ q. q.1 o) (not_there out_of_order (drop 1 (conditions h (Call.turn buffer))) tt) x
first-condition h (Call.show k choice) x o = x
first-condition h (Call.change k q v) x o = ⊎_elim (λ y. y.1 o) (not_there out_of_order (drop 1 (conditions h (Call.change k q v))) tt) x

pub never-out-of-order : (h : Held) (c : Call) → InOrder h.node → refusal h c ≡ out_of_order → ⊥
never-out-of-order h c o e = first-condition h c (refuses-holds (conditions h c) out_of_order ((refused-exactly h c out_of_order (omega arith)).0 e)) o

-- REFUSAL 1 NEVER COMES AFTER A SET-UP THAT WAS ANSWERED: not at any call of any run after it
pub never-after-set-up : (h : Held) (a bs stmin : ℕ) → set_up_refusal a bs stmin ≡ 0 → (cs : List Call) (c : Call)
    → refusal (final (set_up_outcome h a bs stmin).held cs) c ≡ out_of_order → ⊥
never-after-set-up h a bs stmin e cs c = never-out-of-order _ c (run-in-order _ cs (set-up-in-order h a bs stmin e))

-- NO CALL IS REFUSED WITH 11: no list has it
pub never-unused : (h : Held) (c : Call) → refusal h c ≡ unused → ⊥
never-unused h c e = not_there unused (conditions h c) (go c) (refuses-holds (conditions h c) unused ((refused-exactly h c unused (omega arith)).0 e))
  where
    go : (c : Call) → T (absent unused (conditions h c))
    go (Call.frame id d) = tt
    go Call.tick = tt
    go (Call.send k party m) = tt
    go (Call.turn buffer) = tt
    go (Call.show k choice) = tt
    go (Call.change k parameter value) = tt

-- nor is a set-up
pub set-up-never-unused : (a bs stmin : ℕ) → set_up_refusal a bs stmin ≡ unused → ⊥
set-up-never-unused a bs stmin e =
    let cs = set_up_conditions a bs stmin in
    not_there unused cs tt (refuses-holds cs unused ((set-up-refused-exactly a bs stmin unused (omega arith)).0 e))
