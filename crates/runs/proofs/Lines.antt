-- The line's law of the code: a chain of deeds lives through the same worlds as the rules do, so the law of the rules is the chain's; and
-- every list of deeds that keep apart has a chain.
use Prim.Native.Nat.{ℕ, ◌+◌}
use mathlib.Core.Path.{◌≡◌, refl, sym, ap, ◌∙◌, subst}
use mathlib.Core.List.{List, [], ◌∷◌}
use Rattle.rules.specs.Numbers.{from_berth}
use Rattle.rules.specs.Nodes.{Held}
use Rattle.rules.specs.Events.{frame, send}
use Rattle.rules.specs.Calls.{Outcome, outcome}
use Rattle.node.proofs.Determined.{same}
use Rattle.laws.specs.Own.{over}
use Rattle.laws.specs.Line.{World, left_a, left_b, still_to_a, still_to_b, carried_a, carried_b, Deed, at_a, at_b, set_up_a, set_up_b, carry_a, carry_b, acts, living, AllApart, AtRest, quiet, begin, MayBegin, Arrived, deeds_of}
use Rattle.laws.proofs.World.{line-law}
use Rattle.laws.proofs.Schedule.{schedule-exists}
use Rattle.runs.specs.Chains.{Step}
use Rattle.runs.specs.Lines.{Did, calls_a, calls_b, sets_up_a, sets_up_b, brings_a, brings_b, none_to_a, none_to_b, Along, ends, goes}
use Rattle.runs.proofs.Runs.{step_is}
use Rattle.runs.proofs.Every.{every-step, every-set-up}

module _ (i j : ℕ) where
  -- EACH DEED of the code leaves the world that the rules leave.
  pub did-is : {w : World} {d : Deed} {v : World} → Did i j w d v → v ≡ acts i j w d
  unfolding acts carried_a carried_b
  did-is {w} (calls_a s) = ap (left_a i w) (step_is s)
  did-is {w} (calls_b s) = ap (left_b j w) (step_is s)
  did-is {w} (sets_up_a area block stmin a n p) = ap (left_a i w) (same (p w.a.cards w.a.incoming w.a.outgoing))
  did-is {w} (sets_up_b area block stmin a n p) = ap (left_b j w) (same (p w.b.cards w.b.incoming w.b.outgoing))
  did-is {w} (brings_a d q e s) = ap (left_a i (still_to_a w q)) (step_is s) ∙ ap (carried_a i w) (sym e)
  did-is {w} (brings_b d q e s) = ap (left_b j (still_to_b w q)) (step_is s) ∙ ap (carried_b j w) (sym e)
  did-is {w} (none_to_a e) = ap (carried_a i w) (sym e)
  did-is {w} (none_to_b e) = ap (carried_b j w) (sym e)

  -- A CHAIN OF DEEDS lives through what the rules live through, and keeps apart there too.
  pub along-is : {w : World} {ds : List Deed} {u : World} → Along i j w ds u → (u ≡ living i j w ds) × AllApart i j w ds
  unfolding living AllApart
  along-is ends = (refl, tt)
  along-is (goes {w} {v} {u} {d} {ds} s t r) =
      let (e, f) = along-is r in
      let same = did-is s in
      (e ∙ ap (λ (x : World). living i j x ds) same, (t, rw same at f))

  -- ---- every list of deeds has a chain

  as-acts : {w : World} {d : Deed} {v : World} → Did i j w d v → Did i j w d (acts i j w d)
  as-acts {w} {d} s = subst (Did i j w d) (did-is s) s

  every-deed : (w : World) (d : Deed) → Did i j w d (acts i j w d)
  every-deed w (at_a c) = as-acts (calls_a (every-step w.a c))
  every-deed w (at_b c) = as-acts (calls_b (every-step w.b c))
  every-deed w (set_up_a area block stmin) =
      let (a, n, p) = every-set-up w.a.node area block stmin in as-acts (sets_up_a area block stmin a n p)
  every-deed w (set_up_b area block stmin) =
      let (a, n, p) = every-set-up w.b.node area block stmin in as-acts (sets_up_b area block stmin a n p)
  every-deed w carry_a = go w.to_a refl
    where
      go : (q : List (List ℕ)) → w.to_a ≡ q → Did i j w carry_a (acts i j w carry_a)
      go [] e = as-acts (none_to_a e)
      go (d ∷ q) e = as-acts (brings_a d q e (every-step w.a (frame (from_berth + i) d)))
  every-deed w carry_b = go w.to_b refl
    where
      go : (q : List (List ℕ)) → w.to_b ≡ q → Did i j w carry_b (acts i j w carry_b)
      go [] e = as-acts (none_to_b e)
      go (d ∷ q) e = as-acts (brings_b d q e (every-step w.b (frame (from_berth + j) d)))

  -- EVERY LIST OF DEEDS THAT KEEP APART HAS A CHAIN
  pub every-along : (w : World) (ds : List Deed) → AllApart i j w ds → Along i j w ds (living i j w ds)
  unfolding living AllApart
  every-along w [] t = ends
  every-along w (d ∷ ds) t = goes (every-deed w d) t.0 (every-along (acts i j w d) ds t.1)

  module _ (party : ℕ) (m : List ℕ) (a b : Held) (may : MayBegin i j party m a b) where
    -- THE LINE'S LAW OF THE CODE. The code takes either party's message of 1 to A bytes on node A for berth i; berth j of node B is idle and its
    -- area holds the message; both nodes are in order, every store has its length and every list ten cards. Then any calls of the code
    -- on both nodes, with each frame that the code handed over for berth i carried to B's berth j and its flow control back, under the
    -- identifiers expected, once and in order; each keeps apart. When none is on the way and neither has one due or a gap left, the
    -- same bytes have arrived and the sender has reported 1.
    pub chain-line-law : {o : Outcome} {ds : List Deed} {w : World} → Step a (send i party m) o → Along i j (quiet o.held b) ds w → AtRest i j w → Arrived i j party m w
    chain-line-law {o} {ds} {w} s r rest =
        let begun : quiet o.held b ≡ begin i party m a b = ap (λ (x : Outcome). quiet x.held b) (step_is s) in
        let (e, apart) = along-is r in
        let f : w ≡ living i j (begin i party m a b) ds = e ∙ ap (λ (x : World). living i j x ds) begun in
        rw f (line-law i j party m a b may ds (rw begun at apart) (rw f at rest))

    -- IT IS NOT EMPTY: from every such start there is a chain of the code that ends at rest.
    pub chain-line-exists : (ds : List Deed) × (w : World) × Along i j (quiet (outcome a (send i party m)).held b) ds w × AtRest i j w
    chain-line-exists =
        let (schedule, f, arrived) = schedule-exists i j party m a b may in
        (over deeds_of schedule, living i j (begin i party m a b) (over deeds_of schedule), every-along (begin i party m a b) (over deeds_of schedule) f.apart, f.rest)
