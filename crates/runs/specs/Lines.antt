-- The line between two nodes' runs of the code: calls of the code on node A and on node B, and the carrying of frames. What goes on the
-- way and what is noted is read off the code's own answers.
use Rattle.std.specs.Prelude.{ℕ, ◌+◌, ◌≡◌, Result, ⊤, List, [], ◌∷◌}
use Rattle.rules.specs.Numbers.{from_berth}
use Rattle.rules.specs.Nodes.{with_node}
use Rattle.rules.specs.Events.{Call, frame}
use Rattle.rules.specs.Answers.{set_up_says}
use Rattle.rules.specs.Calls.{Outcome}
use Rattle.rules.specs.declared.Node.{Node}
use Rattle.rules.specs.declared.Refusal.{Refusal}
use Rattle.node.specs.Promises.{left, SetUpPromise}
use Rattle.laws.specs.Line.{World, left_a, left_b, still_to_a, still_to_b, Deed, at_a, at_b, set_up_a, set_up_b, carry_a, carry_b, Apart}
use Rattle.runs.specs.Chains.{Step}

-- one deed of the code in the world w, and the world after it: a call or a set-up on either node; the first frame on the way comes in
-- under the identifier that is expected there; with none on the way nothing happens
pub data Did (i j : ℕ) (w : World) : Deed → World → Type 0 where
  calls_a : {c : Call} {o : Outcome} → Step w.a c o → Did i j w (at_a c) (left_a i w o)
  calls_b : {c : Call} {o : Outcome} → Step w.b c o → Did i j w (at_b c) (left_b j w o)
  sets_up_a : (area block stmin : ℕ) (a : Result ⊤ Refusal) (n : Node) → SetUpPromise w.a.node area block stmin a n
      → Did i j w (set_up_a area block stmin) (left_a i w (left (set_up_says a) (with_node w.a n) []))
  sets_up_b : (area block stmin : ℕ) (a : Result ⊤ Refusal) (n : Node) → SetUpPromise w.b.node area block stmin a n
      → Did i j w (set_up_b area block stmin) (left_b j w (left (set_up_says a) (with_node w.b n) []))
  brings_a : {o : Outcome} (d : List ℕ) (q : List (List ℕ)) → w.to_a ≡ d ∷ q → Step w.a (frame (from_berth + i) d) o
      → Did i j w carry_a (left_a i (still_to_a w q) o)
  brings_b : {o : Outcome} (d : List ℕ) (q : List (List ℕ)) → w.to_b ≡ d ∷ q → Step w.b (frame (from_berth + j) d) o
      → Did i j w carry_b (left_b j (still_to_b w q) o)
  none_to_a : w.to_a ≡ [] → Did i j w carry_a w
  none_to_b : w.to_b ≡ [] → Did i j w carry_b w

-- a chain of deeds that keep apart, each in the world that the one before it left
pub data Along (i j : ℕ) : World → List Deed → World → Type 0 where
  ends : {w : World} → Along i j w [] w
  goes : {w v u : World} {d : Deed} {ds : List Deed} → Did i j w d v → Apart i j w d → Along i j v ds u → Along i j w (d ∷ ds) u
