-- One tick more, and the frame behind them.
use Rattle.std.proofs.Common.{◌≡◌, ℕ, ◌+◌, Bool, List, [], ◌∷◌, ◌++◌, map, replicate, Option, sym, ap, subst, ◌∙◌, append-nil, arith}
use Rattle.std.specs.Io.KnownBytes.{Appends}
use Rattle.std.proofs.KnownBytes.{Appends-nil, Appends-trans}
use Rattle.std.proofs.lemmas.List.{replicate_more}
use Rattle.std.proofs.lemmas.Result.{on_ok_weaker}
use mathlib.Core.List.{map-append}
use Rattle.records.specs.Made.{tick_record}
use Rattle.candump.specs.Files.{joined}
use Rattle.candump.proofs.Whole.{joined-append}
use Rattle.candump_converter.specs.Pieces.{with_turn, line_records}
use Rattle.candump_converter.proofs.put.line.Goals as goal

-- a record more behind some
behind : (f : List ℕ → List ℕ) (ds : List (List ℕ)) (d : List ℕ) → joined (map f ds) ++ f d ≡ joined (map f (ds ++ d ∷ []))
unfolding joined
behind f ds d = sym (rw (map-append, joined-append) (ap (λ l. joined (map f ds) ++ l) (append-nil (f d))))

module _ (old now new : Option (List ℕ)) (turns : Bool) (k : ℕ) (wrote : Appends old now (joined (map (with_turn turns) (replicate k tick_record)))) where
  tick_more : Appends now new (with_turn turns tick_record) → Appends old new (joined (map (with_turn turns) (replicate (k + 1) tick_record)))
  tick_more put =
      subst (Appends old new) (behind (with_turn turns) (replicate k tick_record) tick_record ∙ ap (λ ds. joined (map (with_turn turns) ds)) (replicate_more k tick_record))
      (Appends-trans old now new _ _ wrote put)

  frame_more : (frame : List ℕ) → Appends now new (with_turn turns frame) → Appends old new (joined (map (with_turn turns) (line_records k frame)))
  frame_more frame put = subst (Appends old new) (behind (with_turn turns) (replicate k tick_record) frame) (Appends-trans old now new _ _ wrote put)

pub loop-init : goal.loop-init
unfolding joined
loop-init g c = Appends-nil _

pub loop-preserved : goal.loop-preserved
loop-preserved g c = tick_more _ _ _ c.args.turns c.loop.counter c.loop.invariant (rw c.tick.ensures at c.in_ok-put.ensures)

pub returns : goal.returns
returns g c =
    let all : c.loop.counter ≡ c.args.read.now.ticks = omega (arith, c.loop-test.false, c.loop.auto.counter-end) in
    on_ok_weaker c.put-2.result (λ put. frame_more _ _ _ c.args.turns c.args.read.now.ticks (rw all at c.loop.invariant) c.args.read.now.bytes put) c.put-2.ensures
