use Rattle.std.proofs.Common.{◌≡◌, length, map}
use Rattle.rules.specs.Words.{codes_said}
use Rattle.berths.proofs.EachTick.{node_to, codes_to, cards_to}
use Rattle.berths.proofs.each.Given as goal

abbrev pub invariant-loop-k : goal.invariant-loop-k
invariant-loop-k l = record {
  ten : length l.fn.node.berths ≡ 10;
  ten_cards : length l.cards ≡ 10;
  node : l.node ≡ node_to l.fn.node l.k;
  codes : map codes_said l.codes ≡ codes_to l.fn.node l.k;
  cards : l.cards ≡ cards_to l.fn.node l.fn.cards l.k;
}
