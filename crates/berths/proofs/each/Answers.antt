-- The berths before the first that is not idle are as they were; each turn ticks one more.
use Rattle.std.proofs.Common.{rules, ◌<◌, ◌≡◌, ◌∙◌, arith, length}
use Rattle.std.proofs.lemmas.List.{map-set, length-set}
use Rattle.rules.specs.Words.{codes_said}
use Rattle.berths.proofs.EachTick.{starts-node, starts-codes, starts-cards, steps-node, steps-codes, steps-cards}
use Rattle.berths.proofs.each.Goals as goal

pub loop-k-init : goal.loop-k-init
loop-k-init c =
    let h = c.args.node.now in let ten : length h.berths ≡ 10 = search rules in
    record {
      ten = ten;
      ten_cards = c.requires.cards;
      node = starts-node h ten c.args.from c.requires.from c.requires.idle;
      codes = starts-codes h ten c.args.from c.requires.from c.requires.idle;
      cards = starts-cards h ten c.args.from c.requires.from c.requires.idle c.args.cards.now;
    }

pub loop-k-preserved : goal.loop-k-preserved
loop-k-preserved c =
    let h = c.args.node.now in let k = c.loop-k.k in let inv = c.loop-k.invariant in let lt : k < 10 = search rules in
    record {
      ten = inv.ten;
      ten_cards = omega (arith, length-set c.loop-k.cards k c.tick_berth.new.card, inv.ten_cards);
      node = steps-node h inv.ten k lt inv.node c.tick_berth.ensures.berth;
      codes = map-set codes_said c.loop-k.codes k c.tick_berth.result ∙ steps-codes h inv.ten k lt inv.node inv.codes c.tick_berth.ensures.codes;
      cards = steps-cards h inv.ten k lt inv.node c.args.cards.now c.requires.cards inv.cards c.tick_berth.ensures.card;
    }
