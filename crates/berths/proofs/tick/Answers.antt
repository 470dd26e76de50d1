-- What the tests of the call found.
use Rattle.berths.proofs.Ticking.{ten-cards, idle-within, idle-before, ticks}
use Rattle.berths.proofs.tick.Goals as goal

pub each-requires-clause-from : goal.each-requires-clause-from
each-requires-clause-from c = idle-within c.args.node.now c.args.cards.now c.requires.may c.requires.idle

pub each-requires-clause-idle : goal.each-requires-clause-idle
each-requires-clause-idle c = idle-before c.args.node.now c.args.cards.now c.requires.may c.requires.idle

pub each-requires-clause-cards : goal.each-requires-clause-cards
each-requires-clause-cards c = ten-cards c.args.node.now c.args.cards.now c.requires.may

pub returns : goal.returns
returns c = ticks c.args.node.now c.args.cards.now c.requires.may c.each.result c.each.ensures.codes c.each.ensures.node c.each.ensures.cards
