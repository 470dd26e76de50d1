-- What the tests of the call found, and the berth that is passed to.
use Rattle.std.proofs.Common.{rules}
use Rattle.handing.proofs.Turning.{met, found-order, area-in-range, reached-is-due, hands}
use Rattle.node.proofs.Refusing.{none_due}
use Rattle.handing.proofs.turn.Goals as goal

pub passed_over-requires-clause-in_order : goal.passed_over-requires-clause-in_order
passed_over-requires-clause-in_order c = found-order c.args.node.now c.args.cards.now c.args.outgoing.now c.args.buffer.now c.requires.may

pub returns-in_default : goal.returns-in_default
returns-in_default c = none_due c.args.node.now c.args.cards.now c.args.outgoing.now c.args.buffer.now c.requires.may (search rules)

pub hand_over-requires-clause-due : goal.hand_over-requires-clause-due
hand_over-requires-clause-due c =
    reached-is-due c.args.node.now c.args.cards.now c.args.outgoing.now c.args.buffer.now c.requires.may
    c.in-Some.ensures.due.0 c.in-Some.ensures.due.1 c.probe-berth.ensures

pub hand_over-requires-clause-settings : goal.hand_over-requires-clause-settings
hand_over-requires-clause-settings c = area-in-range c.args.node.now c.args.cards.now c.args.outgoing.now c.args.buffer.now c.requires.may

pub hand_over-requires-clause-cards : goal.hand_over-requires-clause-cards
hand_over-requires-clause-cards c = (met c.args.node.now c.args.cards.now c.args.outgoing.now c.args.buffer.now c.requires.may).ten

pub hand_over-requires-clause-store : goal.hand_over-requires-clause-store
hand_over-requires-clause-store c = (met c.args.node.now c.args.cards.now c.args.outgoing.now c.args.buffer.now c.requires.may).store

pub hand_over-requires-clause-room : goal.hand_over-requires-clause-room
hand_over-requires-clause-room c = (met c.args.node.now c.args.cards.now c.args.outgoing.now c.args.buffer.now c.requires.may).room

pub returns : goal.returns
returns c =
    let h = c.hand_over.ensures in
    hands c.args.node.now c.args.cards.now c.args.outgoing.now c.args.buffer.now c.requires.may
    c.in-Some.ensures.due.0 c.in-Some.ensures.due.1 c.probe-berth.ensures _ h.node h.cards h.eight h.buffer h.answer
