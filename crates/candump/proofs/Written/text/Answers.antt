-- Of what a record writes, no text is clipped.
use Rattle.std.proofs.Common.{rules}
use Rattle.text.specs.Building.{text_of}
use Rattle.candump.specs.Answers.{wrote, text_of as said}
use Rattle.candump.proofs.Texts.{text_written}
use Rattle.candump.proofs.Written.text.Goals as goal

pub returns-in-Some-clause-whole : goal.returns-in-Some-clause-whole
unfolding wrote said
returns-in-Some-clause-whole c = λ name time bytes is. text_written name time bytes c.args.self.now (text_of c.line.result) (search rules) is
