-- In a journal a send has no record.
use Rattle.std.proofs.Common.{sym, subst}
use Rattle.std.specs.Io.KnownBytes.{Appends}
use Rattle.std.proofs.KnownBytes.{Appends-nil}
use Rattle.exerciser.proofs.Recorded.{send-prints-nothing}
use Rattle.exerciser.proofs.printed.send.Goals as goal

pub returns-then-how : goal.returns-then-how
returns-then-how g c = subst (Appends _ _) (sym (send-prints-nothing c.args.how c.args.answer c.if-how.true)) (Appends-nil _)
