-- The codes of the berths so far were written.
use Rattle.std.proofs.Common.{map, take}
use Rattle.std.specs.Fmt.{HasWritten, IsPlainFormatter}
use Rattle.rules.specs.Words.{codes_said}
use Rattle.text.specs.Answers.{codes_text}
use Rattle.text.proofs.words.write_codes.Given as goal

abbrev pub invariant-loop-berth : goal.invariant-loop-berth
invariant-loop-berth g l =
    IsPlainFormatter l.initial.f → HasWritten g.W.Write.write_str_gives l.initial.f (codes_text 0 (map codes_said (take l.berth l.all))) l.f
