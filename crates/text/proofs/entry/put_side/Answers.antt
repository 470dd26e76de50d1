-- The definition makes the same tests.
use mathlib.Core.List.{append_assoc}
use borrow.Author.Tests.{ne_eqb}
use Rattle.text.specs.Entries.{side_text}
use Rattle.text.proofs.Clip.{clip-more}
use Rattle.text.proofs.entry.put_side.Goals as goal

pub returns-in-Err : goal.returns-in-Err
unfolding side_text
returns-in-Err c =
    rw (ne_eqb c.args.kind 1 c.in-Err.ensures.1, ne_eqb c.args.kind 2 c.in-Err.ensures.2)
    (simp (c.put.ensures, c.small.ensures, c.put_all-in-Err.ensures, clip-more, append_assoc))
