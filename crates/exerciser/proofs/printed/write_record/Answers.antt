-- An entry that is refused has no record.
use Rattle.std.proofs.Common.{sym, subst}
use Rattle.std.specs.Io.KnownBytes.{Appends}
use Rattle.std.proofs.KnownBytes.{Appends-nil}
use Rattle.exerciser.proofs.Recorded.{record-refused}
use Rattle.exerciser.proofs.printed.write_record.Goals as goal

pub returns-in-Err : goal.returns-in-Err
returns-in-Err g c =
    subst (Appends _ _) (sym (record-refused _ _ (rw c.in-Err.is at c.write.ensures.result_value))) (Appends-nil _)
