-- None was written at first; then one record more.
use Rattle.std.proofs.Common.{subst}
use Rattle.std.specs.Io.KnownBytes.{Appends}
use Rattle.std.proofs.KnownBytes.{Appends-nil, Appends-trans}
use Rattle.exerciser.specs.Printed.{records_of}
use Rattle.exerciser.proofs.Recorded.{records_more}
use Rattle.exerciser.proofs.printed.write_records.Goals as goal

pub loop-entry-init : goal.loop-entry-init
unfolding records_of
loop-entry-init g c = Appends-nil _

pub loop-entry-preserved : goal.loop-entry-preserved
loop-entry-preserved g c =
    subst (Appends _ _) (records_more _ _ c.loop-entry-test.true) (Appends-trans _ _ _ _ _ c.loop-entry.invariant c.in_ok-write_record.ensures)
