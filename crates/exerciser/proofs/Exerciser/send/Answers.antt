-- The message is the front of the longest one; a send is not counted as a tick.
use Rattle.std.proofs.Common.{◌≡◌, take, ap}
use Rattle.records.specs.Records.{rising_from}
use Rattle.records.proofs.Rising.{rising-front}
use Rattle.exerciser.specs.Printed.{with_tick}
use Rattle.exerciser.proofs.Recorded.{send-counts}
use Rattle.exerciser.proofs.Promised.{does}
use Rattle.exerciser.proofs.Exerciser.send.Goals as goal

pub returns : goal.returns
returns g c =
    let m : take c.args.length c.rise.new.message ≡ rising_from c.args.first c.args.length = rw c.rise.ensures (rising-front c.args.length 1001 c.args.first c.requires) in
    does c.send.ensures (ap (with_tick c.args.self.now.how) (send-counts _ _)) (rw m at (c.send-answer.ensures c.args.self.now.cards c.args.self.now.incoming))
