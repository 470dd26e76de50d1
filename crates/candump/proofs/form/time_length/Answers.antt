-- The seconds' digits are none or too many.
use Rattle.std.proofs.Common.{◌≡◌, false, rules}
use Rattle.candump.specs.Digits.{between}
use Rattle.candump.proofs.FormTests.{seconds-outside}
use Rattle.candump.proofs.form.time_length.Goals as goal

pub returns-then-not-contains : goal.returns-then-not-contains
unfolding between
returns-then-not-contains c =
    let few : between 1 10 c.span-seconds.result ≡ false = search rules in
    rw (seconds-outside c.args.line.now _ c.span-seconds.ensures.value few) (search rules)
