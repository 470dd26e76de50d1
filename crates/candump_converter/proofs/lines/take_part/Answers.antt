-- What is shown is consumed as far as it was taken; it ends at LF, or has none.
use Rattle.std.proofs.Common.{◌≡◌, ◌-◌, ◌<◌, ◌≤◌, min, ◌++◌, length, take, subst, length-append, length-take-le, arith, rules}
use Rattle.std.specs.Io.BufRead.{FillKeeps}
use Rattle.std.proofs.BufReadLemmas.{Consumes_shown}
use Rattle.candump_converter.specs.Lines.{longest}
use Rattle.candump_converter.proofs.Gathering.{ends_LF, LF_within, goes_on}
use Rattle.candump_converter.proofs.lines.take_part.Goals.{in-Some, in-None}
use Rattle.candump_converter.proofs.lines.take_part.Goals as goal

pub returns : goal.returns
returns g c =
    let shown = c.in_ok-shown.shown.now in
    let count = c.match-memchr.count in
    let room = c.min-room.result in
    let left = longest - length c.args.line.now.items in
    let some : 0 < left = omega (arith, c.requires) in
    let least : room ≡ min left (length shown) = search rules in
    let rested = c.fill_buf.follows.lender-at-none in
    let filled = subst (FillKeeps _ (g.R.Read.remaining rested) (g.R.BufRead.consumable_len rested)) c.in_ok-shown.was c.fill_buf.follows.holds-at-none in
    let within : count.0 ≤ room = elim c.match-memchr.branch [
      | in-Some w ↦ rw w.count-is (omega (arith, LF_within room shown w.in-Some.at (omega arith) w.in-Some.ensures))
      | in-None w ↦ rw w.count-is (omega arith)
    ] in
    let long = length-take-le count.0 shown (omega arith) in
    let added : c.try_extend_from_slice-fits.new.self.items ≡ c.args.line.now.items ++ take count.0 shown = search rules in
    let moved = Consumes_shown _ _ _ _ shown count.0 (omega arith) c.in_ok-shown.ensures.front c.in_ok-shown.ensures.end filled.0 filled.1 c.consume.ensures.bytes in (
      take count.0 shown,
      added,
      rw added (omega (arith, long, length-append c.args.line.now.items (take count.0 shown))),
      moved.0,
      elim c.match-memchr.branch [
        | in-Some w ↦ rw w.count-is (ends_LF _ _ left room shown w.in-Some.at (omega arith) (omega arith) w.in-Some.ensures (rw w.count-is at moved.0))
        | in-None w ↦ rw w.count-is (goes_on _ left room shown some least c.in_ok-shown.ensures.end w.in-None.ensures)
      ],
    )
