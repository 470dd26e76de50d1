-- The call is in range, and so is never refused; its rows are the lines of the exchange, and the number of bytes comes last.
use Rattle.std.proofs.Common.{arith, subst}
use Rattle.std.specs.Io.KnownBytes.{Appends}
use Rattle.std.proofs.KnownBytes.{Appends-trans}
use Rattle.std.proofs.lemmas.Result.{on_ok_weaker}
use Rattle.plain_ladder.proofs.Exchanged.{answers, called, rows-fit, rows-few, rows-whole, all-written}
use Rattle.plain_ladder.proofs.write_exchange.Goals as goal

pub unwrap-frames-requires : goal.unwrap-frames-requires
unwrap-frames-requires g c = answers c.args.exchange c.rise.new.message c.rise.ensures c.exchange-done.result c.exchange-done.ensures.result_value

pub overflow_mul-list : goal.overflow_mul-list
overflow_mul-list g c =
    let told = rw c.unwrap-frames.ensures at c.exchange-done.ensures.result_value in
    let done = called c.args.exchange c.rise.new.message c.rise.ensures c.unwrap-frames.result c.exchange-done.new.list told c.exchange-done.ensures.list_after in
    record { fits = omega (arith, rows-few c.args.exchange c.unwrap-frames.result c.exchange-done.new.list done) }

pub slice_bounds-list-end : goal.slice_bounds-list-end
slice_bounds-list-end g c =
    let told = rw c.unwrap-frames.ensures at c.exchange-done.ensures.result_value in
    let done = called c.args.exchange c.rise.new.message c.rise.ensures c.unwrap-frames.result c.exchange-done.new.list told c.exchange-done.ensures.list_after in
    rows-fit c.args.exchange c.unwrap-frames.result c.exchange-done.new.list done

pub slice_bounds-write_rows-end : goal.slice_bounds-write_rows-end
slice_bounds-write_rows-end g c =
    let told = rw c.unwrap-frames.ensures at c.exchange-done.ensures.result_value in
    let done = called c.args.exchange c.rise.new.message c.rise.ensures c.unwrap-frames.result c.exchange-done.new.list told c.exchange-done.ensures.list_after in
    rows-whole c.args.exchange c.unwrap-frames.result c.exchange-done.new.list done

pub returns : goal.returns
returns g c =
    let told = rw c.unwrap-frames.ensures at c.exchange-done.ensures.result_value in
    let done = called c.args.exchange c.rise.new.message c.rise.ensures c.unwrap-frames.result c.exchange-done.new.list told c.exchange-done.ensures.list_after in
    let before = g.W.Write.contents c.args.output.now in
    let between = g.W.Write.contents c.write_rows.new.output in
    let after = g.W.Write.contents c.write_delivered.new.output in
    on_ok_weaker c.write_delivered.result
    (λ last. subst (Appends before after) (all-written c.args.exchange c.unwrap-frames.result c.exchange-done.new.list done) (Appends-trans before between after _ _ c.in_ok-write_rows.ensures last))
    c.write_delivered.ensures
