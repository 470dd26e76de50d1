-- The record is copied to the front, and the turn record behind it.
use Rattle.std.proofs.Common.{◌≡◌, ℕ, List, ◌++◌, length, take, drop, replicate, take_at, drop_at, arith}
use borrow.Rule.Slice.PartMut.{put_mid}
use Rattle.records.specs.Made.{turn_record}
use Rattle.candump_converter.proofs.put.piece.Goals as goal

both : (front x turn y : List ℕ) → length front ≡ 16 → turn ≡ turn_record → x ≡ front → y ≡ turn → put_mid 16 16 (x ++ replicate 16 0) y ≡ front ++ turn_record
both front x turn y l t e f =
    let b : take 16 (x ++ replicate 16 0) ≡ front = rw e (take_at front (replicate 16 0) 16 l) in
    let d : drop 16 (x ++ replicate 16 0) ≡ replicate 16 0 = rw e (drop_at front (replicate 16 0) 16 l) in
    rw (b, d, f, t)

pub returns : goal.returns
returns c = both c.args.record.now _ _ _ (omega arith) c.turn.ensures c.copy_from_slice.ensures.after c.copy_from_slice-2.ensures.after
