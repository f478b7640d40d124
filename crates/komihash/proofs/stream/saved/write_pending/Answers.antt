-- The pending bytes follow the lanes.
use Rattle.std.proofs.Common.{arith, ◌≡◌, ◌+◌, ◌-◌, length}
use Rattle.komihash.specs.Saved.{pending_at}
use Rattle.komihash.proofs.SavedTexts.{part-put}
use Rattle.komihash.proofs.stream.saved.write_pending.Goals as goal

pub returns : goal.returns
returns c =
    let end = pending_at + c.len-end.result in
    let size : length c.args.pending.now ≡ end - pending_at = omega arith in
    let (bytes, after) =
    part-put pending_at end c.args.out.now _ _ (omega arith) (omega arith) c.write_to.auto.out
    (rw size at c.write_to.ensures.bytes) in
    record { end = omega arith; bytes = bytes; after = after }
