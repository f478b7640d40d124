-- The pending bytes are all bytes after the lanes.
use Rattle.std.proofs.Common.{length, drop, ◌-◌, arith, length-drop, take_all}
use Rattle.komihash.specs.Saved.{pending_at}
use Rattle.komihash.proofs.stream.saved.read_pending.Goals as goal

pub returns : goal.returns
returns c =
    let bytes = c.args.bytes.now in
    let size = length-drop pending_at bytes in
    let all = take_all (length bytes - pending_at) (drop pending_at bytes) (omega arith) in
    rw (c.new-pending.ensures, all) at c.append.ensures.bytes
