-- The bytes alone are stored.
use Rattle.std.proofs.Common.{arith, take_all}
use Rattle.komihash.proofs.PendingBytes.{ArePending-put, pending_bytes-put, ArePending-none}
use Rattle.komihash.proofs.pending.Pending.append_to_none.Goals as goal

pub invariant_of-self : goal.invariant_of-self
invariant_of-self c =
    grind (arith, take_all, ArePending-put ArePending-none c.put.new.words)

pub returns-then-not-is_empty-clause-bytes : goal.returns-then-not-is_empty-clause-bytes
returns-then-not-is_empty-clause-bytes c =
    grind (arith, take_all, pending_bytes-put ArePending-none c.put.new.words)
