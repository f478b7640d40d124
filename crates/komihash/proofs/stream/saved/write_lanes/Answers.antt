-- What is after the lanes stays.
use Rattle.std.proofs.Common.{arith}
use Rattle.std.proofs.lemmas.Slice.{drop-put_mid}
use Rattle.komihash.proofs.stream.saved.write_lanes.Goals as goal

pub returns-clause-after : goal.returns-clause-after
returns-clause-after c = λ n le. drop-put_mid 4 64 _ _ n le (omega arith) (omega arith)
