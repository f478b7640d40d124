-- A new state is a state of its version.
use Rattle.std.proofs.Common.{rules, arith}
use Rattle.komihash.proofs.Streams.{IsState-start}
use Rattle.komihash.proofs.stream.streamed.StreamedKomihash.begin.Goals as goal

pub invariant_of-result : goal.invariant_of-result
invariant_of-result g c = let is = IsState-start g.row.V c.args.seed in search (rules, arith)
