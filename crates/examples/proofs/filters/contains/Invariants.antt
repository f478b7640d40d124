use Rattle.std.proofs.Common.{◌<◌, ◌%◌, ℕ, length}
use Rattle.komihash.specs.Hash.{komi}
use Rattle.examples.specs.Filters.{IsSet}
use Rattle.examples.proofs.filters.contains.Given as goal

-- the bits of the seeds so far are set
abbrev pub invariant-loop-seed : goal.invariant-loop-seed
invariant-loop-seed l = (s : ℕ) → s < l.seed → IsSet l.table (komi 5 s l.key % length l.table)
