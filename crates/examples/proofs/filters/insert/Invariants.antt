use Rattle.std.proofs.Common.{◌≡◌, ◌<◌, ◌%◌, ◌⊎◌, ◌↔◌, ℕ, length}
use Rattle.komihash.specs.Hash.{komi}
use Rattle.examples.specs.Filters.{IsSet}
use Rattle.examples.proofs.filters.insert.Given as goal

-- the bits of the seeds so far are set, beside those of before
abbrev pub invariant-loop-seed : goal.invariant-loop-seed
invariant-loop-seed l = (k : ℕ) → IsSet l.table k ↔ IsSet l.fn.table k
    ⊎ ((s : ℕ) × (s < l.seed) × (k ≡ komi 5 s l.key % length l.table))
