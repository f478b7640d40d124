use Rattle.std.proofs.Common.{◌≡◌, ℕ, List, ◌++◌, length}
use Rattle.komihash.specs.Stream.{HasAbsorbed}
use Rattle.examples.proofs.cuts.hash_in_blocks.Given as goal

-- the stream has absorbed what stands before the rest of the message
abbrev pub invariant-loop-rest : goal.invariant-loop-rest
invariant-loop-rest l =
    (m : List ℕ) × HasAbsorbed 5 0 l.stream.state m × (m ++ l.rest ≡ l.message)

abbrev pub decreases-loop-rest : goal.decreases-loop-rest
decreases-loop-rest l = length l.rest
