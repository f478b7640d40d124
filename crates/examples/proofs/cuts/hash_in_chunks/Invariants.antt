use Rattle.std.proofs.Common.{◌≡◌, ℕ, List, ◌++◌}
use Rattle.komihash.specs.Stream.{HasAbsorbed}
use Rattle.examples.proofs.cuts.hash_in_chunks.Given as goal

-- the stream has absorbed what stands before the rest of the message
abbrev pub invariant-loop-chunk : goal.invariant-loop-chunk
invariant-loop-chunk l = (m : List ℕ) × HasAbsorbed 5 0 l.stream.state m
    × (m ++ l.chunk-iterator.rest.now ≡ l.message)
