use Rattle.std.proofs.Common.{take}
use Rattle.std.specs.Int.{to_le_bytes, w64}
use Rattle.std.specs.List.{flat_map}
use Rattle.komihash.specs.Stream.{HasAbsorbed}
use Rattle.examples.proofs.numbers.hash_of_numbers.Given as goal

-- the stream has absorbed the numbers so far
abbrev pub invariant-loop-number : goal.invariant-loop-number
invariant-loop-number l =
    HasAbsorbed 5 0 l.stream.state
    (flat_map (λ number. to_le_bytes w64 number) (take l.number-index l.numbers))
