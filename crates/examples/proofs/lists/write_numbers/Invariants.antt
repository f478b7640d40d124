use Rattle.std.proofs.Common.{ℕ, List, ◌++◌, length, take}
use Rattle.std.specs.Int.{to_le_bytes, w64}
use Rattle.std.specs.List.{flat_map}
use Rattle.komihash.specs.Stream.{HasAbsorbed}
use Rattle.examples.proofs.lists.write_numbers.Given as goal

-- the stream has absorbed the count and the numbers so far
abbrev pub invariant-loop-number : goal.invariant-loop-number
invariant-loop-number l = (seed : ℕ) (m : List ℕ) → HasAbsorbed 5 seed l.fn.stream.state m
    → HasAbsorbed 5 seed l.stream.state (m ++ to_le_bytes w64 (length l.numbers)
    ++ flat_map (λ number. to_le_bytes w64 number) (take l.number-index l.numbers))
