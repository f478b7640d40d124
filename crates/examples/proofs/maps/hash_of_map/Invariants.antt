use Rattle.std.proofs.Common.{map, ◌++◌}
use Rattle.std.specs.Int.{to_le_bytes, w64}
use Rattle.std.specs.List.{flat_map}
use Rattle.std.specs.Map.Iter.{deref_pair}
use Rattle.komihash.specs.Stream.{HasAbsorbed}
use Rattle.examples.proofs.maps.hash_of_map.Given as goal

-- the stream has absorbed the entries so far
abbrev pub invariant-loop-key : goal.invariant-loop-key
invariant-loop-key l =
    HasAbsorbed 5 0 l.stream.state
    (flat_map (λ entry. to_le_bytes w64 entry.0 ++ to_le_bytes w64 entry.1)
    (map deref_pair l.yielded))
