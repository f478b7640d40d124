use Rattle.std.proofs.Common.{take}
use Rattle.std.specs.List.{flat_map}
use Rattle.komihash.specs.Stream.{HasAbsorbed}
use Rattle.examples.specs.Profiles.{bytes_of_profile}
use Rattle.examples.proofs.lists.hash_of_profiles.Given as goal

-- the stream has absorbed the profiles so far
abbrev pub invariant-loop-profile : goal.invariant-loop-profile
invariant-loop-profile l =
    HasAbsorbed 5 0 l.stream.state (flat_map bytes_of_profile (take l.profile-index l.profiles))
