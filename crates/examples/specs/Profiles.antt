-- The bytes of texts, lists and profiles.
use Rattle.std.specs.Prelude.{ℕ, List, ◌++◌, length}
use Rattle.std.specs.Int.{to_le_bytes, w64}
use Rattle.std.specs.List.{flat_map}
use Rattle.examples.specs.declared.lists.Profile.{Profile}

-- the length of a text, and then its bytes
unfoldable pub bytes_of_text : List ℕ → List ℕ
bytes_of_text text = to_le_bytes w64 (length text) ++ text

-- how many numbers there are, and then the bytes of each
unfoldable pub bytes_of_numbers : List ℕ → List ℕ
bytes_of_numbers numbers =
    to_le_bytes w64 (length numbers) ++ flat_map (λ number. to_le_bytes w64 number) numbers

-- the fields of a profile, in order
unfoldable pub bytes_of_profile : Profile → List ℕ
bytes_of_profile profile = bytes_of_text profile.name.now ++ bytes_of_numbers profile.scores.now
