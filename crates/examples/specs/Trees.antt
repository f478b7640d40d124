-- The hashes in a tree.
use Rattle.std.specs.Prelude.{ℕ, ◌++◌}
use Rattle.std.specs.Int.{to_le_bytes, w64}
use Rattle.komihash.specs.Hash.{komi}

-- the hash of two hashes
unfoldable pub node : ℕ → ℕ → ℕ
node left right = komi 5 0 (to_le_bytes w64 left ++ to_le_bytes w64 right)
