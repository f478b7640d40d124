-- The bits of a Bloom filter.
use Rattle.std.specs.Prelude.{ℕ, ◌≡◌, ◌<◌, ◌%◌, List, Bool, false, true, length, slice_index_or}
use Rattle.komihash.specs.Hash.{komi}
use Rattle.examples.specs.declared.filters.TheConstants.{BITS}

-- a bit of the table is set
abbrev pub IsSet : List Bool → ℕ → Type 0
IsSet table k = slice_index_or table k false ≡ true

-- a key has this bit in a table of a size
abbrev pub IsBitOf : List ℕ → ℕ → ℕ → Type 0
IsBitOf key size k = (seed : ℕ) × (seed < BITS) × (k ≡ komi 5 seed key % size)

-- all bits of a key are set
abbrev pub IsFound : List Bool → List ℕ → Type 0
IsFound table key = (k : ℕ) → IsBitOf key (length table) k → IsSet table k
