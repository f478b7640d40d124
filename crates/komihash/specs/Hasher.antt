-- A chain of hashes: each write's hash is the seed of the next.
use Rattle.std.specs.Prelude.{ℕ, List, fold}
use Rattle.komihash.specs.Hash.{komi}

-- the number that a list of writes leads to from a number, in version v
abbrev pub number_after : ℕ → ℕ → List (List ℕ) → ℕ
number_after v number writes = fold (komi v) number writes
