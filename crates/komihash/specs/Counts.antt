-- What a call costs: products of two words, and bytes that are copied into a stream.
use Rattle.std.specs.Prelude.{ℕ, ◌≡◌, ◌+◌, ◌-◌, ◌*◌, ◌/◌, ◌%◌, ◌==◌, nat_lt, if◌then◌else◌}
use Rattle.komihash.specs.Borrows.{Mut}
use Rattle.komihash.specs.declared.tally.Tally.{Tally}

-- the products of the hash of n bytes
abbrev pub hash_products : ℕ → ℕ
hash_products n = 3 + 4 * (n / 64) + n % 64 / 16

-- the products of a write of n bytes where p are pending
abbrev pub absorb_products : ℕ → ℕ → ℕ
absorb_products p n = 4 * ((p + n) / 64)

-- the products of an answer where p bytes are pending
abbrev pub answer_products : ℕ → ℕ
answer_products p = 2 + p / 16

-- how many bytes a write of n bytes copies into a stream where p are pending: all if no block is
-- completed; else those that complete the partial block, if there is one, and those after the last
-- block
abbrev pub absorb_kept_bytes : ℕ → ℕ → ℕ
absorb_kept_bytes p n =
    if nat_lt (p + n) 64 then n else (if p == 0 then 0 else 64 - p) + (p + n) % 64

-- a call raises a tally by n products and k kept bytes
pub record Costs (tally : Mut Tally) (n k : ℕ) : Type 0 where
  pub products : tally.exit.now.products ≡ tally.entry.now.products + n
  pub kept_bytes : tally.exit.now.kept_bytes ≡ tally.entry.now.kept_bytes + k
