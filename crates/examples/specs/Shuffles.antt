-- The order of shuffled items.
use Rattle.std.specs.Prelude.{ℕ, zero, suc, ◌+◌, ◌%◌, List, swap}
use Rattle.komihash.specs.Generator.{next, after_steps}

-- the items after the first n swaps
abbrev pub shuffled : ℕ → ℕ × ℕ → List ℕ → List ℕ
shuffled zero pair items = items
shuffled (suc n) pair items =
    swap (shuffled n pair items) n ((next 5 (after_steps 5 n pair)).0 % (n + 1))
