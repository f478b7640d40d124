-- Points on a ring.
use Rattle.std.specs.Prelude.{ℕ, ◌%◌, List, length, nat_le}
use Rattle.std.specs.List.{position_or_len}

-- the index of the first point that is at least the hash, or 0 if all are below it
abbrev pub next_on_ring : List ℕ → ℕ → ℕ
next_on_ring points hash = position_or_len (λ point. nat_le hash point) points % length points
