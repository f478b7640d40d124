-- What a call is passed as `&mut`.
use Rattle.std.specs.Borrow.{MutBor}
use denote.Triple.Both.{Both}

-- a value behind a `&mut`: `entry.now` before the call, and `exit.now` after it
abbrev pub Mut : Type 0 → Type 0
Mut A = Both (MutBor A) (MutBor A)
