-- What the reader gave grows by what a read gives.
use Rattle.std.proofs.Common.{◌≡◌, ℕ, ◌+◌, ◌≤◌, List, ◌++◌, length, take}
use Rattle.std.proofs.Common.{arith, length-append, length-take-le}
use Rattle.std.specs.declared.option.Option.{Option}
use Rattle.std.specs.Io.KnownBytes.{Consumes}
use Rattle.std.proofs.KnownBytes.{Consumes-trans}
use Rattle.komisum.proofs.digest.digest.Goals as goal

-- a reader that gave some bytes, and then the first n of others
abbrev given : (old mid new : Option (List ℕ)) (xs ys : List ℕ) (n m : ℕ)
    → Consumes old mid xs → Consumes mid new (take n ys) → n ≤ length ys → m ≡ length xs
    → (bytes : List ℕ) × Consumes old new bytes × (m + n ≡ length bytes)
given old mid new xs ys n m before here within size = (
  xs ++ take n ys,
  Consumes-trans old mid new xs (take n ys) before here,
  omega (arith, length-append xs (take n ys), length-take-le n ys within),
)

pub returns-then-is_too_long : goal.returns-then-is_too_long
returns-then-is_too_long g c =
    let before = c.loop-stream.invariant.1 in
    let here = c.in-Ok.ensures in
    let all = given _ _ _ _ _ _ _ before.consumed here.bytes.0 here.bound.0 before.count in
    grind (arith, all)

pub loop-stream-preserved : goal.loop-stream-preserved
loop-stream-preserved g c =
    let before = c.loop-stream.invariant.1 in
    let here = c.in-Ok.ensures in
    let all = given _ _ _ _ _ _ _ before.consumed here.bytes.0 here.bound.0 before.count in
    grind (arith, all)
