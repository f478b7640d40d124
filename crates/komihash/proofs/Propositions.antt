-- What a stream has absorbed has one proof at most, so ghost fields of other crates may hold it.
use Rattle.std.proofs.Common.{ℕ, List}
use denote.Struct.Props.{props}
use Rattle.komihash.specs.Stream.{State, HasAbsorbed}

pub HasAbsorbed-prop : (v seed : ℕ) (s : State) (m : List ℕ) → IsProp (HasAbsorbed v seed s m)
unfolding HasAbsorbed
HasAbsorbed-prop v seed s m = hlevel props
