-- What a tally owns besides its numbers, and the proof that its key opens it. The goals of
-- handwritten proofs in other crates have both, so these can name them, but they have no key.
pub use Rattle.komihash.specs.Sealed.{owned_by_tally, opened}
