-- A fill of 32 bytes takes four steps.
use Rattle.std.proofs.Common.{refl, sym}
use Rattle.komihash.proofs.GeneratorFills.{fill-add}
use Rattle.komihash.proofs.laws.one_seed.Goals as goal

pub returns-clause-bytes : goal.returns-clause-bytes
returns-clause-bytes c v seed n = sym (fill-add v 32 n (seed, seed) refl)
