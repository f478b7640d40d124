-- Calls of which none is an Answer are all Absorbs.
use Rattle.std.proofs.Common.{suc, List, [], ◌∷◌, refl, arith}
use Rattle.std.specs.Prelude.{Contains}
use Rattle.komihash.specs.Calls.{AreAbsorbs}
use Rattle.komihash.specs.declared.stream.Call.{Call}
use Rattle.komihash.specs.declared.stream.Call.TheVariants.{Absorb, Answer}

pub without_answer : (calls : List Call) → ¬ Contains calls Answer → AreAbsorbs calls
without_answer [] none = tt
without_answer (Absorb bytes ∷ calls) none =
    without_answer calls (λ found. none (suc found.0, omega (arith, found.1), found.2))
without_answer (Answer ∷ calls) none = absurd (none (0, omega arith, refl))
