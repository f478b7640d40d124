-- With e at 0, the closing with one word multiplies by 0 twice.
use Rattle.std.proofs.Common.{◌≡◌, ℕ, ◌*◌, [], ◌∷◌, ◌∙◌, refl, arith, bit_xor}
use Rattle.komihash.specs.Rounds.{closing, mix}
use Rattle.komihash.proofs.HashPaths.{komi-two_words}
use Rattle.komihash.proofs.tests.hash.zero_and_more.Goals as goal

closing-zero : (a p : ℕ) → closing (a, 0) (p ∷ []) ≡ 0
unfolding mix
closing-zero a p = let none : bit_xor p a * 0 ≡ 0 = omega arith in rw none refl

pub returns : goal.returns
unfolding mix
returns _ v bytes few =
    komi-two_words v 0 _ (omega arith) (omega arith) ∙ closing-zero 0x4ef2e8526fea8bc8 _
