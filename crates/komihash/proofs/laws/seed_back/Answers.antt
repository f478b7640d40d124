-- Each mask of a seed gives its own bits back.
use Rattle.komihash.proofs.Xor.{xor_back, xor_masks}
use Rattle.komihash.proofs.laws.seed_back.Goals as goal

pub returns : goal.returns
returns c seed h = simp xor_back (xor_masks seed h)
