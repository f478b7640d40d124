-- Without this, a check tries slower ways first.
use Rattle.std.proofs.Common.{arith}
use Rattle.std.proofs.lemmas.Grind.{moves}
use Rattle.komihash.proofs.pending.store_chunks.Goals as goal

pub returns-then-has_four-clause-words : goal.returns-then-has_four-clause-words
returns-then-has_four-clause-words c = grind (arith, moves)

pub returns-else-has_four-clause-words : goal.returns-else-has_four-clause-words
returns-else-has_four-clause-words c = grind (arith, moves)
