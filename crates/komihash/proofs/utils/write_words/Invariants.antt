-- The bytes of the words so far, and after them what was there.
use Rattle.std.proofs.Common.{◌*◌}
use Rattle.komihash.specs.Words.{all_bytes}
use Rattle.komihash.proofs.AllBytes.{Covers}
use Rattle.komihash.proofs.utils.write_words.Given as goal

abbrev pub invariant-words : goal.invariant-words
invariant-words l = Covers (8 * l.i) l.out (all_bytes l.words) l.fn.out
