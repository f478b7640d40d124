-- The words before the partial word stay, and those after it are 0.
use Rattle.komihash.proofs.WordOf.{AreBytes-typed}
use Rattle.komihash.proofs.PendingBytes.{PacksBut-partial}
use Rattle.komihash.proofs.pending.append_within_word.Goals as goal

pub returns : goal.returns
returns c end short =
    rw c.word_index.ensures (PacksBut-partial c.requires.pending c.args.bytes.now _ end
    (AreBytes-typed c.args.bytes.now c.type_inv.bytes) c.read_word.ensures short)
