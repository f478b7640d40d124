-- The words are stored from the first one on.
use Rattle.std.proofs.Common.{◌+◌, ◌/◌, [], length, arith}
use Rattle.komihash.proofs.PendingBytes.{PacksBut-put, PacksBut-chunks, PacksBut-none}
use Rattle.komihash.proofs.pending.store_whole_words.Goals as goal

pub returns-then-has_two_words : goal.returns-then-has_two_words
returns-then-has_two_words c =
    let bytes = c.args.bytes.now in
    let none = PacksBut-none c.requires.none bytes (length bytes / 8 + 1) (omega arith) in
    PacksBut-chunks [] bytes _ 0 _ none c.as_chunks.ensures.front c.store_chunks.ensures.words
    (omega arith)

pub returns-else-has_two_words : goal.returns-else-has_two_words
returns-else-has_two_words c =
    let bytes = c.args.bytes.now in
    let n = length bytes / 8 in
    PacksBut-put (PacksBut-none c.requires.none bytes (n + 1) (omega arith)) 0 n _ (omega arith)
    (λ _. c.read_word.ensures)
