-- The bytes after the last whole word are read with the last eight.
use Rattle.std.proofs.Common.{[], arith, take_all}
use Rattle.komihash.proofs.WordOf.{word_of-zeros}
use Rattle.komihash.proofs.PendingBytes.{PacksBut-put, PacksBut-all, PacksBut-none}
use Rattle.komihash.proofs.PendingBytes.{PacksBut-last}
use Rattle.komihash.proofs.pending.store_bytes.Goals as goal

pub returns-then-is_short : goal.returns-then-is_short
returns-then-is_short c =
    let bytes = c.args.bytes.now in
    let none = PacksBut-none c.requires.none bytes 1 (omega arith) in
    PacksBut-all (PacksBut-put none 0 1 _ (omega arith)
    (λ _. grind (arith, take_all 8 bytes, word_of-zeros bytes 1))) (omega arith)

pub returns-else-is_short : goal.returns-else-is_short
returns-else-is_short c =
    rw (c.word_index.ensures, c.last_word.ensures)
    (PacksBut-last [] _ c.store_whole_words.ensures c.type_inv.bytes (omega arith))
