-- Each turn of the loop stores the next whole word.
use Rattle.std.proofs.Common.{◌/◌, ◌∙◌, length, arith, rules, sym, take_all}
use Rattle.std.proofs.lemmas.List.{length-set, take-append-le}
use Rattle.komihash.proofs.AllBytes.{Covers-next}
use Rattle.komihash.proofs.WholeWords.{get_or-packed_words, length-whole_words, word_of-chunk}
use Rattle.komihash.proofs.utils.read_whole_words.Goals as goal

pub whole-preserved : goal.whole-preserved
whole-preserved c =
    let bytes = c.args.bytes.now in
    let n = length bytes / 8 in
    let size = length-whole_words bytes in
    let read = word_of-chunk n c.whole.i bytes (omega arith) (omega arith) in
    let word = rw c.as_chunks.ensures.front at c.from_le_bytes.ensures in
    let next = Covers-next c.whole.i _ c.whole.invariant.1 (omega arith)
    (word ∙ read ∙ sym (get_or-packed_words n c.whole.i bytes (omega arith))) in
    (length-set _ c.whole.i _ ∙ c.whole.invariant.0, next)

pub returns-clause-words : goal.returns-clause-words
returns-clause-words c =
    search (rules, arith, take-append-le, take_all, length-whole_words)
