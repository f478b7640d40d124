-- The words after the partial word continue those that are stored.
use Rattle.std.proofs.Common.{◌≡◌, ◌+◌, ◌-◌, ◌/◌, ◌%◌, length, drop, arith, ◌∙◌}
use Rattle.std.proofs.Common.{take_all, length-drop}
use Rattle.std.proofs.lemmas.Bool.Decides.{nat_tests}
use Rattle.komihash.proofs.PendingBytes.{PacksBut-put, packed_word-after, PacksBut-chunks}
use Rattle.komihash.proofs.pending.append_whole_words.Goals as goal

pub returns-then-has_two_more : goal.returns-then-has_two_more
returns-then-has_two_more c =
    let bytes = c.args.bytes.now in
    let at = c.args.len / 8 + 1 in
    let from = 8 - c.args.len % 8 in
    let n = length c.as_chunks.result.0.now in
    let count = length-drop from bytes in
    let end = (c.args.len + length bytes) / 8 in
    let partial = c.append_within_word.ensures (end + 1) (omega arith) in
    let width : at + n - at ≡ n = omega arith in
    let piece = take_all (length bytes - from) (drop from bytes) (omega arith) in
    let front = rw piece at c.as_chunks.ensures.front in
    rw (c.word_index-next.ensures, width)
    (PacksBut-chunks _ _ _ from _ partial front c.store_chunks.ensures.words (omega arith))

pub returns-else-has_two_more : goal.returns-else-has_two_more
returns-else-has_two_more c =
    let bytes = c.args.bytes.now in
    let at = c.args.len / 8 + 1 in
    let end = (c.args.len + length bytes) / 8 in
    let partial = c.append_within_word.ensures (end + 1) (grind (arith, nat_tests)) in
    let in_words : at % 8 ≡ at = grind (arith, nat_tests) in
    rw (c.word_index-next.ensures, in_words)
    (PacksBut-put partial at end _ (grind (arith, nat_tests))
    (λ last. c.word_at.ensures ∙ packed_word-after _ bytes at _ (grind (arith, nat_tests))))
