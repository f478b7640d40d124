-- Only the last byte that is not 0 can be the padding byte (`one_place`). If it has the value of
-- one, the words are padded words (`unpadded`).
use Rattle.std.proofs.Common.{arith, rules}
use Rattle.komihash.proofs.Unpadding.{ArePadded-zero, unpadded, one_place}
use Rattle.komihash.proofs.padding.message_length.Goals as goal

pub returns-else-is_one_word-clause-none : goal.returns-else-is_one_word-clause-none
returns-else-is_one_word-clause-none g c p =
    c.if-is_one_word.false (ArePadded-zero g.row.V _ c.type_inv.words p c.if-is_zero.true)

pub returns-then-is_without_bytes-clause-none : goal.returns-then-is_without_bytes-clause-none
returns-then-is_without_bytes-clause-none g c p =
    let place = c.highest_place-place.ensures in
    omega (arith, (one_place g.row.V _ c.type_inv.words (omega arith) place p).0)

pub returns-then-is_padding_byte-clause-message : goal.returns-then-is_padding_byte-clause-message
returns-then-is_padding_byte-clause-message g c = grind (arith, unpadded)

pub returns-else-is_padding_byte-clause-none : goal.returns-else-is_padding_byte-clause-none
returns-else-is_padding_byte-clause-none g c = search (rules, arith, one_place)
