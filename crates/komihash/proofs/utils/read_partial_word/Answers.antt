-- Four bytes or more are read in two pieces, and fewer one by one.
use Rattle.std.proofs.Common.{◌≡◌, ◌*◌, ◌^◌, length, get_or, arith, rules, refl}
use Rattle.std.proofs.lemmas.List.{get_or_past}
use Rattle.komihash.proofs.WordOf.{AreBytes-typed, word_of-two_ends, word_of-few, word_of-push}
use Rattle.komihash.proofs.utils.read_partial_word.Goals as goal

pub returns-then-has_half_word : goal.returns-then-has_half_word
returns-then-has_half_word c =
    search (rules, arith, word_of-two_ends, AreBytes-typed)

pub returns-after-has_third : goal.returns-after-has_third
returns-after-has_third c =
    let bytes = c.args.bytes.now in
    let are = AreBytes-typed bytes c.type_inv.bytes in
    let second : c.if-has_second.second ≡ get_or bytes 1 0 * 2 ^ 8 =
    grind (arith, c.if-has_second.branch, get_or_past bytes 1 0, are 1) in
    let third : c.if-has_third.third ≡ get_or bytes 2 0 * 2 ^ 16 =
    grind (arith, c.if-has_third.branch, get_or_past bytes 2 0, are 2) in
    rw (c.from.ensures, second, third, word_of-few bytes (omega arith))
    (word_of-push bytes (length bytes) c.args.end are refl (omega arith) (omega arith))
