-- Three rounds in a row take six words; the search finds the proofs for fewer.
use Rattle.std.proofs.Common.{arith}
use Rattle.komihash.proofs.whole_words.round_each.Goals as goal

pub returns-clause-hash : goal.returns-clause-hash
returns-clause-hash g c last =
    let third = c.round_at.ensures.hash last in
    grind arith
