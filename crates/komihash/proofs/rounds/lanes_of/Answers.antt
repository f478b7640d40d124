-- Words that are xored twice cancel, whichever is stored with which.
use Rattle.std.specs.Prelude.{bit_xor}
use Rattle.komihash.specs.Rounds.{constant}
use Rattle.komihash.proofs.Xor.{xor_middle, xor_swap}
use Rattle.komihash.proofs.rounds.lanes_of.Goals as goal

pub returns : goal.returns
returns c =
    let record { low = low; e = e } = c.args.pair in
    let s1 = xor_middle (constant 8) e (constant 8) low in
    let s2 = xor_swap e (constant 2) low in
    let s3 = xor_middle (constant 6) e (bit_xor (constant 3) (constant 6)) low in
    let s4 = xor_middle (constant 7) e (bit_xor (constant 4) (constant 7)) low in
    cc
