-- A block of 64 bytes has eight whole words.
use Rattle.std.proofs.Common.{◌≡◌, ◌/◌, length, arith, drop-drop}
use Rattle.komihash.specs.Internals.{packed_words}
use Rattle.komihash.proofs.rounds.block_words.Goals as goal

pub returns : goal.returns
unfolding packed_words
returns c =
    let count : length c.args.block.now / 8 ≡ 8 = omega arith in rw count (simp drop-drop (cc))
