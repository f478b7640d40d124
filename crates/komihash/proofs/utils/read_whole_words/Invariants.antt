-- The words so far, and after them what was there.
use Rattle.std.proofs.Common.{◌≡◌, ◌/◌, length, take}
use Rattle.komihash.specs.Internals.{whole_words}
use Rattle.komihash.proofs.AllBytes.{Covers}
use Rattle.komihash.proofs.utils.read_whole_words.Given as goal

abbrev pub invariant-whole : goal.invariant-whole
invariant-whole l = (length l.front ≡ length l.bytes / 8)
    × Covers l.i l.front (whole_words l.bytes) (take (length l.bytes / 8) l.fn.out)
