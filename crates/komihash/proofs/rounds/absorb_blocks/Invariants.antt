-- What is left leads to the same lanes and the same remainder, and costs the products that are
-- left. Its whole blocks are even in number.
use Rattle.std.proofs.Common.{◌≡◌, ◌+◌, ◌*◌, ◌/◌, ◌%◌, length}
use Rattle.komihash.specs.Internals.{whole_words, block_lanes, after_blocks}
use Rattle.komihash.proofs.rounds.absorb_blocks.Given as goal

abbrev pub invariant-whole : goal.invariant-whole
invariant-whole g l = record {
  lanes : block_lanes g.row.V l.lanes (whole_words l.rest)
      ≡ block_lanes g.row.V l.fn.lanes (whole_words l.bytes);
  left : after_blocks l.rest ≡ after_blocks l.bytes;
  products : l.tally.products + 4 * (length l.rest / 64)
      ≡ l.fn.tally.products + 4 * (length l.bytes / 64);
  kept_bytes : l.tally.kept_bytes ≡ l.fn.tally.kept_bytes;
  even : length l.rest / 64 % 2 ≡ 0;
}

abbrev pub decreases-whole : goal.decreases-whole
decreases-whole g l = length l.rest
