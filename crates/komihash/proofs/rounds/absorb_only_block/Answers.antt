-- After the block, no other is left.
use Rattle.std.proofs.Common.{◌∙◌, arith, sym}
use Rattle.komihash.proofs.Blocks.{block_lanes-few_bytes}
use Rattle.komihash.proofs.rounds.absorb_only_block.Goals as goal

pub returns-clause-lanes : goal.returns-clause-lanes
returns-clause-lanes g c =
    sym (block_lanes-few_bytes g.row.V _ c.absorb_first_block.result.now (omega arith))
    ∙ c.absorb_first_block.ensures.lanes
