-- When the loop ends, no block is left.
use Rattle.std.proofs.Common.{◌∙◌, arith, sym}
use Rattle.komihash.proofs.Blocks.{block_lanes-few_bytes}
use Rattle.komihash.proofs.rounds.absorb_blocks.Goals as goal

pub returns-clause-lanes : goal.returns-clause-lanes
returns-clause-lanes g c =
    sym (block_lanes-few_bytes g.row.V _ c.whole.rest.now (omega arith)) ∙ c.whole.invariant.lanes
