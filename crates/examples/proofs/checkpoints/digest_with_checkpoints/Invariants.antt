use Rattle.std.proofs.Common.{◌≤◌, take}
use Rattle.std.specs.List.{flat_map}
use Rattle.komihash.specs.Saved.{IsTextAfter, longest_text}
use Rattle.examples.proofs.checkpoints.digest_with_checkpoints.Given as goal

-- the checkpoint is that of the parts so far
abbrev pub invariant-loop-part : goal.invariant-loop-part
invariant-loop-part l = record {
  most : l.count ≤ longest_text;
  saved :
      IsTextAfter 5 l.seed (flat_map (λ part. part.now) (take l.part-index l.parts))
      (take l.count l.checkpoint);
}
