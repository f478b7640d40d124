use Rattle.std.proofs.Common.{◌≡◌, ◌%◌, ◌≤◌, ◌-◌, length, take}
use Rattle.komihash.specs.Generator.{after_fill, fill}
use Rattle.examples.proofs.samples.sample_in_blocks.Given as goal

-- the bytes so far fill the front, and the generator has filled as many
abbrev pub invariant-loop-at : goal.invariant-loop-at
invariant-loop-at l = record {
  whole : l.at % 8 ≡ 0;
  within : l.at ≤ length l.out;
  bytes : take l.at l.out ≡ fill 5 l.fn.generator l.at;
  pair : l.generator ≡ after_fill 5 l.fn.generator l.at;
}

abbrev pub decreases-loop-at : goal.decreases-loop-at
decreases-loop-at l = length l.out - l.at
