use Rattle.std.proofs.Common.{◌≡◌}
use Rattle.std.specs.List.Sorted.{IsPermutation}
use Rattle.komihash.specs.Generator.{after_steps}
use Rattle.examples.specs.Shuffles.{shuffled}
use Rattle.examples.proofs.shuffles.shuffle.Given as goal

-- the swaps so far are made, and the generator has taken as many steps
abbrev pub invariant-loop-i : goal.invariant-loop-i
invariant-loop-i l = record {
  permutation : IsPermutation l.fn.items l.items;
  order : l.items ≡ shuffled l.i l.fn.generator l.fn.items;
  pair : l.generator ≡ after_steps 5 l.i l.fn.generator;
}
