use Rattle.std.proofs.Common.{◌≡◌, take}
use Rattle.komihash.specs.Generator.{after_steps, outputs}
use Rattle.examples.proofs.samples.draw.Given as goal

-- the numbers so far are outputs, and the generator has taken as many steps
abbrev pub invariant-loop-number : goal.invariant-loop-number
invariant-loop-number l = record {
  outputs : take l.number-index l.number-items ≡ outputs 5 l.number-index l.fn.generator;
  pair : l.generator ≡ after_steps 5 l.number-index l.fn.generator;
}
