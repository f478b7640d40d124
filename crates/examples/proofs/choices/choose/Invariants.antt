use Rattle.std.proofs.Common.{◌≡◌, ◌%◌, length, map, take, get_or}
use Rattle.komihash.specs.Generator.{after_steps, outputs}
use Rattle.examples.proofs.choices.choose.Given as goal

-- the outputs so far have chosen, and the generator has taken as many steps
abbrev pub invariant-loop-chosen : goal.invariant-loop-chosen
invariant-loop-chosen l = record {
  which :
      take l.chosen-index l.chosen-items ≡ map (λ output. get_or l.items (output % length l.items) 0)
      (outputs 5 l.chosen-index l.fn.generator);
  pair : l.generator ≡ after_steps 5 l.chosen-index l.fn.generator;
}
