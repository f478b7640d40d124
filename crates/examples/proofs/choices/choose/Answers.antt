use Rattle.std.proofs.Common.{◌≡◌, ◌<◌, ◌%◌, ℕ, List, length, get_or, map, take_all, arith}
use Rattle.std.proofs.lemmas.Grind.{common_steps}
use Rattle.std.proofs.lemmas.List.Elements.{All-map, All-same, Contains-get_or}
use Rattle.std.specs.List.{All, Contains}
use Rattle.komihash.specs.Generator.{outputs}
use Rattle.examples.proofs.choices.choose.Goals as goal

-- what remainders choose is among the items
chosen_from : (items outputs out : List ℕ) → 0 < length items
    → out ≡ map (λ output. get_or items (output % length items) 0) outputs
    → All (Contains items) out
chosen_from items outputs out some is =
    All-same (Contains items) _ _ is
    (All-map (Contains items) (λ output. get_or items (output % length items) 0) outputs
    (λ k d less. Contains-get_or items (get_or outputs k d % length items) 0 (omega arith)))

pub returns-clause-members : goal.returns-clause-members
returns-clause-members c =
    chosen_from c.args.items.now (outputs 5 (length c.args.out.now) c.args.generator.now) _ c.requires
    (grind (arith, common_steps, take_all))
