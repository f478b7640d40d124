-- The search proves these without their laws too, whose clauses must not go unseen.
use Rattle.promises.proofs.laws.of_generators.Goals as goal

pub returns-clause-fill_of_outputs_pair : goal.returns-clause-fill_of_outputs_pair
returns-clause-fill_of_outputs_pair c = c.fill_of_outputs.ensures.pair

pub returns-clause-one_output_pair : goal.returns-clause-one_output_pair
returns-clause-one_output_pair c = c.one_output.ensures.pair

pub returns-clause-one_seed : goal.returns-clause-one_seed
returns-clause-one_seed c = c.one_seed.ensures.bytes

pub returns-clause-one_seed_pair : goal.returns-clause-one_seed_pair
returns-clause-one_seed_pair c = c.one_seed.ensures.pair
