-- This holds without the law too, whose clause must not go unseen.
use Rattle.promises.proofs.laws.of_messages.Goals as goal

pub returns-clause-empty_link : goal.returns-clause-empty_link
returns-clause-empty_link c = c.empty_write.ensures.chain
