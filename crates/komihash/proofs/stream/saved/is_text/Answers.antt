-- The head and the length are those of a text that is laid out well.
use Rattle.std.proofs.Common.{arith}
use Rattle.std.proofs.lemmas.Bool.Decides.{nat_tests}
use Rattle.komihash.proofs.SavedTexts.{IsLaidOut-text}
use Rattle.komihash.proofs.stream.saved.is_text.Goals as goal

pub returns-then-is_head-clause-text : goal.returns-then-is_head-clause-text
returns-then-is_head-clause-text g c =
    grind (arith, nat_tests, IsLaidOut-text g.row.V c.args.bytes.now c.type_inv.bytes)

pub returns-else-is_head-clause-text : goal.returns-else-is_head-clause-text
returns-else-is_head-clause-text g c =
    grind (arith, nat_tests, IsLaidOut-text g.row.V c.args.bytes.now c.type_inv.bytes)
