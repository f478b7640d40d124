-- The text is put together from its three parts.
use Rattle.std.proofs.Common.{arith, append_assoc}
use Rattle.komihash.specs.Saved.{text}
use Rattle.komihash.proofs.SavedTexts.{length-text, stored}
use Rattle.komihash.proofs.stream.streamed.StreamedKomihashKomiStream.store.Goals as goal

pub returns : goal.returns
unfolding text
returns g c =
    let now = c.args.self.now.state in
    stored g.row.V now _ _ c.args.self.now.is_state (grind (arith, length-text))
    (grind (arith, append_assoc)) (grind arith)
