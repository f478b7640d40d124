-- No other message has the padded words.
use Rattle.komihash.proofs.Unpadding.{padded_words-same}
use Rattle.komihash.proofs.WordOf.{AreBytes-typed}
use Rattle.komihash.proofs.padding.pad.Goals as goal

pub returns-clause-only : goal.returns-clause-only
returns-clause-only g c m are same =
    padded_words-same g.row.V m c.args.bytes.now are (AreBytes-typed _ c.type_inv.bytes) same
