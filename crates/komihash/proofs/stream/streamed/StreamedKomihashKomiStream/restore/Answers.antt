-- The parts that are read from a text are those of its state.
use Rattle.std.proofs.Common.{rules, refl}
use Rattle.komihash.proofs.SavedTexts.{restored}
use Rattle.komihash.proofs.stream.streamed.StreamedKomihashKomiStream.restore.Goals as goal

pub invariant_of-result : goal.invariant_of-result
invariant_of-result g c =
    let (is, made) = restored g.row.V c.args.bytes.now _ (c.is_text.ensures.text.0 (search rules))
    c.read_lanes.ensures c.read_pending.ensures refl refl in
    (is, tt)

pub returns : goal.returns
returns g c =
    let (is, made) = restored g.row.V c.args.bytes.now _ (c.is_text.ensures.text.0 (search rules))
    c.read_lanes.ensures c.read_pending.ensures refl refl in
    search (rules, made)
