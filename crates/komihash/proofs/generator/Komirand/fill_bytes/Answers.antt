-- Each turn covers eight more bytes of the buffer; fewer than eight may be left after the loop.
use Rattle.std.proofs.Common.{◌+◌, ◌/◌, ◌∙◌, length, arith, take_all}
use Rattle.komihash.proofs.AllBytes.{written}
use Rattle.komihash.proofs.GeneratorFills.{outputs-next}
use Rattle.komihash.proofs.generator.Komirand.fill_bytes.Goals as goal
use Rattle.komihash.proofs.generator.Komirand.fill_bytes.Goals.{then-has_remainder}
use Rattle.komihash.proofs.generator.Komirand.fill_bytes.Goals.{else-has_remainder}

pub words-preserved : goal.words-preserved
words-preserved g c =
    let steps = (length c.args.buffer.now + 7) / 8 in
    let (word, pair, size) =
    outputs-next g.row.V c.words.i steps c.args.self.now _ (omega arith) c.words.invariant.pair in
    let bytes = rw (c.step-word.ensures.output, word) at c.write_word.ensures in
    record { bytes = grind (arith, written, bytes); pair = c.step-word.ensures.pair ∙ pair }

pub returns : goal.returns
returns g c =
    let steps = (length c.args.buffer.now + 7) / 8 in
    elim c.if-has_remainder.branch [
      | then-has_remainder w ↦
          let (word, pair, size) =
          outputs-next g.row.V c.words.i steps c.args.self.now _ (omega arith)
          c.words.invariant.pair in
          let bytes = rw (w.step-output.ensures.output, word) at w.write_partial_word.ensures in
          record { bytes = grind (arith, written, take_all, bytes); pair = grind (arith, pair) }
      | else-has_remainder w ↦
          grind (arith, written, take_all)
    ]
