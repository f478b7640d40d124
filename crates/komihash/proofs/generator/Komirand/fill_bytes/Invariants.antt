-- The outputs so far fill the front of the buffer.
use Rattle.std.proofs.Common.{◌≡◌, ◌*◌, length}
use Rattle.komihash.specs.Generator.{after_steps, outputs, fill_steps}
use Rattle.komihash.specs.Words.{all_bytes}
use Rattle.komihash.proofs.AllBytes.{Covers}
use Rattle.komihash.proofs.generator.Komirand.fill_bytes.Given as goal

abbrev pub invariant-words : goal.invariant-words
invariant-words g l = record {
  bytes : Covers (8 * l.i) l.buffer
      (all_bytes (outputs g.row.V (fill_steps (length l.fn.buffer)) l.fn.self)) l.fn.buffer;
  pair : l.generator ≡ after_steps g.row.V l.i l.fn.self;
}
