-- What is written is the beginning of the bytes.
use Rattle.std.proofs.Common.{◌≡◌, length, ◌-◌, take, false}
use Rattle.std.specs.Io.KnownBytes.{Appends}
use Rattle.komisum.proofs.watched.write_whole.Given as goal

abbrev pub invariant-loop-written : goal.invariant-loop-written
invariant-loop-written g l = record {
  bytes : Appends (g.W.Write.contents l.fn.writer.inner) (g.W.Write.contents l.writer.inner)
      (take l.written l.bytes);
  sound : l.writer.failed ≡ false;
}

abbrev pub decreases-loop-written : goal.decreases-loop-written
decreases-loop-written g l = length l.bytes - l.written
