-- The stream has absorbed what the reader gave, at most `most` bytes.
use Rattle.std.proofs.Common.{◌≡◌, List, ℕ, ◌-◌, ◌≤◌, length, false}
use Rattle.std.specs.Io.KnownBytes.{Consumes}
use Rattle.komihash.specs.Stream.{HasAbsorbed}
use Rattle.komisum.proofs.digest.digest.Given as goal

abbrev pub invariant-loop-stream : goal.invariant-loop-stream
invariant-loop-stream g l = (bytes : List ℕ) × record {
  message : HasAbsorbed g.S.KomiStream.VERSION l.seed (g.S.KomiStream.state l.stream) bytes;
  consumed :
      Consumes (g.R.Read.remaining l.fn.reader.inner) (g.R.Read.remaining l.reader.inner) bytes;
  count : l.taken ≡ length bytes;
  within : l.taken ≤ l.most;
  sound : l.reader.failed ≡ false;
}

abbrev pub decreases-loop-stream : goal.decreases-loop-stream
decreases-loop-stream g l = l.most - l.taken
