use Rattle.std.proofs.Common.{◌≡◌, ℕ, List, length}
use Rattle.std.specs.Io.KnownBytes.{Consumes}
use Rattle.komihash.specs.Stream.{HasAbsorbed}
use Rattle.examples.proofs.readers.digest_of_reader.Given as goal

-- the stream has absorbed the bytes that the reader gave so far
abbrev pub invariant-loop : goal.invariant-loop
invariant-loop g l = (bytes : List ℕ) × record {
  absorbed : HasAbsorbed 5 0 l.stream.state bytes;
  consumed : Consumes (g.R.Read.remaining l.fn.reader) (g.R.Read.remaining l.reader) bytes;
  room : length l.chunk ≡ length l.fn.chunk;
}
