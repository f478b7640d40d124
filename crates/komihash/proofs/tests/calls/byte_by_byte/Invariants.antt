-- the calls from the index on absorb the bytes from it on, and then answer
use Rattle.std.proofs.Common.{◌≡◌, ◌+◌, drop, length}
use Rattle.komihash.specs.Calls.{bytes_of_calls, products_of_answers, onward_kept_bytes}
use Rattle.komihash.proofs.tests.calls.byte_by_byte.Given as goal

abbrev pub invariant-loop-i : goal.invariant-loop-i
invariant-loop-i l =
    let done = drop l.i l.calls in
    record {
      size : length l.calls ≡ 96;
      bytes : l.i + length (bytes_of_calls done) ≡ 95;
      answer : products_of_answers l.i done ≡ 3;
      kept_bytes : l.i + onward_kept_bytes l.i done ≡ 95;
    }
