-- The answers so far and those of the calls that are left are the answers of all calls. The same
-- holds for the state after the calls, and for what they cost. `first` is the state when the loop
-- began, so that a wrong body that begins with another stream keeps this invariant, and is refused
-- because of a clause.
use Rattle.std.proofs.Common.{◌≡◌, ◌+◌, ◌≤◌, ◌++◌, length, take, drop}
use Rattle.komihash.specs.Calls.{onward, bytes_of_calls, onward_products, onward_kept_bytes}
use Rattle.komihash.specs.Stream.{absorb}
use Rattle.komihash.proofs.stream.run_on.Given as goal

abbrev pub invariant-loop-call : goal.invariant-loop-call
invariant-loop-call g l =
    let v = g.S.KomiStream.VERSION in
    let first = g.S.KomiStream.state l.initial.stream in
    let now = g.S.KomiStream.state l.stream in
    let left = drop l.call-index l.calls in
    record {
      few : l.count ≤ l.call-index;
      answers : take l.count l.out ++ onward v now left ≡ onward v first l.calls;
      rest : drop l.count l.out ≡ drop l.count l.initial.out;
      state : absorb v now (bytes_of_calls left) ≡ absorb v first (bytes_of_calls l.calls);
      products : l.tally.products + onward_products (length now.pending) left
          ≡ l.initial.tally.products + onward_products (length first.pending) l.calls;
      kept_bytes : l.tally.kept_bytes + onward_kept_bytes (length now.pending) left
          ≡ l.initial.tally.kept_bytes + onward_kept_bytes (length first.pending) l.calls;
    }
