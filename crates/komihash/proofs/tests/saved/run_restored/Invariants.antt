-- What the calls so far and those that are left cost is what one run costs.
use Rattle.std.proofs.Common.{◌≡◌, ◌+◌, drop, length}
use Rattle.komihash.specs.Calls.{onward_products, onward_kept_bytes, run_products, run_kept_bytes}
use Rattle.komihash.proofs.tests.saved.run_restored.Given as goal

abbrev pub invariant-loop-call : goal.invariant-loop-call
invariant-loop-call g l =
    let pending = length (g.S.KomiStream.state l.stream).pending in
    let left = drop l.call-index l.calls in
    record {
      products : l.tally.products + onward_products pending left
          ≡ l.fn.tally.products + run_products l.calls;
      kept_bytes : l.tally.kept_bytes + onward_kept_bytes pending left
          ≡ l.fn.tally.kept_bytes + run_kept_bytes l.calls;
    }
