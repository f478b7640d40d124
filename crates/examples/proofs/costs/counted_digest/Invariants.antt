use Rattle.std.proofs.Common.{◌≡◌, ◌+◌, ◌*◌, ◌/◌, length, take}
use Rattle.std.specs.List.{flat_map}
use Rattle.komihash.specs.Stream.{HasAbsorbed}
use Rattle.examples.proofs.costs.counted_digest.Given as goal

-- the stream has absorbed the slices so far, at four products for each whole block
abbrev pub invariant-loop-slice : goal.invariant-loop-slice
invariant-loop-slice g l =
    let m = flat_map (λ slice. slice.now) (take l.slice-index l.slices) in
    record {
      absorbed : HasAbsorbed g.S.KomiStream.VERSION l.seed (g.S.KomiStream.state l.stream) m;
      cost : l.tally.products ≡ l.fn.tally.products + 1 + 4 * (length m / 64);
    }
