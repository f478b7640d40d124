-- A turn makes the first of the calls that are left (`onward-first`).
use Rattle.std.proofs.Common.{[], ◌+◌, drop, get_or, arith}
use Rattle.std.proofs.lemmas.List.{drop_more}
use Rattle.komihash.specs.declared.stream.Call.TheVariants.{Absorb}
use Rattle.komihash.proofs.CallLists.{onward-first}
use Rattle.komihash.proofs.tests.saved.run_restored.Goals as goal

pub loop-call-preserved : goal.loop-call-preserved
loop-call-preserved g c =
    let now = g.S.KomiStream.state c.loop-call.stream in
    let few = (g.met.S.KomiStream.is_state c.loop-call.stream).few in
    let i = c.loop-call.call-index in
    let calls = c.args.calls.now in
    let absent = Absorb record { ref_ptr = (0, 0); now = [] } in
    let is = rw (drop_more calls i absent c.loop-call-test.true) at c.loop-call.invariant in
    let first =
    onward-first g.S.KomiStream.VERSION now _ (get_or calls i absent) (drop (i + 1) calls) few
    c.run_on-count.ensures.absorbed.state in
    grind arith
