-- A turn makes the first of the calls that are left (`onward-first`). After the loop none is left,
-- so the answers so far are all answers, and those of a stream that absorbed a message are hashes.
use Rattle.std.proofs.Common.{sym, ◌+◌, drop, ap, arith, rules, ◌∙◌, append-nil}
use Rattle.std.proofs.lemmas.Grind.{common_steps}
use Rattle.komihash.specs.Stream.{absorb, HasAbsorbed}
use Rattle.komihash.specs.declared.stream.Call.TheVariants.{Absorb}
use Rattle.komihash.proofs.CallLists.{onward-first, onward-message}
use Rattle.komihash.proofs.Streams.{absorb-nothing, more_absorbed}
use Rattle.komihash.proofs.stream.run_on.Goals.{in-Absorb, in-Answer}
use Rattle.komihash.proofs.stream.run_on.Goals as goal

pub loop-call-preserved : goal.loop-call-preserved
loop-call-preserved g c =
    let v = g.S.KomiStream.VERSION in
    let now = g.S.KomiStream.state c.loop-call.stream in
    let few = (g.met.S.KomiStream.is_state c.loop-call.stream).few in
    let i = c.loop-call.call-index in
    let after = drop (i + 1) c.args.calls.now in
    elim c.match-call.branch [
      | in-Absorb w ↦
          let bytes = w.in-Absorb.bytes in
          let alone = sym (append-nil bytes.now) in
          let state = w.absorb.ensures.absorbed.state ∙ ap (absorb v now) alone in
          let first = onward-first v now _ (Absorb bytes) after few state in
          grind (arith, common_steps)
      | in-Answer w ↦
          let same = absorb-nothing v now in
          grind (arith, common_steps)
    ]

pub returns-clause-hashes : goal.returns-clause-hashes
returns-clause-hashes g c = search (rules, arith, onward-message, common_steps)

pub returns-clause-absorbed : goal.returns-clause-absorbed
unfolding HasAbsorbed
returns-clause-absorbed g c = search (rules, arith, absorb-nothing, common_steps, more_absorbed)
