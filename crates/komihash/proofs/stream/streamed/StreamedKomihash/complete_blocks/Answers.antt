-- The new state is that after the bytes, which is one of the version.
use Rattle.std.proofs.Common.{arith, ◌≡◌, true}
use Rattle.komihash.specs.Stream.{State, absorb}
use Rattle.komihash.proofs.Streams.{blocks_completed, IsState-absorb}
use Rattle.komihash.proofs.WordOf.{AreBytes-typed}
use Rattle.komihash.proofs.stream.streamed.StreamedKomihash.complete_blocks.Goals as goal
use Rattle.komihash.proofs.stream.streamed.StreamedKomihash.complete_blocks.Goals.{then-none_pending}
use Rattle.komihash.proofs.stream.streamed.StreamedKomihash.complete_blocks.Goals.{else-none_pending}

pub invariant_of-self-inside : goal.invariant_of-self-inside
invariant_of-self-inside g c =
    let old = c.args.self.now.state in
    let bytes = c.args.bytes.now in
    let new : State = record {
      lanes = c.absorb_blocks-left.new.lanes;
      pending = c.append_to_none.new.self;
      had_block = true;
      top_bit = c.if-has_two.self;
    } in
    let are = AreBytes-typed bytes c.type_inv.bytes in
    let is = IsState-absorb g.row.V old bytes c.args.self.now.is_state are in
    let state : new ≡ absorb g.row.V old bytes =
    elim c.if-none_pending.branch [
      | then-none_pending w ↦ grind (arith, blocks_completed)
      | else-none_pending w ↦ grind (arith, blocks_completed)
    ] in
    (rw state is, tt)
