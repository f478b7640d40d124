use Rattle.std.proofs.Common.{leb, ltb, arith, rules}
use Rattle.std.proofs.lemmas.Bool.Decides.{nat_tests}
use Rattle.std.proofs.lemmas.List.Sorted.{IsPartitionPoint-from_clause, IsPartitionedBy-ltb}
use Rattle.std.proofs.lemmas.List.Sums.{position_or_len_is}
use Rattle.examples.proofs.rings.server_of.Goals as goal

pub returns : goal.returns
returns c =
    let hash = c.komihash-hash.result in
    let points = c.args.points.now in
    let call = c.partition_point-below in
    let ordered = IsPartitionedBy-ltb (λ p. p) points hash c.requires.order in
    let parted = IsPartitionPoint-from_clause (λ p. ltb p hash) _ _ call.ensures.partitioned ordered
    (λ a r q k. search rules) in
    let first = position_or_len_is (λ p. leb hash p) points call.result 0 call.ensures.bound
    (λ k less. grind (arith, nat_tests, parted.0 k 0 (omega arith) less))
    (λ less. grind (arith, nat_tests, parted.1 call.result 0 (omega arith) less)) in
    search (rules, first)
