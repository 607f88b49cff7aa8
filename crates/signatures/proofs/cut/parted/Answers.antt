use Rattle.std.proofs.Common.{ltb, rules}
use Rattle.std.proofs.lemmas.List.Sorted.{IsPartitionPoint-from_clause, IsPartitionedBy-ltb}
use Rattle.signatures.{specs.Cuts.pair_value, proofs.Cuts.ascending_keys, proofs.Cuts.parted_is}
use Rattle.signatures.proofs.cut.parted.Goals as goal

pub returns : goal.returns
returns c =
    let list = c.args.pairs.now in
    let keys = IsPartitionedBy-ltb pair_value list _ (ascending_keys list c.requires.ascending c.requires.fit) in
    let point = IsPartitionPoint-from_clause (λ z. ltb (pair_value z) c.args.cut) list _
    c.partition_point.ensures.partitioned keys (λ a r q k. search rules) in
    rw (c.split_at.ensures.front, c.split_at.ensures.back) (parted_is list c.args.cut c.partition_point.result
    c.partition_point.ensures.bound point)
