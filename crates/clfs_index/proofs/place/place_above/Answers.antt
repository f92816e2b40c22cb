use Rattle.std.proofs.Common.{leb, rules}
use Rattle.std.proofs.lemmas.List.Sorted.{IsPartitionPoint-from_clause, IsPartitionedBy-leb}
use Rattle.clfs_lsn.specs.declared.entry.Head.{Head}
use Rattle.clfs_index.proofs.Places.{place_from_up_to, never_falls}
use Rattle.clfs_index.proofs.place.place_above.Goals as goal

pub returns-else-is_place_above : goal.returns-else-is_place_above
returns-else-is_place_above c =
    let point = IsPartitionPoint-from_clause (λ (head : Head). leb head.lsn c.args.lsn) c.args.heads.now _ c.partition_point.ensures.partitioned
    (IsPartitionedBy-leb (λ (head : Head). head.lsn) c.args.heads.now c.args.lsn (never_falls c.args.heads.now c.requires)) (λ a r f q. search rules) in
    place_from_up_to c.args.heads.now c.args.lsn _ c.partition_point.ensures.bound point
