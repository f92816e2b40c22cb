use Rattle.std.proofs.Common.{ltb, rules}
use Rattle.std.proofs.lemmas.List.Sorted.{IsPartitionPoint-from_clause, IsPartitionedBy-ltb}
use Rattle.clfs_lsn.proofs.Places.{place_from_lower, never_falls}
use Rattle.clfs_lsn.proofs.sorted.place_of.Goals as goal

pub returns : goal.returns
returns g c =
    let point = IsPartitionPoint-from_clause (λ row. ltb (g.T.HasLsn.lsn_of row) c.args.lsn) c.args.rows.now _ c.partition_point.ensures.partitioned
    (IsPartitionedBy-ltb g.T.HasLsn.lsn_of c.args.rows.now c.args.lsn (never_falls g.T.HasLsn.lsn_of c.args.rows.now c.requires)) (λ a r f q. search rules) in
    place_from_lower g.T.HasLsn.lsn_of c.args.rows.now c.args.lsn _ c.partition_point.ensures.bound point
