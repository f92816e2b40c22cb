use Rattle.clfs_tables.proofs.Kept.{dropped}
use Rattle.clfs_tables.proofs.tables.forget_row.Goals as goal

pub returns-clause-index : goal.returns-clause-index
returns-clause-index c = let end = c.forget_below.ensures.end in dropped c.args.lsn end.0 _ _ end.1 c.forget_below.ensures.kept c.forget_below.ensures.few

pub returns-clause-restarts : goal.returns-clause-restarts
returns-clause-restarts c = let end = c.forget_below-2.ensures.end in dropped c.args.lsn end.0 _ _ end.1 c.forget_below-2.ensures.kept c.forget_below-2.ensures.few
