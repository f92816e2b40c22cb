use Rattle.std.proofs.Common.{arith}
use Rattle.clfs_tables.proofs.Kept.{all_kept}
use Rattle.clfs_tables.proofs.tables.Tables.records_kept.Goals as goal

pub returns-clause-all : goal.returns-clause-all
returns-clause-all c = omega (arith, all_kept c.args.self.now.low _ _ c.row.ensures.kept, c.len.ensures)
