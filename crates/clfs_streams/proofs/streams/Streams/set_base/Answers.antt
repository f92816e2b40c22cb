use Rattle.clfs_streams.proofs.Rows.{moved_at}
use Rattle.clfs_streams.proofs.streams.Streams.set_base.Goals as goal

pub returns-clause-streams : goal.returns-clause-streams
returns-clause-streams c = rw (← c.self.view_is) (moved_at c.self.inside.rows.entries c.args.number c.args.lsn c.requires.some)
