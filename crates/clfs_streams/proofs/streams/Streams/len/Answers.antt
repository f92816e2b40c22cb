use Rattle.clfs_streams.proofs.Rows.{named_differently}
use Rattle.clfs_streams.proofs.streams.Streams.len.Goals as goal

pub returns-clause-different : goal.returns-clause-different
returns-clause-different c = rw (← c.self.view_is) (named_differently c.self.inside.rows.entries c.len.ensures.unique)
