use Rattle.clfs_ledger.proofs.Changes.{held_is}
use Rattle.clfs_ledger.proofs.reservations.Reservations.held_at.Goals as goal

pub returns : goal.returns
returns c = rw (← c.self.view_is) (held_is c.self.inside.rows.items c.args.place c.index.result.now (rw c.self.view_is c.requires) c.index.ensures)
