use Rattle.clfs_ledger.proofs.KeptRows.{kept-push}
use Rattle.clfs_ledger.proofs.reservations.Reservations.add.Goals as goal

pub invariant_of-self-2 : goal.invariant_of-self-2
invariant_of-self-2 c =
    rw (c.in_ok-push.ensures.items, c.self.view_is)
    (kept-push c.args.self.now c.args.client c.args.area _ (rw (← c.self.view_is) c.self.invariant) c.requires)
