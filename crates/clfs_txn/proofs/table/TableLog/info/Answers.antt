use Rattle.clfs_txn.proofs.Words.{◌≡◌, ap, ◌∙◌, refl, true, false}
use Rattle.clfs_txn.proofs.Above.{next_fits}
use Rattle.clfs_txn.proofs.Written.{no_fault}
use Rattle.clfs_txn.proofs.table.TableLog.info.Goals as goal

pub returns-clause-small : goal.returns-clause-small
returns-clause-small g c =
    let whole : c.self.inside.manager.0.broken ≡ false = ap (λ v. v.0.log.broken) c.self.view_is ∙ c.requires in
    let valid = c.stored.ensures.valid in
    let storable = c.stored.ensures.storable in
    next_fits c.self.inside.manager.0 c.self.inside.memory.client c.stream.result c.info.result whole valid
    (c.numbers_fit_their_types.ensures.frontier _ valid storable) (c.info.ensures.step true c.self.inside.memory.client)

pub returns-clause-calm : goal.returns-clause-calm
returns-clause-calm g c =
    let whole : c.self.inside.manager.0.broken ≡ false = ap (λ v. v.0.log.broken) c.self.view_is ∙ c.requires in
    no_fault true c.self.inside.manager.0 c.self.inside.memory.client _ _ c.info.result _ whole refl (c.info.ensures.step true c.self.inside.memory.client)
