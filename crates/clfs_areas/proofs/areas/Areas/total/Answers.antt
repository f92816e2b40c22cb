use Rattle.clfs_areas.proofs.Words.{◌∙◌, ap, sym, List, Area, Reservation, total_held, all_held}
use Rattle.clfs_areas.proofs.Parts.{parts_seen}
use Rattle.clfs_areas.proofs.Held.{total_seen}
use Rattle.clfs_areas.proofs.areas.Areas.total.Goals as goal

pub returns-clause-value : goal.returns-clause-value
returns-clause-value c =
    let parts = parts_seen c.self.inside c.args.self.now c.self.view_is c.self.invariant in
    c.total.ensures ∙ ap (λ (rows : List Reservation). total_held rows) parts.reservations_are ∙ total_seen c.args.self.now.areas

pub returns-clause-state : goal.returns-clause-state
returns-clause-state c = λ s same. returns-clause-value c ∙ ap (λ (areas : List Area). all_held areas) (sym same)
