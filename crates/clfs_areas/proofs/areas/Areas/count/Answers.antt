use Rattle.clfs_areas.proofs.Words.{◌∙◌, ap, sym, List, length, count_by, Area, client_areas, is_client_row, AreaRow}
use Rattle.clfs_areas.proofs.Parts.{parts_seen}
use Rattle.clfs_areas.proofs.Clients.{count_of_client}
use Rattle.clfs_areas.proofs.areas.Areas.count.Goals as goal

pub returns-clause-value : goal.returns-clause-value
returns-clause-value c =
    let parts = parts_seen c.self.inside c.args.self.now c.self.view_is c.self.invariant in
    c.count_of.ensures ∙ ap (λ (rows : List AreaRow). count_by (is_client_row c.args.client) rows) c.deref.ensures.value
    ∙ count_of_client c.args.self.now.areas c.self.inside.rows.items parts.rows_are c.args.client

pub returns-clause-state : goal.returns-clause-state
returns-clause-state c = λ s same.
    returns-clause-value c ∙ ap (λ (areas : List Area). length (client_areas c.args.client areas)) (sym same)
