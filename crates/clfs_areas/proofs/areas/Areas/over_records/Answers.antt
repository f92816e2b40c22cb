use Rattle.clfs_areas.proofs.Words.{ap, ◌∙◌, AreaCursors}
use Rattle.clfs_lsn.specs.Cursors.{record_cursor_in}
use Rattle.clfs_areas.proofs.ChangedCursors.{cursors_there}
use Rattle.clfs_areas.proofs.areas.Areas.over_records.Goals as goal

pub returns : goal.returns
returns c = c.over_records.ensures
    ∙ ap (λ (area : AreaCursors). record_cursor_in area.cursors c.args.number) (cursors_there c.self.inside c.args.self.now c.self.view_is c.self.invariant c.args.place c.requires)
