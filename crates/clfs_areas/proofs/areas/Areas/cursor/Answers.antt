use Rattle.clfs_areas.proofs.Words.{subst, ap, ◌∙◌, AreaCursors, HaveDifferentNumbers, area_at}
use Rattle.clfs_lsn.specs.Cursors.{cursor_in}
use Rattle.clfs_areas.proofs.ChangedCursors.{cursors_there}
use Rattle.clfs_areas.proofs.Cursors.{numbers_differ}
use Rattle.clfs_areas.proofs.areas.Areas.cursor.Goals as goal

pub returns-clause-cursor : goal.returns-clause-cursor
returns-clause-cursor c = c.cursor.ensures.cursor
    ∙ ap (λ (area : AreaCursors). cursor_in area.cursors c.args.number) (cursors_there c.self.inside c.args.self.now c.self.view_is c.self.invariant c.args.place c.requires)

pub returns-clause-different : goal.returns-clause-different
returns-clause-different c =
    let there = cursors_there c.self.inside c.args.self.now c.self.view_is c.self.invariant c.args.place in
    numbers_differ (area_at c.args.place c.args.self.now.areas).cursors
    (subst (λ (area : AreaCursors). HaveDifferentNumbers area.cursors) (there c.requires) c.cursor.ensures.different)
