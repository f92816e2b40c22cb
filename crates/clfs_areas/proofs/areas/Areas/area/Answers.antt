use Rattle.clfs_areas.proofs.Words.{◌∙◌}
use Rattle.clfs_areas.proofs.ChangedHeld.{held_there, place_in_ledger}
use Rattle.clfs_areas.proofs.areas.Areas.area.Goals as goal

pub held_at-requires : goal.held_at-requires
held_at-requires c = place_in_ledger c.self.inside c.args.self.now c.self.view_is c.self.invariant c.args.place c.requires

pub returns-clause-held : goal.returns-clause-held
returns-clause-held c = c.held_at.ensures ∙ held_there c.self.inside c.args.self.now c.self.view_is c.self.invariant c.args.place c.requires
