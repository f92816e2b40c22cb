use Rattle.std.proofs.Common.{◌+◌, ℕ, ap, ◌∙◌}
use Rattle.clfs_area.specs.Areas.{permit_of}
use Rattle.clfs_engine.proofs.Crews.{reserved_works}
use Rattle.clfs_engine.proofs.crewing.reserve_records.Goals as goal

pub returns-in-Ok-clause-area : goal.returns-in-Ok-clause-area
returns-in-Ok-clause-area g c =
    reserved_works c.args.log.now c.args.area.now c.reserve.new.self c.in_ok-sizes.sizes c.reserve.new.self.sectors c.requires.area c.reserve.ensures.same
    c.in-Ok.ensures.asked c.in-Ok.ensures.book.1

pub returns-in-Ok-clause-permit : goal.returns-in-Ok-clause-permit
returns-in-Ok-clause-permit g c =
    c.in-Ok.ensures.sectors
    ∙ ap (λ (n : ℕ). permit_of (c.args.permit.now.sectors + n) c.args.permit.now.records c.args.permit.now.parts) c.in_ok-sizes.ensures
