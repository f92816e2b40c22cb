use Rattle.std.proofs.Common.{sym, refl}
use Rattle.clfs_area.proofs.Books.{kept_made}
use Rattle.clfs_area.proofs.area.AreaState.new.Goals as goal

pub invariant_of-area : goal.invariant_of-area
invariant_of-area g c = record {
  kept = kept_made c.args.session c.step.new.session c.in-Area.number c.args.stream c.args.largest c.args.reads c.step.ensures.same (c.in-Area.ensures.step refl);
  held = sym c.open-sectors.ensures.total;
  placed = sym c.open-records.ensures.total;
}
