use Rattle.std.proofs.Common.{◌≡◌, ◌≤◌, ◌-◌}
use Rattle.clfs_area.specs.Areas.{permit_of}
use Rattle.clfs_engine.specs.Work.{IsAtWork}
use Rattle.clfs_engine.proofs.crewing.reserve_all.Given as goal

abbrev pub invariant-loop-done : goal.invariant-loop-done
invariant-loop-done g l = record {
  within : l.done ≤ l.count;
  area : IsAtWork l.log l.area;
  permit : l.permit ≡ permit_of l.done l.fn.permit.records l.fn.permit.parts;
}

abbrev pub decreases-loop-done : goal.decreases-loop-done
decreases-loop-done g l = l.count - l.done
