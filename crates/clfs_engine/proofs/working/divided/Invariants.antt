use Rattle.std.proofs.Common.{◌≡◌, ◌+◌, ◌*◌, length}
use Rattle.std.specs.Prelude.{All}
use Rattle.clfs_area.specs.Areas.{permit_of}
use Rattle.clfs_engine.specs.Work.{WorkerState, ready}
use Rattle.clfs_engine.proofs.working.divided.Given as goal

abbrev pub invariant-loop : goal.invariant-loop
invariant-loop g l = record {
  permit : l.permit ≡ permit_of (l.permit.parts * l.count) 0 l.permit.parts;
  parts : l.permit.parts + l.counter ≡ l.threads + 1;
  many : length l.workers.items + 1 ≡ l.counter;
  ready : All (λ (worker : WorkerState). worker ≡ ready l.count) l.workers.items;
}
