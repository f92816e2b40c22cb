use Rattle.std.proofs.Common.{◌≡◌, ◌+◌, length}
use Rattle.std.specs.Prelude.{All}
use Rattle.clfs_engine.specs.Work.{WorkerState, HasWorked}
use Rattle.clfs_engine.proofs.working.joined.Given as goal

abbrev pub invariant-loop-worker : goal.invariant-loop-worker
invariant-loop-worker g l = record {
  worked : HasWorked l.count l.all;
  parts : l.all.permit.parts + length l.workers.items ≡ length l.fn.workers.items;
  rest : All (λ (worker : WorkerState). HasWorked l.count worker × (worker.permit.parts ≡ 1)) l.workers.items;
}

abbrev pub decreases-loop-worker : goal.decreases-loop-worker
decreases-loop-worker g l = goal.left-loop-worker g l
