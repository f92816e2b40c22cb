use Rattle.clfs_physical.proofs.Words.{ℕ, [], subst, on_ok_weaker, Leaves, Stores, with_blocks}
use Rattle.clfs_physical.specs.Taking.{InTurn}
use Rattle.clfs_physical.proofs.Counting.{one_free}
use Rattle.clfs_physical.proofs.physical.Physical.turn.Goals as goal

pub returns-clause-file : goal.returns-clause-file
returns-clause-file g c = (c.next_file-file.result, c.next_file-file.ensures)

pub returns-clause-written : goal.returns-clause-written
returns-clause-written g c = on_ok_weaker c.turn_to.result
    (λ written tells whole file blocks free stores.
    subst (λ (k : ℕ). Stores whole c.turn_to.new.self (with_blocks k [] blocks) (g.D.Disk.state c.turn_to.new.disk).files)
    (one_free _ _ c.next_file-file.result file c.next_file-file.ensures free) (written tells whole blocks stores))
    c.turn_to.ensures.written

pub returns-clause-moments : goal.returns-clause-moments
returns-clause-moments g c settled whole file blocks free stores =
    subst (λ (k : ℕ). Leaves (InTurn whole c.args.self.now c.args.first k blocks) (g.D.Disk.state c.args.disk.now) (g.D.Disk.state c.turn_to.new.disk))
    (one_free _ _ c.next_file-file.result file c.next_file-file.ensures free) (c.turn_to.ensures.moments settled whole blocks stores)
