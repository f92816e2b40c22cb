use Rattle.clfs_operations.proofs.Trials.{IsUnderWay}
use Rattle.clfs_operations.proofs.trying.answer_lines.Given as goal

abbrev pub invariant-loop : goal.invariant-loop
invariant-loop g l =
    IsUnderWay l.fn.manager.0 (g.D.Disk.state l.fn.manager.1) l.number l.counter l.tally l.generator l.manager.0 (g.D.Disk.state l.manager.1)
