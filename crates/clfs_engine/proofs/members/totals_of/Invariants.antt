use Rattle.clfs_engine.proofs.Commits.{Sums}
use Rattle.clfs_engine.proofs.members.totals_of.Given as goal

abbrev pub invariant-loop-member : goal.invariant-loop-member
invariant-loop-member l = Sums l.yielded l.member-iterator.rest.items l.sessions.items l.records l.stable
