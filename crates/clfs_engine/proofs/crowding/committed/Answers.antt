use Rattle.std.proofs.Common.{subst}
use Rattle.clfs_engine.specs.Commits.{IsQuiet}
use Rattle.clfs_engine.proofs.Gathered.{quiet_ended}
use Rattle.clfs_engine.proofs.crowding.committed.Goals as goal

pub returns-clause-quiet : goal.returns-clause-quiet
returns-clause-quiet g c =
    quiet_ended c.args.log.now g.N.GroupName.session c.end.result g.N.GroupName.stream c.end.ensures.entries.0
    (subst (IsQuiet c.args.log.now) c.requires.name.0 c.requires.quiet) c.end.ensures.same c.end.ensures.entries.1
