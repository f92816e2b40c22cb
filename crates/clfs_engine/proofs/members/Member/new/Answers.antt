use Rattle.std.proofs.Common.{refl}
use Rattle.clfs_engine.proofs.Commits.{new_member}
use Rattle.clfs_engine.proofs.members.Member.new.Goals as goal

pub returns-in-Area-clause-member : goal.returns-in-Area-clause-member
returns-in-Area-clause-member g c =
    new_member c.args.log.now c.args.session c.step.new.session c.args.stream c.args.bytes c.in-Area.area c.requires.log c.step.ensures.same c.requires.none c.requires.bytes
    (c.in-Area.ensures.step refl)
