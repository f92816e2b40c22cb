use Rattle.clfs_manager.proofs.Words.{sym}
use Rattle.clfs_manager.proofs.KeptHeads.{is_number}
use Rattle.clfs_manager.proofs.manager.Manager.info.Goals as goal

pub last_live-requires : goal.last_live-requires
last_live-requires g c =
    let log = c.self.inside.log in
    let holds = (c.self.invariant.whole c.if-self.false).memory in
    record { there = is_number log.state.value log c.args.stream c.in-Some.base c.base.result holds (c.base.ensures log.state.value (sym holds.streams)) c.in-Some.is }

pub last_restart-requires : goal.last_restart-requires
last_restart-requires g c =
    let log = c.self.inside.log in
    let holds = (c.self.invariant.whole c.if-self.false).memory in
    record { there = is_number log.state.value log c.args.stream c.in-Some.base c.base.result holds (c.base.ensures log.state.value (sym holds.streams)) c.in-Some.is }
