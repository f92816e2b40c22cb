use Rattle.std.proofs.Common.{sym}
use Rattle.clfs_restart.proofs.Places.{live_is}
use Rattle.clfs_restart.proofs.row.from_base.Goals as goal

pub returns-then-lt : goal.returns-then-lt
returns-then-lt c =
    let is = live_is c.args.base c.args.heads.now c.args.place _ c.in_ok-head.head c.lt.result c.before-2.ensures c.in_ok-head.was c.lt.ensures in
    sym (rw c.if-lt.true at is)

pub returns-else-lt : goal.returns-else-lt
returns-else-lt c =
    let is = live_is c.args.base c.args.heads.now c.args.place _ c.in_ok-head.head c.lt.result c.before-2.ensures c.in_ok-head.was c.lt.ensures in
    sym (rw c.if-lt.false at is)
