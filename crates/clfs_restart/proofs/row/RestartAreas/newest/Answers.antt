use Rattle.std.proofs.Common.{◌≡◌, length, arith}
use Rattle.clfs_restart.proofs.Places.{newest_of}
use Rattle.clfs_restart.proofs.row.RestartAreas.newest.Goals as goal

pub returns : goal.returns
returns c =
    let end : c.len.result ≡ length c.self.inside.heads.items = omega (arith, c.len.ensures) in
    newest_of c.args.self.now _ _ c.self.inside.heads.items _ c.len.result _ c.self.view_is c.self.invariant c.deref.ensures.value end c.from_base.ensures
