use Rattle.clfs_physical.proofs.Words.{◌+◌, ◌⊎◌, length, sym, subst, IsTrue, on_ok_weaker, Files, TornIn, Nature, HasGroup, HasNone}
use Rattle.clfs_physical.proofs.Lengths.{torn_lengths}
use Rattle.clfs_physical.proofs.Joining.{later_from, later_then, leaves_then}
use Rattle.clfs_physical.proofs.Groups.{none_yet, all_or_none, has_group}
use Rattle.clfs_physical.proofs.group.write_group.Goals as goal

pub returns-in_err-write_body-clause-moments : goal.returns-in_err-write_body-clause-moments
returns-in_err-write_body-clause-moments g c settled sectors blocks rest more left behind group =
    none_yet sectors c.args.file blocks rest c.args.at (length c.args.body.now) more left _ _ _
    (c.write_body.ensures.moments settled sectors blocks rest behind) (c.write_body.ensures.call.moments settled)

pub returns-clause-written : goal.returns-clause-written
returns-clause-written g c = on_ok_weaker c.open_gate.result
    (λ opened tells sectors blocks rest more left behind group.
    let mid-tells = subst (λ (n : Nature). IsTrue n.tells_contents) (sym c.write_body.ensures.call.time.nature) tells in
    let mid-behind = c.write_body.ensures.behind sectors blocks rest behind in
    has_group sectors c.args.file c.args.at (length c.args.body.now) blocks more left _ _ _ mid-behind.1 c.write_body.ensures.call.torn c.open_gate.ensures.call.torn
    (opened mid-tells sectors blocks rest c.args.body.now more left mid-behind.0 (c.in_ok-write_body.ensures.body tells) group))
    c.open_gate.ensures.opened

pub returns-clause-moments : goal.returns-clause-moments
returns-clause-moments g c settled sectors blocks rest more left behind group =
    let old : Files = (g.D.Disk.state c.args.disk.now).files in
    let mid : Files = (g.D.Disk.state c.write_body.new.disk).files in
    let settled-mid = c.in_ok-write_body.ensures.call.settled settled.honest in
    let mid-behind = c.write_body.ensures.behind sectors blocks rest behind in
    leaves_then (λ image. HasNone sectors c.args.file blocks rest c.args.at old image ⊎ HasGroup sectors c.args.file blocks more left old image) _ _ _
    (none_yet sectors c.args.file blocks rest c.args.at (length c.args.body.now) more left old _ _
    (c.write_body.ensures.moments settled sectors blocks rest behind) (c.write_body.ensures.call.moments settled))
    (all_or_none sectors c.args.file blocks rest c.args.at more left old mid _ _ mid-behind.1
    (torn_lengths c.args.file (c.args.at + 1) (length c.args.body.now) old mid c.write_body.ensures.call.torn)
    (c.open_gate.ensures.moments settled-mid sectors blocks rest c.args.body.now more left mid-behind.0 (c.in_ok-write_body.ensures.body settled.honest.0) group)
    (c.open_gate.ensures.call.moments settled-mid))

pub returns-clause-time : goal.returns-clause-time
returns-clause-time g c = later_then _ _ _
    (later_from (TornIn c.args.file (c.args.at + 1) (length c.args.body.now)) _ _ c.write_body.ensures.call.time)
    (later_from (TornIn c.args.file c.args.at 1) _ _ c.open_gate.ensures.call.time)
