use Rattle.clfs_physical.proofs.Words.{◌+◌, ◌*◌, sym, ◌∙◌, subst, IsTrue, on_ok_weaker, Files, TornIn, Nature, EitherNewest}
use Rattle.clfs_physical.proofs.Joining.{later_from, later_then, leaves_then}
use Rattle.clfs_physical.proofs.Copies.{newest_then, still_older, filled, old_yet, old_still, old_or_new}
use Rattle.clfs_physical.proofs.copy.write_copy.Goals as goal

pub returns-in_err-close_older-clause-moments : goal.returns-in_err-close_older-clause-moments
returns-in_err-close_older-clause-moments g c settled used image next follows =
    old_yet c.args.slot used image next _ _ _ (c.close_older.ensures.moments settled used image follows.older)

pub returns-in_err-write_body-clause-moments : goal.returns-in_err-write_body-clause-moments
returns-in_err-write_body-clause-moments g c settled used image next follows =
    let old : Files = (g.D.Disk.state c.args.disk.now).files in
    let mid : Files = (g.D.Disk.state c.close_older.new.disk).files in
    let kept = c.close_older.ensures.newest settled.honest.0 used image follows.older in
    let older = still_older c.args.slot used image old mid follows.older kept in
    let shut = c.in_ok-close_older.ensures.closed settled.honest.0 in
    leaves_then (EitherNewest c.args.slot used image next old) _ _ _
    (old_yet c.args.slot used image next old _ _ (c.close_older.ensures.moments settled used image follows.older))
    (old_yet c.args.slot used image next old _ _
    (old_still used image old mid _ _ kept (c.write_body.ensures.moments (c.in_ok-close_older.ensures.settled settled) shut used image older)))

pub returns-in_err-write_body-clause-time : goal.returns-in_err-write_body-clause-time
returns-in_err-write_body-clause-time g c = later_then _ _ _
    (later_from (TornIn 0 (16384 * c.args.slot) 1) _ _ c.close_older.ensures.time)
    (later_from (TornIn 0 (16384 * c.args.slot + 1) 16383) _ _ c.write_body.ensures.time)

pub returns-clause-written : goal.returns-clause-written
returns-clause-written g c = on_ok_weaker c.open_slot.result
    (λ opened tells used image next follows.
    let old : Files = (g.D.Disk.state c.args.disk.now).files in
    let mid : Files = (g.D.Disk.state c.close_older.new.disk).files in
    let late : Files = (g.D.Disk.state c.write_body.new.disk).files in
    let tells-2 = subst (λ (n : Nature). IsTrue n.tells_contents) (sym c.close_older.ensures.time.nature) tells in
    let tells-3 = subst (λ (n : Nature). IsTrue n.tells_contents) (sym c.write_body.ensures.time.nature) tells-2 in
    let shut = c.in_ok-close_older.ensures.closed tells in
    let kept = c.close_older.ensures.newest tells used image follows.older in
    let older = still_older c.args.slot used image old mid follows.older kept in
    let kept-2 = c.write_body.ensures.newest shut used image older in
    let older-2 = still_older c.args.slot used image mid late older kept-2 in
    let kept-3 = newest_then used image used image old mid late kept kept-2 in
    newest_then c.args.slot next used image old late _ kept-3
    (opened tells-3 used image next older-2
    (filled c.args.slot used image next c.args.body.now old late follows (c.write_body.ensures.gate ∙ shut) (c.in_ok-write_body.ensures.body tells-2))))
    c.open_slot.ensures.opened

pub returns-clause-moments : goal.returns-clause-moments
returns-clause-moments g c settled used image next follows =
    let old : Files = (g.D.Disk.state c.args.disk.now).files in
    let mid : Files = (g.D.Disk.state c.close_older.new.disk).files in
    let late : Files = (g.D.Disk.state c.write_body.new.disk).files in
    let settled-2 = c.in_ok-close_older.ensures.settled settled in
    let settled-3 = c.in_ok-write_body.ensures.settled settled-2.honest in
    let shut = c.in_ok-close_older.ensures.closed settled.honest.0 in
    let kept = c.close_older.ensures.newest settled.honest.0 used image follows.older in
    let older = still_older c.args.slot used image old mid follows.older kept in
    let kept-2 = c.write_body.ensures.newest shut used image older in
    let older-2 = still_older c.args.slot used image mid late older kept-2 in
    let kept-3 = newest_then used image used image old mid late kept kept-2 in
    leaves_then (EitherNewest c.args.slot used image next old) _ _ _
    (old_yet c.args.slot used image next old _ _ (c.close_older.ensures.moments settled used image follows.older))
    (leaves_then (EitherNewest c.args.slot used image next old) _ _ _
    (old_yet c.args.slot used image next old _ _
    (old_still used image old mid _ _ kept (c.write_body.ensures.moments settled-2 shut used image older)))
    (old_or_new c.args.slot used image next old late _ _ kept-3
    (c.open_slot.ensures.moments settled-3 used image next older-2
    (filled c.args.slot used image next c.args.body.now old late follows (c.write_body.ensures.gate ∙ shut) (c.in_ok-write_body.ensures.body settled-2.honest.0)))))

pub returns-clause-time : goal.returns-clause-time
returns-clause-time g c = later_then _ _ _
    (later_from (TornIn 0 (16384 * c.args.slot) 1) _ _ c.close_older.ensures.time)
    (later_then _ _ _ (later_from (TornIn 0 (16384 * c.args.slot + 1) 16383) _ _ c.write_body.ensures.time)
    (later_from (TornIn 0 (16384 * c.args.slot) 1) _ _ c.open_slot.ensures.time))
