use Rattle.std.proofs.Common.{arith}
use Rattle.std.proofs.lemmas.Result.{IfOk-weaker}
use Rattle.clfs_engine.proofs.Crowds.{tells_crowd}
use Rattle.clfs_engine.proofs.Gathered.{all_of_log, closes}
use Rattle.clfs_engine.proofs.crowding.closed.Goals as goal

pub close-manager-requires-clause-log : goal.close-manager-requires-clause-log
close-manager-requires-clause-log g c =
    let totals = c.args.totals in all_of_log c.args.log c.args.count totals.records totals.stable totals.sessions.items c.requires.gathered

pub returns : goal.returns
returns g c =
    let log = c.args.log in
    let totals = c.args.totals in
    let all = c.requires.gathered in
    let closed = c.close-manager.result in
    let told = c.close-manager.ensures in
    let z = closes log c.args.threads c.args.count totals.records totals.stable totals.sessions.items closed.journal closed.manager.0
    (g.D.Disk.state closed.manager.1) c.requires.begins c.requires.calm c.opened.ensures.valid c.requires.apart c.requires.many c.requires.few.0
    c.requires.few.1 all c.requires.clients told.sessions told.others told.reached in
    let counted = c.count.ensures in
    let short = c.if-count-ge-MOST_CALLS.false in
    IfOk-weaker c.crowd_text.result _ _
    (λ text is. tells_crowd c.plain_work_takes_its_own_sectors.ensures c.rows_are_by_own_entries.ensures.made c.refusals_are_the_calls_own.ensures.none
    c.refusals_are_the_calls_own.ensures.no_bad_line c.unbroken_stays.ensures.fine c.fronts_are_legal.ensures c.steps_keep_a_state_valid.ensures.journal
    c.held_is_by_own_entries.ensures c.what_is_stable_stays.ensures.journal c.unbroken_stays.ensures.part log c.args.threads c.args.count totals.records
    totals.stable all.members all.ended closed.journal closed.manager.0 text z all.records_are all.stable_are (omega (arith, counted, short)) is)
    c.crowd_text.ensures
