use Rattle.std.proofs.Common.{ap, Err}
use Rattle.clfs_operations.proofs.CheckEnds.{report_checks, refusal_checks, checking_is_done}
use Rattle.clfs_operations.proofs.Through.{AreOne}
use Rattle.clfs_operations.proofs.checking.check.Goals as goal

pub returns-in-Ok-clause-ends : goal.returns-in-Ok-clause-ends
returns-in-Ok-clause-ends g c =
    let checked = c.in-Ok.ensures in
    report_checks c.reported.result c.in-Ok.report (g.D.Disk.state c.args.disk) (g.D.Disk.state c.check.new.disk) _ _ _ _
    (record { is = checked.exact; log = checked.log; settled = checked.settled }) checked.same checked.time c.reported.ensures

pub returns-in-Err-clause-ends : goal.returns-in-Err-clause-ends
returns-in-Err-clause-ends g c =
    let checked = c.in-Err.ensures in
    refusal_checks c.refused.result c.in-Err.refusal (g.D.Disk.state c.args.disk) (g.D.Disk.state c.check.new.disk) _ _ _ _
    (record { is = checked.exact; cause = λ e. checked.cause (ap Err e); steady = λ s e. (checked.steady s).0 (ap Err e); same = checked.same; time = checked.time }) checked.place c.refused.ensures

pub returns-in-Ok-clause-complete : goal.returns-in-Ok-clause-complete
returns-in-Ok-clause-complete g c =
    let one : AreOne = record { no_damage = c.files_have_one_meaning.ensures.no_damage; no_base = c.files_have_one_meaning.ensures.no_base } in
    checking_is_done one _ _ _ _ _ _ _ (returns-in-Ok-clause-ends g c)

pub returns-in-Err-clause-complete : goal.returns-in-Err-clause-complete
returns-in-Err-clause-complete g c =
    let one : AreOne = record { no_damage = c.files_have_one_meaning.ensures.no_damage; no_base = c.files_have_one_meaning.ensures.no_base } in
    checking_is_done one _ _ _ _ _ _ _ (returns-in-Err-clause-ends g c)
