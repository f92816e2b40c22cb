use Rattle.clfs_restore.proofs.Words.{sym, ◌∙◌, err_from_is_err_and}
use Rattle.clfs_restore.proofs.Made.{input_cause, choice_cause}
use Rattle.clfs_restore.proofs.restoring.choose.Goals as goal

pub returns-in_err-archive-clause-cause : goal.returns-in_err-archive-clause-cause
returns-in_err-archive-clause-cause c =
    let p = err_from_is_err_and c.from_residual.result c.from_residual.ensures.1 in
    rw (p.1, p.2) (input_cause c.args.archives.now c.args.up_to c.in_err-archive.field-0.0 c.in_err-archive.ensures.exact)

pub returns-in_err-lsn-clause-cause : goal.returns-in_err-lsn-clause-cause
returns-in_err-lsn-clause-cause c =
    let p = err_from_is_err_and c.from_residual-in_err-lsn.result c.from_residual-in_err-lsn.ensures.1 in
    let x = c.in_ok-archive.ensures.exact in
    rw (p.1, p.2) (choice_cause c.args.archives.now c.args.up_to x.0 c.in_ok-archive.archive c.in_err-lsn.field-0.0 x.1 x.2 (sym c.choose_up_to.ensures ∙ c.in_err-lsn.was))

pub returns-clause-chosen : goal.returns-clause-chosen
returns-clause-chosen c =
    let x = c.in_ok-archive.ensures.exact in
    record { archives = x.0; read = x.1; together = x.2; choice = sym c.choose_up_to.ensures ∙ c.in_ok-lsn.was }

pub returns-clause-can : goal.returns-clause-can
returns-clause-can c =
    c.archives_can_be_restored.ensures.can c.args.archives.now c.in_ok-archive.archive c.args.up_to c.in_ok-lsn.lsn c.in_ok-archive.ensures.image
    c.in_ok-archive.ensures.readable (sym c.choose_up_to.ensures ∙ c.in_ok-lsn.was)
