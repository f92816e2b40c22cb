use Rattle.clfs_archive_form.proofs.Words.{err_from_is_err_and}
use Rattle.clfs_archive_form.proofs.Grammar.{no_letters, no_copy, no_rest, archive_is}
use Rattle.clfs_archive_form.proofs.archives.read_archive.Goals as goal

pub returns-in_err-magic_there-clause-exact : goal.returns-in_err-magic_there-clause-exact
returns-in_err-magic_there-clause-exact c =
    let p = err_from_is_err_and c.from_residual.result c.from_residual.ensures.1 in
    rw (p.1, p.2) (no_letters c.args.asked.now c.args.bytes.now c.args.at c.in_err-magic_there.field-0.0 c.in_err-magic_there.ensures.exact)

pub returns-in_err-image-clause-exact : goal.returns-in_err-image-clause-exact
returns-in_err-image-clause-exact c =
    let p = err_from_is_err_and c.from_residual-in_err-image.result c.from_residual-in_err-image.ensures.1 in
    rw (p.1, p.2) (no_copy c.args.asked.now c.args.bytes.now c.args.at c.in_ok-magic_there.field-0 c.in_ok-magic_there.ensures.exact c.in_err-image.field-0.0
    c.in_err-image.ensures.exact)

pub returns-in_err-end-clause-exact : goal.returns-in_err-end-clause-exact
returns-in_err-end-clause-exact c =
    let p = err_from_is_err_and c.from_residual-in_err-end.result c.from_residual-in_err-end.ensures.1 in
    rw (p.1, p.2) (no_rest c.args.asked.now c.args.bytes.now c.args.at c.in_ok-magic_there.field-0 c.in_ok-magic_there.ensures.exact c.in_ok-image.image
    c.in_ok-image.ensures.exact c.in_err-end.field-0.0 c.in_err-end.ensures.exact)

pub returns-clause-exact : goal.returns-clause-exact
returns-clause-exact c =
    let x = c.in_ok-end.ensures.exact in (
      x.0,
      archive_is c.args.asked.now c.args.bytes.now c.args.at c.in_ok-magic_there.field-0 c.in_ok-magic_there.ensures.exact c.in_ok-image.image
          c.in_ok-image.ensures.exact x.0 c.in_ok-end.end x.1 x.3,
      x.2,
    )
