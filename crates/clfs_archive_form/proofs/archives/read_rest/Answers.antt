use Rattle.clfs_archive_form.proofs.Words.{ℕ, ◌+◌, List, sym, ◌∙◌, ap, subst, err_from_is_err_and, Row, just_there, RefusesAt}
use Rattle.clfs_archive_form.proofs.Grammar.{no_count, judging, takes_rest}
use Rattle.clfs_archive_form.proofs.Readable.{readable_more}
use Rattle.clfs_archive_form.proofs.archives.read_rest.Goals as goal

pub returns-in_err-count-clause-exact : goal.returns-in_err-count-clause-exact
returns-in_err-count-clause-exact c =
    let p = err_from_is_err_and c.from_residual.result c.from_residual.ensures.1 in
    rw (p.1, p.2) (no_count c.args.image.now c.args.bytes.now c.args.at c.in_err-count.field-0.0
    (subst (λ (n : ℕ). RefusesAt c.in_err-count.field-0.0 (just_there c.args.bytes.now (c.args.at + 16391) n)) c.wanted_count.ensures c.in_err-count.ensures.exact))

pub returns-clause-exact : goal.returns-clause-exact
returns-clause-exact c =
    takes_rest c.args.image.now c.args.bytes.now c.args.at c.in_ok-count.count c.container-first.result c.in_ok-judge.judge c.args.containers.now.items
    c.read_containers.new.containers.items c.read_containers.result
    (ap (λ (n : ℕ). just_there c.args.bytes.now (c.args.at + 16391) n) (sym c.wanted_count.ensures) ∙ c.in_ok-count.ensures.exact)
    (c.in_ok-judge.ensures ∙ ap (λ (l : List Row). judging c.args.image.now l) c.as_slice.ensures) c.container-first.ensures.value c.read_containers.ensures.exact

pub returns-clause-readable : goal.returns-clause-readable
returns-clause-readable c =
    readable_more c.args.bytes.now c.args.image.now c.args.at c.args.containers.now.items c.read_containers.new.containers.items c.read_containers.result (returns-clause-exact c)
