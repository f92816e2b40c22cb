use Rattle.clfs_archive_form.proofs.Words.{ℕ, ◌+◌, List, sym, ◌∙◌, ap, subst, arith, err_from_is_err_and, Shape, RefusesAs, stored_in, blocks_in}
use Rattle.clfs_archive_form.proofs.Words.{length_there, RefusesAt}
use Rattle.clfs_archive_form.proofs.Grammar.{no_id, no_length, no_blocks, is_cut, is_there}
use Rattle.clfs_archive_form.proofs.containers.read_container.Goals as goal

pub returns-in_err-just_there-clause-exact : goal.returns-in_err-just_there-clause-exact
returns-in_err-just_there-clause-exact c =
    let p = err_from_is_err_and c.from_residual.result c.from_residual.ensures.1 in
    let j = c.args.judge.now in
    rw (p.1, p.2) (no_id j.shape j.streams c.args.bytes.now c.args.id c.args.at c.in_err-just_there.field-0.0 c.in_err-just_there.ensures.exact)

pub length_there-requires-clause-shape : goal.length_there-requires-clause-shape
length_there-requires-clause-shape c = c.shape.ensures.shape

pub returns-in_err-len-clause-exact : goal.returns-in_err-len-clause-exact
returns-in_err-len-clause-exact c =
    let p = err_from_is_err_and c.from_residual-in_err-len.result c.from_residual-in_err-len.ensures.1 in
    let j = c.args.judge.now in
    rw (p.1, p.2) (no_length j.shape j.streams c.args.bytes.now c.args.id c.args.at c.in_ok-just_there.field-0 c.in_ok-just_there.ensures.exact c.in_err-len.field-0.0
    (subst (λ (s : Shape). RefusesAt c.in_err-len.field-0.0 (length_there s c.args.bytes.now (c.args.at + 4))) c.shape.ensures.is c.in_err-len.ensures.exact))

pub returns-in-Err-clause-exact : goal.returns-in-Err-clause-exact
returns-in-Err-clause-exact c =
    let j = c.args.judge.now in
    let bytes = c.args.bytes.now in
    let has_length = ap (λ (s : Shape). length_there s bytes (c.args.at + 4)) (sym c.shape.ensures.is) ∙ c.in_ok-len.ensures.exact in
    rw c.refused.ensures (no_blocks j.shape j.streams bytes c.args.id c.args.at c.in_ok-just_there.field-0 c.in_ok-just_there.ensures.exact c.in_ok-len.len has_length c.in-Err.refusal
    (subst (λ (l : List ℕ). RefusesAs c.in-Err.refusal (stored_in j.shape j.streams c.args.id 0 (blocks_in l))) c.part_of-there.ensures c.in-Err.ensures.exact))

pub returns-then-there-len-clause-exact : goal.returns-then-there-len-clause-exact
returns-then-there-len-clause-exact c =
    let j = c.args.judge.now in
    let bytes = c.args.bytes.now in
    let has_length = ap (λ (s : Shape). length_there s bytes (c.args.at + 4)) (sym c.shape.ensures.is) ∙ c.in_ok-len.ensures.exact in
    let right = ap (λ (l : List ℕ). stored_in j.shape j.streams c.args.id 0 (blocks_in l)) (sym c.part_of-there.ensures) ∙ c.in_default.ensures.exact.1 in
    rw c.wrong_at.ensures (is_cut j.shape j.streams bytes c.args.id c.args.at c.in_ok-just_there.field-0 c.in_ok-just_there.ensures.exact c.in_ok-len.len has_length
    c.in_default.ensures.exact.0 right (omega (arith, c.in_ok-len.ensures.whole)) (rw c.part_of-there.ensures at c.if-there-len.true))

pub returns-clause-exact : goal.returns-clause-exact
returns-clause-exact c =
    let j = c.args.judge.now in
    let bytes = c.args.bytes.now in
    let has_length = ap (λ (s : Shape). length_there s bytes (c.args.at + 4)) (sym c.shape.ensures.is) ∙ c.in_ok-len.ensures.exact in
    let right = ap (λ (l : List ℕ). stored_in j.shape j.streams c.args.id 0 (blocks_in l)) (sym c.part_of-there.ensures) ∙ c.in_default.ensures.exact.1 in
    (is_there j.shape j.streams bytes c.args.id c.args.at c.in_ok-just_there.field-0 c.in_ok-just_there.ensures.exact c.in_ok-len.len has_length
    c.in_default.ensures.exact.0 right (omega (arith, c.in_ok-len.ensures.whole)) (rw c.part_of-there.ensures at c.if-there-len.false)).0
