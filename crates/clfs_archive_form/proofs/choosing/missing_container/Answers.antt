use Rattle.clfs_archive_form.proofs.Words.{Bool, not, Option, sym, ◌∙◌, ap, Stored, is_missing}
use Rattle.std.specs.Prelude.{is_some, length}
use Rattle.clfs_archive_form.proofs.Searches.{fails_on, passes_here, none_left}
use Rattle.clfs_archive_form.proofs.choosing.missing_container.Goals as goal

pub returns-then-is_none : goal.returns-then-is_none
returns-then-is_none c =
    let a = c.args.archive.now in
    let test = ap (λ (o : Option Stored). not (is_some o)) (sym c.last_copy.ensures) ∙ ap not c.is_none.ensures ∙ ap (λ (b : Bool). not (not b)) c.if-is_none.true in
    sym (passes_here (is_missing a.containers) a.image.first c.loop-i.i (length a.image.files) (rw c.as_slice.ensures at c.loop-i-test.true) test) ∙ c.loop-i.invariant

pub loop-i-preserved : goal.loop-i-preserved
loop-i-preserved c =
    let a = c.args.archive.now in
    let test = ap (λ (o : Option Stored). not (is_some o)) (sym c.last_copy.ensures) ∙ ap not c.is_none.ensures ∙ ap (λ (b : Bool). not (not b)) c.if-is_none.false in
    fails_on (is_missing a.containers) a.image.first c.loop-i.i (length a.image.files) (rw c.as_slice.ensures at c.loop-i-test.true) test ∙ c.loop-i.invariant

pub returns : goal.returns
returns c =
    let a = c.args.archive.now in
    sym (none_left (is_missing a.containers) a.image.first c.loop-i.i (length a.image.files) (rw c.as_slice.ensures at c.loop-i-test.false)) ∙ c.loop-i.invariant
