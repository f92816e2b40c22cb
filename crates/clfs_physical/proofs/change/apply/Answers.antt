use Rattle.clfs_physical.proofs.Words.{◌≡◌, ◌∙◌, sym, ap, subst, BaseImage, IsImage, listed_from, changed, next_copy}
use Rattle.clfs_physical.proofs.NextCopies.{next_image, changed_version}
use Rattle.clfs_physical.proofs.change.apply.Goals as goal

pub returns-clause-image : goal.returns-clause-image
returns-clause-image c =
    let old = c.args.image.now in
    let is : c.change_fields.new.image ≡ next_copy c.args.first c.args.change.now old =
    c.change_fields.ensures ∙ ap (changed c.args.change.now) (c.list_from.ensures ∙ ap (listed_from c.args.first) c.follow.ensures) in
    subst (λ (i : BaseImage). IsImage i) (sym is)
    (next_image c.args.first c.args.change.now old (c.copies_are_read_as_written.ensures.current old c.requires.image)
    c.requires.first c.requires.listed c.requires.change)

pub returns-clause-version : goal.returns-clause-version
returns-clause-version c =
    let version = λ (i : BaseImage). i.version in
    ap version c.change_fields.ensures ∙ changed_version c.args.change.now c.list_from.new.image ∙ ap version c.list_from.ensures ∙ ap version c.follow.ensures
