use Rattle.clfs_physical.proofs.Words.{◌≡◌, ◌∙◌, sym, ap, subst, BaseImage, IsImage, with_next_turn, listed_from, with_stream, next_copy}
use Rattle.clfs_physical.specs.declared.change.Change.TheVariants as changes
use Rattle.clfs_physical.proofs.NextCopies.{stream_image}
use Rattle.clfs_physical.proofs.change.apply_stream.Goals as goal

pub returns-clause-image : goal.returns-clause-image
returns-clause-image c =
    let old = c.args.image.now in
    let is : c.list_from.new.image ≡ with_stream c.args.row (next_copy c.args.first changes.Listing old) =
    c.list_from.ensures ∙ ap (listed_from c.args.first) (c.follow.ensures ∙ ap with_next_turn c.in_ok-push_stream.ensures.ok) in
    subst (λ (i : BaseImage). IsImage i) (sym is)
    (stream_image c.args.first c.args.row old (c.copies_are_read_as_written.ensures.current old c.requires.image)
    c.requires.first c.requires.listed c.requires.row)
