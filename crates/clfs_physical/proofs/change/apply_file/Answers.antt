use Rattle.clfs_physical.proofs.Words.{◌≡◌, ◌∙◌, ◌∷◌, ◌++◌, [], ◌<◌, length, sym, ap, subst, arith, BaseImage, IsImage, with_next_turn, with_file}
use Rattle.clfs_lsn.specs.Limits.{most_containers}
use Rattle.clfs_physical.proofs.Taken.{file_image}
use Rattle.clfs_physical.proofs.change.apply_file.Goals as goal

pub push-requires : goal.push-requires
push-requires c =
    let old = c.args.image.now in
    let is = c.copies_are_read_as_written.ensures.current old c.requires.image in
    subst (λ (i : BaseImage). length i.files < most_containers) (sym c.follow.ensures)
    (omega (arith, c.requires.room.few, is.containers_made, is.few_made))

pub returns-clause-image : goal.returns-clause-image
returns-clause-image c =
    let old = c.args.image.now in
    let is : record c.follow.new.image { files = c.push.new.self } ≡ with_file c.args.file (with_next_turn old) =
    (λ k. record (c.follow.ensures k) { files = (c.push.ensures ∙ ap (λ (i : BaseImage). i.files ++ c.args.file ∷ []) c.follow.ensures) k }) in
    subst (λ (i : BaseImage). IsImage i) (sym is)
    (file_image old c.args.file (c.copies_are_read_as_written.ensures.current old c.requires.image) c.requires.free c.requires.room)
