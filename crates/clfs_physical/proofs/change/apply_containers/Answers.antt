use Rattle.clfs_physical.proofs.Words.{ℕ, max, sym, subst, BaseImage, IsImage}
use Rattle.clfs_physical.proofs.NextCopies.{containers_image}
use Rattle.clfs_physical.proofs.change.apply_containers.Goals as goal

pub returns-clause-image : goal.returns-clause-image
returns-clause-image c =
    subst (λ (made : ℕ). IsImage (record c.apply.new.image { containers = c.args.containers; files_made = made })) (sym c.max-image.ensures)
    (subst (λ (n : BaseImage). IsImage (record n { containers = c.args.containers; files_made = max n.files_made c.args.containers }))
    (sym c.apply.ensures.exact)
    (containers_image c.args.containers c.args.first c.args.image.now (c.copies_are_read_as_written.ensures.current c.args.image.now c.requires.image) c.requires.first c.requires.listed c.requires.containers))
