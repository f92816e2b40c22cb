use Rattle.clfs_base.proofs.Words.{◌∙◌, ap, slice_get, BaseImage, numbers_of, file_in}
use Rattle.clfs_base.proofs.Images.{image_is}
use Rattle.clfs_base.proofs.Telling.{at_place}
use Rattle.clfs_base.proofs.entries.file_at.Goals as goal

pub returns-clause-found : goal.returns-clause-found
returns-clause-found c image is =
    let bytes = c.args.bytes.now in
    c.file_in.ensures ∙ at_place (file_in bytes) (numbers_of bytes).listed c.args.i
    ∙ ap (λ (x : BaseImage). slice_get x.files c.args.i) (image_is bytes image is).1
