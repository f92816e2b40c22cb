use Rattle.clfs_base.proofs.Words.{◌∙◌, ap, slice_get, BaseImage, layout_in, numbers_of, row_of}
use Rattle.clfs_base.proofs.Images.{image_is}
use Rattle.clfs_base.proofs.Telling.{at_place}
use Rattle.clfs_base.proofs.entries.row_at.Goals as goal

pub returns-clause-found : goal.returns-clause-found
returns-clause-found c image is =
    let bytes = c.args.bytes.now in
    c.row_in.ensures ∙ at_place (row_of (layout_in bytes) bytes) (numbers_of bytes).streams c.args.i
    ∙ ap (λ (x : BaseImage). slice_get x.streams c.args.i) (image_is bytes image is).1
