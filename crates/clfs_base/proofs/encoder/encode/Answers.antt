use Rattle.clfs_base.proofs.Images.{may_be_current}
use Rattle.clfs_base.proofs.encoder.encode.Goals as goal

pub encode_as-requires-clause-image : goal.encode_as-requires-clause-image
encode_as-requires-clause-image c = may_be_current c.args.image.now c.requires.image
