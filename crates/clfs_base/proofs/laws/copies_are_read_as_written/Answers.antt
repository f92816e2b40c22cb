use Rattle.clfs_base.proofs.Words.{refl, layout_of}
use Rattle.clfs_base.proofs.Copies.{layout_fits, written}
use Rattle.clfs_base.proofs.Spelled.{length-spelled}
use Rattle.clfs_base.proofs.Images.{read, spelled_read, read_limits, read_may_be, one_image, may_be_current, fits_one, may_be_one}
use Rattle.clfs_base.proofs.laws.copies_are_read_as_written.Goals as goal

pub returns-clause-written : goal.returns-clause-written
returns-clause-written c image gate rest fits = written image gate rest _ fits refl

pub returns-clause-read : goal.returns-clause-read
returns-clause-read c bytes image fits is = read bytes image fits is

pub returns-clause-exactly : goal.returns-clause-exactly
returns-clause-exactly c bytes image small fits = (λ is. (read bytes image small is).1, spelled_read bytes image fits)

pub returns-clause-limits : goal.returns-clause-limits
returns-clause-limits c = read_limits

pub returns-clause-may_be : goal.returns-clause-may_be
returns-clause-may_be c = read_may_be

pub returns-clause-length : goal.returns-clause-length
returns-clause-length c image fits = length-spelled (layout_of image.version) image (layout_fits image.version) fits

pub returns-clause-one : goal.returns-clause-one
returns-clause-one c = one_image

pub returns-clause-current : goal.returns-clause-current
returns-clause-current c = may_be_current

pub returns-clause-in_one : goal.returns-clause-in_one
returns-clause-in_one c image fits = (fits_one image, may_be_one image fits)
