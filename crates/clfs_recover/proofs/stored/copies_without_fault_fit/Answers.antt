use Rattle.clfs_recover.proofs.StoredLogs.{fault_fits, fits_right}
use Rattle.clfs_recover.proofs.stored.copies_without_fault_fit.Goals as goal

pub returns : goal.returns
returns c = record { fits = fault_fits; right = fits_right }
