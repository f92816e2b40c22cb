use Rattle.clfs_space.proofs.Appends.{free-place_after}
use Rattle.clfs_space.proofs.laws.an_append_lowers_the_free_sectors_by_at_most_its_own.Goals as goal

pub returns-clause-free : goal.returns-clause-free
returns-clause-free c = free-place_after
