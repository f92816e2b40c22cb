use Rattle.clfs_space.proofs.Appends.{free-place_after}
use Rattle.clfs_space.proofs.Fewest.{fewest}
use Rattle.clfs_space.proofs.Steps.{growth-Some}
use Rattle.clfs_space.proofs.laws.space_laws.Goals as goal

pub returns : goal.returns
returns c = record { append = free-place_after; growth = growth-Some; fewest = fewest }
