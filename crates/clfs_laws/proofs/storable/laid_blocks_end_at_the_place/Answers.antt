use Rattle.clfs_laws.proofs.OpenEnds.{newest_there, ends_at_place}
use Rattle.clfs_laws.proofs.storable.laid_blocks_end_at_the_place.Goals as goal

pub returns-clause-newest : goal.returns-clause-newest
returns-clause-newest c = λ s laid. newest_there s laid.ranges.shape laid.blocks

pub returns-clause-end : goal.returns-clause-end
returns-clause-end c = λ s laid. ends_at_place s laid.ranges.shape laid.blocks
