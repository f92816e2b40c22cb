use Rattle.clfs_laws.proofs.OpenEnds.{newest_there, ends_at_place}
use Rattle.clfs_laws.proofs.storable.open_blocks_end_at_the_place.Goals as goal

pub returns-clause-newest : goal.returns-clause-newest
returns-clause-newest c = λ s valid storable. newest_there s valid.ranges.shape storable.blocks

pub returns-clause-end : goal.returns-clause-end
returns-clause-end c = λ s valid storable. ends_at_place s valid.ranges.shape storable.blocks
