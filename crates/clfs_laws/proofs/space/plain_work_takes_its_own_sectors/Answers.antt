use Rattle.clfs_laws.proofs.PlainWork.{work_takes}
use Rattle.clfs_laws.proofs.space.plain_work_takes_its_own_sectors.Goals as goal

pub returns : goal.returns
returns c = λ told before s t entries valid off goes plain. work_takes c.space_laws.ensures told before s t entries goes off valid plain
