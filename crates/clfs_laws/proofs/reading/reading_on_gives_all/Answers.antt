use Rattle.clfs_laws.proofs.ReadCalls.{reads_all}
use Rattle.clfs_laws.proofs.reading.reading_on_gives_all.Goals as goal

pub returns : goal.returns
returns c = reads_all
