use Rattle.clfs_laws.proofs.JournalChains.{numbers_rise}
use Rattle.clfs_laws.proofs.journals.numbers_count_up.Goals as goal

pub returns : goal.returns
returns c = numbers_rise
