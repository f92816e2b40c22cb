use Rattle.clfs_record.proofs.Laws.{one_spelling}
use Rattle.clfs_record.proofs.decoder.no_spelling_begins_another.Goals as goal

pub returns : goal.returns
returns c = one_spelling
