use Rattle.clfs_block.proofs.Spellings.{one_spelling}
use Rattle.clfs_block.proofs.laws.blocks_have_one_spelling.Goals as goal

pub returns : goal.returns
returns c = one_spelling
