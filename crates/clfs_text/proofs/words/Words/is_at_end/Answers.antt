use Rattle.clfs_text.proofs.WordEnds.{end_is}
use Rattle.clfs_text.proofs.words.Words.is_at_end.Goals as goal

pub returns : goal.returns
returns c = rw (← c.self.view_is) (end_is c.self.inside.line.now c.self.inside.at)
