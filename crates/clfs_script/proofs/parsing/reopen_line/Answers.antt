use Rattle.clfs_script.specs.Asked.{rest_of}
use Rattle.clfs_script.proofs.WholeLines.{reopened}
use Rattle.clfs_script.proofs.parsing.reopen_line.Goals as goal

pub returns : goal.returns
returns c = reopened c.args.client c.ending.result (rest_of c.args.words.now).words c.ending.ensures
