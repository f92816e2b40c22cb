use Rattle.std.proofs.Common.{sym}
use Rattle.clfs_script.proofs.VerbLengths.{none_shorter}
use Rattle.clfs_script.proofs.verbs.verb_of_seven.Goals as goal

pub returns-in_default : goal.returns-in_default
returns-in_default c = sym (none_shorter c.args.word.now c.in_default.len_below)
