use Rattle.std.proofs.Common.{ℕ, length, rules}
use Rattle.std.proofs.lemmas.List.{drop-replicate}
use Rattle.clfs_command.proofs.words.AskedName.of_word.Goals as goal

pub returns : goal.returns
returns c = search (rules, c.copy_from_slice.ensures.after, drop-replicate {X = ℕ} (length c.args.word.now) 64 0)
