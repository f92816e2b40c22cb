use Rattle.clfs_archive_form.proofs.Words.{[]}
use Rattle.clfs_archive_form.proofs.draft.nothing.Given as goal

abbrev pub ghost-pick : goal.ghost-pick
ghost-pick a = []
