use Rattle.clfs_archive_form.proofs.Words.{◌++◌}
use Rattle.clfs_archive_form.proofs.draft.longer.Given as goal

abbrev pub ghost-next : goal.ghost-next
ghost-next a = a.self.now.value ++ a.with.now.now
