use Rattle.clfs_group_checks.proofs.answers.asked.Given as goal

abbrev pub ghosts-grouped : goal.ghosts-grouped
ghosts-grouped g a = record { session = a.session; stream = a.stream }
