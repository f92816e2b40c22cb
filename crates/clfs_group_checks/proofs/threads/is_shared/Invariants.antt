use Rattle.clfs_group_checks.proofs.threads.is_shared.Given as goal

abbrev pub ghosts-two_commits : goal.ghosts-two_commits
ghosts-two_commits g a = record { session = a.session; stream = a.stream }
