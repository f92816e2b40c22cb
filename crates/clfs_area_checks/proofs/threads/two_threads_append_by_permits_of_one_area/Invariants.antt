use Rattle.clfs_area_checks.proofs.threads.two_threads_append_by_permits_of_one_area.Given as goal

abbrev pub ghosts-two_appends-N-LogName : goal.ghosts-two_appends-N-LogName
ghosts-two_appends-N-LogName g a = record { log = a.log.now }

abbrev pub ghosts-two_appends-S-Ledger : goal.ghosts-two_appends-S-Ledger
ghosts-two_appends-S-Ledger g a = record { name = a.sectors.name; parts = a.sectors.parts }

abbrev pub ghosts-two_appends-R-Ledger : goal.ghosts-two_appends-R-Ledger
ghosts-two_appends-R-Ledger g a = record { name = a.records.name; parts = a.records.parts }
