use Rattle.clfs_area_checks.proofs.refusals.is_broken.Given as goal

abbrev pub ghosts-over_a_disk_that_fails-S-Ledger : goal.ghosts-over_a_disk_that_fails-S-Ledger
ghosts-over_a_disk_that_fails-S-Ledger g a = record { name = a.sectors.name; parts = a.sectors.parts }

abbrev pub ghosts-over_a_disk_that_fails-R-Ledger : goal.ghosts-over_a_disk_that_fails-R-Ledger
ghosts-over_a_disk_that_fails-R-Ledger g a = record { name = a.records.name; parts = a.records.parts }
