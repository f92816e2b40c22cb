use Rattle.clfs_area_checks.proofs.refusals.a_log_of_one_container_gives_no_sectors.Given as goal

abbrev pub ghosts-cause_of_reserve-S-Ledger : goal.ghosts-cause_of_reserve-S-Ledger
ghosts-cause_of_reserve-S-Ledger g a = record { name = a.sectors.name; parts = a.sectors.parts }

abbrev pub ghosts-cause_of_reserve-R-Ledger : goal.ghosts-cause_of_reserve-R-Ledger
ghosts-cause_of_reserve-R-Ledger g a = record { name = a.records.name; parts = a.records.parts }
