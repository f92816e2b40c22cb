use Rattle.clfs_area_checks.proofs.refusals.refusal_of_new.Given as goal

abbrev pub ghosts-cause_of_new-S-Ledger : goal.ghosts-cause_of_new-S-Ledger
ghosts-cause_of_new-S-Ledger g a = record { name = a.sectors.name; parts = a.sectors.parts }

abbrev pub ghosts-cause_of_new-R-Ledger : goal.ghosts-cause_of_new-R-Ledger
ghosts-cause_of_new-R-Ledger g a = record { name = a.records.name; parts = a.records.parts }
