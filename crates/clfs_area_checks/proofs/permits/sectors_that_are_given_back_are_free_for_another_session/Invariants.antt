use Rattle.clfs_area_checks.proofs.permits.sectors_that_are_given_back_are_free_for_another_session.Given as goal

abbrev pub ghosts-give_all_back-S-Ledger : goal.ghosts-give_all_back-S-Ledger
ghosts-give_all_back-S-Ledger g a = record { name = a.sectors.name; parts = a.sectors.parts }

abbrev pub ghosts-give_all_back-R-Ledger : goal.ghosts-give_all_back-R-Ledger
ghosts-give_all_back-R-Ledger g a = record { name = a.records.name; parts = a.records.parts }
