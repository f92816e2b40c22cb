use Rattle.clfs_area_checks.proofs.permits.a_dropped_permit_leaves_its_sectors_in_the_book.Given as goal

abbrev pub ghosts-drop_half-S-Ledger : goal.ghosts-drop_half-S-Ledger
ghosts-drop_half-S-Ledger g a = record { name = a.sectors.name; parts = a.sectors.parts }

abbrev pub ghosts-drop_half-R-Ledger : goal.ghosts-drop_half-R-Ledger
ghosts-drop_half-R-Ledger g a = record { name = a.records.name; parts = a.records.parts }
