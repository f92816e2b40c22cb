use Rattle.clfs_area_checks.proofs.permits.a_permit_with_too_few_sectors_is_told_both_numbers.Given as goal

abbrev pub ghosts-append_with_too_few-S-Ledger : goal.ghosts-append_with_too_few-S-Ledger
ghosts-append_with_too_few-S-Ledger g a = record { name = a.sectors.name; parts = a.sectors.parts }

abbrev pub ghosts-append_with_too_few-R-Ledger : goal.ghosts-append_with_too_few-R-Ledger
ghosts-append_with_too_few-R-Ledger g a = record { name = a.records.name; parts = a.records.parts }
