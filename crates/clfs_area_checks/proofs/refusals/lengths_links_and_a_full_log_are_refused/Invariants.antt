use Rattle.clfs_area_checks.proofs.refusals.lengths_links_and_a_full_log_are_refused.Given as goal

abbrev pub ghosts-are_refused-S-Ledger : goal.ghosts-are_refused-S-Ledger
ghosts-are_refused-S-Ledger g a = record { name = a.sectors.name; parts = a.sectors.parts }

abbrev pub ghosts-are_refused-R-Ledger : goal.ghosts-are_refused-R-Ledger
ghosts-are_refused-R-Ledger g a = record { name = a.records.name; parts = a.records.parts }
