use Rattle.clfs_engine.proofs.crewing.crewed.Given as goal

abbrev pub ghosts-worked-N-LogName : goal.ghosts-worked-N-LogName
ghosts-worked-N-LogName g a = record { log = a.log.now }

abbrev pub ghosts-worked-S-Ledger : goal.ghosts-worked-S-Ledger
ghosts-worked-S-Ledger g a = record { name = a.sectors.name; parts = a.sectors.parts }

abbrev pub ghosts-worked-R-Ledger : goal.ghosts-worked-R-Ledger
ghosts-worked-R-Ledger g a = record { name = a.records.name; parts = a.records.parts }
