use Rattle.clfs_engine.proofs.crowding.gathered.Given as goal

abbrev pub ghosts-committed : goal.ghosts-committed
ghosts-committed g a = record { session = a.session; stream = a.stream }
