use Rattle.clfs_room.proofs.space.Space.new.Given as goal

-- the state that the caller has
abbrev pub ghost-next : goal.ghost-next
ghost-next a = a.self.now.value
