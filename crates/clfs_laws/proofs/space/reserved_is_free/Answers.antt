use Rattle.clfs_laws.proofs.space.reserved_is_free.Goals as goal

pub returns : goal.returns
returns c = λ s valid. valid.space.room
