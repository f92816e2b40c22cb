use Rattle.clfs_physical.proofs.Words.{◌⊎◌, inl, ◌-◌, sym, subst, IsTrue, Nature, with_containers, next_copy, Stores}
use Rattle.clfs_physical.specs.declared.change.Change.TheVariants as changes
use Rattle.clfs_physical.proofs.Joining.{leaves_then}
use Rattle.clfs_physical.proofs.Growing.{stores_grown, made_grown, grown_keeps, grown_leaves}
use Rattle.clfs_physical.proofs.physical.Physical.set_containers.Goals as goal

pub returns-in_err-make_files-clause-moments : goal.returns-in_err-make_files-clause-moments
returns-in_err-make_files-clause-moments g c settled whole blocks stores =
    grown_leaves whole c.args.self.now (record { slot = 1 - c.args.self.now.slot; image = with_containers c.args.containers (next_copy c.args.first changes.Listing c.args.self.now.image) })
    blocks c.image-image.result.now c.image-image.ensures.exact c.image-image.ensures.image _ _ settled stores c.make_files.ensures.time

pub returns-in_err-make_files-clause-kept : goal.returns-in_err-make_files-clause-kept
returns-in_err-make_files-clause-kept g c wanting whole blocks stores =
    stores_grown whole c.args.self.now c.args.containers blocks c.image-image.result.now c.image-image.ensures.exact c.image-image.ensures.image _ _ stores c.make_files.ensures.grown

pub returns-in_err-make_files-clause-no_copy : goal.returns-in_err-make_files-clause-no_copy
returns-in_err-make_files-clause-no_copy g c wanting settled whole blocks stores =
    grown_keeps whole c.args.self.now blocks c.image-image.result.now c.image-image.ensures.exact c.image-image.ensures.image _ _ settled stores
    c.make_files.ensures.time

pub returns-in_err-write_containers-clause-moments : goal.returns-in_err-write_containers-clause-moments
returns-in_err-write_containers-clause-moments g c settled whole blocks stores =
    leaves_then (λ f. Stores whole c.args.self.now blocks f ⊎ Stores whole (record { slot = 1 - c.args.self.now.slot; image = with_containers c.args.containers (next_copy c.args.first changes.Listing c.args.self.now.image) }) blocks f) _ _ _
    (grown_leaves whole c.args.self.now (record { slot = 1 - c.args.self.now.slot; image = with_containers c.args.containers (next_copy c.args.first changes.Listing c.args.self.now.image) })
    blocks c.image-image.result.now c.image-image.ensures.exact c.image-image.ensures.image _ _ settled stores c.make_files.ensures.time)
    (c.write_containers.ensures.moments (c.in_ok-make_files.ensures.settled (λ wrong. cc) settled) whole blocks
    (stores_grown whole c.args.self.now c.args.containers blocks c.image-image.result.now c.image-image.ensures.exact c.image-image.ensures.image _ _ stores c.make_files.ensures.grown)
    (made_grown whole c.args.self.now c.args.containers blocks c.image-image.result.now c.image-image.ensures.exact c.image-image.ensures.image _ _ stores c.make_files.ensures.grown
    (c.in_ok-make_files.ensures.long (inl settled.honest.0))))

pub returns-clause-written : goal.returns-clause-written
returns-clause-written g c tells whole blocks stores =
    c.in_ok-write_containers.ensures.written (subst (λ (n : Nature). IsTrue n.tells_contents) (sym c.make_files.ensures.time.nature) tells) whole blocks
    (stores_grown whole c.args.self.now c.args.containers blocks c.image-image.result.now c.image-image.ensures.exact c.image-image.ensures.image _ _ stores c.make_files.ensures.grown)
    (made_grown whole c.args.self.now c.args.containers blocks c.image-image.result.now c.image-image.ensures.exact c.image-image.ensures.image _ _ stores c.make_files.ensures.grown
    (c.in_ok-make_files.ensures.long (inl tells)))

pub returns-clause-moments : goal.returns-clause-moments
returns-clause-moments g c settled whole blocks stores =
    leaves_then (λ f. Stores whole c.args.self.now blocks f ⊎ Stores whole (record { slot = 1 - c.args.self.now.slot; image = with_containers c.args.containers (next_copy c.args.first changes.Listing c.args.self.now.image) }) blocks f) _ _ _
    (grown_leaves whole c.args.self.now (record { slot = 1 - c.args.self.now.slot; image = with_containers c.args.containers (next_copy c.args.first changes.Listing c.args.self.now.image) })
    blocks c.image-image.result.now c.image-image.ensures.exact c.image-image.ensures.image _ _ settled stores c.make_files.ensures.time)
    (c.write_containers.ensures.moments (c.in_ok-make_files.ensures.settled (λ wrong. cc) settled) whole blocks
    (stores_grown whole c.args.self.now c.args.containers blocks c.image-image.result.now c.image-image.ensures.exact c.image-image.ensures.image _ _ stores c.make_files.ensures.grown)
    (made_grown whole c.args.self.now c.args.containers blocks c.image-image.result.now c.image-image.ensures.exact c.image-image.ensures.image _ _ stores c.make_files.ensures.grown
    (c.in_ok-make_files.ensures.long (inl settled.honest.0))))
