use Rattle.clfs_physical.proofs.Words.{refl, with_containers, next_copy}
use Rattle.clfs_physical.specs.declared.change.Change.TheVariants as changes
use Rattle.clfs_physical.proofs.Listed.{containers_hold, copy_leaves, copy_written}
use Rattle.clfs_physical.proofs.physical.Physical.write_containers.Goals as goal

pub returns-in_err-self-inside-clause-moments : goal.returns-in_err-self-inside-clause-moments
returns-in_err-self-inside-clause-moments g c settled whole blocks stores made =
    copy_leaves whole (λ n. with_containers c.args.containers (next_copy c.args.first changes.Listing n)) (λ n. refl) c.self.inside.slot c.self.inside.image
    c.apply_containers.new.image c.args.self.now c.self.view_is c.apply_containers.ensures.exact c.self.invariant.image_is _ _
    (λ others holds. containers_hold whole c.args.first c.args.containers c.args.self.now.image others _ holds made) (c.store_copy.ensures.moments settled whole) blocks stores

pub returns-clause-written : goal.returns-clause-written
returns-clause-written g c tells whole blocks stores made =
    copy_written whole (λ n. with_containers c.args.containers (next_copy c.args.first changes.Listing n)) (λ n. refl) c.self.inside.slot c.self.inside.image
    c.apply_containers.new.image c.args.self.now c.self.view_is c.apply_containers.ensures.exact c.self.invariant.image_is _ _ _ c.in_ok-self-inside.ensures.slot
    (λ others holds. containers_hold whole c.args.first c.args.containers c.args.self.now.image others _ holds made) (c.in_ok-self-inside.ensures.written tells whole) blocks stores

pub returns-clause-moments : goal.returns-clause-moments
returns-clause-moments g c settled whole blocks stores made =
    copy_leaves whole (λ n. with_containers c.args.containers (next_copy c.args.first changes.Listing n)) (λ n. refl) c.self.inside.slot c.self.inside.image
    c.apply_containers.new.image c.args.self.now c.self.view_is c.apply_containers.ensures.exact c.self.invariant.image_is _ _
    (λ others holds. containers_hold whole c.args.first c.args.containers c.args.self.now.image others _ holds made) (c.store_copy.ensures.moments settled whole) blocks stores
