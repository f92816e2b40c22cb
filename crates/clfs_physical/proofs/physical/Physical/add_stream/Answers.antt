use Rattle.clfs_physical.proofs.Words.{◌⊎◌, inl, ◌-◌, refl, with_stream, next_copy, Stores}
use Rattle.clfs_physical.specs.declared.change.Change.TheVariants as changes
use Rattle.clfs_physical.proofs.Joining.{leaves_nothing}
use Rattle.clfs_physical.proofs.Listed.{stream_holds, copy_leaves, copy_written}
use Rattle.clfs_physical.proofs.physical.Physical.add_stream.Goals as goal

pub returns-in_err-apply_stream-clause-moments : goal.returns-in_err-apply_stream-clause-moments
returns-in_err-apply_stream-clause-moments g c settled whole blocks stores =
    leaves_nothing (λ image. Stores whole c.args.self.now blocks image
    ⊎ Stores whole (record { slot = 1 - c.args.self.now.slot; image = with_stream c.args.row (next_copy c.args.first changes.Listing c.args.self.now.image) }) blocks image)
    _ settled (inl stores)

pub returns-in_err-self-inside-clause-moments : goal.returns-in_err-self-inside-clause-moments
returns-in_err-self-inside-clause-moments g c settled whole =
    copy_leaves whole (λ n. with_stream c.args.row (next_copy c.args.first changes.Listing n)) (λ n. refl) c.self.inside.slot c.self.inside.image c.apply_stream.new.image
    c.args.self.now c.self.view_is c.in_ok-apply_stream.ensures.ok c.self.invariant.image_is _ _
    (λ blocks. stream_holds whole c.args.first c.args.row c.args.self.now.image blocks _) (c.store_copy.ensures.moments settled whole)

pub returns-clause-written : goal.returns-clause-written
returns-clause-written g c tells whole =
    copy_written whole (λ n. with_stream c.args.row (next_copy c.args.first changes.Listing n)) (λ n. refl) c.self.inside.slot c.self.inside.image c.apply_stream.new.image
    c.args.self.now c.self.view_is c.in_ok-apply_stream.ensures.ok c.self.invariant.image_is _ _ _ c.in_ok-self-inside.ensures.slot
    (λ blocks. stream_holds whole c.args.first c.args.row c.args.self.now.image blocks _) (c.in_ok-self-inside.ensures.written tells whole)

pub returns-clause-moments : goal.returns-clause-moments
returns-clause-moments g c settled whole =
    copy_leaves whole (λ n. with_stream c.args.row (next_copy c.args.first changes.Listing n)) (λ n. refl) c.self.inside.slot c.self.inside.image c.apply_stream.new.image
    c.args.self.now c.self.view_is c.in_ok-apply_stream.ensures.ok c.self.invariant.image_is _ _
    (λ blocks. stream_holds whole c.args.first c.args.row c.args.self.now.image blocks _) (c.store_copy.ensures.moments settled whole)
