use Rattle.clfs_physical.proofs.Words.{next_copy}
use Rattle.clfs_physical.proofs.Listed.{next_holds, next_turn, copy_leaves, copy_written}
use Rattle.clfs_physical.proofs.physical.Physical.write_copy.Goals as goal

pub returns-in_err-self-inside-clause-moments : goal.returns-in_err-self-inside-clause-moments
returns-in_err-self-inside-clause-moments g c settled whole =
    copy_leaves whole (next_copy c.args.first c.args.change.now) (next_turn c.args.first c.args.change.now) c.self.inside.slot c.self.inside.image c.apply.new.image
    c.args.self.now c.self.view_is c.apply.ensures.exact c.self.invariant.image_is _ _
    (λ blocks. next_holds whole c.args.first c.args.change.now c.args.self.now.image blocks _) (c.store_copy.ensures.moments settled whole)

pub returns-clause-written : goal.returns-clause-written
returns-clause-written g c tells whole =
    copy_written whole (next_copy c.args.first c.args.change.now) (next_turn c.args.first c.args.change.now) c.self.inside.slot c.self.inside.image c.apply.new.image
    c.args.self.now c.self.view_is c.apply.ensures.exact c.self.invariant.image_is _ _ _ c.in_ok-self-inside.ensures.slot
    (λ blocks. next_holds whole c.args.first c.args.change.now c.args.self.now.image blocks _) (c.in_ok-self-inside.ensures.written tells whole)

pub returns-clause-moments : goal.returns-clause-moments
returns-clause-moments g c settled whole =
    copy_leaves whole (next_copy c.args.first c.args.change.now) (next_turn c.args.first c.args.change.now) c.self.inside.slot c.self.inside.image c.apply.new.image
    c.args.self.now c.self.view_is c.apply.ensures.exact c.self.invariant.image_is _ _
    (λ blocks. next_holds whole c.args.first c.args.change.now c.args.self.now.image blocks _) (c.store_copy.ensures.moments settled whole)
