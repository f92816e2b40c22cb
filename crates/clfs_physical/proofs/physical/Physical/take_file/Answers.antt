use Rattle.clfs_physical.proofs.Words.{[], sym, subst, IsTrue, Nature}
use Rattle.clfs_physical.proofs.Taken.{taken_beside, taken_leaves, taken_written}
use Rattle.clfs_physical.proofs.physical.Physical.take_file.Goals as goal

pub returns-in_err-close_first-clause-moments : goal.returns-in_err-close_first-clause-moments
returns-in_err-close_first-clause-moments g c settled whole =
    taken_beside whole c.self.inside.slot c.self.inside.image c.apply_file.new.image c.args.self.now c.self.view_is c.args.file c.apply_file.ensures.exact
    c.self.invariant.image_is c.requires.free _ _ (c.close_first.ensures.call.moments settled)

pub returns-in_err-self-inside-clause-moments : goal.returns-in_err-self-inside-clause-moments
returns-in_err-self-inside-clause-moments g c settled whole =
    taken_leaves whole c.self.inside.slot c.self.inside.image c.apply_file.new.image c.args.self.now c.self.view_is c.args.file c.apply_file.ensures.exact
    c.self.invariant.image_is c.requires.free _ _ _ c.close_first.ensures.call.torn
    (c.open_blocks_are_one_list.ensures.written c.self.inside.image.container_sectors c.args.file [] c.self.inside.image.container_sectors _
    (c.in_ok-close_first.ensures.none settled.honest.0 c.self.inside.image.container_sectors))
    (c.close_first.ensures.call.moments settled) (c.store_copy.ensures.moments (c.in_ok-close_first.ensures.call.settled settled.honest) whole)

pub returns-clause-written : goal.returns-clause-written
returns-clause-written g c tells whole =
    taken_written whole c.self.inside.slot c.self.inside.image c.apply_file.new.image c.args.self.now c.self.view_is c.args.file c.apply_file.ensures.exact
    c.self.invariant.image_is c.requires.free _ _ _ _ c.in_ok-self-inside.ensures.slot c.close_first.ensures.call.torn
    (c.open_blocks_are_one_list.ensures.written c.self.inside.image.container_sectors c.args.file [] c.self.inside.image.container_sectors _
    (c.in_ok-close_first.ensures.none tells c.self.inside.image.container_sectors))
    (c.in_ok-self-inside.ensures.written (subst (λ (n : Nature). IsTrue n.tells_contents) (sym c.close_first.ensures.call.time.nature) tells) whole)

pub returns-clause-moments : goal.returns-clause-moments
returns-clause-moments g c settled whole =
    taken_leaves whole c.self.inside.slot c.self.inside.image c.apply_file.new.image c.args.self.now c.self.view_is c.args.file c.apply_file.ensures.exact
    c.self.invariant.image_is c.requires.free _ _ _ c.close_first.ensures.call.torn
    (c.open_blocks_are_one_list.ensures.written c.self.inside.image.container_sectors c.args.file [] c.self.inside.image.container_sectors _
    (c.in_ok-close_first.ensures.none settled.honest.0 c.self.inside.image.container_sectors))
    (c.close_first.ensures.call.moments settled) (c.store_copy.ensures.moments (c.in_ok-close_first.ensures.call.settled settled.honest) whole)
