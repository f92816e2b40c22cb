use Rattle.clfs_physical.proofs.Words.{◌≡◌, ◌⊎◌, inl, ⊎_elim, [], on_ok_weaker, Stores, IsPlaced, with_group}
use Rattle.clfs_physical.proofs.Joining.{leaves_nothing}
use Rattle.clfs_physical.proofs.Logs.{log_no_group, placed_bytes, is_empty, not_empty, group_done, group_moments}
use Rattle.clfs_physical.proofs.physical.Physical.flush.Goals as goal

pub returns-then-is_empty-clause-written : goal.returns-then-is_empty-clause-written
returns-then-is_empty-clause-written g c tells whole blocks more stores waits = ⊎_elim
    (λ (none : (c.args.body.now ≡ []) × (more ≡ [])). log_no_group whole c.args.self.now.slot c.args.self.now.image blocks more _ none.1 stores)
    (λ (placed : IsPlaced c.args.self.now.image blocks c.args.at c.args.body.now more).
    absurd (placed_bytes c.args.self.now.image blocks c.args.at c.args.body.now more (is_empty c.args.body.now _ c.is_empty.ensures c.if-is_empty.true) placed))
    waits

pub returns-then-is_empty-clause-moments : goal.returns-then-is_empty-clause-moments
returns-then-is_empty-clause-moments g c settled whole blocks more stores waits =
    leaves_nothing (λ image. Stores whole c.args.self.now blocks image ⊎ Stores whole c.args.self.now (with_group c.args.self.now.image more blocks) image) _ settled (inl stores)

pub returns-clause-written : goal.returns-clause-written
returns-clause-written g c = on_ok_weaker c.write_group.result
    (λ written tells whole blocks more stores waits. ⊎_elim
    (λ (none : (c.args.body.now ≡ []) × (more ≡ [])). absurd (not_empty c.args.body.now _ c.is_empty.ensures c.if-is_empty.false none.0))
    (λ (placed : IsPlaced c.args.self.now.image blocks c.args.at c.args.body.now more).
    group_done whole c.args.self.now.slot c.args.self.now.image blocks c.args.at c.args.body.now more _ c.last_file-file.result c.last_file-file.ensures.file
    c.last_file-file.ensures.image stores placed c.open_blocks_are_one_list.ensures.written _ (written tells))
    waits)
    c.write_group.ensures.written

pub returns-clause-moments : goal.returns-clause-moments
returns-clause-moments g c settled whole blocks more stores waits = ⊎_elim
    (λ (none : (c.args.body.now ≡ []) × (more ≡ [])). absurd (not_empty c.args.body.now _ c.is_empty.ensures c.if-is_empty.false none.0))
    (λ (placed : IsPlaced c.args.self.now.image blocks c.args.at c.args.body.now more).
    group_moments whole c.args.self.now.slot c.args.self.now.image blocks c.args.at c.args.body.now more _ c.last_file-file.result c.last_file-file.ensures.file
    c.last_file-file.ensures.image stores placed c.open_blocks_are_one_list.ensures.written c.open_blocks_are_one_list.ensures.behind _ _
    (c.write_group.ensures.moments settled))
    waits
