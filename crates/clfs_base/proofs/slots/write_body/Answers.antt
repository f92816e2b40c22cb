use Rattle.clfs_base.proofs.Words.{◌≡◌, ◌+◌, ◌*◌, ℕ, length, subst, arith, on_ok_weaker, Files, TornIn, WrittenIn, DiskState, Leaves, slot_place, HasNewest}
use Rattle.clfs_base.proofs.Copies.{leaves_weaker, filling, body_written}
use Rattle.clfs_base.proofs.slots.write_body.Goals as goal

-- the range of the write is that of a slot after its gate
torn_at : (at slot n : ℕ) (old new : Files) → at ≡ slot_place slot → n ≡ 16383 → TornIn 0 (at + 1) n old new → TornIn 0 (16384 * slot + 1) 16383 old new
torn_at at slot n old new place size torn =
    subst (λ (k : ℕ). TornIn 0 (k + 1) 16383 old new) place (subst (λ (k : ℕ). TornIn 0 (at + 1) k old new) size torn)

leaves_at : (at slot n : ℕ) (old : Files) (a b : DiskState) → at ≡ slot_place slot → n ≡ 16383 → Leaves (TornIn 0 (at + 1) n old) a b
    → Leaves (TornIn 0 (16384 * slot + 1) 16383 old) a b
leaves_at at slot n old a b place size torn =
    subst (λ (k : ℕ). Leaves (TornIn 0 (k + 1) 16383 old) a b) place (subst (λ (k : ℕ). Leaves (TornIn 0 (at + 1) k old) a b) size torn)

pub returns-clause-body : goal.returns-clause-body
returns-clause-body g c = on_ok_weaker c.write_synced.result
    (λ written tells.
    let done = written tells in
    body_written c.overwritten_bytes_stand_in_place.ensures c.args.slot c.args.body.now _ _ c.requires.length (omega (arith, done.0, c.slot_place.ensures))
    (subst (λ (k : ℕ). WrittenIn 0 (k + 1) c.args.body.now (g.D.Disk.state c.args.disk.now).files (g.D.Disk.state c.write_synced.new.disk).files)
    c.slot_place.ensures done.1))
    c.write_synced.ensures.written

pub returns-clause-moments : goal.returns-clause-moments
returns-clause-moments g c settled closed used image older =
    let old : Files = (g.D.Disk.state c.args.disk.now).files in
    leaves_weaker (TornIn 0 (16384 * c.args.slot + 1) 16383 old) (HasNewest used image old) _ _
    (λ files torn. filling c.args.slot used image old older files closed torn)
    (leaves_at c.slot_place.result c.args.slot (length c.args.body.now) old _ _ c.slot_place.ensures c.requires.length
    (c.write_synced.ensures.moments settled))

pub returns-clause-newest : goal.returns-clause-newest
returns-clause-newest g c closed used image older =
    filling c.args.slot used image _ older _ closed
    (torn_at c.slot_place.result c.args.slot (length c.args.body.now) _ _ c.slot_place.ensures c.requires.length c.write_synced.ensures.torn)
