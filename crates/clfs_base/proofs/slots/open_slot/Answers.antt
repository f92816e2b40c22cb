use Rattle.clfs_base.proofs.Words.{◌*◌, ℕ, [], ◌∷◌, subst, arith, on_ok_weaker, Files, TornIn, WrittenIn, Leaves, EitherNewest, NoneOrFirst}
use Rattle.clfs_base.proofs.Copies.{leaves_weaker, opening, opened_whole, first_opened, first_opening}
use Rattle.clfs_base.proofs.slots.open_slot.Goals as goal

pub returns-clause-opened : goal.returns-clause-opened
returns-clause-opened g c = on_ok_weaker c.write_synced.result
    (λ written tells used image next older filled.
    let done = written tells in
    opened_whole c.args.slot used image next _ older filled c.overwritten_bytes_stand_in_place.ensures _
    (subst (λ (at : ℕ). TornIn 0 at 1 (g.D.Disk.state c.args.disk.now).files (g.D.Disk.state c.write_synced.new.disk).files) c.slot_place.ensures
    c.write_synced.ensures.torn)
    (omega (arith, done.0, c.slot_place.ensures))
    (subst (λ (k : ℕ). WrittenIn 0 k (165 ∷ []) (g.D.Disk.state c.args.disk.now).files (g.D.Disk.state c.write_synced.new.disk).files)
    c.slot_place.ensures done.1))
    c.write_synced.ensures.written

pub returns-clause-moments : goal.returns-clause-moments
returns-clause-moments g c settled used image next older filled =
    let old : Files = (g.D.Disk.state c.args.disk.now).files in
    leaves_weaker (TornIn 0 (16384 * c.args.slot) 1 old) (EitherNewest c.args.slot used image next old) _ _
    (λ files torn. opening c.args.slot used image next old older filled files torn)
    (subst (λ (at : ℕ). Leaves (TornIn 0 at 1 old) (g.D.Disk.state c.args.disk.now) (g.D.Disk.state c.write_synced.new.disk)) c.slot_place.ensures
    (c.write_synced.ensures.moments settled))

pub returns-clause-newest : goal.returns-clause-newest
returns-clause-newest g c used image next older filled =
    opening c.args.slot used image next _ older filled _
    (subst (λ (at : ℕ). TornIn 0 at 1 (g.D.Disk.state c.args.disk.now).files (g.D.Disk.state c.write_synced.new.disk).files) c.slot_place.ensures
    c.write_synced.ensures.torn)

pub returns-clause-first : goal.returns-clause-first
returns-clause-first g c = on_ok_weaker c.write_synced.result
    (λ written tells next first.
    let done = written tells in
    first_opened c.overwritten_bytes_stand_in_place.ensures c.args.slot next _ _ c.requires first
    (subst (λ (at : ℕ). TornIn 0 at 1 (g.D.Disk.state c.args.disk.now).files (g.D.Disk.state c.write_synced.new.disk).files) c.slot_place.ensures
    c.write_synced.ensures.torn)
    (omega (arith, done.0, c.slot_place.ensures))
    (subst (λ (k : ℕ). WrittenIn 0 k (165 ∷ []) (g.D.Disk.state c.args.disk.now).files (g.D.Disk.state c.write_synced.new.disk).files)
    c.slot_place.ensures done.1))
    c.write_synced.ensures.written

pub returns-clause-first_moments : goal.returns-clause-first_moments
returns-clause-first_moments g c settled next first =
    let old : Files = (g.D.Disk.state c.args.disk.now).files in
    leaves_weaker (TornIn 0 (16384 * c.args.slot) 1 old) (NoneOrFirst c.args.slot next old) _ _
    (λ files torn. first_opening c.args.slot next old files c.requires first torn)
    (subst (λ (at : ℕ). Leaves (TornIn 0 at 1 old) (g.D.Disk.state c.args.disk.now) (g.D.Disk.state c.write_synced.new.disk)) c.slot_place.ensures
    (c.write_synced.ensures.moments settled))
