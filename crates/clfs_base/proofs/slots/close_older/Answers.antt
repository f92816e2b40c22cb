use Rattle.clfs_base.proofs.Words.{◌≡◌, ◌*◌, ℕ, true, sym, subst, ◌∙◌, Files, TornIn, Unchanged, Passes, is_open_slot, HasNewest}
use Rattle.clfs_base.proofs.Copies.{leaves_weaker, kept_unchanged, closing}
use Rattle.clfs_base.proofs.slots.close_older.Goals as goal

pub returns-in_err-has_open_gate-clause-moments : goal.returns-in_err-has_open_gate-clause-moments
returns-in_err-has_open_gate-clause-moments g c settled used image older =
    let old : Files = (g.D.Disk.state c.args.disk.now).files in
    leaves_weaker (Unchanged old) (HasNewest used image old) _ _
    (λ files same. kept_unchanged c.args.slot used image old files older same)
    (c.calls_join.ensures.left_by_reads _ _ settled c.in_err-has_open_gate.ensures.time)

pub returns-then-branch-clause-time : goal.returns-then-branch-clause-time
returns-then-branch-clause-time g c =
    c.calls_join.ensures.read_and_write 0 (16384 * c.args.slot) 1 _ _ _ c.in_ok-has_open_gate.ensures.time
    (subst (λ (at : ℕ). Passes (TornIn 0 at 1) (g.D.Disk.state c.has_open_gate.new.disk) (g.D.Disk.state c.write_synced.new.disk)) c.slot_place.ensures
    c.write_synced.ensures.time)

pub returns-then-branch-clause-moments : goal.returns-then-branch-clause-moments
returns-then-branch-clause-moments g c settled used image older =
    let old : Files = (g.D.Disk.state c.args.disk.now).files in
    let was : is_open_slot (old 0) c.args.slot ≡ true = sym (c.in_ok-has_open_gate.ensures.open settled.honest.0) ∙ c.if-branch.true in
    leaves_weaker (TornIn 0 (16384 * c.args.slot) 1 old) (HasNewest used image old) _ _
    (λ files torn. closing c.args.slot used image old older files was torn)
    (c.calls_join.ensures.left_by_writes 0 (16384 * c.args.slot) 1 _ _ settled
    (c.calls_join.ensures.read_and_write 0 (16384 * c.args.slot) 1 _ _ _ c.in_ok-has_open_gate.ensures.time
    (subst (λ (at : ℕ). Passes (TornIn 0 at 1) (g.D.Disk.state c.has_open_gate.new.disk) (g.D.Disk.state c.write_synced.new.disk)) c.slot_place.ensures
    c.write_synced.ensures.time)))

pub returns-then-branch-clause-newest : goal.returns-then-branch-clause-newest
returns-then-branch-clause-newest g c tells used image older =
    let old : Files = (g.D.Disk.state c.args.disk.now).files in
    let mid : Files = (g.D.Disk.state c.has_open_gate.new.disk).files in
    let new : Files = (g.D.Disk.state c.write_synced.new.disk).files in
    let was : is_open_slot (old 0) c.args.slot ≡ true = sym (c.in_ok-has_open_gate.ensures.open tells) ∙ c.if-branch.true in
    let same : mid ≡ old = λ i. λ file. c.in_ok-has_open_gate.ensures.same file i in
    closing c.args.slot used image old older new was
    (subst (λ (files : Files). TornIn 0 (16384 * c.args.slot) 1 files new) same
    (subst (λ (at : ℕ). TornIn 0 at 1 mid new) c.slot_place.ensures c.write_synced.ensures.torn))

pub returns-clause-moments : goal.returns-clause-moments
returns-clause-moments g c settled used image older =
    let old : Files = (g.D.Disk.state c.args.disk.now).files in
    leaves_weaker (Unchanged old) (HasNewest used image old) _ _
    (λ files same. kept_unchanged c.args.slot used image old files older same)
    (c.calls_join.ensures.left_by_reads _ _ settled c.in_ok-has_open_gate.ensures.time)
