use Rattle.clfs_restore.proofs.Words.{inl, inr, ⊎_elim, ◌≡◌, ◌⊎◌, ◌≤◌, ℕ, List, length, sym, ◌∙◌, ap, subst, on_ok_weaker, IfErr-weaker, Files, Unchanged}
use Rattle.clfs_restore.proofs.Words.{TellsContents, Passes, HasNoCopy, base_bytes, GrowsBase, ComesAtOnce, StandForRestored, IsFreeCause, IsRestoreCause}
use Rattle.clfs_restore.proofs.Words.{IsOfMaking}
use Rattle.clfs_restore.proofs.Made.{none_open, told_cause}
use Rattle.clfs_restore.proofs.Moments.{later_from, later_then, no_copy_same, reads_grow, reads_leave, grows_after_reads, once_after_reads}
use Rattle.clfs_restore.proofs.Moments.{leaves_after_reads, still_settled, tells_still, honest_still, steady_still, rises_still}
use Rattle.clfs_restore.proofs.restoring.restore_disk.Goals as goal

pub returns-in-Ok-Some-clause-moments : goal.returns-in-Ok-Some-clause-moments
returns-in-Ok-Some-clause-moments g c honest none = inl (reads_grow (g.D.Disk.state c.args.disk.now) (g.D.Disk.state c.first_open_slot.new.disk) c.first_open_slot.ensures.time)

pub returns-in-Ok-Some-clause-all_moments : goal.returns-in-Ok-Some-clause-all_moments
returns-in-Ok-Some-clause-all_moments g c settled none long =
    let old = g.D.Disk.state c.args.disk.now in
    let mid = g.D.Disk.state c.first_open_slot.new.disk in
    reads_leave (StandForRestored c.args.archives.now c.args.up_to) old mid settled (none_open old.files none) c.first_open_slot.ensures.time

pub returns-in-Ok-Some-clause-why : goal.returns-in-Ok-Some-clause-why
returns-in-Ok-Some-clause-why g c = λ tells. sym (c.in-Ok-Some.ensures.open tells) ∙ c.in-Ok-Some.field-0-is

pub returns-in-Ok-Some-clause-same : goal.returns-in-Ok-Some-clause-same
returns-in-Ok-Some-clause-same g c making = (c.first_open_slot.ensures.same, c.first_open_slot.ensures.time)

pub returns-in-Ok-Some-clause-kept : goal.returns-in-Ok-Some-clause-kept
returns-in-Ok-Some-clause-kept g c tells slot is = (c.first_open_slot.ensures.same, c.first_open_slot.ensures.time)

pub returns-in-Ok-Some-clause-time : goal.returns-in-Ok-Some-clause-time
returns-in-Ok-Some-clause-time g c = later_from Unchanged (g.D.Disk.state c.args.disk.now) (g.D.Disk.state c.first_open_slot.new.disk) c.first_open_slot.ensures.time

pub returns-in-Ok-Some-clause-cause : goal.returns-in-Ok-Some-clause-cause
returns-in-Ok-Some-clause-cause g c e = absurd (cc e)

pub returns-in-Ok-Some-clause-steady : goal.returns-in-Ok-Some-clause-steady
returns-in-Ok-Some-clause-steady g c steady e = absurd (cc e)

pub returns-in-Err-clause-moments : goal.returns-in-Err-clause-moments
returns-in-Err-clause-moments g c honest none = inl (reads_grow (g.D.Disk.state c.args.disk.now) (g.D.Disk.state c.first_open_slot.new.disk) c.first_open_slot.ensures.time)

pub returns-in-Err-clause-all_moments : goal.returns-in-Err-clause-all_moments
returns-in-Err-clause-all_moments g c settled none long =
    let old = g.D.Disk.state c.args.disk.now in
    let mid = g.D.Disk.state c.first_open_slot.new.disk in
    reads_leave (StandForRestored c.args.archives.now c.args.up_to) old mid settled (none_open old.files none) c.first_open_slot.ensures.time

pub returns-in-Err-clause-why : goal.returns-in-Err-clause-why
returns-in-Err-clause-why g c = told_cause (g.D.Disk.state c.args.disk.now) c.args.archives.now c.args.up_to c.cause_after_fault.result c.cause_after_fault.ensures

pub returns-in-Err-clause-same : goal.returns-in-Err-clause-same
returns-in-Err-clause-same g c making = (c.first_open_slot.ensures.same, c.first_open_slot.ensures.time)

pub returns-in-Err-clause-kept : goal.returns-in-Err-clause-kept
returns-in-Err-clause-kept g c tells slot is = (c.first_open_slot.ensures.same, c.first_open_slot.ensures.time)

pub returns-in-Err-clause-time : goal.returns-in-Err-clause-time
returns-in-Err-clause-time g c = later_from Unchanged (g.D.Disk.state c.args.disk.now) (g.D.Disk.state c.first_open_slot.new.disk) c.first_open_slot.ensures.time

pub returns-in-Err-clause-cause : goal.returns-in-Err-clause-cause
returns-in-Err-clause-cause g c e = c.in-Err.ensures.cause

pub returns-in-Err-clause-steady : goal.returns-in-Err-clause-steady
returns-in-Err-clause-steady g c steady e = absurd (cc (c.in-Err.ensures.steady steady).0)

pub returns-in-Ok-None-clause-restored : goal.returns-in-Ok-None-clause-restored
returns-in-Ok-None-clause-restored g c =
    let old = g.D.Disk.state c.args.disk.now in
    let mid = g.D.Disk.state c.first_open_slot.new.disk in
    let new = g.D.Disk.state c.restore_free.new.disk in
    let reads = c.first_open_slot.ensures.time in
    let same = c.first_open_slot.ensures.same in
    let free = (λ (tells : TellsContents old). sym (c.in-Ok-None.ensures.open tells) ∙ c.in-Ok-None.field-0-is) in
    on_ok_weaker c.restore_free.result
    (λ restored tells. restored (tells_still Unchanged old mid reads tells) (no_copy_same old.files mid.files (same 0) (none_open old.files (free tells)))) c.restore_free.ensures.restored

pub returns-in-Ok-None-clause-whole : goal.returns-in-Ok-None-clause-whole
returns-in-Ok-None-clause-whole g c =
    let old = g.D.Disk.state c.args.disk.now in
    let mid = g.D.Disk.state c.first_open_slot.new.disk in
    let new = g.D.Disk.state c.restore_free.new.disk in
    let reads = c.first_open_slot.ensures.time in
    let same = c.first_open_slot.ensures.same in
    let free = (λ (tells : TellsContents old). sym (c.in-Ok-None.ensures.open tells) ∙ c.in-Ok-None.field-0-is) in
    on_ok_weaker c.restore_free.result
    (λ whole tells. whole (tells_still Unchanged old mid reads tells) (no_copy_same old.files mid.files (same 0) (none_open old.files (free tells)))) c.restore_free.ensures.whole

pub returns-in-Ok-None-clause-settled : goal.returns-in-Ok-None-clause-settled
returns-in-Ok-None-clause-settled g c =
    let old = g.D.Disk.state c.args.disk.now in
    let mid = g.D.Disk.state c.first_open_slot.new.disk in
    let new = g.D.Disk.state c.restore_free.new.disk in
    let reads = c.first_open_slot.ensures.time in
    let same = c.first_open_slot.ensures.same in
    on_ok_weaker c.restore_free.result (λ settles honest. settles (honest_still Unchanged old mid reads honest)) c.restore_free.ensures.settled

pub returns-in-Ok-None-clause-free : goal.returns-in-Ok-None-clause-free
returns-in-Ok-None-clause-free g c =
    let old = g.D.Disk.state c.args.disk.now in
    let mid = g.D.Disk.state c.first_open_slot.new.disk in
    let free = (λ (tells : TellsContents old). sym (c.in-Ok-None.ensures.open tells) ∙ c.in-Ok-None.field-0-is) in
    on_ok_weaker c.restore_free.result (λ settles tells. free tells) c.restore_free.ensures.settled

pub returns-in-Ok-None-clause-at_once : goal.returns-in-Ok-None-clause-at_once
returns-in-Ok-None-clause-at_once g c =
    let old = g.D.Disk.state c.args.disk.now in
    let mid = g.D.Disk.state c.first_open_slot.new.disk in
    let new = g.D.Disk.state c.restore_free.new.disk in
    let reads = c.first_open_slot.ensures.time in
    let same = c.first_open_slot.ensures.same in
    let free = (λ (tells : TellsContents old). sym (c.in-Ok-None.ensures.open tells) ∙ c.in-Ok-None.field-0-is) in
    on_ok_weaker c.restore_free.result
    (λ once honest. once_after_reads (StandForRestored c.args.archives.now c.args.up_to) old mid new reads c.restore_free.ensures.time
    (once (honest_still Unchanged old mid reads honest) (no_copy_same old.files mid.files (same 0) (none_open old.files (free honest.0))))) c.restore_free.ensures.at_once

pub returns-in-Ok-None-clause-moments : goal.returns-in-Ok-None-clause-moments
returns-in-Ok-None-clause-moments g c honest none =
    let old = g.D.Disk.state c.args.disk.now in
    let mid = g.D.Disk.state c.first_open_slot.new.disk in
    let new = g.D.Disk.state c.restore_free.new.disk in
    let reads = c.first_open_slot.ensures.time in
    let same = c.first_open_slot.ensures.same in
    ⊎_elim (λ (grows : GrowsBase mid new). inl (grows_after_reads old mid new reads grows))
    (λ (once : ComesAtOnce (StandForRestored c.args.archives.now c.args.up_to) mid new).
    inr (once_after_reads (StandForRestored c.args.archives.now c.args.up_to) old mid new reads c.restore_free.ensures.time once))
    (c.restore_free.ensures.moments (honest_still Unchanged old mid reads honest) (no_copy_same old.files mid.files (same 0) (none_open old.files none)))

pub returns-in-Ok-None-clause-all_moments : goal.returns-in-Ok-None-clause-all_moments
returns-in-Ok-None-clause-all_moments g c settled none long =
    let old = g.D.Disk.state c.args.disk.now in
    let mid = g.D.Disk.state c.first_open_slot.new.disk in
    let new = g.D.Disk.state c.restore_free.new.disk in
    let reads = c.first_open_slot.ensures.time in
    let same = c.first_open_slot.ensures.same in
    let closed = none_open old.files none in
    leaves_after_reads (λ (files : Files). HasNoCopy files ⊎ StandForRestored c.args.archives.now c.args.up_to files) old mid new settled
    (λ image is. inl (no_copy_same old.files image (is 0) closed)) reads
    (c.restore_free.ensures.all_moments (still_settled old mid settled (honest_still Unchanged old mid reads settled.honest) reads same)
    (no_copy_same old.files mid.files (same 0) closed) (subst (λ (l : List ℕ). base_bytes ≤ length l) (sym (same 0)) long))

pub returns-in-Ok-None-clause-why : goal.returns-in-Ok-None-clause-why
returns-in-Ok-None-clause-why g c =
    IfErr-weaker c.restore_free.result (λ refusal. IsFreeCause c.args.archives.now c.args.up_to refusal)
    (λ refusal. IsRestoreCause (g.D.Disk.state c.args.disk.now) c.args.archives.now c.args.up_to refusal)
    (λ refusal is. told_cause (g.D.Disk.state c.args.disk.now) c.args.archives.now c.args.up_to refusal is) c.restore_free.ensures.why

pub returns-in-Ok-None-clause-same : goal.returns-in-Ok-None-clause-same
returns-in-Ok-None-clause-same g c =
    let old = g.D.Disk.state c.args.disk.now in
    let mid = g.D.Disk.state c.first_open_slot.new.disk in
    let new = g.D.Disk.state c.restore_free.new.disk in
    let reads = c.first_open_slot.ensures.time in
    let same = c.first_open_slot.ensures.same in
    IfErr-weaker c.restore_free.result (λ refusal. (IsOfMaking refusal → ⊥) → c.restore_free.new.disk ≡ c.first_open_slot.new.disk)
    (λ refusal. (IsOfMaking refusal → ⊥) → Unchanged old.files new.files × Passes Unchanged old new)
    (λ refusal still making.
    let e = still making in
    (λ file. ap (λ d. (g.D.Disk.state d).files file) e ∙ same file, subst (λ d. Passes Unchanged old (g.D.Disk.state d)) (sym e) reads)) c.restore_free.ensures.same

pub returns-in-Ok-None-clause-kept : goal.returns-in-Ok-None-clause-kept
returns-in-Ok-None-clause-kept g c tells slot is =
    let old = g.D.Disk.state c.args.disk.now in
    let mid = g.D.Disk.state c.first_open_slot.new.disk in
    let free = (λ (tells : TellsContents old). sym (c.in-Ok-None.ensures.open tells) ∙ c.in-Ok-None.field-0-is) in
    absurd (cc (free tells, is))

pub returns-in-Ok-None-clause-time : goal.returns-in-Ok-None-clause-time
returns-in-Ok-None-clause-time g c =
    let old = g.D.Disk.state c.args.disk.now in
    let mid = g.D.Disk.state c.first_open_slot.new.disk in
    let new = g.D.Disk.state c.restore_free.new.disk in
    let reads = c.first_open_slot.ensures.time in
    let same = c.first_open_slot.ensures.same in
    later_then old mid new (later_from Unchanged old mid reads) c.restore_free.ensures.time

pub returns-in-Ok-None-clause-cause : goal.returns-in-Ok-None-clause-cause
returns-in-Ok-None-clause-cause g c e =
    let old = g.D.Disk.state c.args.disk.now in
    let mid = g.D.Disk.state c.first_open_slot.new.disk in
    let new = g.D.Disk.state c.restore_free.new.disk in
    let reads = c.first_open_slot.ensures.time in
    let same = c.first_open_slot.ensures.same in
    rises_still Unchanged old mid new reads (c.restore_free.ensures.cause e)

pub returns-in-Ok-None-clause-steady : goal.returns-in-Ok-None-clause-steady
returns-in-Ok-None-clause-steady g c steady e =
    let old = g.D.Disk.state c.args.disk.now in
    let mid = g.D.Disk.state c.first_open_slot.new.disk in
    let new = g.D.Disk.state c.restore_free.new.disk in
    let reads = c.first_open_slot.ensures.time in
    let same = c.first_open_slot.ensures.same in
    c.restore_free.ensures.steady (steady_still Unchanged old mid reads steady) e
