-- What restoring comes to after reads of the disk.
use Rattle.clfs_restore.proofs.Words.{inl, inr, ⊎_elim, ◌≡◌, ℕ, ◌≤◌, List, length, Option, None, sym, ap, subst, ◌∙◌, Unchanged, DiskState, IsSettled}
use Rattle.clfs_restore.proofs.Words.{IsSteady, Leaves, Passes, Rises, open_slot_of, RestoreRefusal, StandForRestored, GrowsBase, base_bytes, IsFreeCause}
use Rattle.clfs_restore.proofs.Words.{IsRestoreCause}
use Rattle.clfs_restore.specs.declared.refusal.RestoreRefusal.TheVariants as refusals
use Rattle.clfs_restore.specs.Outcomes.{NoneOrRestored, RestoresLog, RefusesRestoring, ReadsComeFirst}
use Rattle.clfs_restore.specs.Restoring.{RestoresAtOnce}
use Rattle.clfs_restore.proofs.Made.{none_open, told_cause}
use Rattle.clfs_restore.proofs.Moments.{no_copy_same, still_settled, passes_then, reads_grow, reads_leave, once_after_reads, grows_after_reads}
use Rattle.clfs_restore.proofs.Moments.{leaves_after_reads, later_from, later_then, tells_still, honest_still, steady_still, rises_still}

module _ (bytes : List ℕ) (up_to : Option ℕ) (old mid new : DiskState) (same : Unchanged old.files mid.files) (reads : Passes Unchanged old mid) where
  -- no slot was open then either
  still_none : open_slot_of (old.files 0) ≡ None → open_slot_of (mid.files 0) ≡ None
  still_none none = ap open_slot_of (same 0) ∙ none

  was_none : open_slot_of (mid.files 0) ≡ None → open_slot_of (old.files 0) ≡ None
  was_none none = ap open_slot_of (sym (same 0)) ∙ none

  leaves_all : (IsSettled mid → open_slot_of (mid.files 0) ≡ None → base_bytes ≤ length (mid.files 0) → Leaves (NoneOrRestored bytes up_to) mid new)
      → IsSettled old → open_slot_of (old.files 0) ≡ None → base_bytes ≤ length (old.files 0) → Leaves (NoneOrRestored bytes up_to) old new
  leaves_all leaves settled none long =
      leaves_after_reads (NoneOrRestored bytes up_to) old mid new settled (λ image is. inl (no_copy_same old.files image (is 0) (none_open old.files none))) reads
      (leaves (still_settled old mid settled (honest_still Unchanged old mid reads settled.honest) reads same) (still_none none)
      (subst (λ (l : List ℕ). base_bytes ≤ length l) (sym (same 0)) long))

  pub restores_after : RestoresLog bytes up_to mid new → RestoresLog bytes up_to old new
  restores_after log = record {
    chosen = log.chosen;
    free = λ told. was_none (log.free (tells_still Unchanged old mid reads told));
    restored = λ told. log.restored (tells_still Unchanged old mid reads told);
    whole = λ told. log.whole (tells_still Unchanged old mid reads told);
    settled = λ honest. log.settled (honest_still Unchanged old mid reads honest);
    moments = λ honest. once_after_reads (StandForRestored bytes up_to) old mid new reads log.time (log.moments (honest_still Unchanged old mid reads honest));
    all_moments = leaves_all log.all_moments;
    time = later_then old mid new (later_from Unchanged old mid reads) log.time;
  }

  -- the files were as they were, and nothing was done
  unchanged_all : Unchanged mid.files new.files × Passes Unchanged mid new → Unchanged old.files new.files × Passes Unchanged old new
  unchanged_all still = (
    λ file. still.0 file ∙ same file,
    passes_then Unchanged Unchanged Unchanged old mid new (λ x y z first next file. next file ∙ first file) (λ x y r. r) (λ x y r. r) reads still.1,
  )

  why_before : (cause : RestoreRefusal) → IsRestoreCause mid bytes up_to cause → IsRestoreCause old bytes up_to cause
  why_before (refusals.Exists slot) why = λ told. ap open_slot_of (sym (same 0)) ∙ why (tells_still Unchanged old mid reads told)
  why_before (refusals.NotAnArchive at) why = why
  why_before (refusals.Gap container) why = why
  why_before (refusals.UpToInvalid low high) why = why
  why_before refusals.DiskFault why = why
  why_before refusals.NoMemory why = why

  pub refuses_after : (cause : RestoreRefusal) → RefusesRestoring cause bytes up_to mid new → RefusesRestoring cause bytes up_to old new
  refuses_after cause refuses = record {
    why = why_before cause refuses.why;
    first = λ told slot is. ⊎_elim (λ (exists : cause ≡ refusals.Exists slot). inl exists)
        (λ (rose : Rises mid.faults new.faults). inr (rises_still Unchanged old mid new reads rose))
        (refuses.first (tells_still Unchanged old mid reads told) slot (ap open_slot_of (same 0) ∙ is));
    same = λ making. unchanged_all (refuses.same making);
    kept = λ told slot is. unchanged_all (refuses.kept (tells_still Unchanged old mid reads told) slot (ap open_slot_of (same 0) ∙ is));
    moments = λ honest none. ⊎_elim (λ (grows : GrowsBase mid new). inl (grows_after_reads old mid new reads grows))
        (λ (once : RestoresAtOnce bytes up_to mid new). inr (once_after_reads (StandForRestored bytes up_to) old mid new reads refuses.time once))
        (refuses.moments (honest_still Unchanged old mid reads honest) (still_none none));
    all_moments = leaves_all refuses.all_moments;
    time = later_then old mid new (later_from Unchanged old mid reads) refuses.time;
    fault = λ is. rises_still Unchanged old mid new reads (refuses.fault is);
    steady = λ steady. refuses.steady (steady_still Unchanged old mid reads steady);
  }

-- the disk failed in the reads
fails_in_reads : (cause : RestoreRefusal) (bytes : List ℕ) (up_to : Option ℕ) (old new : DiskState) → Unchanged old.files new.files → Passes Unchanged old new
    → Rises old.faults new.faults → (IsSteady old → ⊥) → IsFreeCause bytes up_to cause → RefusesRestoring cause bytes up_to old new
fails_in_reads cause bytes up_to old new same reads rose never free = record {
  why = told_cause old bytes up_to cause free;
  first = λ told slot is. inr rose;
  same = λ making. (same, reads);
  kept = λ told slot is. (same, reads);
  moments = λ honest none. inl (reads_grow old new reads);
  all_moments = λ settled none long. reads_leave (StandForRestored bytes up_to) old new settled (none_open old.files none) reads;
  time = later_from Unchanged old new reads;
  fault = λ is. rose;
  steady = λ steady is. never steady;
}

pub reads_come_first : {D : Type 0} (state : D → DiskState) → ReadsComeFirst state
reads_come_first state = record {
  restores = λ bytes up_to old mid new. restores_after bytes up_to (state old) (state mid) (state new);
  refuses = λ cause bytes up_to old mid new same reads. refuses_after bytes up_to (state old) (state mid) (state new) same reads cause;
  fails = λ cause bytes up_to old new. fails_in_reads cause bytes up_to (state old) (state new);
}
