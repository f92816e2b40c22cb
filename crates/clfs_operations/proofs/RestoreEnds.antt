-- How restoring ends once the source was read: by the log that was restored, or by why none was.
use Rattle.std.proofs.Common.{◌≡◌, ℕ, ◌≤◌, ◌⊎◌, true, false, List, [], ◌∷◌, refl, sym, ap, subst, ◌∙◌, inl, inr, arith}
use Rattle.std.specs.Prelude.{Option}
use Rattle.std.specs.Io.KnownBytes.{Appends}
use Rattle.std.proofs.KnownBytes.{Appends-nil}
use Rattle.clfs_ports.specs.Cause as ports
use Rattle.clfs_disk.specs.Files.{Unchanged}
use Rattle.clfs_disk.specs.State.{DiskState, TellsContents, Passes}
use Rattle.clfs_restore.specs.Restoring.{IsOfMaking}
use Rattle.clfs_restore.specs.declared.refusal.RestoreRefusal.{RestoreRefusal}
use Rattle.clfs_restore.specs.declared.refusal.RestoreRefusal.TheVariants.{Exists, NotAnArchive, Gap, UpToInvalid, DiskFault, NoMemory}
use Rattle.clfs_restore.specs.Outcomes.{RestoresLog, RefusesRestoring}
use Rattle.clfs_lines.specs.Ends.{AppendsFront}
use Rattle.clfs_operations.specs.Format.{MeetsLog}
use Rattle.clfs_operations.specs.Restoring.{EndsRestore, IsRestoreStatus, IsInput, IsRestored, IsUnrestored, StaysUnchanged, TellsRestoreRefusal, TellsWhy, restored_text, restore_refusal_line, restore_refusal_status}
use Rattle.clfs_operations.proofs.OnlyRead.{unchanged_later}
use Rattle.clfs_operations.proofs.Statuses.{one_of, not_in, own_status}

-- ---- the words weren't read

nothing_done : (disk : DiskState) → Passes Unchanged disk disk
nothing_done disk = record {
  later = omega arith;
  past = λ moment image le at. at;
  kept = λ moment image le at. at;
  images = λ moment image after until at. absurd (omega (arith, after, until));
  faults = omega arith;
  nature = refl;
}

-- memory ran out before
pub restore_ran_out : (up_to : Option ℕ) (disk : DiskState) (left written : Option (List ℕ)) (source sink : ℕ)
    → EndsRestore up_to 5 disk disk left left written written source source sink sink
restore_ran_out up_to disk left written source sink = record {
  statuses = inr (inr (inr (inr (inl refl))));
  kept = λ told slot is. (λ file. refl, nothing_done disk);
  done = λ e. absurd (omega (arith, e));
  source_fault = λ e. absurd (omega (arith, e));
  sink_fault = λ e. absurd (omega (arith, e));
  sink_fault_front = λ e. absurd (omega (arith, e));
  disk_fault = λ e. absurd (omega (arith, e));
  no_memory = λ e. inl (λ file. refl, nothing_done disk);
  no_memory_silence = λ e. Appends-nil written;
  too_long = λ e. absurd (omega (arith, e));
  there = λ e. absurd (omega (arith, e));
  there_unread = λ e. absurd (omega (arith, e));
  first = λ told slot is. inl (inr (inl refl));
  no_archive = λ e. absurd (omega (arith, e));
  gap = λ e. absurd (omega (arith, e));
  outside = λ e. absurd (omega (arith, e));
  time = unchanged_later disk disk (nothing_done disk);
  source_count = omega arith;
  sink_count = omega arith;
}

-- ---- a log was restored

pub restored_ends : (up_to : Option ℕ) (status : ℕ) (bytes : List ℕ) (old new : DiskState) (left left' written written' : Option (List ℕ)) (source source' sink sink' : ℕ)
    → IsInput left left' bytes → source ≤ source' → RestoresLog bytes up_to old new → (status ≡ 0) ⊎ (status ≡ 3) → (status ≡ 0 → Appends written written' restored_text)
    → (status ≡ 3 → AppendsFront written written' restored_text) → (status ≡ 3 → ports.Rises sink sink') → sink ≤ sink'
    → EndsRestore up_to status old new left left' written written' source source' sink sink'
restored_ends up_to status bytes old new left left' written written' source source' sink sink' input read log ends line front rose later = record {
  statuses = statuses ends;
  kept = λ told slot is. let free = log.free told in absurd (cc (sym free ∙ is));
  done = λ e. (restored, line e);
  source_fault = λ e. absurd (none 2 e refl);
  sink_fault = rose;
  sink_fault_front = λ e. (restored_text, inl (refl, restored), front e);
  disk_fault = λ e. absurd (none 4 e refl);
  no_memory = λ e. absurd (none 5 e refl);
  no_memory_silence = λ e. absurd (none 5 e refl);
  too_long = λ e. absurd (none 7 e refl);
  there = λ e. absurd (none 8 e refl);
  there_unread = λ e. absurd (none 8 e refl);
  first = λ told slot is. let free = log.free told in absurd (cc (sym free ∙ is));
  no_archive = λ e. absurd (none 12 e refl);
  gap = λ e. absurd (none 13 e refl);
  outside = λ e. absurd (none 14 e refl);
  time = log.time;
  source_count = read;
  sink_count = later;
}
  where
    restored : IsRestored up_to old new left left'
    restored = record { bytes = bytes; input = input; log = log }

    statuses : (status ≡ 0) ⊎ (status ≡ 3) → IsRestoreStatus status
    statuses (inl e) = inl e
    statuses (inr e) = inr (inr (inl e))

    among : (status ≡ 0) ⊎ (status ≡ 3) → one_of (0 ∷ 3 ∷ []) status ≡ true
    among (inl e) = ap (one_of (0 ∷ 3 ∷ [])) e
    among (inr e) = ap (one_of (0 ∷ 3 ∷ [])) e

    none : (k : ℕ) → status ≡ k → one_of (0 ∷ 3 ∷ []) k ≡ false → ⊥
    none k = not_in (0 ∷ 3 ∷ []) status k (among ends)

-- ---- none was restored

module _ (up_to : Option ℕ) (status : ℕ) (cause : RestoreRefusal) (bytes : List ℕ) (old new : DiskState) (left left' written written' : Option (List ℕ))
    (source source' sink sink' : ℕ) (input : IsInput left left' bytes) (read : source ≤ source') (refuses : RefusesRestoring cause bytes up_to old new)
    (free : (slot : ℕ) → cause ≡ Exists slot → TellsContents old → ⊥) (told : TellsRestoreRefusal status cause written written' sink sink') where
  unrestored : IsUnrestored cause up_to old new left left'
  unrestored = record { bytes = bytes; input = input; refuses = refuses }

  own : (k : ℕ) → status ≡ k → one_of (3 ∷ 5 ∷ []) k ≡ false → restore_refusal_status cause ≡ k
  own k = own_status status (restore_refusal_status cause) k told.statuses

  said : (k : ℕ) → status ≡ k → one_of (3 ∷ 5 ∷ []) k ≡ false → Appends written written' (restore_refusal_line cause)
  said k e out = told.line (λ f. not_in (3 ∷ 5 ∷ []) 3 k refl (sym f ∙ e) out) (λ f. not_in (3 ∷ 5 ∷ []) 5 k refl (sym f ∙ e) out)

  told_why : (k : ℕ) → status ≡ k → one_of (3 ∷ 5 ∷ []) k ≡ false → TellsWhy k up_to old new left left' written written'
  told_why k e out = record { cause = cause; by = own k e out; unrestored = unrestored; line = said k e out }

  statuses : (given : RestoreRefusal) → (status ≡ restore_refusal_status given) ⊎ ((status ≡ 3) ⊎ (status ≡ 5))
      → IsRestoreStatus status × (one_of (3 ∷ 4 ∷ 5 ∷ 8 ∷ 12 ∷ 13 ∷ 14 ∷ []) status ≡ true)
  statuses given (inr (inl e)) = (inr (inr (inl e)), ap (one_of (3 ∷ 4 ∷ 5 ∷ 8 ∷ 12 ∷ 13 ∷ 14 ∷ [])) e)
  statuses given (inr (inr e)) = (inr (inr (inr (inr (inl e)))), ap (one_of (3 ∷ 4 ∷ 5 ∷ 8 ∷ 12 ∷ 13 ∷ 14 ∷ [])) e)
  statuses (Exists slot) (inl e) = (inr (inr (inr (inr (inr (inr (inl e)))))), ap (one_of (3 ∷ 4 ∷ 5 ∷ 8 ∷ 12 ∷ 13 ∷ 14 ∷ [])) e)
  statuses (NotAnArchive at) (inl e) = (inr (inr (inr (inr (inr (inr (inr (inl e))))))), ap (one_of (3 ∷ 4 ∷ 5 ∷ 8 ∷ 12 ∷ 13 ∷ 14 ∷ [])) e)
  statuses (Gap container) (inl e) = (inr (inr (inr (inr (inr (inr (inr (inr (inl e)))))))), ap (one_of (3 ∷ 4 ∷ 5 ∷ 8 ∷ 12 ∷ 13 ∷ 14 ∷ [])) e)
  statuses (UpToInvalid low high) (inl e) = (inr (inr (inr (inr (inr (inr (inr (inr (inr e)))))))), ap (one_of (3 ∷ 4 ∷ 5 ∷ 8 ∷ 12 ∷ 13 ∷ 14 ∷ [])) e)
  statuses DiskFault (inl e) = (inr (inr (inr (inl e))), ap (one_of (3 ∷ 4 ∷ 5 ∷ 8 ∷ 12 ∷ 13 ∷ 14 ∷ [])) e)
  statuses NoMemory (inl e) = (inr (inr (inr (inr (inl e)))), ap (one_of (3 ∷ 4 ∷ 5 ∷ 8 ∷ 12 ∷ 13 ∷ 14 ∷ [])) e)

  none : (k : ℕ) → status ≡ k → one_of (3 ∷ 4 ∷ 5 ∷ 8 ∷ 12 ∷ 13 ∷ 14 ∷ []) k ≡ false → ⊥
  none k = not_in (3 ∷ 4 ∷ 5 ∷ 8 ∷ 12 ∷ 13 ∷ 14 ∷ []) status k (statuses cause told.statuses).1

  -- memory ran out in restoring, or for the line
  by_memory : (given : RestoreRefusal) → cause ≡ given → (cause ≡ DiskFault → ⊥) → StaysUnchanged old new ⊎ IsUnrestored NoMemory up_to old new left left'
  by_memory (Exists slot) e calm = inl (refuses.same (subst (λ (c : RestoreRefusal). IsOfMaking c → ⊥) (sym e) (λ making. making)))
  by_memory (NotAnArchive at) e calm = inl (refuses.same (subst (λ (c : RestoreRefusal). IsOfMaking c → ⊥) (sym e) (λ making. making)))
  by_memory (Gap container) e calm = inl (refuses.same (subst (λ (c : RestoreRefusal). IsOfMaking c → ⊥) (sym e) (λ making. making)))
  by_memory (UpToInvalid low high) e calm = inl (refuses.same (subst (λ (c : RestoreRefusal). IsOfMaking c → ⊥) (sym e) (λ making. making)))
  by_memory DiskFault e calm = absurd (calm e)
  by_memory NoMemory e calm = inr (subst (λ (c : RestoreRefusal). IsUnrestored c up_to old new left left') e unrestored)

  -- a log is there after all
  meets_by : (given : RestoreRefusal) → cause ≡ given → restore_refusal_status given ≡ 8 → (slot : ℕ) × (cause ≡ Exists slot)
  meets_by (Exists slot) e by = (slot, e)
  meets_by (NotAnArchive at) e by = absurd (omega (arith, by))
  meets_by (Gap container) e by = absurd (omega (arith, by))
  meets_by (UpToInvalid low high) e by = absurd (omega (arith, by))
  meets_by DiskFault e by = absurd (omega (arith, by))
  meets_by NoMemory e by = absurd (omega (arith, by))

  meets : (slot : ℕ) → cause ≡ Exists slot → MeetsLog old new
  meets slot e =
      let refused = subst (λ (c : RestoreRefusal). RefusesRestoring c bytes up_to old new) e refuses in
      let still = refused.same (λ making. making) in
      record { slot = slot; is_open = refused.why; same = still.0; time = still.1 }

  pub refusal_ends : EndsRestore up_to status old new left left' written written' source source' sink sink'
  refusal_ends = record {
    statuses = (statuses cause told.statuses).0;
    kept = refuses.kept;
    done = λ e. absurd (none 0 e refl);
    source_fault = λ e. absurd (none 2 e refl);
    sink_fault = told.sink_fault;
    sink_fault_front = λ e. (restore_refusal_line cause, inr (inr (inr (cause, refl, unrestored))), told.sink_fault_front e);
    disk_fault = λ e. told_why 4 e refl;
    no_memory = λ e. by_memory cause refl (told.no_memory e);
    no_memory_silence = told.no_memory_silence;
    too_long = λ e. absurd (none 7 e refl);
    there = λ e. let found = meets_by cause refl (own 8 e refl) in
        (meets found.0 found.1, subst (λ (c : RestoreRefusal). Appends written written' (restore_refusal_line c)) found.1 (said 8 e refl));
    there_unread = λ e tells. let found = meets_by cause refl (own 8 e refl) in absurd (free found.0 found.1 tells);
    first = λ tells slot is. elim (refuses.first tells slot is) [
      | inl exists ↦ absurd (free slot exists tells)
      | inr rose ↦ inr rose
    ];
    no_archive = λ e. told_why 12 e refl;
    gap = λ e. told_why 13 e refl;
    outside = λ e. told_why 14 e refl;
    time = refuses.time;
    source_count = read;
    sink_count = told.sink_count;
  }
