-- How it is told why there is no archive.
use Rattle.std.proofs.Common.{◌≡◌, ◌≢◌, ℕ, ◌≤◌, ◌⊎◌, List, refl, sym, ap, subst, ◌∙◌, inl, inr, arith}
use Rattle.std.specs.Prelude.{Option}
use Rattle.std.specs.Io.KnownBytes.{Appends}
use Rattle.std.proofs.KnownBytes.{Appends-nil}
use Rattle.clfs_ports.specs.Cause as ports
use Rattle.clfs_model.specs.declared.refusal.Refusal.{Refusal}
use Rattle.clfs_model.specs.declared.refusal.Refusal.TheVariants as log_refusals
use Rattle.clfs_recover.specs.declared.refusal.LoadRefusal.TheVariants as loading
use Rattle.clfs_restore.specs.declared.refusal.ArchiveRefusal.{ArchiveRefusal}
use Rattle.clfs_restore.specs.declared.refusal.ArchiveRefusal.TheVariants as refusals
use Rattle.clfs_lines.specs.Ends.{AppendsFront}
use Rattle.clfs_operations.specs.Archiving.{TellsUnarchived, unarchived_line, unarchived_status}
use Rattle.clfs_operations.specs.Ends.{disk_fault_text}
use Rattle.clfs_operations.specs.Opened.{TellsRefusal}

-- the line was written, unless the sink failed
pub told_archive_line : (result status : ℕ) (cause : ArchiveRefusal) (text : List ℕ) (written written' : Option (List ℕ)) (sink sink' : ℕ)
    → text ≡ unarchived_line cause → status ≡ unarchived_status cause → (status ≢ 3) × (status ≢ 5) → (result ≡ status) ⊎ (result ≡ 3)
    → (result ≡ status → Appends written written' text) → (result ≡ 3 → AppendsFront written written' text) → (result ≡ 3 → ports.Rises sink sink') → sink ≤ sink'
    → TellsUnarchived result cause written written' sink sink'
told_archive_line result status cause text written written' sink sink' line is other ends whole front rose later = record {
  statuses = statuses ends;
  line = λ no_fault no_memory. subst (Appends written written') line (whole (done ends no_fault));
  sink_fault = rose;
  sink_fault_front = λ e. (λ memory. other.1 (is ∙ ap unarchived_status memory), subst (AppendsFront written written') line (front e));
  no_memory_silence = λ e. absurd (never_memory ends e);
  sink_count = later;
}
  where
    statuses : (result ≡ status) ⊎ (result ≡ 3) → (result ≡ unarchived_status cause) ⊎ ((result ≡ 3) ⊎ (result ≡ 5))
    statuses (inl e) = inl (e ∙ is)
    statuses (inr e) = inr (inl e)

    done : (result ≡ status) ⊎ (result ≡ 3) → result ≢ 3 → result ≡ status
    done (inl e) no_fault = e
    done (inr e) no_fault = absurd (no_fault e)

    never_memory : (result ≡ status) ⊎ (result ≡ 3) → result ≡ 5 → ⊥
    never_memory (inl e) f = other.1 (sym e ∙ f)
    never_memory (inr e) f = omega (arith, e, f)

-- memory ran out
pub told_archive_nothing : (written : Option (List ℕ)) (sink : ℕ) → TellsUnarchived 5 refusals.NoMemory written written sink sink
told_archive_nothing written sink = record {
  statuses = inl refl;
  line = λ no_fault no_memory. absurd (no_memory refl);
  sink_fault = λ e. absurd (omega (arith, e));
  sink_fault_front = λ e. absurd (omega (arith, e));
  no_memory_silence = λ e. Appends-nil written;
  sink_count = omega arith;
}

-- damage is told as by opening
pub told_archive_damage : (status container offset at : ℕ) (written written' : Option (List ℕ)) (sink sink' : ℕ)
    → TellsRefusal status (loading.Damaged container offset at) written written' sink sink'
    → TellsUnarchived status (refusals.Log (log_refusals.Damaged container offset at)) written written' sink sink'
told_archive_damage status container offset at written written' sink sink' told = record {
  statuses = told.statuses;
  line = told.line;
  sink_fault = told.sink_fault;
  sink_fault_front = λ e. (λ f. cc f, (told.sink_fault_front e).1);
  no_memory_silence = told.no_memory_silence;
  sink_count = told.sink_count;
}

-- another refusal of the log is told as a fault of the disk
pub other_line : (refusal : Refusal) → (refusal ≡ log_refusals.Ephemeral → ⊥) → ((container offset at : ℕ) → refusal ≡ log_refusals.Damaged container offset at → ⊥)
    → (unarchived_line (refusals.Log refusal) ≡ disk_fault_text) × (unarchived_status (refusals.Log refusal) ≡ 4)
other_line log_refusals.Ephemeral on right = absurd (on refl)
other_line (log_refusals.Damaged container offset at) on right = absurd (right container offset at refl)
other_line _ on right = (refl, refl)
