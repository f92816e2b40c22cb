-- How it is told why no archives were read, or no log was restored.
use Rattle.std.proofs.Common.{◌≡◌, ◌≢◌, ℕ, ◌≤◌, ◌⊎◌, List, refl, sym, subst, ◌∙◌, inl, inr, arith}
use Rattle.std.specs.Prelude.{Option}
use Rattle.std.specs.Io.KnownBytes.{Appends}
use Rattle.std.proofs.KnownBytes.{Appends-nil}
use Rattle.clfs_ports.specs.Cause as ports
use Rattle.clfs_restore.specs.declared.refusal.RestoreRefusal.{RestoreRefusal}
use Rattle.clfs_restore.specs.declared.refusal.RestoreRefusal.TheVariants.{DiskFault}
use Rattle.clfs_lines.specs.Answering.{too_long_text}
use Rattle.clfs_lines.specs.Ends.{AppendsFront}
use Rattle.clfs_operations.specs.Restoring.{TellsRestoreRefusal, TellsUnread, restore_refusal_line, restore_refusal_status}
use Rattle.clfs_operations.specs.declared.restoring.Unread.TheVariants as unread

-- the line was written, unless the sink failed
pub told_restore_line : (result status : ℕ) (cause : RestoreRefusal) (text : List ℕ) (written written' : Option (List ℕ)) (sink sink' : ℕ)
    → text ≡ restore_refusal_line cause → status ≡ restore_refusal_status cause → (status ≢ 3) × (status ≢ 5) → (result ≡ status) ⊎ (result ≡ 3)
    → (result ≡ status → Appends written written' text) → (result ≡ 3 → AppendsFront written written' text) → (result ≡ 3 → ports.Rises sink sink') → sink ≤ sink'
    → TellsRestoreRefusal result cause written written' sink sink'
told_restore_line result status cause text written written' sink sink' line is other ends whole front rose later = record {
  statuses = statuses ends;
  line = λ no_fault no_memory. subst (Appends written written') line (whole (done ends no_fault));
  sink_fault = rose;
  sink_fault_front = λ e. subst (AppendsFront written written') line (front e);
  no_memory = λ e. absurd (never_memory ends e);
  no_memory_silence = λ e. absurd (never_memory ends e);
  sink_count = later;
}
  where
    statuses : (result ≡ status) ⊎ (result ≡ 3) → (result ≡ restore_refusal_status cause) ⊎ ((result ≡ 3) ⊎ (result ≡ 5))
    statuses (inl e) = inl (e ∙ is)
    statuses (inr e) = inr (inl e)

    done : (result ≡ status) ⊎ (result ≡ 3) → result ≢ 3 → result ≡ status
    done (inl e) no_fault = e
    done (inr e) no_fault = absurd (no_fault e)

    never_memory : (result ≡ status) ⊎ (result ≡ 3) → result ≡ 5 → ⊥
    never_memory (inl e) f = other.1 (sym e ∙ f)
    never_memory (inr e) f = omega (arith, e, f)

-- memory ran out, in restoring or for the line
pub told_restore_nothing : (cause : RestoreRefusal) (written : Option (List ℕ)) (sink : ℕ) → cause ≢ DiskFault → TellsRestoreRefusal 5 cause written written sink sink
told_restore_nothing cause written sink calm = record {
  statuses = inr (inr refl);
  line = λ no_fault no_memory. absurd (no_memory refl);
  sink_fault = λ e. absurd (omega (arith, e));
  sink_fault_front = λ e. absurd (omega (arith, e));
  no_memory = λ e. calm;
  no_memory_silence = λ e. Appends-nil written;
  sink_count = omega arith;
}

-- the line for too many bytes was written, unless the sink failed
pub told_too_long : (result : ℕ) (written written' : Option (List ℕ)) (sink sink' : ℕ) → (result ≡ 7) ⊎ (result ≡ 3) → (result ≡ 7 → Appends written written' too_long_text)
    → (result ≡ 3 → AppendsFront written written' too_long_text) → (result ≡ 3 → ports.Rises sink sink') → sink ≤ sink'
    → TellsUnread result unread.TooLong written written' sink sink'
told_too_long result written written' sink sink' ends whole front rose later = record {
  statuses = statuses ends;
  line = whole;
  silence = λ no_line no_fault. absurd (never ends no_line no_fault);
  sink_fault = rose;
  sink_fault_front = front;
  sink_count = later;
}
  where
    statuses : (result ≡ 7) ⊎ (result ≡ 3) → (result ≡ 7) ⊎ ((result ≡ 3) × (unread.TooLong ≡ unread.TooLong))
    statuses (inl e) = inl e
    statuses (inr e) = inr (e, refl)

    never : (result ≡ 7) ⊎ (result ≡ 3) → result ≢ 7 → result ≢ 3 → ⊥
    never (inl e) no_line no_fault = no_line e
    never (inr e) no_line no_fault = no_fault e

-- nothing was written
pub told_source_fault : (written : Option (List ℕ)) (sink : ℕ) → TellsUnread 2 unread.SourceFault written written sink sink
told_source_fault written sink = record {
  statuses = inl refl;
  line = λ e. absurd (omega (arith, e));
  silence = λ no_line no_fault. Appends-nil written;
  sink_fault = λ e. absurd (omega (arith, e));
  sink_fault_front = λ e. absurd (omega (arith, e));
  sink_count = omega arith;
}

pub told_no_memory : (written : Option (List ℕ)) (sink : ℕ) → TellsUnread 5 unread.NoMemory written written sink sink
told_no_memory written sink = record {
  statuses = inl refl;
  line = λ e. absurd (omega (arith, e));
  silence = λ no_line no_fault. Appends-nil written;
  sink_fault = λ e. absurd (omega (arith, e));
  sink_fault_front = λ e. absurd (omega (arith, e));
  sink_count = omega arith;
}
