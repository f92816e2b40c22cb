-- How it is told why a log wasn't opened.
use Rattle.std.proofs.Common.{◌≡◌, ◌≢◌, ℕ, ◌≤◌, ◌⊎◌, List, sym, subst, ◌∙◌, inl, inr, refl, arith}
use Rattle.std.specs.Prelude.{Option}
use Rattle.std.specs.Io.KnownBytes.{Appends}
use Rattle.std.proofs.KnownBytes.{Appends-nil}
use Rattle.clfs_ports.specs.Cause.{Rises}
use Rattle.clfs_recover.specs.declared.refusal.LoadRefusal.{LoadRefusal}
use Rattle.clfs_recover.specs.declared.refusal.LoadRefusal.TheVariants.{NoMemory}
use Rattle.clfs_lines.specs.Ends.{AppendsFront}
use Rattle.clfs_operations.specs.Opened.{TellsRefusal, refusal_line, refusal_status}

-- its line was written, unless the sink failed
pub told_line : (result status : ℕ) (refusal : LoadRefusal) (text : List ℕ) (written written' : Option (List ℕ)) (sink sink' : ℕ) → text ≡ refusal_line refusal
    → refusal_status refusal ≡ status → refusal ≢ NoMemory
    → (status ≡ 5 → ⊥) → (result ≡ status) ⊎ (result ≡ 3) → (result ≡ status → Appends written written' text)
    → (result ≡ 3 → AppendsFront written written' text) → (result ≡ 3 → Rises sink sink') → sink ≤ sink'
    → TellsRefusal result refusal written written' sink sink'
told_line result status refusal text written written' sink sink' line is other not_memory ends whole front cause later = record {
  statuses = statuses ends;
  line = λ no_fault no_memory. subst (Appends written written') line (whole (done ends no_fault));
  sink_fault = cause;
  sink_fault_front = λ e. (other, subst (AppendsFront written written') line (front e));
  no_memory_silence = λ e. absurd (never ends e);
  sink_count = later;
}
  where
    statuses : (result ≡ status) ⊎ (result ≡ 3) → (result ≡ refusal_status refusal) ⊎ ((result ≡ 3) ⊎ (result ≡ 5))
    statuses (inl e) = inl (e ∙ sym is)
    statuses (inr e) = inr (inl e)

    done : (result ≡ status) ⊎ (result ≡ 3) → result ≢ 3 → result ≡ status
    done (inl e) no_fault = e
    done (inr e) no_fault = absurd (no_fault e)

    never : (result ≡ status) ⊎ (result ≡ 3) → result ≡ 5 → ⊥
    never (inl e) f = not_memory (sym e ∙ f)
    never (inr e) f = omega (arith, e, f)

-- memory ran out
pub told_nothing : (refusal : LoadRefusal) (written : Option (List ℕ)) (sink : ℕ) → TellsRefusal 5 refusal written written sink sink
told_nothing refusal written sink = record {
  statuses = inr (inr refl);
  line = λ no_fault no_memory. absurd (no_memory refl);
  sink_fault = λ e. absurd (omega (arith, e));
  sink_fault_front = λ e. absurd (omega (arith, e));
  no_memory_silence = λ e. Appends-nil written;
  sink_count = omega arith;
}
