-- Why a log wasn't opened, as it was told, by the status.
use Rattle.std.proofs.Common.{◌≡◌, ℕ, ◌⊎◌, List, subst, inl, inr, arith}
use Rattle.std.specs.Prelude.{Option}
use Rattle.std.specs.Io.KnownBytes.{Appends}
use Rattle.clfs_disk.specs.State.{DiskState}
use Rattle.clfs_recover.specs.Telling.{TellsOpening}
use Rattle.clfs_recover.specs.declared.refusal.LoadRefusal.{LoadRefusal}
use Rattle.clfs_operations.specs.Opened.{RefusesLog, TellsRefusal, refusal_line}
use Rattle.clfs_operations.specs.Unopened.{EndsUnopened}
use Rattle.clfs_operations.proofs.ServingEnds.{refused_statuses, fault_by, no_log_by, no_log_line, refusal_text}

in_order : (status : ℕ) → (status ≡ 4) ⊎ ((status ≡ 6) ⊎ ((status ≡ 3) ⊎ (status ≡ 5))) → (status ≡ 3) ⊎ ((status ≡ 4) ⊎ ((status ≡ 5) ⊎ (status ≡ 6)))
in_order status (inl e) = inr (inl e)
in_order status (inr (inl e)) = inr (inr (inr e))
in_order status (inr (inr (inl e))) = inl e
in_order status (inr (inr (inr e))) = inr (inr (inl e))

pub told_ends : (status : ℕ) (refusal : LoadRefusal) (old new : DiskState) (written written' : Option (List ℕ)) (sink sink' : ℕ)
    → RefusesLog refusal old new → TellsOpening refusal → TellsRefusal status refusal written written' sink sink' → EndsUnopened status old new written written' sink sink'
told_ends status refusal old new written written' sink sink' refuses place tells = record {
  statuses = in_order status (refused_statuses status refusal tells.statuses);
  sink_fault = tells.sink_fault;
  sink_fault_front = λ e. let front = tells.sink_fault_front e in (refusal_line refusal, refusal_text refusal old new refuses front.0, front.1);
  disk_fault = λ e.
      let line = tells.line (λ f. omega (arith, e, f)) (λ f. omega (arith, e, f)) in
      let is = fault_by status refusal tells.statuses e in
      (subst (λ (r : LoadRefusal). RefusesLog r old new) is refuses, subst (λ (r : LoadRefusal). Appends written written' (refusal_line r)) is line);
  no_memory = λ e. record { same = refuses.same; time = refuses.time };
  no_memory_silence = tells.no_memory_silence;
  no_log = λ e.
      let is = no_log_by status refusal tells.statuses e in
      let line = tells.line (λ f. omega (arith, e, f)) (λ f. omega (arith, e, f)) in
      (refusal_line refusal, record { no_log = record { refusal = refusal; no_log = is; refuses = refuses; line = no_log_line refusal is }; place = place }, line);
  sink_count = tells.sink_count;
}
