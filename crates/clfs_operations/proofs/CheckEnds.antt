-- How checking ends: by a report of the log, or by why there is none.
use Rattle.std.proofs.Common.{◌≡◌, ℕ, ◌⊎◌, List, refl, subst, inl, inr, arith}
use Rattle.std.specs.Prelude.{Option}
use Rattle.clfs_disk.specs.Files.{Unchanged}
use Rattle.clfs_disk.specs.State.{DiskState, Passes}
use Rattle.clfs_recover.specs.Telling.{TellsOpening}
use Rattle.clfs_recover.specs.declared.refusal.LoadRefusal.{LoadRefusal}
use Rattle.clfs_check.specs.declared.report.Report.{Report}
use Rattle.clfs_operations.specs.Check.{ReportsLog, IsReportText, TellsReport, EndsCheck, IsCheckStatus, report_text}
use Rattle.clfs_operations.specs.Complete.{IsDone, NothingFailsChecking}
use Rattle.clfs_operations.specs.Opened.{RefusesLog, TellsRefusal, refusal_line}
use Rattle.clfs_operations.proofs.ServingEnds.{refused_statuses, fault_by, no_log_by, no_log_line, refusal_text}
use Rattle.clfs_operations.proofs.Through.{AreOne, is_a_log}

-- the statuses of a report
report_statuses : (status : ℕ) → (status ≡ 0) ⊎ ((status ≡ 3) ⊎ (status ≡ 5)) → IsCheckStatus status
report_statuses status (inl e) = inl e
report_statuses status (inr (inl e)) = inr (inl e)
report_statuses status (inr (inr e)) = inr (inr (inr (inl e)))

not_refused : (status : ℕ) → (status ≡ 0) ⊎ ((status ≡ 3) ⊎ (status ≡ 5)) → (status ≡ 4) ⊎ (status ≡ 6) → ⊥
not_refused status (inl e) (inl f) = omega (arith, e, f)
not_refused status (inl e) (inr f) = omega (arith, e, f)
not_refused status (inr (inl e)) (inl f) = omega (arith, e, f)
not_refused status (inr (inl e)) (inr f) = omega (arith, e, f)
not_refused status (inr (inr e)) (inl f) = omega (arith, e, f)
not_refused status (inr (inr e)) (inr f) = omega (arith, e, f)

-- a log was found
pub report_checks : (status : ℕ) (report : Report) (old new : DiskState) (written written' : Option (List ℕ)) (sink sink' : ℕ)
    → ReportsLog old new report → Unchanged old.files new.files → Passes Unchanged old new → TellsReport status report written written' sink sink'
    → EndsCheck status old new written written' sink sink'
report_checks status report old new written written' sink sink' reports same time tells =
    let text : IsReportText old new (report_text report) = record { report = report; reports = reports; line = refl } in record {
      statuses = report_statuses status tells.statuses;
      done = λ e. (report_text report, text, tells.line e);
      sink_fault = tells.sink_fault;
      sink_fault_front = λ e. (report_text report, inl text, tells.sink_fault_front e);
      disk_fault = λ e. absurd (not_refused status tells.statuses (inl e));
      disk_fault_line = λ e. absurd (not_refused status tells.statuses (inl e));
      no_memory_silence = tells.no_memory_silence;
      no_log = λ e. absurd (not_refused status tells.statuses (inr e));
      same = same;
      time = time;
      sink_count = tells.sink_count;
    }

-- the statuses where there is none
check_status : (status : ℕ) → (status ≡ 4) ⊎ ((status ≡ 6) ⊎ ((status ≡ 3) ⊎ (status ≡ 5))) → IsCheckStatus status
check_status status (inl e) = inr (inr (inl e))
check_status status (inr (inl e)) = inr (inr (inr (inr e)))
check_status status (inr (inr (inl e))) = inr (inl e)
check_status status (inr (inr (inr e))) = inr (inr (inr (inl e)))

not_done : (status : ℕ) → (status ≡ 4) ⊎ ((status ≡ 6) ⊎ ((status ≡ 3) ⊎ (status ≡ 5))) → status ≡ 0 → ⊥
not_done status (inl e) f = omega (arith, e, f)
not_done status (inr (inl e)) f = omega (arith, e, f)
not_done status (inr (inr (inl e))) f = omega (arith, e, f)
not_done status (inr (inr (inr e))) f = omega (arith, e, f)

-- no log was found
pub refusal_checks : (status : ℕ) (refusal : LoadRefusal) (old new : DiskState) (written written' : Option (List ℕ)) (sink sink' : ℕ)
    → RefusesLog refusal old new → TellsOpening refusal → TellsRefusal status refusal written written' sink sink' → EndsCheck status old new written written' sink sink'
refusal_checks status refusal old new written written' sink sink' refuses place tells =
    let statuses = refused_statuses status refusal tells.statuses in record {
      statuses = check_status status statuses;
      done = λ e. absurd (not_done status statuses e);
      sink_fault = tells.sink_fault;
      sink_fault_front = λ e. let front = tells.sink_fault_front e in (refusal_line refusal, inr (refusal_text refusal old new refuses front.0), front.1);
      disk_fault = λ e. subst (λ (r : LoadRefusal). RefusesLog r old new) (fault_by status refusal tells.statuses e) refuses;
      disk_fault_line = λ e. let line = tells.line (λ f. omega (arith, e, f)) (λ f. omega (arith, e, f)) in rw (fault_by status refusal tells.statuses e) at line;
      no_memory_silence = tells.no_memory_silence;
      no_log = λ e.
          let is = no_log_by status refusal tells.statuses e in
          let line = tells.line (λ f. omega (arith, e, f)) (λ f. omega (arith, e, f)) in
          (refusal_line refusal, record { no_log = record { refusal = refusal; no_log = is; refuses = refuses; line = no_log_line refusal is }; place = place }, line);
      same = refuses.same;
      time = refuses.time;
      sink_count = tells.sink_count;
    }

-- where nothing outside fails checking is done
pub checking_is_done : AreOne → (status : ℕ) (old new : DiskState) (written written' : Option (List ℕ)) (sink sink' : ℕ)
    → EndsCheck status old new written written' sink sink' → NothingFailsChecking old new sink sink' → IsDone status
checking_is_done one status old new written written' sink sink' ends calm = by_status ends.statuses
  where
    by_disk : status ≡ 4 → IsDone status
    by_disk e = elim calm.disk [
      | inl still ↦ absurd (still ((ends.disk_fault e).cause refl))
      | inr steady ↦ absurd ((ends.disk_fault e).steady steady refl)
    ]

    by_status : IsCheckStatus status → IsDone status
    by_status (inl e) = inl e
    by_status (inr (inl e)) = absurd (calm.sink_calm (ends.sink_fault e))
    by_status (inr (inr (inl e))) = by_disk e
    by_status (inr (inr (inr (inl e)))) = inr e
    by_status (inr (inr (inr (inr e)))) = absurd (let found = ends.no_log e in is_a_log one found.1.no_log.refusal old new calm.log found.1.no_log.no_log found.1.no_log.refuses)
