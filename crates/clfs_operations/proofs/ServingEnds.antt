-- How serving ends: by answering the lines of a log that was opened, or by why it wasn't.
use Rattle.std.proofs.Common.{◌≡◌, ◌≢◌, ℕ, ◌⊎◌, Bool, true, false, List, refl, subst, inl, inr, arith}
use Rattle.std.specs.Prelude.{Option}
use Rattle.clfs_disk.specs.State.{DiskState}
use Rattle.clfs_recover.specs.Telling.{TellsOpening}
use Rattle.clfs_recover.specs.declared.refusal.LoadRefusal.{LoadRefusal}
use Rattle.clfs_recover.specs.declared.refusal.LoadRefusal.TheVariants.{NoBase, Damaged, DiskFault, NoMemory}
use Rattle.clfs_model.specs.Accepted.{Limits}
use Rattle.clfs_operations.specs.Answered.{IsAnswered, IsAnsweredInPart}
use Rattle.clfs_operations.specs.Opened.{IsNoLog, no_log_text, RefusesLog, IsRefusalText, TellsRefusal, refusal_line, refusal_status}
use Rattle.clfs_lines.specs.Answering.{Answers, EndsAnswering, IsAnswerStatus, IsWholeAnswer, IsAnswerUpToFault, IsAnswerUpToLimit, IsFrontUpToLimit, StopsShort, StopsAtFault}
use Rattle.clfs_lines.specs.declared.incomplete.IncompleteLine.{IncompleteLine}
use Rattle.clfs_operations.specs.Serve.{EndsServing, IsServeStatus}

-- ---- other words for the same answers

module _ (limits : Limits) (Is Other : Answers) (also : (lines : List (List ℕ)) (text : List ℕ) → Is lines text → Other lines text) where
  pub whole_as : (incomplete : IncompleteLine) (left left' : Option (List ℕ)) (text : List ℕ) → IsWholeAnswer limits incomplete Is left left' text → IsWholeAnswer limits incomplete Other left left' text
  whole_as incomplete left left' text is = record { script = is.script; read = is.read; answered = also _ text is.answered }

  pub fault_as : (left left' : Option (List ℕ)) (text : List ℕ) → IsAnswerUpToFault limits Is left left' text → IsAnswerUpToFault limits Other left left' text
  fault_as left left' text is = record { bytes = is.bytes; given = is.given; answered = also _ text is.answered }

  pub limit_as : (left left' : Option (List ℕ)) (text : List ℕ) → IsAnswerUpToLimit limits Is left left' text → IsAnswerUpToLimit limits Other left left' text
  limit_as left left' text is = record {
    bytes = is.bytes;
    given = is.given;
    answered = record { output = is.answered.output; answered = also _ is.answered.output is.answered.answered; line = is.answered.line };
  }

  pub at_limit_as : (left left' : Option (List ℕ)) (text : List ℕ) → IsFrontUpToLimit limits Is left left' text → IsFrontUpToLimit limits Other left left' text
  at_limit_as left left' text is =
      record { bytes = is.bytes; given = is.given; output = is.output; answered = also _ is.output is.answered; count = is.count; front = is.front }

pub stops_as : (limits : Limits) (incomplete : IncompleteLine) (InPart Other : Answers) → ((lines : List (List ℕ)) (text : List ℕ) → InPart lines text → Other lines text) → (left left' written written' : Option (List ℕ))
    → StopsShort limits incomplete InPart left left' written written' → StopsShort limits incomplete Other left left' written written'
stops_as limits incomplete InPart Other also left left' written written' is = (is.0, (is.1.0, (is.1.1.0, also is.0 is.1.1.0 is.1.1.1, is.1.1.2)))

-- the statuses of answering are not those of a log that wasn't opened
not_refused : (status : ℕ) → IsAnswerStatus status → (status ≡ 4) ⊎ (status ≡ 6) → ⊥
not_refused status (inl e) (inl f) = omega (arith, e, f)
not_refused status (inl e) (inr f) = omega (arith, e, f)
not_refused status (inr (inl e)) (inl f) = omega (arith, e, f)
not_refused status (inr (inl e)) (inr f) = omega (arith, e, f)
not_refused status (inr (inr (inl e))) (inl f) = omega (arith, e, f)
not_refused status (inr (inr (inl e))) (inr f) = omega (arith, e, f)
not_refused status (inr (inr (inr (inl e)))) (inl f) = omega (arith, e, f)
not_refused status (inr (inr (inr (inl e)))) (inr f) = omega (arith, e, f)
not_refused status (inr (inr (inr (inr e)))) (inl f) = omega (arith, e, f)
not_refused status (inr (inr (inr (inr e)))) (inr f) = omega (arith, e, f)

-- the lines of a log that was opened are answered
pub answering_serves : (limits : Limits) (incomplete : IncompleteLine) (Is : Answers) (InPart : Bool → Answers) (status buffers : ℕ) (old new : DiskState) (left left' written written' : Option (List ℕ)) (source source' sink sink' : ℕ)
    → ((lines : List (List ℕ)) (text : List ℕ) → Is lines text → IsAnswered buffers old new lines text)
    → ((torn : Bool) (lines : List (List ℕ)) (text : List ℕ) → InPart torn lines text → IsAnsweredInPart buffers old new torn lines text)
    → EndsAnswering limits incomplete Is InPart status left left' written written' source source' sink sink'
    → EndsServing limits incomplete status buffers old new left left' written written' source source' sink sink'
answering_serves limits incomplete Is InPart status buffers old new left left' written written' source source' sink sink' also also_part ends = record {
  statuses = inl ends.statuses;
  done = λ e. let found = ends.done e in (found.0, whole_as limits Is Other also incomplete left left' found.0 found.1, found.2);
  source_fault = ends.source_fault;
  source_fault_answers = λ e. let found = ends.source_fault_answers e in (found.0, fault_as limits Is Other also left left' found.0 found.1, found.2);
  sink_fault = ends.sink_fault;
  sink_fault_front = λ e. inl (at_fault (ends.sink_fault_front e));
  disk_fault = λ e. absurd (not_refused status ends.statuses (inl e));
  disk_fault_line = λ e. absurd (not_refused status ends.statuses (inl e));
  no_memory = λ e. inr (stops_as limits incomplete (InPart false) (OtherPart false) (also_part false) left left' written written' (ends.no_memory e));
  no_log = λ e. absurd (not_refused status ends.statuses (inr e));
  too_long = λ e. let found = ends.too_long e in (found.0, limit_as limits Is Other also left left' found.0 found.1, found.2);
  unread = λ e. absurd (not_refused status ends.statuses e);
  source_count = ends.source_count;
  sink_count = ends.sink_count;
}
  where
    Other : Answers
    Other = IsAnswered buffers old new

    OtherPart : Bool → Answers
    OtherPart = IsAnsweredInPart buffers old new

    at_fault : StopsAtFault limits incomplete Is InPart left left' written written' → StopsAtFault limits incomplete Other OtherPart left left' written written'
    at_fault (inl stops) = inl (stops_as limits incomplete (InPart true) (OtherPart true) (also_part true) left left' written written' stops)
    at_fault (inr cut) = inr (cut.0, at_limit_as limits Is Other also left left' cut.0 cut.1, cut.2)

-- ---- a log that wasn't opened

-- the statuses then
pub refused_statuses : (status : ℕ) (refusal : LoadRefusal) → (status ≡ refusal_status refusal) ⊎ ((status ≡ 3) ⊎ (status ≡ 5))
    → (status ≡ 4) ⊎ ((status ≡ 6) ⊎ ((status ≡ 3) ⊎ (status ≡ 5)))
refused_statuses status refusal (inr others) = inr (inr others)
refused_statuses status DiskFault (inl e) = inl e
refused_statuses status NoMemory (inl e) = inr (inr (inr e))
refused_statuses status NoBase (inl e) = inr (inl e)
refused_statuses status (Damaged container offset at) (inl e) = inr (inl e)

pub serve_status : (status : ℕ) → (status ≡ 4) ⊎ ((status ≡ 6) ⊎ ((status ≡ 3) ⊎ (status ≡ 5))) → IsServeStatus status
serve_status status (inl e) = inr (inl e)
serve_status status (inr (inl e)) = inr (inr e)
serve_status status (inr (inr (inl e))) = inl (inr (inr (inl e)))
serve_status status (inr (inr (inr e))) = inl (inr (inr (inr (inl e))))

-- no status of answering but for a sink fault and out of memory
pub not_answered : (status k : ℕ) → (status ≡ 4) ⊎ ((status ≡ 6) ⊎ ((status ≡ 3) ⊎ (status ≡ 5))) → status ≡ k → (k ≡ 0) ⊎ ((k ≡ 2) ⊎ (k ≡ 7)) → ⊥
not_answered status k statuses is others = by_status statuses
  where
    never : (n : ℕ) → status ≡ n → ((n ≡ 4) ⊎ ((n ≡ 6) ⊎ ((n ≡ 3) ⊎ (n ≡ 5)))) → (k ≡ 0) ⊎ ((k ≡ 2) ⊎ (k ≡ 7)) → ⊥
    never n e f (inl g) = by_number f
      where
        by_number : ((n ≡ 4) ⊎ ((n ≡ 6) ⊎ ((n ≡ 3) ⊎ (n ≡ 5)))) → ⊥
        by_number (inl h) = omega (arith, e, is, g, h)
        by_number (inr (inl h)) = omega (arith, e, is, g, h)
        by_number (inr (inr (inl h))) = omega (arith, e, is, g, h)
        by_number (inr (inr (inr h))) = omega (arith, e, is, g, h)
    never n e f (inr (inl g)) = by_number f
      where
        by_number : ((n ≡ 4) ⊎ ((n ≡ 6) ⊎ ((n ≡ 3) ⊎ (n ≡ 5)))) → ⊥
        by_number (inl h) = omega (arith, e, is, g, h)
        by_number (inr (inl h)) = omega (arith, e, is, g, h)
        by_number (inr (inr (inl h))) = omega (arith, e, is, g, h)
        by_number (inr (inr (inr h))) = omega (arith, e, is, g, h)
    never n e f (inr (inr g)) = by_number f
      where
        by_number : ((n ≡ 4) ⊎ ((n ≡ 6) ⊎ ((n ≡ 3) ⊎ (n ≡ 5)))) → ⊥
        by_number (inl h) = omega (arith, e, is, g, h)
        by_number (inr (inl h)) = omega (arith, e, is, g, h)
        by_number (inr (inr (inl h))) = omega (arith, e, is, g, h)
        by_number (inr (inr (inr h))) = omega (arith, e, is, g, h)

    by_status : (status ≡ 4) ⊎ ((status ≡ 6) ⊎ ((status ≡ 3) ⊎ (status ≡ 5))) → ⊥
    by_status found = never status refl found others

-- the cause by the status
pub fault_by : (status : ℕ) (refusal : LoadRefusal) → (status ≡ refusal_status refusal) ⊎ ((status ≡ 3) ⊎ (status ≡ 5)) → status ≡ 4 → refusal ≡ DiskFault
fault_by status refusal (inr (inl e)) f = absurd (omega (arith, e, f))
fault_by status refusal (inr (inr e)) f = absurd (omega (arith, e, f))
fault_by status DiskFault (inl e) f = refl
fault_by status NoMemory (inl e) f = absurd (omega (arith, e, f))
fault_by status NoBase (inl e) f = absurd (omega (arith, e, f))
fault_by status (Damaged container offset at) (inl e) f = absurd (omega (arith, e, f))

pub no_log_by : (status : ℕ) (refusal : LoadRefusal) → (status ≡ refusal_status refusal) ⊎ ((status ≡ 3) ⊎ (status ≡ 5)) → status ≡ 6 → IsNoLog refusal
no_log_by status refusal (inr (inl e)) f = absurd (omega (arith, e, f))
no_log_by status refusal (inr (inr e)) f = absurd (omega (arith, e, f))
no_log_by status DiskFault (inl e) f = absurd (omega (arith, e, f))
no_log_by status NoMemory (inl e) f = absurd (omega (arith, e, f))
no_log_by status NoBase (inl e) f = tt
no_log_by status (Damaged container offset at) (inl e) f = tt

pub no_log_line : (refusal : LoadRefusal) → IsNoLog refusal → refusal_line refusal ≡ no_log_text refusal
no_log_line NoBase is = refl
no_log_line (Damaged container offset at) is = refl
no_log_line DiskFault is = absurd is
no_log_line NoMemory is = absurd is

-- the line for a refusal is one of those that say why
pub refusal_text : (refusal : LoadRefusal) (old new : DiskState) → RefusesLog refusal old new → refusal ≢ NoMemory → IsRefusalText old new (refusal_line refusal)
refusal_text NoBase old new refuses other = inl (record { refusal = NoBase; no_log = tt; refuses = refuses; line = refl })
refusal_text (Damaged container offset at) old new refuses other = inl (record { refusal = Damaged container offset at; no_log = tt; refuses = refuses; line = refl })
refusal_text DiskFault old new refuses other = inr (refuses, refl)
refusal_text NoMemory old new refuses other = absurd (other refl)

pub refusal_serves : (limits : Limits) (incomplete : IncompleteLine) (status buffers : ℕ) (refusal : LoadRefusal) (old new : DiskState) (left written written' : Option (List ℕ)) (source sink sink' : ℕ)
    → RefusesLog refusal old new → TellsOpening refusal → TellsRefusal status refusal written written' sink sink'
    → EndsServing limits incomplete status buffers old new left left written written' source source sink sink'
refusal_serves limits incomplete status buffers refusal old new left written written' source sink sink' refuses place tells =
    let statuses = refused_statuses status refusal tells.statuses in record {
      statuses = serve_status status statuses;
      done = λ e. absurd (not_answered status 0 statuses e (inl refl));
      source_fault = λ e. absurd (not_answered status 2 statuses e (inr (inl refl)));
      source_fault_answers = λ e. absurd (not_answered status 2 statuses e (inr (inl refl)));
      sink_fault = tells.sink_fault;
      sink_fault_front = λ e. let front = tells.sink_fault_front e in inr (refusal_line refusal, refusal_text refusal old new refuses front.0, front.1);
      disk_fault = λ e. subst (λ (r : LoadRefusal). RefusesLog r old new) (fault_by status refusal tells.statuses e) refuses;
      disk_fault_line = λ e. let line = tells.line (λ f. omega (arith, e, f)) (λ f. omega (arith, e, f)) in rw (fault_by status refusal tells.statuses e) at line;
      no_memory = λ e. inl (record { same = refuses.same; time = refuses.time; unread = refl; silence = tells.no_memory_silence e });
      no_log = λ e.
          let is = no_log_by status refusal tells.statuses e in
          let line = tells.line (λ f. omega (arith, e, f)) (λ f. omega (arith, e, f)) in
          (refusal_line refusal, record { no_log = record { refusal = refusal; no_log = is; refuses = refuses; line = no_log_line refusal is }; place = place }, line);
      too_long = λ e. absurd (not_answered status 7 statuses e (inr (inr refl)));
      unread = λ e. (refl, refl);
      source_count = omega arith;
      sink_count = tells.sink_count;
    }
