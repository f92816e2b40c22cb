-- How a race ends: with what its clients made of a log that was opened, or with why it wasn't.
use Rattle.std.proofs.Common.{◌≡◌, ℕ, ◌≤◌, ◌⊎◌, Bool, true, List, [], ◌++◌, refl, sym, ap, subst, ◌∙◌, inl, inr, arith}
use Rattle.std.specs.Prelude.{Option}
use Rattle.std.specs.List.{flat_map}
use Rattle.std.specs.Io.KnownBytes.{Consumes}
use Rattle.std.proofs.KnownBytes.{Appends-nil}
use Rattle.std.proofs.lemmas.List.{append-nil}
use Rattle.clfs_disk.specs.State.{DiskState}
use Rattle.clfs_model.specs.Accepted.{race_limits, accepted}
use Rattle.clfs_model.specs.declared.journal.Entry.{Entry}
use Rattle.clfs_model.specs.declared.state.State.{State}
use Rattle.clfs_recover.specs.Telling.{TellsOpening}
use Rattle.clfs_recover.specs.declared.refusal.LoadRefusal.{LoadRefusal}
use Rattle.clfs_race.specs.Divided.{IsDivided}
use Rattle.clfs_race.specs.Scripts.{race_requests, bad_line_text, journal_text}
use Rattle.clfs_race.specs.Taken.{HasEnded, TakesBytes, answered_lines}
use Rattle.clfs_race.specs.declared.dividing.Division.{Division}
use Rattle.clfs_race.specs.declared.input.ScriptEnd.{ScriptEnd}
use Rattle.clfs_race.specs.declared.input.ScriptEnd.TheVariants.{Whole, Fault, TooLong}
use Rattle.clfs_shared.specs.declared.opening.Opening.{Opening}
use Rattle.clfs_operations.specs.Opened.{RefusesLog, TellsRefusal, refusal_line}
use Rattle.clfs_operations.specs.Race.{EndsRacing, FailsWithin, LeavesFiles}
use Rattle.clfs_operations.specs.Raced.{HasTaken, IsRaced, IsRacedInPart}
use Rattle.clfs_operations.specs.Ran.{HasRun, TellsRace, end_text, end_status}
use Rattle.clfs_operations.specs.Serve.{IsServeStatus}
use Rattle.clfs_lines.specs.Taken.{AreFrontLines}
use Rattle.clfs_operations.proofs.Clients.{is_shuffle, is_shuffle_of_fronts}
use Rattle.clfs_operations.proofs.ServingEnds.{refused_statuses, serve_status, not_answered, fault_by, no_log_by, no_log_line, refusal_text}

-- ---- statuses

-- the statuses of a race whose replies were told
abbrev Statuses : ℕ → Bool → ℕ → Type 0
Statuses status whole n = ((whole ≡ true) × ((status ≡ n) ⊎ (status ≡ 3))) ⊎ (status ≡ 5)

never : (status n k : ℕ) (whole : Bool) → Statuses status whole n → status ≡ k → (k ≡ n → ⊥) → (k ≡ 3 → ⊥) → (k ≡ 5 → ⊥) → ⊥
never status n k whole (inl (all, inl e)) is a b c = a (sym is ∙ e)
never status n k whole (inl (all, inr e)) is a b c = b (sym is ∙ e)
never status n k whole (inr e) is a b c = c (sym is ∙ e)

was_whole : (status n k : ℕ) (whole : Bool) → Statuses status whole n → status ≡ k → (k ≡ 5 → ⊥) → whole ≡ true
was_whole status n k whole (inl (all, e)) is c = all
was_whole status n k whole (inr e) is c = absurd (c (sym is ∙ e))

race_status : (end : ScriptEnd) (status : ℕ) (whole : Bool) → Statuses status whole (end_status end) → IsServeStatus status
race_status end status whole (inr e) = inl (inr (inr (inr (inl e))))
race_status end status whole (inl (all, inr e)) = inl (inr (inr (inl e)))
race_status Whole status whole (inl (all, inl e)) = inl (inl e)
race_status Fault status whole (inl (all, inl e)) = inl (inr (inl e))
race_status TooLong status whole (inl (all, inl e)) = inl (inr (inr (inr (inr e))))

-- ---- a log that was opened

module _ (buffers : ℕ) (old new : DiskState) (left left' written written' : Option (List ℕ)) (source source' sink sink' : ℕ) (bytes : List ℕ) (division : Division)
    (o : Opening) (t : State) (journal : List Entry) (whole : Bool) (given : Consumes left left' bytes) (taken : HasTaken buffers old new journal)
    (run : HasRun o division.scripts.items new t journal whole) where
  -- the replies
  text : List ℕ
  text = flat_map bad_line_text division.bad.items ++ journal_text journal

  -- the lines that came whole
  came : AreFrontLines race_limits left left' (accepted race_limits bytes)
  came = record { bytes = bytes; given = given; front = record { rest = []; front = append-nil (accepted race_limits bytes) } }

  raced : (lines : List (List ℕ)) → IsDivided (race_requests lines) division → whole ≡ true
      → IsRaced buffers old new lines (flat_map bad_line_text division.bad.items ++ journal_text journal)
  raced lines divided all = record {
    journal = journal;
    taken = taken;
    shuffle = is_shuffle journal division.scripts.items (race_requests lines) divided.calls (run.all all) run.clients;
    is = ap (λ (places : List ℕ). flat_map bad_line_text places ++ journal_text journal) divided.bad;
  }

  raced_in_part : (lines : List (List ℕ)) → IsDivided (race_requests lines) division → IsRacedInPart buffers old new lines
  raced_in_part lines divided = record {
    journal = journal;
    taken = taken;
    fronts = is_shuffle_of_fronts journal division.scripts.items (race_requests lines) divided.calls run.fronts run.clients;
  }

  pub race_ends : (end : ScriptEnd) (status : ℕ) → HasEnded end bytes left' source source' → IsDivided (race_requests (answered_lines end bytes)) division
      → TellsRace status whole end (flat_map bad_line_text division.bad.items ++ journal_text journal) written written' sink sink' → source ≤ source'
      → EndsRacing status buffers old new left left' written written' source source' sink sink'
  race_ends Whole status ended divided tells count =
      let all : whole ≡ true → IsRaced buffers old new (answered_lines Whole bytes) ((flat_map bad_line_text division.bad.items ++ journal_text journal) ++ []) =
      λ w. subst (IsRaced buffers old new (answered_lines Whole bytes)) (sym (append-nil (flat_map bad_line_text division.bad.items ++ journal_text journal)))
      (raced (answered_lines Whole bytes) divided w) in
      record {
        statuses = race_status Whole status whole tells.statuses;
        done = λ e. (
          (flat_map bad_line_text division.bad.items ++ journal_text journal) ++ [],
          record {
            script = bytes;
            read = record { given = given; end = ended.0; within = ended.1 };
            answered = all (was_whole status 0 0 whole tells.statuses e (λ f. omega (arith, f)));
          },
          tells.done e,
        );
        source_fault = λ e. absurd (never status 0 2 whole tells.statuses e (λ f. omega (arith, f)) (λ f. omega (arith, f)) (λ f. omega (arith, f)));
        source_fault_answers = λ e. absurd (never status 0 2 whole tells.statuses e (λ f. omega (arith, f)) (λ f. omega (arith, f)) (λ f. omega (arith, f)));
        sink_fault = tells.cause;
        sink_fault_front = λ e. inl (
          (flat_map bad_line_text division.bad.items ++ journal_text journal) ++ [],
          inl (record {
            script = bytes;
            read = record { given = given; end = ended.0; within = ended.1 };
            answered = all (was_whole status 0 3 whole tells.statuses e (λ f. omega (arith, f)));
          }),
          tells.front e,
        );
        disk_fault = λ e. absurd (never status 0 4 whole tells.statuses e (λ f. omega (arith, f)) (λ f. omega (arith, f)) (λ f. omega (arith, f)));
        disk_fault_line = λ e. absurd (never status 0 4 whole tells.statuses e (λ f. omega (arith, f)) (λ f. omega (arith, f)) (λ f. omega (arith, f)));
        no_memory_silence = tells.silence;
        no_memory = λ e. inr (
          answered_lines Whole bytes,
          (
            inr (record { script = bytes; read = record { given = given; end = ended.0; within = ended.1 }; all = refl }),
            raced_in_part (answered_lines Whole bytes) divided,
          ),
        );
        no_log = λ e. absurd (never status 0 6 whole tells.statuses e (λ f. omega (arith, f)) (λ f. omega (arith, f)) (λ f. omega (arith, f)));
        too_long = λ e. absurd (never status 0 7 whole tells.statuses e (λ f. omega (arith, f)) (λ f. omega (arith, f)) (λ f. omega (arith, f)));
        read = (bytes, given);
        source_count = count;
        sink_count = tells.sink_count;
      }
  race_ends Fault status ended divided tells count =
      let all : whole ≡ true → IsRaced buffers old new (answered_lines Fault bytes) ((flat_map bad_line_text division.bad.items ++ journal_text journal) ++ []) =
      λ w. subst (IsRaced buffers old new (answered_lines Fault bytes)) (sym (append-nil (flat_map bad_line_text division.bad.items ++ journal_text journal)))
      (raced (answered_lines Fault bytes) divided w) in
      let fails : FailsWithin left left' source source' = record { bytes = bytes; given = given; within = ended.1; cause = ended.0 } in
      record {
        statuses = race_status Fault status whole tells.statuses;
        done = λ e. absurd (never status 2 0 whole tells.statuses e (λ f. omega (arith, f)) (λ f. omega (arith, f)) (λ f. omega (arith, f)));
        source_fault = λ e. fails;
        source_fault_answers = λ e. (
          (flat_map bad_line_text division.bad.items ++ journal_text journal) ++ [],
          record { bytes = bytes; given = given; answered = all (was_whole status 2 2 whole tells.statuses e (λ f. omega (arith, f))) },
          tells.done e,
        );
        sink_fault = tells.cause;
        sink_fault_front = λ e. inl (
          (flat_map bad_line_text division.bad.items ++ journal_text journal) ++ [],
          inr (inl (fails, record { bytes = bytes; given = given; answered = all (was_whole status 2 3 whole tells.statuses e (λ f. omega (arith, f))) })),
          tells.front e,
        );
        disk_fault = λ e. absurd (never status 2 4 whole tells.statuses e (λ f. omega (arith, f)) (λ f. omega (arith, f)) (λ f. omega (arith, f)));
        disk_fault_line = λ e. absurd (never status 2 4 whole tells.statuses e (λ f. omega (arith, f)) (λ f. omega (arith, f)) (λ f. omega (arith, f)));
        no_memory_silence = tells.silence;
        no_memory = λ e. inr (answered_lines Fault bytes, (inl came, raced_in_part (answered_lines Fault bytes) divided));
        no_log = λ e. absurd (never status 2 6 whole tells.statuses e (λ f. omega (arith, f)) (λ f. omega (arith, f)) (λ f. omega (arith, f)));
        too_long = λ e. absurd (never status 2 7 whole tells.statuses e (λ f. omega (arith, f)) (λ f. omega (arith, f)) (λ f. omega (arith, f)));
        read = (bytes, given);
        source_count = count;
        sink_count = tells.sink_count;
      }
  race_ends TooLong status ended divided tells count = record {
    statuses = race_status TooLong status whole tells.statuses;
    done = λ e. absurd (never status 7 0 whole tells.statuses e (λ f. omega (arith, f)) (λ f. omega (arith, f)) (λ f. omega (arith, f)));
    source_fault = λ e. absurd (never status 7 2 whole tells.statuses e (λ f. omega (arith, f)) (λ f. omega (arith, f)) (λ f. omega (arith, f)));
    source_fault_answers = λ e. absurd (never status 7 2 whole tells.statuses e (λ f. omega (arith, f)) (λ f. omega (arith, f)) (λ f. omega (arith, f)));
    sink_fault = tells.cause;
    sink_fault_front = λ e. inl (
      (flat_map bad_line_text division.bad.items ++ journal_text journal) ++ end_text TooLong,
      inr (inr (record {
        bytes = bytes;
        given = record { given = given; past = ended };
        answered = record {
          output = flat_map bad_line_text division.bad.items ++ journal_text journal;
          answered = raced (answered_lines TooLong bytes) divided (was_whole status 7 3 whole tells.statuses e (λ f. omega (arith, f)));
          line = refl;
        };
      })),
      tells.front e,
    );
    disk_fault = λ e. absurd (never status 7 4 whole tells.statuses e (λ f. omega (arith, f)) (λ f. omega (arith, f)) (λ f. omega (arith, f)));
    disk_fault_line = λ e. absurd (never status 7 4 whole tells.statuses e (λ f. omega (arith, f)) (λ f. omega (arith, f)) (λ f. omega (arith, f)));
    no_memory_silence = tells.silence;
    no_memory = λ e. inr (answered_lines TooLong bytes, (inl came, raced_in_part (answered_lines TooLong bytes) divided));
    no_log = λ e. absurd (never status 7 6 whole tells.statuses e (λ f. omega (arith, f)) (λ f. omega (arith, f)) (λ f. omega (arith, f)));
    too_long = λ e. (
      (flat_map bad_line_text division.bad.items ++ journal_text journal) ++ end_text TooLong,
      record {
        bytes = bytes;
        given = record { given = given; past = ended };
        answered = record {
          output = flat_map bad_line_text division.bad.items ++ journal_text journal;
          answered = raced (answered_lines TooLong bytes) divided (was_whole status 7 7 whole tells.statuses e (λ f. omega (arith, f)));
          line = refl;
        };
      },
      tells.done e,
    );
    read = (bytes, given);
    source_count = count;
    sink_count = tells.sink_count;
  }

-- ---- a log that wasn't opened

-- a disk that wasn't called
pub left_alone : (disk : DiskState) → LeavesFiles disk disk
left_alone disk = record {
  same = λ file. refl;
  time = record {
    later = omega arith;
    past = λ moment image before is. is;
    kept = λ moment image before is. is;
    images = λ moment image after before is. absurd (omega (arith, after, before));
    faults = omega arith;
    nature = refl;
  };
}

-- memory ran out before it was to be
pub race_without_memory : (buffers : ℕ) (disk : DiskState) (left left' written : Option (List ℕ)) (source source' sink : ℕ) → TakesBytes left left' → source ≤ source'
    → EndsRacing 5 buffers disk disk left left' written written source source' sink sink
race_without_memory buffers disk left left' written source source' sink read count = record {
  statuses = inl (inr (inr (inr (inl refl))));
  done = λ e. absurd (omega (arith, e));
  source_fault = λ e. absurd (omega (arith, e));
  source_fault_answers = λ e. absurd (omega (arith, e));
  sink_fault = λ e. absurd (omega (arith, e));
  sink_fault_front = λ e. absurd (omega (arith, e));
  disk_fault = λ e. absurd (omega (arith, e));
  disk_fault_line = λ e. absurd (omega (arith, e));
  no_memory_silence = λ e. Appends-nil written;
  no_memory = λ e. inl (left_alone disk);
  no_log = λ e. absurd (omega (arith, e));
  too_long = λ e. absurd (omega (arith, e));
  read = read;
  source_count = count;
  sink_count = omega arith;
}

-- why it wasn't opened is told as serving tells it
pub race_refused : (status buffers : ℕ) (refusal : LoadRefusal) (old new : DiskState) (left left' written written' : Option (List ℕ)) (source source' sink sink' : ℕ)
    → RefusesLog refusal old new → TellsOpening refusal → TellsRefusal status refusal written written' sink sink' → TakesBytes left left' → source ≤ source'
    → EndsRacing status buffers old new left left' written written' source source' sink sink'
race_refused status buffers refusal old new left left' written written' source source' sink sink' refuses place tells read count =
    let statuses = refused_statuses status refusal tells.statuses in record {
      statuses = serve_status status statuses;
      done = λ e. absurd (not_answered status 0 statuses e (inl refl));
      source_fault = λ e. absurd (not_answered status 2 statuses e (inr (inl refl)));
      source_fault_answers = λ e. absurd (not_answered status 2 statuses e (inr (inl refl)));
      sink_fault = tells.sink_fault;
      sink_fault_front = λ e. let front = tells.sink_fault_front e in inr (refusal_line refusal, refusal_text refusal old new refuses front.0, front.1);
      disk_fault = λ e. subst (λ (r : LoadRefusal). RefusesLog r old new) (fault_by status refusal tells.statuses e) refuses;
      disk_fault_line = λ e. let line = tells.line (λ f. omega (arith, e, f)) (λ f. omega (arith, e, f)) in rw (fault_by status refusal tells.statuses e) at line;
      no_memory_silence = tells.no_memory_silence;
      no_memory = λ e. inl (record { same = refuses.same; time = refuses.time });
      no_log = λ e.
          let is = no_log_by status refusal tells.statuses e in
          let line = tells.line (λ f. omega (arith, e, f)) (λ f. omega (arith, e, f)) in
          (refusal_line refusal, record { no_log = record { refusal = refusal; no_log = is; refuses = refuses; line = no_log_line refusal is }; place = place }, line);
      too_long = λ e. absurd (not_answered status 7 statuses e (inr (inr refl)));
      read = read;
      source_count = count;
      sink_count = tells.sink_count;
    }
