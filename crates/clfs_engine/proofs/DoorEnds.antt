-- What sharing a log by a door comes to, by how it was loaded and by what its visits' journal leads to.
use Rattle.std.proofs.Common.{◌≡◌, ℕ, ◌⊎◌, ◌≤◌, Bool, true, false, refl, sym, ap, subst, ◌∙◌, List, [], inl, inr, arith}
use Rattle.std.specs.Prelude.{Option, if◌then◌else◌}
use Rattle.std.proofs.lemmas.Bool.{true≢false}
use Rattle.std.specs.Io.KnownBytes.{Appends}
use Rattle.std.proofs.KnownBytes.{Appends-nil}
use Rattle.clfs_ports.specs.Cause as ports
use Rattle.clfs_disk.specs.State.{DiskState}
use Rattle.clfs_lines.specs.Ends.{AppendsFront}
use Rattle.clfs_model.specs.declared.journal.Entry.{Entry}
use Rattle.clfs_model.specs.declared.state.State.{State}
use Rattle.clfs_operations.specs.Loaded.{IsKeptOn, IsTakenFrom}
use Rattle.clfs_operations.specs.Race.{LeavesFiles}
use Rattle.clfs_operations.specs.Unopened.{EndsUnopened}
use Rattle.clfs_share.specs.Visited.{could_any_come}
use Rattle.clfs_share.specs.declared.visitors.ComingEnd.{ComingEnd}
use Rattle.clfs_engine.specs.Door.{Anybody, EndsDoor, Visiting, WasOpen, ready_text}
use Rattle.clfs_engine.proofs.Shares.{is_shared, none_of, not_done, not_ended, unbroken}

module _ (Shut : Type 0) (Visits : Visiting) (buffers : ℕ) (old new : DiskState) (s t : State) (kept : IsKeptOn t new)
    (journal : List Entry) (from : IsTakenFrom buffers old new s t journal) (visits : Visits old.nature.tells_contents s journal) where
  was_open : (broken : Bool) → t.broken ≡ broken → WasOpen Visits buffers broken old new
  unfolding is_shared
  was_open broken is = record {
    shared = is_shared Anybody buffers old new s t kept journal from tt broken is;
    visits = subst (λ (first : State). Visits old.nature.tells_contents first journal) (sym from.first) visits;
  }

  -- the status says whether the log is broken, and whether programs could come
  pub visits_end : (status : ℕ) (ends : List ComingEnd) (written written' : Option (List ℕ)) (sink sink' : ℕ) → Appends written written' ready_text → sink ≤ sink'
      → (could_any_come ends ≡ false → journal ≡ []) → status ≡ (if t.broken then 4 else (if could_any_come ends then 0 else 18)) → EndsDoor Shut Visits status buffers old new ends written written' sink sink'
  visits_end status ends written written' sink sink' ready later quiet is = by_end t.broken (could_any_come ends) refl refl
    where
      own : (broken came : Bool) → t.broken ≡ broken → could_any_come ends ≡ came → status ≡ (if broken then 4 else (if came then 0 else 18))
      own broken came at counted = is ∙ ap (λ (b : Bool). if b then 4 else (if could_any_come ends then 0 else 18)) at
          ∙ ap (λ (b : Bool). if broken then 4 else (if b then 0 else 18)) counted

      by_end : (broken came : Bool) → t.broken ≡ broken → could_any_come ends ≡ came → EndsDoor Shut Visits status buffers old new ends written written' sink sink'
      by_end false true at counted = let zero = own false true at counted in record {
        statuses = inl zero;
        done = λ e. was_open false at;
        done_ready = λ e. ready;
        done_came = λ e. counted;
        none_came = λ e. absurd (omega (arith, zero, e));
        none_came_alone = λ none. absurd (true≢false (sym counted ∙ none));
        sink_fault = λ e. absurd (omega (arith, zero, e));
        sink_fault_front = λ e. absurd (omega (arith, zero, e));
        disk_fault = λ e. absurd (omega (arith, zero, e));
        no_memory = λ e. absurd (omega (arith, zero, e));
        no_memory_ready = λ e. absurd (omega (arith, zero, e));
        no_log = λ e. absurd (omega (arith, zero, e));
        unopened = λ others. absurd (none_of status 0 zero (λ e. cc e) (λ e. cc e) (λ e. cc e) others);
        sink_count = later;
      }
      by_end false false at counted = let eighteen = own false false at counted in record {
        statuses = inr (inl eighteen);
        done = λ e. absurd (omega (arith, eighteen, e));
        done_ready = λ e. absurd (omega (arith, eighteen, e));
        done_came = λ e. absurd (omega (arith, eighteen, e));
        none_came = λ e. inr (was_open false at, (counted, ready));
        none_came_alone = λ none. inr eighteen;
        sink_fault = λ e. absurd (omega (arith, eighteen, e));
        sink_fault_front = λ e. absurd (omega (arith, eighteen, e));
        disk_fault = λ e. absurd (omega (arith, eighteen, e));
        no_memory = λ e. absurd (omega (arith, eighteen, e));
        no_memory_ready = λ e. absurd (omega (arith, eighteen, e));
        no_log = λ e. absurd (omega (arith, eighteen, e));
        unopened = λ others. absurd (none_of status 18 eighteen (λ e. cc e) (λ e. cc e) (λ e. cc e) others);
        sink_count = later;
      }
      by_end true came at counted = let four = own true came at counted in record {
        statuses = inr (inr (inr (inl four)));
        done = λ e. absurd (omega (arith, four, e));
        done_ready = λ e. absurd (omega (arith, four, e));
        done_came = λ e. absurd (omega (arith, four, e));
        none_came = λ e. absurd (omega (arith, four, e));
        none_came_alone = λ none. absurd (true≢false (sym at ∙ unbroken Anybody buffers old new s t kept journal from tt (quiet none)));
        sink_fault = λ e. absurd (omega (arith, four, e));
        sink_fault_front = λ e. absurd (omega (arith, four, e));
        disk_fault = λ e. inl (was_open true at, ready);
        no_memory = λ e. absurd (omega (arith, four, e));
        no_memory_ready = λ e. absurd (omega (arith, four, e));
        no_log = λ e. absurd (omega (arith, four, e));
        unopened = λ others. absurd (none_of status 4 four (λ e. cc e) (λ e. cc e) (λ e. cc e) others);
        sink_count = later;
      }

module _ (Shut : Type 0) (Visits : Visiting) (status buffers : ℕ) (old new : DiskState) where
  -- the log wasn't opened
  pub door_unopened : (written written' : Option (List ℕ)) (sink sink' : ℕ)
      → EndsUnopened status old new written written' sink sink' → EndsDoor Shut Visits status buffers old new [] written written' sink sink'
  door_unopened written written' sink sink' unopened = record {
    statuses = inr (inr unopened.statuses);
    done = λ e. absurd (not_done status unopened.statuses e);
    done_ready = λ e. absurd (not_done status unopened.statuses e);
    done_came = λ e. absurd (not_done status unopened.statuses e);
    none_came = λ e. absurd (not_ended status unopened.statuses e);
    none_came_alone = λ none. inl refl;
    sink_fault = unopened.sink_fault;
    sink_fault_front = λ e. inl (unopened.sink_fault_front e);
    disk_fault = λ e. let told = unopened.disk_fault e in inr (told.0, (refl, told.1));
    no_memory = unopened.no_memory;
    no_memory_ready = λ e. inl (unopened.no_memory_silence e);
    no_log = unopened.no_log;
    unopened = λ others. refl;
    sink_count = unopened.sink_count;
  }

  -- the door wasn't opened, or memory ran out
  pub door_refused : (written : Option (List ℕ)) (sink : ℕ) → ((status ≡ 18) × Shut) ⊎ (status ≡ 5) → LeavesFiles old new
      → EndsDoor Shut Visits status buffers old new [] written written sink sink
  door_refused written sink (inl (is, shut)) leaves = record {
    statuses = inr (inl is);
    done = λ e. absurd (omega (arith, is, e));
    done_ready = λ e. absurd (omega (arith, is, e));
    done_came = λ e. absurd (omega (arith, is, e));
    none_came = λ e. inl (shut, (leaves, (refl, Appends-nil written)));
    none_came_alone = λ none. inl refl;
    sink_fault = λ e. absurd (omega (arith, is, e));
    sink_fault_front = λ e. absurd (omega (arith, is, e));
    disk_fault = λ e. absurd (omega (arith, is, e));
    no_memory = λ e. absurd (omega (arith, is, e));
    no_memory_ready = λ e. absurd (omega (arith, is, e));
    no_log = λ e. absurd (omega (arith, is, e));
    unopened = λ others. refl;
    sink_count = omega arith;
  }
  door_refused written sink (inr is) leaves = record {
    statuses = inr (inr (inr (inr (inl is))));
    done = λ e. absurd (omega (arith, is, e));
    done_ready = λ e. absurd (omega (arith, is, e));
    done_came = λ e. absurd (omega (arith, is, e));
    none_came = λ e. absurd (omega (arith, is, e));
    none_came_alone = λ none. inl refl;
    sink_fault = λ e. absurd (omega (arith, is, e));
    sink_fault_front = λ e. absurd (omega (arith, is, e));
    disk_fault = λ e. absurd (omega (arith, is, e));
    no_memory = λ e. leaves;
    no_memory_ready = λ e. inl (Appends-nil written);
    no_log = λ e. absurd (omega (arith, is, e));
    unopened = λ others. refl;
    sink_count = omega arith;
  }

  -- that programs may come couldn't be written
  pub door_unready : (written written' : Option (List ℕ)) (sink sink' : ℕ) → status ≡ 3 → LeavesFiles old new → AppendsFront written written' ready_text
      → ports.Rises sink sink' → sink ≤ sink' → EndsDoor Shut Visits status buffers old new [] written written' sink sink'
  door_unready written written' sink sink' is leaves front rises later = record {
    statuses = inr (inr (inl is));
    done = λ e. absurd (omega (arith, is, e));
    done_ready = λ e. absurd (omega (arith, is, e));
    done_came = λ e. absurd (omega (arith, is, e));
    none_came = λ e. absurd (omega (arith, is, e));
    none_came_alone = λ none. inl refl;
    sink_fault = λ e. rises;
    sink_fault_front = λ e. inr (leaves, front);
    disk_fault = λ e. absurd (omega (arith, is, e));
    no_memory = λ e. absurd (omega (arith, is, e));
    no_memory_ready = λ e. absurd (omega (arith, is, e));
    no_log = λ e. absurd (omega (arith, is, e));
    unopened = λ others. refl;
    sink_count = later;
  }

  -- memory ran out when this was written
  pub door_ran_out : (written written' : Option (List ℕ)) (sink sink' : ℕ) → status ≡ 5 → LeavesFiles old new → Appends written written' ready_text
      → sink ≤ sink' → EndsDoor Shut Visits status buffers old new [] written written' sink sink'
  door_ran_out written written' sink sink' is leaves ready later = record {
    statuses = inr (inr (inr (inr (inl is))));
    done = λ e. absurd (omega (arith, is, e));
    done_ready = λ e. absurd (omega (arith, is, e));
    done_came = λ e. absurd (omega (arith, is, e));
    none_came = λ e. absurd (omega (arith, is, e));
    none_came_alone = λ none. inl refl;
    sink_fault = λ e. absurd (omega (arith, is, e));
    sink_fault_front = λ e. absurd (omega (arith, is, e));
    disk_fault = λ e. absurd (omega (arith, is, e));
    no_memory = λ e. leaves;
    no_memory_ready = λ e. inr ready;
    no_log = λ e. absurd (omega (arith, is, e));
    unopened = λ others. refl;
    sink_count = later;
  }
