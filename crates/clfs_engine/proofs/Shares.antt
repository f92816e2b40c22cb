-- What sharing a log comes to, by how it was loaded and by what its clients' journal leads to.
use Rattle.std.proofs.Common.{◌≡◌, ⊎_elim, ℕ, ◌⊎◌, Bool, true, false, refl, sym, ap, subst, ◌∙◌, List, [], inl, inr, arith}
use Rattle.std.specs.Prelude.{Option, if◌then◌else◌}
use Rattle.std.proofs.lemmas.Bool.{true≢false}
use Rattle.std.proofs.KnownBytes.{Appends-nil}
use Rattle.clfs_disk.specs.Files.{Unchanged}
use Rattle.clfs_disk.specs.State.{DiskState, Passes}
use Rattle.clfs_model.specs.declared.journal.Entry.{Entry}
use Rattle.clfs_model.specs.declared.state.State.{State}
use Rattle.clfs_manager.specs.Reopening.{HoldsFlushed}
use Rattle.clfs_operations.specs.Loaded.{IsKeptOn, IsTakenFrom}
use Rattle.clfs_operations.specs.Race.{LeavesFiles}
use Rattle.clfs_operations.specs.Unopened.{EndsUnopened}
use Rattle.clfs_share.specs.declared.pairs.ClientEnd.{ClientEnd}
use Rattle.clfs_share.specs.Ended.{is_any_served}
use Rattle.clfs_engine.specs.Share.{Serving, IsShared, EndsSharing, served_status}
use Rattle.clfs_engine.proofs.Unserved.{same_state}

-- a status that is none of three
pub none_of : (status k : ℕ) → status ≡ k → (k ≡ 3 → ⊥) → (k ≡ 5 → ⊥) → (k ≡ 6 → ⊥) → (status ≡ 3) ⊎ ((status ≡ 5) ⊎ (status ≡ 6)) → ⊥
none_of status k is no_three no_five no_six (inl e) = no_three (sym is ∙ e)
none_of status k is no_three no_five no_six (inr (inl e)) = no_five (sym is ∙ e)
none_of status k is no_three no_five no_six (inr (inr e)) = no_six (sym is ∙ e)

module _ (Serves : Serving) (buffers : ℕ) (old new : DiskState) (s t : State) (kept : IsKeptOn t new)
    (journal : List Entry) (from : IsTakenFrom buffers old new s t journal) (serves : Serves journal t) where
  unfoldable pub is_shared : (broken : Bool) → t.broken ≡ broken → IsShared Serves buffers broken old new
  is_shared broken is = record {
    journal = journal;
    taken = from.taken;
    serves = subst (λ (last : State). Serves journal last) (sym from.last) serves;
    is_broken = ap (λ (last : State). last.broken) from.last ∙ is;
    cause = λ bad told. from.cause (is ∙ bad) told;
    files = λ fine told. subst (λ (last : State). HoldsFlushed new.files last) (sym from.last) (kept.files (is ∙ fine) (from.contents told));
    settled = λ fine honest. kept.settled (is ∙ fine) (from.honest honest);
  }

  -- a log that took no call isn't broken
  pub unbroken : journal ≡ [] → t.broken ≡ false
  unbroken none = ap (λ (last : State). last.broken) (sym from.last)
      ∙ ap (λ (last : State). last.broken) (same_state old.nature.tells_contents journal from.taken.first from.taken.last none from.taken.legal)
      ∙ from.taken.begins

  -- the status says whether the log is broken, and whether a client was served, and the sink is told nothing
  pub shared_ends : (status : ℕ) (ends : List ClientEnd) (written : Option (List ℕ)) (sink : ℕ) → (is_any_served ends ≡ false → journal ≡ [])
      → status ≡ (if t.broken then 4 else served_status ends) → EndsSharing Serves status buffers old new ends written written sink sink
  shared_ends status ends written sink quiet is = by_end t.broken (is_any_served ends) refl refl
    where
      own : (broken served : Bool) → t.broken ≡ broken → is_any_served ends ≡ served → status ≡ (if broken then 4 else (if served then 0 else 18))
      own broken served at counted = is ∙ ap (λ (b : Bool). if b then 4 else served_status ends) at ∙ ap (λ (b : Bool). if broken then 4 else (if b then 0 else 18)) counted

      by_end : (broken served : Bool) → t.broken ≡ broken → is_any_served ends ≡ served → EndsSharing Serves status buffers old new ends written written sink sink
      by_end false true at counted = let zero = own false true at counted in record {
        statuses = inl zero;
        done = λ e. is_shared false at;
        done_silence = λ e. Appends-nil written;
        done_served = λ e. counted;
        none_served = λ e. absurd (omega (arith, zero, e));
        none_served_silence = λ e. absurd (omega (arith, zero, e));
        none_served_ends = λ e. absurd (omega (arith, zero, e));
        none_served_alone = λ none. absurd (true≢false (sym counted ∙ none));
        sink_fault = λ e. absurd (omega (arith, zero, e));
        sink_fault_front = λ e. absurd (omega (arith, zero, e));
        disk_fault = λ e. absurd (omega (arith, zero, e));
        no_memory = λ e. absurd (omega (arith, zero, e));
        no_memory_silence = λ e. absurd (omega (arith, zero, e));
        no_log = λ e. absurd (omega (arith, zero, e));
        unopened = λ others. absurd (none_of status 0 zero (λ e. cc e) (λ e. cc e) (λ e. cc e) others);
        sink_count = omega arith;
      }
      by_end false false at counted = let eighteen = own false false at counted in record {
        statuses = inr (inl eighteen);
        done = λ e. absurd (omega (arith, eighteen, e));
        done_silence = λ e. absurd (omega (arith, eighteen, e));
        done_served = λ e. absurd (omega (arith, eighteen, e));
        none_served = λ e. is_shared false at;
        none_served_silence = λ e. Appends-nil written;
        none_served_ends = λ e. counted;
        none_served_alone = λ none. inr eighteen;
        sink_fault = λ e. absurd (omega (arith, eighteen, e));
        sink_fault_front = λ e. absurd (omega (arith, eighteen, e));
        disk_fault = λ e. absurd (omega (arith, eighteen, e));
        no_memory = λ e. absurd (omega (arith, eighteen, e));
        no_memory_silence = λ e. absurd (omega (arith, eighteen, e));
        no_log = λ e. absurd (omega (arith, eighteen, e));
        unopened = λ others. absurd (none_of status 18 eighteen (λ e. cc e) (λ e. cc e) (λ e. cc e) others);
        sink_count = omega arith;
      }
      by_end true served at counted = let four = own true served at counted in record {
        statuses = inr (inr (inr (inl four)));
        done = λ e. absurd (omega (arith, four, e));
        done_silence = λ e. absurd (omega (arith, four, e));
        done_served = λ e. absurd (omega (arith, four, e));
        none_served = λ e. absurd (omega (arith, four, e));
        none_served_silence = λ e. absurd (omega (arith, four, e));
        none_served_ends = λ e. absurd (omega (arith, four, e));
        none_served_alone = λ none. absurd (true≢false (sym at ∙ unbroken (quiet none)));
        sink_fault = λ e. absurd (omega (arith, four, e));
        sink_fault_front = λ e. absurd (omega (arith, four, e));
        disk_fault = λ e. inl (is_shared true at, Appends-nil written);
        no_memory = λ e. absurd (omega (arith, four, e));
        no_memory_silence = λ e. absurd (omega (arith, four, e));
        no_log = λ e. absurd (omega (arith, four, e));
        unopened = λ others. absurd (none_of status 4 four (λ e. cc e) (λ e. cc e) (λ e. cc e) others);
        sink_count = omega arith;
      }

-- no status of a log that wasn't opened
pub not_done : (status : ℕ) → (status ≡ 3) ⊎ ((status ≡ 4) ⊎ ((status ≡ 5) ⊎ (status ≡ 6))) → status ≡ 0 → ⊥
not_done status (inl e) f = omega (arith, e, f)
not_done status (inr (inl e)) f = omega (arith, e, f)
not_done status (inr (inr (inl e))) f = omega (arith, e, f)
not_done status (inr (inr (inr e))) f = omega (arith, e, f)

pub not_ended : (status : ℕ) → (status ≡ 3) ⊎ ((status ≡ 4) ⊎ ((status ≡ 5) ⊎ (status ≡ 6))) → status ≡ 18 → ⊥
not_ended status (inl e) f = omega (arith, e, f)
not_ended status (inr (inl e)) f = omega (arith, e, f)
not_ended status (inr (inr (inl e))) f = omega (arith, e, f)
not_ended status (inr (inr (inr e))) f = omega (arith, e, f)

-- the log wasn't opened
pub share_refused : (Serves : Serving) (status buffers : ℕ) (old new : DiskState) (ends : List ClientEnd)
    (written written' : Option (List ℕ)) (sink sink' : ℕ)
    → EndsUnopened status old new written written' sink sink' → ends ≡ [] → EndsSharing Serves status buffers old new ends written written' sink sink'
share_refused Serves status buffers old new ends written written' sink sink' unopened none = record {
  statuses = inr (inr unopened.statuses);
  done = λ e. absurd (not_done status unopened.statuses e);
  done_silence = λ e. absurd (not_done status unopened.statuses e);
  done_served = λ e. absurd (not_done status unopened.statuses e);
  none_served = λ e. absurd (not_ended status unopened.statuses e);
  none_served_silence = λ e. absurd (not_ended status unopened.statuses e);
  none_served_ends = λ e. absurd (not_ended status unopened.statuses e);
  none_served_alone = λ unserved. inl none;
  sink_fault = unopened.sink_fault;
  sink_fault_front = unopened.sink_fault_front;
  disk_fault = λ e. let told = unopened.disk_fault e in inr (told.0, (none, told.1));
  no_memory = unopened.no_memory;
  no_memory_silence = unopened.no_memory_silence;
  no_log = unopened.no_log;
  unopened = λ others. none;
  sink_count = unopened.sink_count;
}

-- memory ran out before the log was shared
pub share_without_memory : (Serves : Serving) (status buffers : ℕ) (old new : DiskState) (ends : List ClientEnd)
    (written : Option (List ℕ)) (sink : ℕ)
    → status ≡ 5 → Unchanged old.files new.files → Passes Unchanged old new → ends ≡ []
    → EndsSharing Serves status buffers old new ends written written sink sink
share_without_memory Serves status buffers old new ends written sink five same time none = record {
  statuses = inr (inr (inr (inr (inl five))));
  done = λ e. absurd (omega (arith, five, e));
  done_silence = λ e. absurd (omega (arith, five, e));
  done_served = λ e. absurd (omega (arith, five, e));
  none_served = λ e. absurd (omega (arith, five, e));
  none_served_silence = λ e. absurd (omega (arith, five, e));
  none_served_ends = λ e. absurd (omega (arith, five, e));
  none_served_alone = λ unserved. inl none;
  sink_fault = λ e. absurd (omega (arith, five, e));
  sink_fault_front = λ e. absurd (omega (arith, five, e));
  disk_fault = λ e. absurd (omega (arith, five, e));
  no_memory = λ e. record { same = same; time = time };
  no_memory_silence = λ e. Appends-nil written;
  no_log = λ e. absurd (omega (arith, five, e));
  unopened = λ others. none;
  sink_count = omega arith;
}

-- the same where the disk wasn't called
pub share_ran_out : (Serves : Serving) (status buffers : ℕ) (disk : DiskState) (ends : List ClientEnd)
    (written : Option (List ℕ)) (sink : ℕ) → LeavesFiles disk disk
    → status ≡ 5 → ends ≡ [] → EndsSharing Serves status buffers disk disk ends written written sink sink
share_ran_out Serves status buffers disk ends written sink alone five none =
    share_without_memory Serves status buffers disk disk ends written sink five alone.same alone.time none

-- what serves clients in one way serves them in another
module _ (Serves Others : Serving) (also : (journal : List Entry) (last : State) → Serves journal last → Others journal last) where
  shared_also : (buffers : ℕ) (broken : Bool) (old new : DiskState) → IsShared Serves buffers broken old new → IsShared Others buffers broken old new
  shared_also buffers broken old new shared = record {
    journal = shared.journal;
    taken = shared.taken;
    serves = also shared.journal shared.taken.last shared.serves;
    is_broken = shared.is_broken;
    cause = shared.cause;
    files = shared.files;
    settled = shared.settled;
  }

  pub ends_also : (status buffers : ℕ) (old new : DiskState) (ends : List ClientEnd) (written written' : Option (List ℕ)) (sink sink' : ℕ)
      → EndsSharing Serves status buffers old new ends written written' sink sink' → EndsSharing Others status buffers old new ends written written' sink sink'
  ends_also status buffers old new ends written written' sink sink' ended = record {
    statuses = ended.statuses;
    done = λ e. shared_also buffers false old new (ended.done e);
    done_silence = ended.done_silence;
    done_served = ended.done_served;
    none_served = λ e. shared_also buffers false old new (ended.none_served e);
    none_served_silence = ended.none_served_silence;
    none_served_ends = ended.none_served_ends;
    none_served_alone = ended.none_served_alone;
    sink_fault = ended.sink_fault;
    sink_fault_front = ended.sink_fault_front;
    disk_fault = λ e. ⊎_elim (λ shared. inl (shared_also buffers true old new shared.0, shared.1)) inr (ended.disk_fault e);
    no_memory = ended.no_memory;
    no_memory_silence = ended.no_memory_silence;
    no_log = ended.no_log;
    unopened = ended.unopened;
    sink_count = ended.sink_count;
  }
