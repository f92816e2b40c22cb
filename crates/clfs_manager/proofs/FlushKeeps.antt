-- A log that was flushed is open still.
use Rattle.clfs_manager.proofs.Words.{◌≡◌, ℕ, ◌≤◌, refl, sym, ap, ◌∙◌, arith, Bool, true, false, inr, None, Some, if◌then◌else◌, nat_lt, Result, Ok, Err}
use Rattle.clfs_manager.proofs.Words.{OnOk, OnErr, is_err, DiskState, IsSettled, State, container_of, flush, flushed, hold, Call, Happened, Fine, Fault}
use Rattle.clfs_manager.proofs.Words.{Reply, MeetsCondition, Step, ReopenStep, with_broken, IsStorable, IsValid, Buffered, KeepsOthers, StoredAfter, Holds}
use Rattle.clfs_manager.proofs.Words.{IsOpen, IsManaged, AreKept, Log}
use Rattle.clfs_model.specs.declared.refusal.Refusal.TheVariants as refusals
use Rattle.clfs_model.specs.declared.reply.Reply.TheVariants as replies
use Rattle.clfs_manager.specs.Flushing.{IsBroken}
use Rattle.clfs_manager.proofs.AreasChange.{KeepsValid, KeepsStorable}
use Rattle.clfs_manager.proofs.ClosedPlace.{flush_is, is_closed_of, is_start}
use Rattle.clfs_manager.proofs.FlushedLog.{done, hold_done}
use Rattle.clfs_manager.proofs.ReadKeeps.{tells_before}
use Rattle.clfs_manager.proofs.Settled.{stays_settled}

-- what is on the disk only grows
pub flushed_done : (s : State) → IsValid s → flushed s ≤ flushed (done s)
flushed_done s valid = omega (arith, (is_start s valid).below, (is_closed_of s.shape s.place valid.ranges.place).start)

-- the blocks that are kept stay those of the state
pub kept_done : (s : State) (kept : Buffered) → IsValid s → AreKept s kept → AreKept (done s) kept
kept_done s kept valid are = record {
  stable = λ place records there. omega (arith, are.stable place records there, flushed_done s valid);
  records = are.records;
}

pub open_flushed : (old new : DiskState) (s t : State) (before after : Log) → IsValid s → IsOpen old s before → t ≡ flush s → Holds t after → KeepsOthers before after
    → StoredAfter old new s t before.physical after.physical → (IsSettled old → IsSettled new) → new.nature ≡ old.nature → IsOpen new t after
open_flushed old new s t before after valid is_open state holds keeps stored_after settled nature =
    let stored = stored_after is_open.blocks is_open.stored in
    record {
      memory = holds;
      blocks = stored.0;
      stored = stored.1.0;
      files = λ told. let before = tells_before old new nature told in stored.1.1 before false (is_open.files before);
      kept = λ told. rw (keeps.buffers, state ∙ flush_is s) (kept_done s before.buffers valid (is_open.kept (tells_before old new nature told)));
      settled = stays_settled old new nature settled is_open.settled;
      forgotten = record {
        low = omega (arith, is_open.forgotten.low, hold_done s valid, ap (λ (u : State). container_of (hold u)) (state ∙ flush_is s), ap (λ t. t.low) keeps.tables);
        ends = keeps.few is_open.forgotten.ends;
      };
    }

-- what holds of an answer that is no refusal
pub on_ok : {A E P : Type 0} (result : Result A E) → is_err result ≡ false → OnOk result P → P
on_ok (Ok value) ok is = is
on_ok (Err error) ok is = absurd (cc ok)

pub on_err : {A E P : Type 0} (result : Result A E) → is_err result ≡ true → OnErr result P → P
on_err (Ok value) err is = absurd (cc err)
on_err (Err error) err is = is

-- A log that meets a fault of the disk, as in opening it again.
pub meets_fault : (s : State) → s.broken ≡ false → ReopenStep false s Fault (replies.Refused refusals.DiskFault) (with_broken s)
unfolding ReopenStep
meets_fault s whole = rw whole (inr (refl, refl))

-- that opening again leaves a valid state
abbrev pub ReopensValid : Type 0
ReopensValid = (told : Bool) (s : State) (happened : Happened) (reply : Reply) (t : State) → IsValid s → ReopenStep told s happened reply t → IsValid t

-- and one that files can hold
abbrev pub ReopensStorable : Type 0
ReopensStorable = (told : Bool) (s : State) (happened : Happened) (reply : Reply) (t : State)
    → IsValid s → IsStorable s → ReopenStep told s happened reply t → IsStorable t

-- A manager whose log met a fault of the disk.
pub managed_broken : (old new : DiskState) (before after : Log) → ReopensValid → ReopensStorable → IsManaged old before → before.broken ≡ false → IsBroken before after
    → IsManaged new after
managed_broken old new before after valid storable managed unbroken is =
    let s : State = before.state.value in
    let fault = meets_fault s (managed.broken ∙ unbroken) in
    record {
      valid = rw is.state (valid false s Fault _ (with_broken s) managed.valid fault);
      storable = rw is.state (storable false s Fault _ (with_broken s) managed.valid managed.storable fault);
      broken = rw is.state (sym is.broken);
      whole = λ whole. absurd (cc (whole, is.broken));
    }

-- A manager whose log was flushed by a call that is answered with the flushed state.
pub managed_flushed : (old new : DiskState) (before after : Log) (client : ℕ) (call : Call) (reply : Reply) → KeepsValid → KeepsStorable → MeetsCondition client call
    → IsManaged old before → before.broken ≡ false → after.state.value ≡ flush before.state.value
    → Step false before.state.value client call Fine reply (flush before.state.value) → Holds after.state.value after → KeepsOthers before after
    → StoredAfter old new before.state.value after.state.value before.physical after.physical → (IsSettled old → IsSettled new) → new.nature ≡ old.nature
    → IsManaged new after
managed_flushed old new before after client call reply valid storable meets managed unbroken state step holds keeps stored settled nature =
    let s : State = before.state.value in
    record {
      valid = rw state (valid false s client call Fine reply (flush s) managed.valid step);
      storable = rw state (storable false s client call Fine reply (flush s) managed.valid managed.storable meets step);
      broken = rw state (ap (λ (t : State). t.broken) (flush_is s) ∙ managed.broken ∙ unbroken ∙ sym (keeps.broken ∙ unbroken));
      whole = λ _. open_flushed old new s after.state.value before after managed.valid (managed.whole unbroken) state holds keeps stored settled nature;
    }

-- an LSN that is below what is on the disk
pub is_above : (lsn stable found : ℕ) → (if nat_lt lsn stable then Some stable else None) ≡ Some found → (nat_lt lsn stable ≡ true) × (found ≡ stable)
is_above lsn stable found is = by_test (nat_lt lsn stable) refl is
  where
    by_test : (test : Bool) → nat_lt lsn stable ≡ test → (if test then Some stable else None) ≡ Some found → (nat_lt lsn stable ≡ true) × (found ≡ stable)
    by_test true below same = (below, cc)
    by_test false below same = absurd (cc same)

-- and one that isn't
pub is_later : (lsn stable : ℕ) → (if nat_lt lsn stable then Some stable else None) ≡ None → nat_lt lsn stable ≡ false
is_later lsn stable is = by_test (nat_lt lsn stable) refl is
  where
    by_test : (test : Bool) → nat_lt lsn stable ≡ test → (if test then Some stable else None) ≡ None → nat_lt lsn stable ≡ false
    by_test true below same = absurd (cc same)
    by_test false below same = below
