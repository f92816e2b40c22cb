-- A manager whose log was changed on the disk, by a call that is answered.
use Rattle.clfs_manager.proofs.Words.{◌≡◌, ℕ, sym, ap, ◌∙◌, false, DiskState, IsSettled, Call, Fine, Reply, State, MeetsCondition, Step, StoredAfter}
use Rattle.clfs_manager.proofs.Words.{HasForgotten, Holds, IsManaged, AreKept, Log}
use Rattle.clfs_manager.proofs.AreasChange.{KeepsValid, KeepsStorable}
use Rattle.clfs_manager.proofs.ReadKeeps.{tells_before}
use Rattle.clfs_manager.proofs.Settled.{stays_settled}

-- What the work of such a call leaves: this state, in memory and on the disk.
pub record IsDone (old new : DiskState) (before after : Log) (t : State) : Type 0 where
  pub state : after.state.value ≡ t
  pub unbroken : t.broken ≡ before.state.value.broken
  pub broken : after.broken ≡ before.broken
  pub holds : Holds after.state.value after
  pub stored : StoredAfter old new before.state.value after.state.value before.physical after.physical
  pub kept : AreKept before.state.value before.buffers → AreKept after.state.value after.buffers
  pub settled : IsSettled old → IsSettled new
  pub nature : new.nature ≡ old.nature
  pub forgotten : HasForgotten before.state.value before → HasForgotten after.state.value after

pub managed_done : (old new : DiskState) (before after : Log) (t : State) (client : ℕ) (call : Call) (reply : Reply) → KeepsValid → KeepsStorable
    → MeetsCondition client call → IsManaged old before → before.broken ≡ false → Step false before.state.value client call Fine reply t
    → IsDone old new before after t → IsManaged new after
managed_done old new before after t client call reply valid storable meets managed unbroken step done =
    let s : State = before.state.value in
    let opened = managed.whole unbroken in
    let stored = done.stored opened.blocks opened.stored in
    record {
      valid = rw done.state (valid false s client call Fine reply t managed.valid step);
      storable = rw done.state (storable false s client call Fine reply t managed.valid managed.storable meets step);
      broken = ap (λ (u : State). u.broken) done.state ∙ done.unbroken ∙ managed.broken ∙ sym done.broken;
      whole = λ _. record {
        memory = done.holds;
        blocks = stored.0;
        stored = stored.1.0;
        files = λ told. let earlier = tells_before old new done.nature told in stored.1.1 earlier false (opened.files earlier);
        kept = λ told. done.kept (opened.kept (tells_before old new done.nature told));
        settled = stays_settled old new done.nature done.settled opened.settled;
        forgotten = done.forgotten opened.forgotten;
      };
    }
