-- How functions that write are chained: each of them leaves the log intact, and what two of them do to the disk, one after the other, is what one
-- may do. All is said of logs and disks as plain values, so that it serves every call.
use Rattle.clfs_manager.proofs.Words.{◌≡◌, ℕ, ◌+◌, ◌-◌, ◌*◌, ◌^◌, ◌≤◌, true, false, refl, sym, ap, subst, ◌∙◌, length, arith, Result, Ok, Err, OnOk, OnErr}
use Rattle.clfs_manager.proofs.Words.{IsOk, IsErr, min, sector_bytes, Files, DiskState, Nature, TellsContents, IsSettled, IsSteady, Later, Rises, newest_of}
use Rattle.clfs_manager.proofs.Words.{BaseImage, State, flush, IsStorable, IsValid, Buffered, AreMade, Blocks, Newest, Stores, AreWholeFiles, Told}
use Rattle.clfs_manager.proofs.Words.{KeepsAllButTables, KeepsOthers, StoredAfter, HasForgotten, Holds, IsSound, IsOpen, IsManaged, IsStored, AreKept}
use Rattle.clfs_manager.proofs.Words.{IsIntact, IsYetToForget, WritesDisk, Log}
use Rattle.clfs_manager.proofs.ClosedPlace.{flush_is}
use Rattle.clfs_manager.proofs.FlushKeeps.{open_flushed}
use Rattle.clfs_manager.proofs.Joining.{later_then}
use Rattle.clfs_manager.proofs.ReadKeeps.{tells_before}
use Rattle.clfs_manager.proofs.Settled.{stays_settled}
use Rattle.clfs_manager.proofs.StoredKeeps.{IsDone}

-- ---- full lengths

pub of_ok : {A E : Type 0} (x y : A) (result : Result A E) → result ≡ Ok x → result ≡ Ok y → x ≡ y
of_ok x y result is also = cc

-- Files of full length are so by the newest copy in memory, which is the one that they have.
pub made_of_whole : (newest : Newest) (files : Files) → newest_of (files 0) ≡ Ok (newest.slot, newest.image) → AreWholeFiles files → AreMade newest.image files
made_of_whole newest files is whole =
    let both = of_ok (whole.slot, whole.image) (newest.slot, newest.image) (newest_of (files 0)) whole.newest is in
    let image : whole.image ≡ newest.image = ap (λ (p : ℕ × BaseImage). p.1) both in
    record {
      base = whole.base_file;
      made = λ file from until.
          subst (λ (i : BaseImage). file ≤ i.files_made → sector_bytes * i.container_sectors ≤ length (files file)) image (whole.containers file from) until;
    }

-- so those of an open log are
pub made_in : (disk : DiskState) (s : State) (log : Log) → IsOpen disk s log → TellsContents disk → AreWholeFiles disk.files
    → AreMade log.physical.image disk.files
made_in disk s log is tells whole = made_of_whole log.physical disk.files (is.files tells).newest whole

-- files that are a log, at full length
pub stores_whole : (newest : Newest) (blocks : Blocks) (files : Files) → Stores false newest blocks files → AreMade newest.image files
    → Stores true newest blocks files
stores_whole newest blocks files stores made =
    record { newest = stores.newest; holds = record { made = λ _. made; opens = stores.holds.opens } }

pub whole_of_stores : (newest : Newest) (blocks : Blocks) (files : Files) → Stores true newest blocks files → AreWholeFiles files
whole_of_stores newest blocks files stores =
    let made = stores.holds.made refl in
    record { slot = newest.slot; image = newest.image; newest = stores.newest; base_file = made.base; containers = made.made }

-- files at full length stay so where another state is stored in them
pub whole_after : (old new : DiskState) (s t : State) (before after : Log) → IsOpen old s before
    → StoredAfter old new s t before.physical after.physical → TellsContents old → AreWholeFiles old.files → AreWholeFiles new.files
whole_after old new s t before after is stored tells whole =
    let to = stored is.blocks is.stored in
    whole_of_stores after.physical to.0 new.files
    (to.1.1 tells true (stores_whole before.physical is.blocks old.files (is.files tells) (made_in old s before is tells whole)))

-- ---- how the disk is left

-- time stands still where nothing is asked of the disk
later_still : (disk : DiskState) → Later disk disk
later_still disk = record {
  later = omega arith;
  past = λ moment image le at. at;
  kept = λ moment image le at. at;
  images = λ moment image after until at. absurd (omega (arith, after, until));
  faults = omega arith;
  nature = refl;
}

-- nothing was asked of the disk
pub writes_nothing : (fault : Type 0) (disk : DiskState) → (fault → ⊥) → WritesDisk fault disk disk
writes_nothing fault disk none = record {
  time = later_still disk;
  cause = λ f. absurd (none f);
  whole = λ _ tells whole. whole;
  steady = λ calm tells whole. (none, refl);
}

-- the same, the fault told in another way
pub writes_as : (fault other : Type 0) (old new : DiskState) → (fault → other) → (other → fault) → WritesDisk fault old new → WritesDisk other old new
writes_as fault other old new to back is = record {
  time = is.time;
  cause = λ f. is.cause (back f);
  whole = λ none. is.whole (λ f. none (to f));
  steady = λ calm tells whole. let fine = is.steady calm tells whole in (λ f. fine.0 (back f), fine.1);
}

-- another state was stored
pub writes_fine : (fault : Type 0) (old new : DiskState) (s t : State) (before after : Log) → (fault → ⊥) → IsOpen old s before
    → StoredAfter old new s t before.physical after.physical → Later old new
    → (IsSteady old → AreMade before.physical.image old.files → new.faults ≡ old.faults) → WritesDisk fault old new
writes_fine fault old new s t before after none is stored time steady = record {
  time = time;
  cause = λ f. absurd (none f);
  whole = λ _ tells whole. whole_after old new s t before after is stored tells whole;
  steady = λ calm tells whole. (none, steady calm (made_in old s before is tells whole));
}

-- the disk failed
pub writes_failed : (fault : Type 0) (old new : DiskState) (s : State) (before : Log) → fault → IsOpen old s before → Later old new
    → Rises old.faults new.faults → (IsSteady old → AreMade before.physical.image old.files → ⊥) → WritesDisk fault old new
writes_failed fault old new s before failed is time rises steady = record {
  time = time;
  cause = λ _. rises;
  whole = λ none. absurd (none failed);
  steady = λ calm tells whole. absurd (steady calm (made_in old s before is tells whole));
}

-- a function that stores another state, by what it answers
pub writes_stored : {A E : Type 0} (result : Result A E) (old new : DiskState) (s t : State) (before after : Log) → IsOpen old s before
    → OnOk result (StoredAfter old new s t before.physical after.physical) → Later old new → OnErr result (Rises old.faults new.faults)
    → (IsSteady old → AreMade before.physical.image old.files → IsOk result × (new.faults ≡ old.faults)) → WritesDisk (IsErr result) old new
writes_stored {A} {E} (Ok value) old new s t before after is stored time cause steady =
    writes_fine (IsErr {T = A} {E = E} (Ok value)) old new s t before after (λ f. cc f) is stored time (λ calm made. (steady calm made).1)
writes_stored {A} {E} (Err error) old new s t before after is stored time cause steady =
    writes_failed (IsErr {T = A} {E = E} (Err error)) old new s before refl is time cause (λ calm made. let fine = (steady calm made).0 in cc fine)

-- the same of the disk as a contract sees it
pub writes_seen : {D : Type 0} (state : D → DiskState) (inside seen : State × D) → inside ≡ seen → (fault : Type 0) (new : DiskState)
    → WritesDisk fault (state inside.1) new → WritesDisk fault (state seen.1) new
writes_seen {D} state inside seen same fault new is = subst (λ (v : State × D). WritesDisk fault (state v.1) new) same is

rises_before : (a b now top : ℕ) → a ≤ b → min (b + 1) top ≤ now → min (a + 1) top ≤ now
rises_before a b now top le rises = omega (arith, le, rises)

-- one function after another that met no fault
pub writes_then : (fault other : Type 0) (a b d : DiskState) → (fault → ⊥) → WritesDisk fault a b → WritesDisk other b d → WritesDisk other a d
writes_then fault other a b d fine first second = record {
  time = later_then a b d first.time second.time;
  cause = λ f. rises_before a.faults b.faults d.faults (2 ^ 64 - 1) first.time.faults (second.cause f);
  whole = λ none tells whole. second.whole none (tells_before b a (sym first.time.nature) tells) (first.whole fine tells whole);
  steady = λ calm tells whole.
      let before = first.steady calm tells whole in
      let after = second.steady (subst (λ (n : Nature). n.steady ≡ true) (sym first.time.nature) calm) (tells_before b a (sym first.time.nature) tells)
      (first.whole fine tells whole) in
      (after.0, after.1 ∙ before.1);
}

-- ---- how the log is left

-- a log whose work is done
pub intact_done : (old new : DiskState) (before after : Log) (t : State) → IsIntact old before → IsValid t → IsStorable t → IsDone old new before after t
    → IsIntact new after
intact_done old new before after t intact valid storable done =
    let stored = done.stored intact.opened.blocks intact.opened.stored in
    record {
      sound = record {
        valid = rw done.state valid;
        storable = rw done.state storable;
        unbroken = done.broken ∙ intact.sound.unbroken;
        whole = ap (λ (u : State). u.broken) done.state ∙ done.unbroken ∙ intact.sound.whole;
        holds = done.holds;
      };
      opened = record {
        memory = done.holds;
        blocks = stored.0;
        stored = stored.1.0;
        files = λ told. let earlier = tells_before old new done.nature told in stored.1.1 earlier false (intact.opened.files earlier);
        kept = λ told. done.kept (intact.opened.kept (tells_before old new done.nature told));
        settled = stays_settled old new done.nature done.settled intact.opened.settled;
        forgotten = done.forgotten intact.opened.forgotten;
      };
    }

-- a log that was flushed
pub intact_flushed : (old new : DiskState) (before after : Log) → IsIntact old before → IsValid (flush before.state.value)
    → IsStorable (flush before.state.value) → after.state.value ≡ flush before.state.value → Holds after.state.value after → KeepsOthers before after
    → StoredAfter old new before.state.value after.state.value before.physical after.physical → (IsSettled old → IsSettled new)
    → new.nature ≡ old.nature → IsIntact new after
intact_flushed old new before after intact valid storable state holds keeps stored settled nature =
    let s : State = before.state.value in
    record {
      sound = record {
        valid = rw state valid;
        storable = rw state storable;
        unbroken = keeps.broken ∙ intact.sound.unbroken;
        whole = ap (λ (u : State). u.broken) (state ∙ flush_is s) ∙ intact.sound.whole;
        holds = holds;
      };
      opened = open_flushed old new s after.state.value before after intact.sound.valid intact.opened state holds keeps stored settled nature;
    }

-- an intact log is that of a manager
pub managed_intact : (disk : DiskState) (log : Log) → IsIntact disk log → IsManaged disk log
managed_intact disk log intact = record {
  valid = intact.sound.valid;
  storable = intact.sound.storable;
  broken = intact.sound.whole ∙ sym intact.sound.unbroken;
  whole = λ _. intact.opened;
}

-- and that of a manager is intact unless it is broken
pub intact_managed : (disk : DiskState) (log : Log) → IsManaged disk log → log.broken ≡ false → IsIntact disk log
intact_managed disk log managed unbroken =
    let opened = managed.whole unbroken in
    record {
      sound = record {
        valid = managed.valid;
        storable = managed.storable;
        unbroken = unbroken;
        whole = managed.broken ∙ unbroken;
        holds = opened.memory;
      };
      opened = opened;
    }

-- A log that forgets what is needed no more.
pub intact_forgot : (disk : DiskState) (before after : Log) → IsYetToForget disk before → IsSound after → KeepsAllButTables before after
    → HasForgotten after.state.value after → IsIntact disk after
intact_forgot disk before after is sound keeps forgotten =
    let s : State = before.state.value in
    let same : after.state.value ≡ s = ap (λ (told : Told State). told.value) keeps.state in
    record {
      sound = sound;
      opened = record {
        memory = sound.holds;
        blocks = is.blocks;
        stored = subst (λ (t : State). IsStored t after.physical is.blocks) (sym same)
            (subst (λ (n : Newest). IsStored s n is.blocks) (sym keeps.physical) is.stored);
        files = λ tells. subst (λ (n : Newest). Stores false n is.blocks disk.files) (sym keeps.physical) (is.files tells);
        kept = λ tells. subst (λ (t : State). AreKept t after.buffers) (sym same)
            (subst (λ (kept : Buffered). AreKept s kept) (sym keeps.buffers) (is.kept tells));
        settled = is.settled;
        forgotten = forgotten;
      };
    }
