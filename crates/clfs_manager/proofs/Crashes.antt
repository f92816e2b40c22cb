-- What a crash leaves of calls that write, one after the other: files that hold a survivor of what was asked.
use Rattle.clfs_manager.proofs.Words.{◌≡◌, ℕ, ◌*◌, ◌<◌, ◌≤◌, ◌∙◌, Bool, true, false, refl, sym, ap, subst, inl, inr, ⊎_elim, List, [], ◌++◌, map, length}
use Rattle.clfs_manager.proofs.Words.{arith, ◌+◌, option_map_or, is_err, Option, None, if◌then◌else◌, Result, Ok, Err, IsOk, IsErr, OnOk, cases_lt}
use Rattle.clfs_manager.proofs.Words.{sector_bytes, LogEntry, IsLaid, newest_of, AreWhole, total, container_of, Files, Unchanged, Failed, DiskState}
use Rattle.clfs_manager.proofs.Words.{TellsContents, IsSettled, Passes, Leaves, State, cut, flush, hold, Call, Refusal, answer, outcome, refusal, Request}
use Rattle.clfs_manager.proofs.Words.{asks, IsStorable, IsValid, Survives, Newest, Blocks, Stores, with_blocks, low_of, taken_of, AreWholeFiles, HaveMore}
use Rattle.clfs_manager.proofs.Words.{stored_state, file_at_end, stored_place, CrashLeavesSurvivor, CrashSurvives, StoredMeanwhile, HasGroup, SendsGroup}
use Rattle.clfs_manager.proofs.Words.{WrittenAfter, unflushed, IsManaged, IsOpen, IsStored, IsIntact, WritesDisk, Log, StandByBlocks, HaveByFile}
use Rattle.std.proofs.Common.{◌⊎◌}
use Rattle.clfs_base.specs.Layout.{slot_bytes}
use Rattle.clfs_model.specs.declared.refusal.Refusal.TheVariants as refusals
use Rattle.clfs_model.specs.declared.reply.Reply.TheVariants as replies
use Rattle.clfs_model.specs.Run.{fine_outcome}
use Rattle.clfs_physical.specs.Taking.{InTurn}
use Rattle.clfs_manager.specs.Crashes.{HoldSurvivor, HaveStored}
use Rattle.clfs_manager.proofs.ClosedPlace.{flush_is}
use Rattle.clfs_manager.proofs.FlushedLog.{done, stored_done}
use Rattle.clfs_manager.proofs.CopiedLog.{valid_holds}
use Rattle.clfs_manager.specs.CallLaws.{SurvivesAfter}
use Rattle.clfs_manager.proofs.FilesHold.{files_have}
use Rattle.clfs_manager.proofs.Intact.{intact_managed, made_of_whole, stores_whole, whole_of_stores}
use Rattle.clfs_manager.proofs.Joining.{leaves_then, leaves_weaker}
use Rattle.clfs_manager.proofs.ReadKeeps.{still}
use Rattle.clfs_manager.proofs.Settled.{honest_after}

-- what holds of an answer that is none of a fault
pub ok_is : {A E P : Type 0} (result : Result A E) → IsOk result → OnOk result P → P
ok_is {A} {E} (Ok value) fine is = is
ok_is {A} {E} (Err error) fine is = absurd (cc fine)

pub never_ok : {A E : Type 0} (result : Result A E) → is_err result ≡ true → IsOk result → ⊥
never_ok {A} {E} (Ok value) failed fine = cc failed
never_ok {A} {E} (Err error) failed fine = cc fine

-- files whose lengths aren't asked for
pub of_any_length : (whole : Bool) (newest : Newest) (blocks : Blocks) (files : Files) → Stores whole newest blocks files → Stores false newest blocks files
of_any_length whole newest blocks files stores =
    record { newest = stores.newest; holds = record { made = λ is. absurd (cc is); opens = stores.holds.opens } }

full_length : (whole : Bool) (newest : Newest) (blocks : Blocks) (files : Files) → Stores whole newest blocks files → whole ≡ true → AreWholeFiles files
full_length whole newest blocks files stores is = whole_of_stores newest blocks files (subst (λ (b : Bool). Stores b newest blocks files) is stores)

-- files that store a state hold it as a survivor
pub holds_survivor : StandByBlocks → HaveByFile → (whole : Bool) (asked : Request) (s u : State) (newest : Newest) (blocks : Blocks) (files : Files)
    → container_of (hold u) ≤ container_of (hold (cut u)) → Survives asked s (cut u) → IsStored u newest blocks → Stores whole newest blocks files
    → HoldSurvivor whole asked s files
holds_survivor stands by_file whole asked s u newest blocks files held survives stored stores =
    let has = files_have stands by_file u newest blocks files held stored (of_any_length whole newest blocks files stores) in
    record {
      survivor = cut u;
      survives = survives;
      opened = has.opened;
      stands = has.stands;
      same = has.same;
      full = full_length whole newest blocks files stores;
    }

-- what the files of an open log store, at full length where they are
pub stores_open : (disk : DiskState) (s : State) (log : Log) (whole : Bool) → (opened : IsOpen disk s log) → TellsContents disk
    → (whole ≡ true → AreWholeFiles disk.files) → Stores whole log.physical opened.blocks disk.files
stores_open disk s log true opened tells full =
    let stores = opened.files tells in
    stores_whole log.physical opened.blocks disk.files stores (made_of_whole log.physical disk.files stores.newest (full refl))
stores_open disk s log false opened tells full = opened.files tells

-- files that store a state hold it as a survivor
stored_survives : StandByBlocks → HaveByFile → (whole : Bool) (asked : Request) (s u : State) (files : Files)
    → container_of (hold u) ≤ container_of (hold (cut u)) → Survives asked s (cut u) → HaveStored whole u files → HoldSurvivor whole asked s files
stored_survives stands by_file whole asked s u files held survives has =
    holds_survivor stands by_file whole asked s u has.newest has.blocks files held survives has.stored has.stores

-- a call of an open log that stores another state, or what it stored
pub crash_stored : StandByBlocks → HaveByFile → (old new : DiskState) (a b : State) (log : Log) → IsOpen old a log → StoredMeanwhile old new a b log.physical
    → container_of (hold a) ≤ container_of (hold (cut a)) → container_of (hold b) ≤ container_of (hold (cut b))
    → (asked : Request) (s : State) → Survives asked s (cut a) → Survives asked s (cut b) → CrashLeavesSurvivor asked s old new
crash_stored stands by_file old new a b log opened meanwhile held_a held_b asked s survives_a survives_b = λ honest whole full.
    leaves_weaker (λ image. HaveStored whole a image ⊎ HaveStored whole b image) (HoldSurvivor whole asked s) old new
    (λ image either. ⊎_elim
    (λ (before : HaveStored whole a image). stored_survives stands by_file whole asked s a image held_a survives_a before)
    (λ (behind : HaveStored whole b image). stored_survives stands by_file whole asked s b image held_b survives_b behind)
    either)
    (meanwhile opened.blocks opened.stored (opened.settled honest) whole (stores_open old a log whole opened honest.0 full))

-- a call of an open log that leaves its copy and its blocks on the disk
pub crash_kept : StandByBlocks → HaveByFile → (old new : DiskState) (a : State) (log : Log) → IsOpen old a log → container_of (hold a) ≤ container_of (hold (cut a))
    → (IsSettled old → (whole : Bool) (blocks : Blocks) → Stores whole log.physical blocks old.files → Leaves (λ image. Stores whole log.physical blocks image) old new)
    → (asked : Request) (s : State) → Survives asked s (cut a) → CrashLeavesSurvivor asked s old new
crash_kept stands by_file old new a log opened held keeps asked s survives = λ honest whole full.
    leaves_weaker (λ image. Stores whole log.physical opened.blocks image) (HoldSurvivor whole asked s) old new
    (λ image stores. holds_survivor stands by_file whole asked s a log.physical opened.blocks image held survives opened.stored stores)
    (keeps (opened.settled honest) whole opened.blocks (stores_open old a log whole opened honest.0 full))

-- what one call on the disk leaves of two copies or groups of blocks, by the states that these store
pub meanwhile_of : (old new : DiskState) (a b : State) (before after : Newest) (blocks more : Blocks) (whole : Bool) → IsStored a before blocks → IsStored b after more
    → Leaves (λ image. Stores whole before blocks image ⊎ Stores whole after more image) old new
    → Leaves (λ image. HaveStored whole a image ⊎ HaveStored whole b image) old new
meanwhile_of old new a b before after blocks more whole stored_a stored_b leaves =
    leaves_weaker (λ image. Stores whole before blocks image ⊎ Stores whole after more image) (λ image. HaveStored whole a image ⊎ HaveStored whole b image) old new
    (λ image either. ⊎_elim
    (λ (is : Stores whole before blocks image). inl (record { newest = before; blocks = blocks; stored = stored_a; stores = is }))
    (λ (is : Stores whole after more image). inr (record { newest = after; blocks = more; stored = stored_b; stores = is }))
    either)
    leaves

-- one call after another
pub crash_then : (fault : Type 0) (asked : Request) (s : State) (a b d : DiskState) → (fault → ⊥) → WritesDisk fault a b
    → CrashLeavesSurvivor asked s a b → CrashLeavesSurvivor asked s b d → CrashLeavesSurvivor asked s a d
crash_then fault asked s a b d fine writes first second = λ honest whole full.
    leaves_then (HoldSurvivor whole asked s) a b d (first honest whole full)
    (second (honest_after a b writes.time.nature honest) whole (λ is. writes.whole fine honest.0 (full is)))

-- the same bytes store the same
same_stores : (whole : Bool) (newest : Newest) (blocks : Blocks) (old new : Files) → Unchanged old new → Stores whole newest blocks old → Stores whole newest blocks new
same_stores whole newest blocks old new same stores = record {
  newest = ap newest_of (same 0) ∙ stores.newest;
  holds = record {
    made = λ is.
        let made = stores.holds.made is in
        record {
          base = subst (λ (bytes : List ℕ). 2 * slot_bytes ≤ length bytes) (sym (same 0)) made.base;
          made = λ file from until. subst (λ (bytes : List ℕ). sector_bytes * newest.image.container_sectors ≤ length bytes) (sym (same file)) (made.made file from until);
        };
    opens = λ file lists. subst (λ (bytes : List ℕ). AreWhole newest.image.container_sectors bytes (blocks file)) (sym (same file)) (stores.holds.opens file lists);
  };
}

-- a call that changes no file
pub crash_read : StandByBlocks → HaveByFile → (old new : DiskState) (a : State) (log : Log) → IsOpen old a log
    → container_of (hold a) ≤ container_of (hold (cut a)) → Passes Unchanged old new
    → (asked : Request) (s : State) → Survives asked s (cut a) → CrashLeavesSurvivor asked s old new
crash_read stands by_file old new a log opened held time asked s survives = λ honest whole full.
    let stores = stores_open old a log whole opened honest.0 full in
    let settled = opened.settled honest in
    let hold_same : (image : Files) → Unchanged old.files image → HoldSurvivor whole asked s image = λ image same.
    holds_survivor stands by_file whole asked s a log.physical opened.blocks image held survives opened.stored
    (same_stores whole log.physical opened.blocks old.files image same stores) in
    record {
      later = time.later;
      past = time.past;
      each = λ moment image from until at. ⊎_elim
          (λ (after : old.clock < moment).
          let before = time.images moment image after until at in
          hold_same image (λ file. before.2 file ∙ settled.only before.0 before.1 file))
          (λ (early : moment ≤ old.clock).
          let now : moment ≡ old.clock = omega (arith, early, from) in
          hold_same image (settled.only image (subst (λ (m : ℕ). old.image_at m image) now (time.past moment image early at))))
          (cases_lt old.clock moment);
    }

-- no call at all
pub crash_nothing : StandByBlocks → HaveByFile → (disk : DiskState) (a : State) (log : Log) → IsOpen disk a log
    → container_of (hold a) ≤ container_of (hold (cut a))
    → (asked : Request) (s : State) → Survives asked s (cut a) → CrashLeavesSurvivor asked s disk disk
crash_nothing stands by_file disk a log opened held asked s survives = crash_read stands by_file disk disk a log opened held (still disk) asked s survives

-- nor any of an intact log
pub crash_still : StandByBlocks → HaveByFile → (disk : DiskState) (log : Log) → IsIntact disk log → (asked : Request) (s : State)
    → Survives asked s (cut log.state.value) → CrashLeavesSurvivor asked s disk disk
crash_still stands by_file disk log intact asked s survives =
    crash_nothing stands by_file disk log.state.value log intact.opened (valid_holds log.state.value intact.sound.valid) asked s survives

-- after one that was done
pub crash_after : {A : Type 0} (result : Result A Failed) (value : A) (asked : Request) (s : State) (a b d : DiskState) → result ≡ Ok value → WritesDisk (IsErr result) a b
    → CrashLeavesSurvivor asked s a b → CrashLeavesSurvivor asked s b d → CrashLeavesSurvivor asked s a d
crash_after {A} result value asked s a b d was writes first second =
    crash_then (IsErr result) asked s a b d (λ f. let wrong = subst (λ (r : Result A Failed). IsErr r) was f in cc wrong) writes first second

-- what survives, of a state known by another name
pub survives_as : (asked : Request) (s t u : State) → t ≡ u → Survives asked s (cut u) → Survives asked s (cut t)
survives_as asked s t u same survives = subst (λ (v : State). Survives asked s (cut v)) (sym same) survives

-- ---- a group

-- what a group that was written leaves
pub written_by_group : (written : Type 0) (old new : DiskState) (s : State) (before after : Newest) → written → after ≡ before → SendsGroup written old new s before
    → WrittenAfter old new s before after
written_by_group written old new s before after fine same sends = λ blocks stored.
    let to = sends blocks stored in
    (to.0, (to.1.0, λ tells whole stores. subst (λ (n : Newest). Stores whole n to.0 new.files) (sym same) (to.1.1.0 fine tells whole stores)))

-- the group of a log whose open block has just ended, by what is told of the answer
pub group_of_answer : (written told : Type 0) (old new : DiskState) (s t : State) (before after : Newest) → (told → written) → s ≡ t → before ≡ after
    → SendsGroup written old new s before → SendsGroup told old new t after
group_of_answer written told old new s t before after to same physical sends =
    subst (λ (n : Newest). SendsGroup told old new t n) physical (subst (λ (u : State). SendsGroup told old new u before) same (λ blocks stored.
    let all = sends blocks stored in (all.0, (all.1.0, (λ is. all.1.1.0 (to is), all.1.1.1)))))

-- a flush, of which no record moves a base, leaves the log of before or the flushed one
pub flushed_meanwhile : (written : Type 0) (old new : DiskState) (s : State) (before : Newest) → IsLaid s
    → before.image.first + length before.image.files ≡ s.place.container + 1 → 1 ≤ length before.image.files
    → ((blocks all : Blocks) (more : List (List ℕ)) (entries : List LogEntry) → HaveMore before.image more blocks all
    → stored_state before.image (map all before.image.files) (entries ++ unflushed s) s.buffers
    ≡ record (stored_state before.image (map blocks before.image.files) entries s.buffers) {
      records = entries ++ unflushed s;
      place = record (stored_place before.image (map blocks before.image.files)) { offset = total (blocks (file_at_end before.image)) + total more };
    })
    → SendsGroup written old new s before → StoredMeanwhile old new s (flush s) before
flushed_meanwhile written old new s before laid listed some law sends = λ blocks stored settled whole stores.
    let to = sends blocks stored in
    let all : Blocks = to.0 in
    let group : HasGroup s before.image blocks all stored.entries = to.1.0 in
    let is : IsStored (done s) before all = stored_done s before blocks all laid listed some stored group (law blocks all group.more stored.entries group.have) in
    meanwhile_of old new s (flush s) before before blocks all whole stored (subst (λ (t : State). IsStored t before all) (sym (flush_is s)) is)
    (to.1.1.1 settled whole stores)

-- ---- a call by name

-- the state that a call leaves which isn't refused, where nothing happens
fine_is : (s : State) (client : ℕ) (call : Call) → s.broken ≡ false → refusal s client call ≡ None
    → (fine_outcome s (asks client call)).state ≡ (answer s client call).state
unfolding fine_outcome
fine_is s client call whole none =
    let by_broken : Bool → State = λ b. (if b then outcome (replies.Refused refusals.Broken) s
    else option_map_or (λ first. outcome (replies.Refused first) s) (refusal s client call) (answer s client call)).state in
    let by_refusal : Option Refusal → State = λ o. (option_map_or (λ first. outcome (replies.Refused first) s) o (answer s client call)).state in
    ap by_broken whole ∙ ap by_refusal none

pub after_survives : SurvivesAfter → (s t : State) (client : ℕ) (call : Call) → IsValid s → IsStorable s → s.broken ≡ false → refusal s client call ≡ None
    → (answer s client call).state ≡ t → Survives (asks client call) s (cut t)
after_survives law s t client call valid storable whole none same =
    subst (λ (u : State). Survives (asks client call) s (cut u)) (fine_is s client call whole none ∙ same) (law s client call valid storable)

-- the disk as a contract sees it
pub crash_seen : {D : Type 0} (state : D → DiskState) (inside seen : State × D) → inside ≡ seen → (asked : Request) (new : DiskState)
    → CrashSurvives asked inside.0 (state inside.1) new → CrashSurvives asked seen.0 (state seen.1) new
crash_seen {D} state inside seen same asked new is = subst (λ (v : State × D). CrashSurvives asked v.0 (state v.1) new) same is

-- a manager that makes no call on the disk
pub crash_managed : StandByBlocks → HaveByFile → (disk : DiskState) (log : Log) → IsManaged disk log → (asked : Request)
    → Survives asked log.state.value (cut log.state.value) → CrashSurvives asked log.state.value disk disk
crash_managed stands by_file disk log managed asked survives = λ whole.
    crash_still stands by_file disk log (intact_managed disk log managed (sym managed.broken ∙ whole)) asked log.state.value survives

pub crash_broken : (asked : Request) (s : State) (old new : DiskState) → s.broken ≡ true → CrashSurvives asked s old new
crash_broken asked s old new broken = λ whole. absurd (cc (whole, broken))

-- ---- a further container

-- a turn leaves the log of before, without its low containers or with them, or the one that goes on in the further container
pub turned_meanwhile : (old new : DiskState) (s t : State) (now : Newest) (first file : ℕ) (blocks : Blocks) (whole : Bool) → IsStored s now blocks
    → IsStored s (low_of first now) blocks → IsStored t (taken_of file (low_of first now)) (with_blocks file [] blocks)
    → Leaves (InTurn whole now first file blocks) old new → Leaves (λ image. HaveStored whole s image ⊎ HaveStored whole t image) old new
turned_meanwhile old new s t now first file blocks whole before low taken leaves =
    leaves_weaker (InTurn whole now first file blocks) (λ image. HaveStored whole s image ⊎ HaveStored whole t image) old new
    (λ image one. ⊎_elim
    (λ (is : Stores whole now blocks image). inl (record { newest = now; blocks = blocks; stored = before; stores = is }))
    (λ (others : Stores whole (low_of first now) blocks image ⊎ Stores whole (taken_of file (low_of first now)) (with_blocks file [] blocks) image). ⊎_elim
    (λ (is : Stores whole (low_of first now) blocks image). inl (record { newest = low_of first now; blocks = blocks; stored = low; stores = is }))
    (λ (is : Stores whole (taken_of file (low_of first now)) (with_blocks file [] blocks) image).
    inr (record { newest = taken_of file (low_of first now); blocks = with_blocks file [] blocks; stored = taken; stores = is }))
    others)
    one)
    leaves

-- a manager whose call changes no file
pub crash_managed_reads : StandByBlocks → HaveByFile → (old new : DiskState) (log : Log) → IsManaged old log → (asked : Request)
    → (log.state.value.broken ≡ false → Survives asked log.state.value (cut log.state.value)) → Passes Unchanged old new → CrashSurvives asked log.state.value old new
crash_managed_reads stands by_file old new log managed asked survives time = λ whole.
    let s : State = log.state.value in
    let opened = managed.whole (sym managed.broken ∙ whole) in
    crash_read stands by_file old new s log opened (valid_holds s managed.valid) time asked s (survives whole)

-- a manager whose log is flushed
pub crash_flush : StandByBlocks → HaveByFile → (old new : DiskState) (log : Log) → IsManaged old log → log.broken ≡ false → IsValid (flush log.state.value)
    → StoredMeanwhile old new log.state.value (flush log.state.value) log.physical → (asked : Request)
    → Survives asked log.state.value (cut log.state.value) → Survives asked log.state.value (cut (flush log.state.value)) → CrashSurvives asked log.state.value old new
crash_flush stands by_file old new log managed unbroken valid meanwhile asked before after = λ whole.
    let s : State = log.state.value in
    crash_stored stands by_file old new s (flush s) log (managed.whole unbroken) meanwhile (valid_holds s managed.valid) (valid_holds (flush s) valid) asked s before after
