-- How archiving ends: by the archive and the move of the tail, by why there is no archive, or by why the log wasn't opened.
use Rattle.std.proofs.Common.{◌≡◌, ◌≢◌, ℕ, ◌≤◌, ◌⊎◌, true, false, List, [], ◌∷◌, ◌++◌, ◌+◌, take, length, append-nil, refl, sym, ap, subst, ◌∙◌, inl, inr, arith}
use Rattle.std.specs.Prelude.{Option, Some, None, IsTrue, Result, Ok, Err}
use Rattle.std.specs.Io.KnownBytes.{Appends}
use Rattle.std.proofs.Math.Seq.{take-append-add}
use Rattle.std.proofs.KnownBytes.{Appends-nil, Appends-trans}
use Rattle.clfs_ports.specs.Cause as ports
use Rattle.clfs_disk.specs.Files.{Files, Unchanged}
use Rattle.clfs_disk.specs.State.{DiskState, Nature, TellsContents, IsHonest, IsSettled, IsSteady, Later, Passes, Rises}
use Rattle.clfs_base.specs.declared.image.BaseImage.{BaseImage}
use Rattle.clfs_base.specs.declared.refusal.NewestRefusal.{NewestRefusal}
use Rattle.clfs_base.specs.Slots.{newest_of}
use Rattle.clfs_model.specs.declared.call.Call.TheVariants as calls
use Rattle.clfs_model.specs.declared.refusal.Refusal.TheVariants as log_refusals
use Rattle.clfs_model.specs.declared.state.State.{State}
use Rattle.clfs_model.specs.Flush.{cut, flushed, IsSame}
use Rattle.clfs_model.specs.Run.{asks}
use Rattle.clfs_recover.specs.Files.{StandsFor, FindsBehind, AreListed}
use Rattle.clfs_recover.specs.Stored.{HaveBlocks}
use Rattle.clfs_recover.specs.Telling.{TellsOpening}
use Rattle.clfs_recover.specs.Walk.{Container}
use Rattle.clfs_recover.specs.declared.parts.Parts.{Parts}
use Rattle.clfs_recover.specs.declared.refusal.LoadRefusal.{LoadRefusal}
use Rattle.clfs_recover.specs.declared.refusal.LoadRefusal.TheVariants as loading
use Rattle.clfs_manager.specs.Crashes.{CrashSurvives}
use Rattle.clfs_manager.specs.Reopening.{HoldsFlushed}
use Rattle.clfs_manager.specs.Written.{WritesDisk}
use Rattle.clfs_archive_form.specs.Form.{IsArchiveOf}
use Rattle.clfs_archive_form.specs.Drafting.{most_archive}
use Rattle.clfs_restore.specs.Archiving.{IsCause, IsJustLoaded, TellsDamage, all_archived}
use Rattle.clfs_restore.specs.declared.refusal.ArchiveRefusal.{ArchiveRefusal}
use Rattle.clfs_restore.specs.declared.refusal.ArchiveRefusal.TheVariants as refusals
use Rattle.clfs_lines.specs.Ends.{AppendsFront}
use Rattle.clfs_operations.specs.Archiving.{EndsArchive, IsLeftByMove, IsArchiveStatus, IsArchiveText, FailsToMove, IsUnarchived, HasLongArchive, NamesWrongByte, TakesArchive, TellsUnarchived, IsArchiveOutput, NothingFailsArchiving, IsArchivingDone, unarchived_line, unarchived_status}
use Rattle.clfs_operations.specs.Ends.{disk_fault_text}
use Rattle.clfs_operations.specs.Opened.{RefusesLog, IsRefusalText, IsNoLogText, TellsRefusal, refusal_line}
use Rattle.clfs_lines.specs.Answering.{Writes, WritesFront}
use Rattle.clfs_operations.specs.Loaded.{IsLoaded}
use Rattle.clfs_operations.specs.Txn.{IsOpenedLog}
use Rattle.clfs_operations.proofs.Loaded.{left_before}
use Rattle.clfs_operations.proofs.OnlyRead.{unchanged_later, whole_same}
use Rattle.clfs_operations.proofs.ServingEnds.{refused_statuses, fault_by, no_log_by, no_log_line, refusal_text}
use Rattle.clfs_operations.proofs.SoFar.{later_then, stands_still}
use Rattle.clfs_operations.proofs.Statuses.{one_of, not_in, own_status}
use Rattle.clfs_operations.proofs.Through.{AreOne, is_a_log}
use Rattle.clfs_operations.proofs.TxnEnds.{opened_log, tells_later, honest_later}

-- ---- files that hold what they held

listed_same : (sectors : ℕ) (old mid : Files) (numbers : List ℕ) (listed : List Container) → Unchanged old mid → AreListed sectors old numbers listed
    → AreListed sectors mid numbers listed
listed_same sectors old mid [] [] same are = tt
listed_same sectors old mid [] (container ∷ containers) same are = absurd are
listed_same sectors old mid (number ∷ numbers) [] same are = absurd are
listed_same sectors old mid (number ∷ numbers) (container ∷ containers) same are =
    (are.0 ∙ sym (same number), are.1, listed_same sectors old mid numbers containers same are.2)

finds_same : (old mid : Files) (found : Result Parts LoadRefusal) (newest : Result (ℕ × BaseImage) NewestRefusal) → Unchanged old mid
    → FindsBehind old found newest → FindsBehind mid found newest
finds_same old mid found (Err refusal) same is = is
finds_same old mid found (Ok (slot, image)) same is = (is.0, listed_same image.container_sectors old mid image.files is.0 same is.1, is.2)

stands_same : (old mid : Files) (s : State) → Unchanged old mid → StandsFor old s → StandsFor mid s
stands_same old mid s same stands = record {
  parts = stands.parts;
  found = subst (FindsBehind mid (Ok stands.parts)) (ap newest_of (sym (same 0))) (finds_same old mid (Ok stands.parts) (newest_of (old 0)) same stands.found);
  is = stands.is;
}

have_same : (sectors : ℕ) (old mid : Files) (numbers : List ℕ) (blocks : List (List (List ℕ))) → Unchanged old mid → HaveBlocks sectors mid numbers blocks
    → HaveBlocks sectors old numbers blocks
have_same sectors old mid [] [] same are = tt
have_same sectors old mid [] (here ∷ others) same are = absurd are
have_same sectors old mid (number ∷ numbers) [] same are = absurd are
have_same sectors old mid (number ∷ numbers) (here ∷ others) same are =
    let whole = are.0 in (rw (same number) at whole, have_same sectors old mid numbers others same are.1)

archive_same : (old mid : Files) (bytes : List ℕ) → Unchanged old mid → IsArchiveOf mid bytes → IsArchiveOf old bytes
archive_same old mid bytes same archive = record {
  slot = archive.slot;
  image = archive.image;
  blocks = archive.blocks;
  log = record {
    newest = ap newest_of (sym (same 0)) ∙ archive.log.newest;
    containers = have_same archive.image.container_sectors old mid archive.image.files archive.blocks same archive.log.containers;
  };
  archiving = archive.archiving;
  is = archive.is;
}

-- ---- what archiving that is off says

-- no archive is written
pub not_off : {A : Type 0} (result : Result A ArchiveRefusal) → (result ≡ Err (refusals.Log log_refusals.Ephemeral)) ⊎ (result ≡ Err refusals.NoMemory)
    → (value : A) → result ≡ Ok value → ⊥
not_off result (inl e) value is = let never = sym e ∙ is in cc never
not_off result (inr e) value is = let never = sym e ∙ is in cc never

-- nor is one too long
pub not_long : {A : Type 0} (result : Result A ArchiveRefusal) → (result ≡ Err (refusals.Log log_refusals.Ephemeral)) ⊎ (result ≡ Err refusals.NoMemory)
    → (cause : ArchiveRefusal) → result ≡ Err cause → (bytes : ℕ) → cause ≡ refusals.TooLong bytes → ⊥
not_long result (inl e) cause is bytes long = let never = sym e ∙ is ∙ ap Err long in cc never
not_long result (inr e) cause is bytes long = let never = sym e ∙ is ∙ ap Err long in cc never

-- ---- a log that was opened

-- it was just loaded
pub just_loaded : (old mid : DiskState) (first : State) → IsLoaded 4 old mid first → IsJustLoaded mid first
just_loaded old mid first loaded = record {
  unbroken = sym (ap (λ (s : State). s.broken) loaded.stable);
  no_areas = sym (ap (λ (s : State). s.areas) loaded.stable);
  nothing_waits = sym (ap (λ (s : State). s.waiting) loaded.stable);
  nothing_open = sym (ap (λ (s : State). s.place.records) loaded.stable);
  stands = λ told. stands_same old.files mid.files first loaded.same (loaded.stands (tells_later mid old (sym loaded.time.nature) told));
}

-- its archive was put together
pub archive_text : (old mid : DiskState) (first : State) (before bytes : List ℕ) → before ≡ [] → IsLoaded 4 old mid first → first.archive ≢ None
    → (TellsContents mid → (archive : List ℕ) × IsArchiveOf mid.files archive × (length archive ≤ most_archive) × (bytes ≡ before ++ archive))
    → ((archive : List ℕ) × (length archive ≤ most_archive) × (bytes ≡ before ++ archive)) → IsArchiveText old first bytes
archive_text old mid first before bytes empty loaded on is appended = record {
  opened = opened_log old mid first loaded;
  on = on;
  is = λ told. let found = is (tells_later old mid loaded.time.nature told) in
      archive_same old.files mid.files bytes loaded.same (subst (IsArchiveOf mid.files) (sym (alone found.0 found.3)) found.1);
  few = subst (λ (b : List ℕ). length b ≤ most_archive) (sym (alone appended.0 appended.2)) appended.1;
}
  where
    alone : (archive : List ℕ) → bytes ≡ before ++ archive → bytes ≡ archive
    alone archive whole = whole ∙ ap (λ (b : List ℕ). b ++ archive) empty

-- ---- the words weren't read

-- memory ran out before
pub archive_ran_out : (disk : DiskState) (written : Option (List ℕ)) (sink : ℕ) → EndsArchive 5 disk disk written written sink sink
archive_ran_out disk written sink = record {
  statuses = inr (inr (inr (inl refl)));
  done = λ e. absurd (omega (arith, e));
  kept = inl (λ file. refl);
  sink_fault = λ e. absurd (omega (arith, e));
  sink_fault_front = λ e. absurd (omega (arith, e));
  disk_fault = λ e. absurd (omega (arith, e));
  no_memory = λ e. (λ file. refl, Appends-nil written);
  no_log = λ e. absurd (omega (arith, e));
  wrong_byte = λ e. absurd (omega (arith, e));
  off = λ e. absurd (omega (arith, e));
  too_long = λ e. absurd (omega (arith, e));
  crash = λ honest. inl (record {
    later = omega arith;
    past = λ moment image le at. at;
    kept = λ moment image le at. at;
    images = λ moment image after until at. absurd (omega (arith, after, until));
    faults = omega arith;
    nature = refl;
  });
  time = stands_still disk;
  sink_count = omega arith;
}

-- ---- the log wasn't opened

pub log_refusal_ends : (status : ℕ) (refusal : LoadRefusal) (old new : DiskState) (written written' : Option (List ℕ)) (sink sink' : ℕ)
    → RefusesLog refusal old new → TellsOpening refusal → TellsRefusal status refusal written written' sink sink'
    → EndsArchive status old new written written' sink sink'
log_refusal_ends status refusal old new written written' sink sink' refuses opening tells = record {
  statuses = archive_status statuses;
  done = λ e. absurd (none 0 e refl);
  kept = inl refuses.same;
  sink_fault = tells.sink_fault;
  sink_fault_front = λ e. let front = tells.sink_fault_front e in inl (refusal_line refusal, refusal_text refusal old new refuses front.0, front.1);
  disk_fault = λ e.
      let line = tells.line (λ f. omega (arith, e, f)) (λ f. omega (arith, e, f)) in
      let by = fault_by status refusal tells.statuses e in
      inl (subst (λ (r : LoadRefusal). RefusesLog r old new) by refuses, rw by at line);
  no_memory = λ e. (refuses.same, tells.no_memory_silence e);
  no_log = λ e.
      let is = no_log_by status refusal tells.statuses e in
      let line = tells.line (λ f. omega (arith, e, f)) (λ f. omega (arith, e, f)) in
      (refusal_line refusal, record { refusal = refusal; no_log = is; refuses = refuses; line = no_log_line refusal is }, line);
  wrong_byte = λ e.
      let is = no_log_by status refusal tells.statuses e in
      let line = tells.line (λ f. omega (arith, e, f)) (λ f. omega (arith, e, f)) in
      (refusal_line refusal, record { refusal = refusal; line = no_log_line refusal is; told = inl opening }, line);
  off = λ e. absurd (none 11 e refl);
  too_long = λ e. absurd (none 15 e refl);
  crash = λ honest. inl refuses.time;
  time = unchanged_later old new refuses.time;
  sink_count = tells.sink_count;
}
  where
    statuses : (status ≡ 4) ⊎ ((status ≡ 6) ⊎ ((status ≡ 3) ⊎ (status ≡ 5)))
    statuses = refused_statuses status refusal tells.statuses

    archive_status : (status ≡ 4) ⊎ ((status ≡ 6) ⊎ ((status ≡ 3) ⊎ (status ≡ 5))) → IsArchiveStatus status
    archive_status (inl e) = inr (inr (inl e))
    archive_status (inr (inl e)) = inr (inr (inr (inr (inl e))))
    archive_status (inr (inr (inl e))) = inr (inl e)
    archive_status (inr (inr (inr e))) = inr (inr (inr (inl e)))

    among : (status ≡ 4) ⊎ ((status ≡ 6) ⊎ ((status ≡ 3) ⊎ (status ≡ 5))) → one_of (4 ∷ 6 ∷ 3 ∷ 5 ∷ []) status ≡ true
    among (inl e) = ap (one_of (4 ∷ 6 ∷ 3 ∷ 5 ∷ [])) e
    among (inr (inl e)) = ap (one_of (4 ∷ 6 ∷ 3 ∷ 5 ∷ [])) e
    among (inr (inr (inl e))) = ap (one_of (4 ∷ 6 ∷ 3 ∷ 5 ∷ [])) e
    among (inr (inr (inr e))) = ap (one_of (4 ∷ 6 ∷ 3 ∷ 5 ∷ [])) e

    none : (k : ℕ) → status ≡ k → one_of (4 ∷ 6 ∷ 3 ∷ 5 ∷ []) k ≡ false → ⊥
    none k = not_in (4 ∷ 6 ∷ 3 ∷ 5 ∷ []) status k (among statuses)

-- ---- there is no archive

module _ (cause : ArchiveRefusal) (old mid new : DiskState) (first : State) (loaded : IsLoaded 4 old mid first) (is : IsCause mid first cause)
    (place : TellsDamage cause) (on : (bytes : ℕ) → cause ≡ refusals.TooLong bytes → first.archive ≢ None) (same : Unchanged old.files new.files) (time : Passes Unchanged old new)
    (rose : cause ≡ refusals.Log log_refusals.DiskFault → Rises old.faults new.faults)
    (steady : IsSteady old → cause ≡ refusals.Log log_refusals.DiskFault → ⊥) where
  tells : TellsContents old → TellsContents mid
  tells = tells_later old mid loaded.time.nature

  -- the disk failed
  pub failed : cause ≡ refusals.Log log_refusals.DiskFault → RefusesLog loading.DiskFault old new
  failed e = record { is = λ told. tt; cause = λ f. rose e; steady = λ still f. steady still e; same = same; time = time }

  -- there is damage, of a disk that doesn't tell what its files hold
  pub damaged : (container offset at : ℕ) → cause ≡ refusals.Log (log_refusals.Damaged container offset at) → RefusesLog (loading.Damaged container offset at) old new
  damaged container offset at e = record {
    is = λ told. let never = subst (IsCause mid first) e is in absurd (never (tells told));
    cause = λ f. absurd (cc f);
    steady = λ still f. cc f;
    same = same;
    time = time;
  }

  -- archiving is off
  pub was_off : cause ≡ refusals.Log log_refusals.Ephemeral → IsUnarchived old
  was_off e = record { first = first; opened = opened_log old mid first loaded; off = subst (IsCause mid first) e is }

  -- the archive is too long
  pub was_long : (bytes : ℕ) → cause ≡ refusals.TooLong bytes → HasLongArchive old
  was_long bytes e =
      let why = subst (IsCause mid first) e is in record {
        first = first;
        opened = opened_log old mid first loaded;
        on = on bytes e;
        long = λ told.
            let found = why.1 (tells told) in
            (found.0, archive_same old.files mid.files found.0 loaded.same found.1, omega (arith, why.0, found.2));
      }

  module _ (status : ℕ) (written written' : Option (List ℕ)) (sink sink' : ℕ) (told : TellsUnarchived status cause written written' sink sink') where
    -- the status is the cause's
    own : (k : ℕ) → status ≡ k → one_of (3 ∷ 5 ∷ []) k ≡ false → unarchived_status cause ≡ k
    own k = own_status status (unarchived_status cause) k told.statuses

    said : (k : ℕ) → status ≡ k → one_of (3 ∷ 5 ∷ []) k ≡ false → Appends written written' (unarchived_line cause)
    said k e out = told.line (λ f. not_in (3 ∷ 5 ∷ []) 3 k refl (sym f ∙ e) out) (λ f. not_in (3 ∷ 5 ∷ []) 5 k refl (sym f ∙ e) out)

    -- the cause by its status
    is_fault : (given : ArchiveRefusal) → cause ≡ given → unarchived_status given ≡ 4 → cause ≡ refusals.Log log_refusals.DiskFault
    is_fault (refusals.Log log_refusals.DiskFault) e by = e
    is_fault (refusals.Log log_refusals.Ephemeral) e by = absurd (omega (arith, by))
    is_fault (refusals.Log (log_refusals.Damaged container offset at)) e by = absurd (omega (arith, by))
    is_fault (refusals.Log _) e by = absurd (subst (IsCause mid first) e is)
    is_fault (refusals.TooLong bytes) e by = absurd (omega (arith, by))
    is_fault refusals.NoMemory e by = absurd (omega (arith, by))

    is_off : (given : ArchiveRefusal) → cause ≡ given → unarchived_status given ≡ 11 → cause ≡ refusals.Log log_refusals.Ephemeral
    is_off (refusals.Log log_refusals.DiskFault) e by = absurd (omega (arith, by))
    is_off (refusals.Log log_refusals.Ephemeral) e by = e
    is_off (refusals.Log (log_refusals.Damaged container offset at)) e by = absurd (omega (arith, by))
    is_off (refusals.Log _) e by = absurd (subst (IsCause mid first) e is)
    is_off (refusals.TooLong bytes) e by = absurd (omega (arith, by))
    is_off refusals.NoMemory e by = absurd (omega (arith, by))

    is_long : (given : ArchiveRefusal) → cause ≡ given → unarchived_status given ≡ 15 → (bytes : ℕ) × (cause ≡ refusals.TooLong bytes)
    is_long (refusals.Log log_refusals.DiskFault) e by = absurd (omega (arith, by))
    is_long (refusals.Log log_refusals.Ephemeral) e by = absurd (omega (arith, by))
    is_long (refusals.Log (log_refusals.Damaged container offset at)) e by = absurd (omega (arith, by))
    is_long (refusals.Log _) e by = absurd (subst (IsCause mid first) e is)
    is_long (refusals.TooLong bytes) e by = (bytes, e)
    is_long refusals.NoMemory e by = absurd (omega (arith, by))

    no_log_by_cause : status ≡ 6 → (given : ArchiveRefusal) → cause ≡ given → unarchived_status given ≡ 6 → Writes (IsNoLogText old new) written written'
    no_log_by_cause six (refusals.Log log_refusals.DiskFault) e by = absurd (omega (arith, by))
    no_log_by_cause six (refusals.Log log_refusals.Ephemeral) e by = absurd (omega (arith, by))
    no_log_by_cause six (refusals.Log (log_refusals.Damaged container offset at)) e by = (
      unarchived_line (refusals.Log (log_refusals.Damaged container offset at)),
      record { refusal = loading.Damaged container offset at; no_log = tt; refuses = damaged container offset at e; line = refl },
      subst (λ (c : ArchiveRefusal). Appends written written' (unarchived_line c)) e (said 6 six refl),
    )
    no_log_by_cause six (refusals.Log _) e by = absurd (subst (IsCause mid first) e is)
    no_log_by_cause six (refusals.TooLong bytes) e by = absurd (omega (arith, by))
    no_log_by_cause six refusals.NoMemory e by = absurd (omega (arith, by))

    wrong_by_cause : status ≡ 6 → (given : ArchiveRefusal) → cause ≡ given → unarchived_status given ≡ 6 → Writes NamesWrongByte written written'
    wrong_by_cause six (refusals.Log log_refusals.DiskFault) e by = absurd (omega (arith, by))
    wrong_by_cause six (refusals.Log log_refusals.Ephemeral) e by = absurd (omega (arith, by))
    wrong_by_cause six (refusals.Log (log_refusals.Damaged container offset at)) e by = (
      unarchived_line (refusals.Log (log_refusals.Damaged container offset at)),
      record { refusal = loading.Damaged container offset at; line = refl; told = inr (subst TellsDamage e place) },
      subst (λ (c : ArchiveRefusal). Appends written written' (unarchived_line c)) e (said 6 six refl),
    )
    wrong_by_cause six (refusals.Log _) e by = absurd (subst (IsCause mid first) e is)
    wrong_by_cause six (refusals.TooLong bytes) e by = absurd (omega (arith, by))
    wrong_by_cause six refusals.NoMemory e by = absurd (omega (arith, by))

    -- a front of the line that says why
    front_by_cause : (given : ArchiveRefusal) → cause ≡ given → (given ≡ refusals.NoMemory → ⊥) → AppendsFront written written' (unarchived_line given)
        → WritesFront (IsRefusalText old new) written written' ⊎ WritesFront (IsArchiveOutput old new) written written'
    front_by_cause (refusals.Log log_refusals.DiskFault) e other front = inl (disk_fault_text, inr (failed e, refl), front)
    front_by_cause (refusals.Log log_refusals.Ephemeral) e other front =
        inr (unarchived_line (refusals.Log log_refusals.Ephemeral), inr (inr (inl (was_off e, refl))), front)
    front_by_cause (refusals.Log (log_refusals.Damaged container offset at)) e other front = inl (
      unarchived_line (refusals.Log (log_refusals.Damaged container offset at)),
      inl (record { refusal = loading.Damaged container offset at; no_log = tt; refuses = damaged container offset at e; line = refl }),
      front,
    )
    front_by_cause (refusals.Log _) e other front = absurd (subst (IsCause mid first) e is)
    front_by_cause (refusals.TooLong bytes) e other front =
        inr (unarchived_line (refusals.TooLong bytes), inr (inr (inr (was_long bytes e, refl))), front)
    front_by_cause refusals.NoMemory e other front = absurd (other refl)

    statuses_by : (given : ArchiveRefusal) → cause ≡ given → (status ≡ unarchived_status given) ⊎ ((status ≡ 3) ⊎ (status ≡ 5))
        → IsArchiveStatus status × (one_of (3 ∷ 4 ∷ 5 ∷ 6 ∷ 11 ∷ 15 ∷ []) status ≡ true)
    statuses_by given e (inr (inl f)) = (inr (inl f), ap (one_of (3 ∷ 4 ∷ 5 ∷ 6 ∷ 11 ∷ 15 ∷ [])) f)
    statuses_by given e (inr (inr f)) = (inr (inr (inr (inl f))), ap (one_of (3 ∷ 4 ∷ 5 ∷ 6 ∷ 11 ∷ 15 ∷ [])) f)
    statuses_by (refusals.Log log_refusals.DiskFault) e (inl f) = (inr (inr (inl f)), ap (one_of (3 ∷ 4 ∷ 5 ∷ 6 ∷ 11 ∷ 15 ∷ [])) f)
    statuses_by (refusals.Log log_refusals.Ephemeral) e (inl f) =
        (inr (inr (inr (inr (inr (inl f))))), ap (one_of (3 ∷ 4 ∷ 5 ∷ 6 ∷ 11 ∷ 15 ∷ [])) f)
    statuses_by (refusals.Log (log_refusals.Damaged container offset at)) e (inl f) =
        (inr (inr (inr (inr (inl f)))), ap (one_of (3 ∷ 4 ∷ 5 ∷ 6 ∷ 11 ∷ 15 ∷ [])) f)
    statuses_by (refusals.Log _) e (inl f) = absurd (subst (IsCause mid first) e is)
    statuses_by (refusals.TooLong bytes) e (inl f) = (inr (inr (inr (inr (inr (inr f))))), ap (one_of (3 ∷ 4 ∷ 5 ∷ 6 ∷ 11 ∷ 15 ∷ [])) f)
    statuses_by refusals.NoMemory e (inl f) = (inr (inr (inr (inl f))), ap (one_of (3 ∷ 4 ∷ 5 ∷ 6 ∷ 11 ∷ 15 ∷ [])) f)

    pub unarchived_ends : EndsArchive status old new written written' sink sink'
    unarchived_ends = record {
      statuses = (statuses_by cause refl told.statuses).0;
      done = λ e. absurd (not_in (3 ∷ 4 ∷ 5 ∷ 6 ∷ 11 ∷ 15 ∷ []) status 0 (statuses_by cause refl told.statuses).1 e refl);
      kept = inl same;
      sink_fault = told.sink_fault;
      sink_fault_front = λ e. let front = told.sink_fault_front e in front_by_cause cause refl front.0 front.1;
      disk_fault = λ e. let by = is_fault cause refl (own 4 e refl) in
          inl (failed by, subst (λ (c : ArchiveRefusal). Appends written written' (unarchived_line c)) by (said 4 e refl));
      no_memory = λ e. (same, told.no_memory_silence e);
      no_log = λ e. no_log_by_cause e cause refl (own 6 e refl);
      wrong_byte = λ e. wrong_by_cause e cause refl (own 6 e refl);
      off = λ e. let by = is_off cause refl (own 11 e refl) in
          (was_off by, subst (λ (c : ArchiveRefusal). Appends written written' (unarchived_line c)) by (said 11 e refl));
      too_long = λ e. let by = is_long cause refl (own 15 e refl) in
          (was_long by.0 by.1, subst (λ (c : ArchiveRefusal). Appends written written' (unarchived_line c)) by.1 (said 15 e refl));
      crash = λ honest. inl time;
      time = unchanged_later old new time;
      sink_count = told.sink_count;
    }

-- ---- the archive was put together

-- the sink failed in it
pub cut_ends : (old new : DiskState) (first : State) (bytes : List ℕ) (written written' : Option (List ℕ)) (sink sink' : ℕ) → IsArchiveText old first bytes
    → Unchanged old.files new.files → Passes Unchanged old new → AppendsFront written written' bytes → ports.Rises sink sink' → sink ≤ sink'
    → EndsArchive 3 old new written written' sink sink'
cut_ends old new first bytes written written' sink sink' archive same time front rose later = record {
  statuses = inr (inl refl);
  done = λ e. absurd (omega (arith, e));
  kept = inl same;
  sink_fault = λ e. rose;
  sink_fault_front = λ e. inr (bytes, inl (first, archive), front);
  disk_fault = λ e. absurd (omega (arith, e));
  no_memory = λ e. absurd (omega (arith, e));
  no_log = λ e. absurd (omega (arith, e));
  wrong_byte = λ e. absurd (omega (arith, e));
  off = λ e. absurd (omega (arith, e));
  too_long = λ e. absurd (omega (arith, e));
  crash = λ honest. inl time;
  time = unchanged_later old new time;
  sink_count = later;
}

-- what a crash leaves while the tail moves
moving_left : (old reads new : DiskState) (first : State) → IsOpenedLog old first → Unchanged old.files reads.files → Passes Unchanged old reads → Later reads new
    → CrashSurvives (asks 1 (calls.SetArchiveTail (flushed first))) first reads new → IsHonest old → IsLeftByMove old new
moving_left old reads new first opened same time move survives honest = record {
  first = first;
  opened = opened;
  from = reads.clock;
  later = time.later;
  before = λ moment image after until is. left_before old reads time moment image after until (move.past moment image (omega (arith, until)) is);
  moving = λ whole full. (survives opened.begins (honest_later old reads time.nature honest) whole (λ e. whole_same old.files reads.files same (full e))).each;
}

-- all of it was taken, and the tail moved
pub moved_ends : (old mid reads new : DiskState) (first last : State) (bytes : List ℕ) (written written' : Option (List ℕ)) (sink sink' : ℕ)
    → IsArchiveText old first bytes → IsLoaded 4 old mid first → Unchanged old.files reads.files → Passes Unchanged old reads → last ≡ all_archived first
    → (last.broken ≡ false → TellsContents new → HoldsFlushed new.files last) → (last.broken ≡ false → IsHonest new → IsSettled new) → WritesDisk ⊥ reads new
    → CrashSurvives (asks 1 (calls.SetArchiveTail (flushed first))) first reads new → Appends written written' bytes → sink ≤ sink' → EndsArchive 0 old new written written' sink sink'
moved_ends old mid reads new first last bytes written written' sink sink' archive loaded same time is files settled writes survives taken later = record {
  statuses = inl refl;
  done = λ e. (
    bytes,
    record {
      first = first;
      archive = archive;
      files = λ told. let held = files fine (tells_later old new later_all.nature told) in
          (held.opened, held.stands, subst (λ (s : State). IsSame s held.opened) cut_is held.same);
      settled = λ honest. settled fine (honest_later old new later_all.nature honest);
      whole = λ told are. writes.whole (λ none. none) (tells_later old reads time.nature told) (whole_same old.files reads.files same are);
    },
    taken,
  );
  kept = inr taken_all;
  sink_fault = λ e. absurd (omega (arith, e));
  sink_fault_front = λ e. absurd (omega (arith, e));
  disk_fault = λ e. absurd (omega (arith, e));
  no_memory = λ e. absurd (omega (arith, e));
  no_log = λ e. absurd (omega (arith, e));
  wrong_byte = λ e. absurd (omega (arith, e));
  off = λ e. absurd (omega (arith, e));
  too_long = λ e. absurd (omega (arith, e));
  crash = λ honest. inr (taken_all, moving_left old reads new first archive.opened same time writes.time survives honest);
  time = later_all;
  sink_count = later;
}
  where
    taken_all : TakesArchive old written written'
    taken_all = record { first = first; bytes = bytes; archive = archive; rest = []; taken = subst (Appends written written') (sym (append-nil bytes)) taken }

    later_all : Later old new
    later_all = later_then old reads new (unchanged_later old reads time) writes.time

    fine : last.broken ≡ false
    fine = ap (λ (s : State). s.broken) is ∙ sym (ap (λ (s : State). s.broken) loaded.stable)

    -- all of the log is on the disk
    cut_is : cut last ≡ all_archived first
    cut_is = ap cut is ∙ ap (λ (s : State). record s { archive = Some (flushed first) }) loaded.stable

-- all of it was taken, and the disk failed where the tail moves; the line that says so was written, or the sink failed in it
pub unmoved_ends : (status : ℕ) (old reads new : DiskState) (first : State) (bytes : List ℕ) (written mid written' : Option (List ℕ)) (sink between sink' : ℕ)
    → IsArchiveText old first bytes → Unchanged old.files reads.files → Passes Unchanged old reads → WritesDisk (Unit {0}) reads new
    → CrashSurvives (asks 1 (calls.SetArchiveTail (flushed first))) first reads new → Appends written mid bytes → sink ≤ between → (status ≡ 4) ⊎ (status ≡ 3) → (status ≡ 4 → Appends mid written' disk_fault_text)
    → (status ≡ 3 → AppendsFront mid written' disk_fault_text) → (status ≡ 3 → ports.Rises between sink') → between ≤ sink'
    → EndsArchive status old new written written' sink sink'
unmoved_ends status old reads new first bytes written mid written' sink between sink' archive same time writes survives taken before ends line front rose later = record {
  statuses = statuses ends;
  done = λ e. absurd (none 0 e refl);
  kept = inr kept_by;
  sink_fault = λ e. let up = rose e in omega (arith, before, up);
  sink_fault_front = λ e. let part = front e in inr (bytes ++ disk_fault_text, inr (inl fails), front_then part);
  disk_fault = λ e. inr (bytes ++ disk_fault_text, fails, Appends-trans written mid written' bytes disk_fault_text taken (line e));
  no_memory = λ e. absurd (none 5 e refl);
  no_log = λ e. absurd (none 6 e refl);
  wrong_byte = λ e. absurd (none 6 e refl);
  off = λ e. absurd (none 11 e refl);
  too_long = λ e. absurd (none 15 e refl);
  crash = λ honest. inr (kept_by, moving_left old reads new first archive.opened same time writes.time survives honest);
  time = later_then old reads new (unchanged_later old reads time) writes.time;
  sink_count = omega (arith, before, later);
}
  where
    statuses : (status ≡ 4) ⊎ (status ≡ 3) → IsArchiveStatus status
    statuses (inl e) = inr (inr (inl e))
    statuses (inr e) = inr (inl e)

    among : (status ≡ 4) ⊎ (status ≡ 3) → one_of (4 ∷ 3 ∷ []) status ≡ true
    among (inl e) = ap (one_of (4 ∷ 3 ∷ [])) e
    among (inr e) = ap (one_of (4 ∷ 3 ∷ [])) e

    none : (k : ℕ) → status ≡ k → one_of (4 ∷ 3 ∷ []) k ≡ false → ⊥
    none k = not_in (4 ∷ 3 ∷ []) status k (among ends)

    fails : FailsToMove old new (bytes ++ disk_fault_text)
    fails = record {
      first = first;
      bytes = bytes;
      archive = archive;
      cause = let up = writes.cause tt in omega (arith, up, time.faults);
      steady = λ steady told are.
          (writes.steady (subst (λ (n : Nature). IsTrue n.steady) (sym time.nature) steady) (tells_later old reads time.nature told)
          (whole_same old.files reads.files same are)).0 tt;
      line = refl;
    }

    front_then : AppendsFront mid written' disk_fault_text → AppendsFront written written' (bytes ++ disk_fault_text)
    front_then part = record {
      count = length bytes + part.count;
      front = subst (Appends written written') (sym (take-append-add bytes disk_fault_text part.count))
          (Appends-trans written mid written' bytes (take part.count disk_fault_text) taken part.front);
    }

    kept_by : TakesArchive old written written'
    kept_by = record {
      first = first;
      bytes = bytes;
      archive = archive;
      rest = (rest_of ends).0;
      taken = Appends-trans written mid written' bytes (rest_of ends).0 taken (rest_of ends).1;
    }
      where
        rest_of : (status ≡ 4) ⊎ (status ≡ 3) → (rest : List ℕ) × Appends mid written' rest
        rest_of (inl e) = (disk_fault_text, line e)
        rest_of (inr e) = let part = front e in (take part.count disk_fault_text, part.front)

-- ---- where nothing outside fails

pub archiving_is_done : AreOne → (status : ℕ) (old new : DiskState) (written written' : Option (List ℕ)) (sink sink' : ℕ)
    → EndsArchive status old new written written' sink sink' → NothingFailsArchiving old new sink sink' → IsArchivingDone status
archiving_is_done one status old new written written' sink sink' ends calm = by_status ends.statuses
  where
    no_fault : RefusesLog loading.DiskFault old new → ⊥
    no_fault refuses = elim calm.disk [
      | inl still ↦ still (refuses.cause refl)
      | inr steady ↦ refuses.steady steady.0 refl
    ]

    no_failed_move : (text : List ℕ) → FailsToMove old new text → ⊥
    no_failed_move text fails = elim calm.disk [
      | inl still ↦ still fails.cause
      | inr steady ↦ fails.steady steady.0 calm.log.told steady.1
    ]

    by_fault : (RefusesLog loading.DiskFault old new × Appends written written' disk_fault_text) ⊎ Writes (FailsToMove old new) written written' → ⊥
    by_fault (inl refuses) = no_fault refuses.0
    by_fault (inr fails) = no_failed_move fails.0 fails.1

    by_status : IsArchiveStatus status → IsArchivingDone status
    by_status (inl e) = inl (inl e)
    by_status (inr (inl e)) = absurd (calm.sink_calm (ends.sink_fault e))
    by_status (inr (inr (inl e))) = absurd (by_fault (ends.disk_fault e))
    by_status (inr (inr (inr (inl e)))) = inl (inr e)
    by_status (inr (inr (inr (inr (inl e))))) =
        absurd (let found = ends.no_log e in is_a_log one found.1.refusal old new calm.log found.1.no_log found.1.refuses)
    by_status (inr (inr (inr (inr (inr (inl e)))))) = inr (inl e)
    by_status (inr (inr (inr (inr (inr (inr e)))))) = inr (inr e)
