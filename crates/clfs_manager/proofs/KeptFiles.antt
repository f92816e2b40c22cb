-- What stays of the newest copy, and of the files that it counts, from one small change to the next, and what a call leaves of them in the end.
use Rattle.clfs_manager.proofs.Words.{◌≡◌, ℕ, ◌*◌, ◌<◌, ◌≤◌, inl, inr, refl, sym, ap, subst, ◌∙◌, false, length, arith, Ok, Err, IsErrOf, sector_bytes, Unchanged}
use Rattle.clfs_manager.proofs.Words.{DiskState, TellsContents, newest_of, BaseImage, State, Change, next_copy, Newest, IsOpen, IsManaged, Log}
use Rattle.clfs_physical.specs.Joined.{SameLengths}
use Rattle.clfs_physical.specs.declared.change.Change.TheVariants as changes
use Rattle.clfs_physical.specs.declared.refusal.PhysicalRefusal.TheVariants as physical
use Rattle.clfs_manager.specs.Copying.{StaysOrIsCurrent, KeepsFiles, CountsFiles}
use Rattle.clfs_manager.specs.Written.{IsCurrent, LeavesCopy}
use Rattle.clfs_manager.proofs.Intact.{of_ok}
use Rattle.clfs_manager.proofs.ReadKeeps.{tells_before}

-- ---- small changes

-- nothing was written
pub files_kept : (disk : DiskState) (newest : Newest) → KeepsFiles disk disk newest newest
files_kept disk newest = record { copy = inl refl; made = refl; lengths = λ file. refl }

-- no copy was written
pub files_flushed : (old new : DiskState) (before after : Newest) → after ≡ before → SameLengths old.files new.files → KeepsFiles old new before after
files_flushed old new before after same lengths =
    record { copy = inl same; made = ap (λ (n : Newest). n.image.files_made) same; lengths = lengths }

-- before it memory changed alone
pub files_behind : (old new : DiskState) (earlier before after : Newest) → before ≡ earlier → KeepsFiles old new before after → KeepsFiles old new earlier after
files_behind old new earlier before after same is = subst (λ (n : Newest). KeepsFiles old new n after) same is

-- after it memory changed alone
pub files_before : (old new : DiskState) (before after later : Newest) → later ≡ after → KeepsFiles old new before after → KeepsFiles old new before later
files_before old new before after later same is = subst (λ (n : Newest). KeepsFiles old new before n) (sym same) is

copy_then : (first second third : Newest) → StaysOrIsCurrent first second → StaysOrIsCurrent second third → StaysOrIsCurrent first third
copy_then first second third one (inl same) = subst (λ (n : Newest). StaysOrIsCurrent first n) (sym same) one
copy_then first second third one (inr current) = inr current

-- one after the other
pub files_then : (a b d : DiskState) (first second third : Newest) → KeepsFiles a b first second → KeepsFiles b d second third → KeepsFiles a d first third
files_then a b d first second third one two = record {
  copy = copy_then first second third one.copy two.copy;
  made = two.made ∙ one.made;
  lengths = λ file. two.lengths file ∙ one.lengths file;
}

-- the next copy
next_current : (first : ℕ) (change : Change) (image : BaseImage) → IsCurrent (next_copy first change image)
next_current first changes.Listing image = refl
next_current first (changes.Base stream base) image = refl
next_current first (changes.Archive archiving tail) image = refl
next_current first (changes.Policies automatic maximum minimum growth) image = refl

next_made : (first : ℕ) (change : Change) (image : BaseImage) → (next_copy first change image).files_made ≡ image.files_made
next_made first changes.Listing image = refl
next_made first (changes.Base stream base) image = refl
next_made first (changes.Archive archiving tail) image = refl
next_made first (changes.Policies automatic maximum minimum growth) image = refl

-- one copy was written
pub files_copied : (old new : DiskState) (before after : Newest) (slot first : ℕ) (change : Change) → after ≡ record { slot = slot; image = next_copy first change before.image }
    → SameLengths old.files new.files → KeepsFiles old new before after
files_copied old new before after slot first change is lengths = record {
  copy = inr (ap (λ (n : Newest). n.image.version) is ∙ next_current first change before.image);
  made = ap (λ (n : Newest). n.image.files_made) is ∙ next_made first change before.image;
  lengths = lengths;
}

-- ---- growth

-- no copy was written, whatever became of files that none counts
pub counts_none : (old new : DiskState) (before after : Log) → after.broken ≡ false → after.physical ≡ before.physical → CountsFiles old new before after
counts_none old new before after unbroken same = record {
  unbroken = unbroken;
  copy = inl same;
  made = λ told file above upto. absurd (omega (arith, above, upto, ap (λ (n : Newest). n.image.files_made) same));
}

-- memory was taken before
pub counts_behind : (old new : DiskState) (earlier before after : Log) → before.physical ≡ earlier.physical → CountsFiles old new before after → CountsFiles old new earlier after
counts_behind old new earlier before after same is = record {
  unbroken = is.unbroken;
  copy = subst (λ (n : Newest). StaysOrIsCurrent n after.physical) same is.copy;
  made = λ told file above upto.
      subst (λ (n : Newest). sector_bytes * n.image.container_sectors ≤ length (new.files file)) same
      (is.made told file (omega (arith, above, ap (λ (n : Newest). n.image.files_made) same)) upto);
}

-- small changes behind it
pub counts_then : (a b d : DiskState) (before between after : Log) → after.broken ≡ false → CountsFiles a b before between
    → KeepsFiles b d between.physical after.physical → CountsFiles a d before after
counts_then a b d before between after unbroken one two = record {
  unbroken = unbroken;
  copy = copy_then before.physical between.physical after.physical one.copy two.copy;
  made = λ told file above upto. omega (arith, one.made told file above (omega (arith, upto, two.made)), two.lengths file);
}

-- small changes alone
pub counts_kept : (old new : DiskState) (before after : Log) → after.broken ≡ false → KeepsFiles old new before.physical after.physical → CountsFiles old new before after
counts_kept old new before after unbroken is = record {
  unbroken = unbroken;
  copy = is.copy;
  made = λ told file above upto. absurd (omega (arith, above, upto, is.made));
}

-- want of memory is no fault
pub not_faulted : {A : Type 0} → IsErrOf {T = A} (Err physical.NoMemory) physical.DiskFault → ⊥
not_faulted {A} fault = cc fault

-- ---- a call in the end

newest_in : (disk : DiskState) (log : Log) → (log.broken ≡ false → IsOpen disk log.state.value log) → log.broken ≡ false → TellsContents disk
    → newest_of (disk.files 0) ≡ Ok (log.physical.slot, log.physical.image)
newest_in disk log opened unbroken tells = ((opened unbroken).files tells).newest

pub copy_left : (fault : Type 0) (old new : DiskState) (before after : Log) → IsManaged old before → before.broken ≡ false
    → (after.broken ≡ false → IsOpen new after.state.value after) → new.nature ≡ old.nature → ((fault → ⊥) → CountsFiles old new before after) → LeavesCopy fault old new
copy_left fault old new before after managed unbroken opened nature counts = record {
  current = λ fine tells.
      let is = counts fine in
      let first = newest_in old before managed.whole unbroken tells in
      let second = newest_in new after opened is.unbroken (tells_before new old (sym nature) tells) in
      elim is.copy [
        | inl same ↦ inl (second ∙ ap (λ (n : Newest). Ok (n.slot, n.image)) same ∙ sym first)
        | inr current ↦ inr (record { slot = after.physical.slot; image = after.physical.image; newest = second; current = current })
      ];
  made = λ fine tells slot slot_after image image_after is_first is_second file above upto.
      let is = counts fine in
      let one : image ≡ before.physical.image = ap (λ (p : ℕ × BaseImage). p.1) (of_ok (slot, image) (before.physical.slot, before.physical.image) (newest_of (old.files 0))
      is_first (newest_in old before managed.whole unbroken tells)) in
      let two : image_after ≡ after.physical.image = ap (λ (p : ℕ × BaseImage). p.1) (of_ok (slot_after, image_after) (after.physical.slot, after.physical.image)
      (newest_of (new.files 0)) is_second (newest_in new after opened is.unbroken (tells_before new old (sym nature) tells))) in
      subst (λ (i : BaseImage). sector_bytes * i.container_sectors ≤ length (new.files file)) (sym one)
      (is.made (inl tells) file (subst (λ (i : BaseImage). i.files_made < file) one above) (subst (λ (i : BaseImage). file ≤ i.files_made) two upto));
}

-- the same as a manager's call tells it
pub copy_of_call : {D : Type 0} (state : D → DiskState) (log after : Log) (disk new : D) (seen : State × D) → (log.state.value, disk) ≡ seen
    → IsManaged (state disk) log → log.broken ≡ false → (after.broken ≡ false → IsOpen (state new) after.state.value after)
    → (state new).nature ≡ (state disk).nature → (fault : Type 0) → ((fault → ⊥) → CountsFiles (state disk) (state new) log after) → LeavesCopy fault (state seen.1) (state new)
copy_of_call {D} state log after disk new seen view managed unbroken opened nature fault counts =
    subst (λ (v : State × D). LeavesCopy fault (state v.1) (state new)) view (copy_left fault (state disk) (state new) log after managed unbroken opened nature counts)

-- a call that changes no file
pub copy_unchanged : (fault : Type 0) (old new : DiskState) → Unchanged old.files new.files → LeavesCopy fault old new
copy_unchanged fault old new same = record {
  current = λ fine tells. inl (ap newest_of (same 0));
  made = λ fine tells slot slot_after image image_after is_first is_second file above upto.
      let both = of_ok (slot, image) (slot_after, image_after) (newest_of (old.files 0)) is_first (sym (ap newest_of (same 0)) ∙ is_second) in
      absurd (omega (arith, above, upto, ap (λ (p : ℕ × BaseImage). p.1.files_made) both));
}

-- or that leaves the disk as it was
pub copy_stays : (fault : Type 0) (disk : DiskState) → LeavesCopy fault disk disk
copy_stays fault disk = copy_unchanged fault disk disk (λ file. refl)

-- nothing is said of one that tells a fault
pub copy_faulted : {fault : Type 0} (old new : DiskState) → fault → LeavesCopy fault old new
copy_faulted old new failed = record { current = λ fine. absurd (fine failed); made = λ fine. absurd (fine failed) }

-- a fault by another name
pub copy_as : (fault other : Type 0) (old new : DiskState) → (fault → other) → LeavesCopy fault old new → LeavesCopy other old new
copy_as fault other old new to is =
    record { current = λ fine. is.current (λ failed. fine (to failed)); made = λ fine. is.made (λ failed. fine (to failed)) }
