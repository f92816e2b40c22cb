-- What restoring leaves once its base copy is written, and why it is refused for what its input is.
use Rattle.clfs_restore.proofs.Words.{inl, inr, ⊎_elim, ◌≡◌, ◌⊎◌, ℕ, zero, suc, ◌*◌, ◌≤◌, Bool, true, false, ltb, ◌||◌, List, length, Option, Some, None}
use Rattle.clfs_restore.proofs.Words.{Result, Ok, Err, refl, sym, subst, arith, lsn_number, container_of, Files, DiskState, BaseImage, is_open_slot}
use Rattle.clfs_restore.proofs.Words.{HasNoCopy, NoneOrFirst, StandsFor, open_slot_of, Archive, InputRefusal, archives_in, joined, chosen, restored}
use Rattle.clfs_restore.proofs.Words.{restored_copy, base_bytes, StandForRestored, AreFilled, IsFreeCause, IsRestoreCause, IsOfMaking, RestoreRefusal}
use Rattle.std.proofs.Common.{cond}
use Rattle.clfs_base.specs.Writing.{HasNewest}
use Rattle.clfs_recover.specs.Files.{AreWholeFiles}
use Rattle.clfs_archive_form.specs.declared.refusal.InputRefusal.TheVariants as inputs
use Rattle.clfs_archive_form.specs.Reading.{RefusesAt}
use Rattle.clfs_archive_form.specs.Restoring.{gap_in, low_bound, high_bound, asked_for, chosen_unless}
use Rattle.clfs_archive_form.specs.Written.{AreRestored, CanBeRestored}
use Rattle.clfs_restore.specs.Restoring.{of_input, IsChosen, AreChosen, IsInputCause}
use Rattle.clfs_restore.specs.declared.refusal.RestoreRefusal.TheVariants as refusals
use Rattle.clfs_restore.proofs.Kept.{filled_still}

-- ---- the whole log

abbrev pub FilesStand : Type 0
FilesStand = (bytes : List ℕ) (archive : Archive) (up_to : ℕ) (files : Files) (buffers : ℕ) → CanBeRestored bytes archive up_to
    → AreRestored bytes archive up_to files → StandsFor files (restored bytes archive up_to buffers)

abbrev pub StandFor : List ℕ → Archive → ℕ → Files → Type 0
StandFor bytes archive up_to files = (buffers : ℕ) → StandsFor files (restored bytes archive up_to buffers)

module _ (bytes : List ℕ) (archive : Archive) (up_to end : ℕ) (mid files : Files) where
  abbrev copy : BaseImage
  copy = restored_copy archive.image up_to (lsn_number (container_of up_to) end 0)

  others : HasNewest 0 copy mid files → (file : ℕ) → 1 ≤ file → files file ≡ mid file
  others has file some = has.elsewhere file (λ is. omega (arith, some, is))

  pub stand_after : FilesStand → CanBeRestored bytes archive up_to → AreFilled bytes archive up_to mid end → HasNewest 0 copy mid files
      → StandFor bytes archive up_to files
  stand_after stands can filled has buffers =
      let still = filled_still bytes archive up_to end mid files (others has) filled in
      stands bytes archive up_to files buffers can (record { end = end; newest = has.newest; fronts = still.fronts; last = still.last })

  pub whole_after : base_bytes ≤ length (mid 0)
      → ((file : ℕ) → 1 ≤ file → file ≤ archive.image.containers → 512 * archive.image.container_sectors ≤ length (mid file))
      → HasNewest 0 copy mid files → AreWholeFiles files
  whole_after base long has = record {
    slot = 0;
    image = copy;
    newest = has.newest;
    base_file = omega (arith, base, has.same_length);
    containers = λ file some few. subst (λ (l : List ℕ). 512 * archive.image.container_sectors ≤ length l) (sym (others has file some)) (long file some few);
  }

  pub none_or_stand : FilesStand → CanBeRestored bytes archive up_to → AreFilled bytes archive up_to mid end → NoneOrFirst 0 copy mid files
      → HasNoCopy files ⊎ StandFor bytes archive up_to files
  none_or_stand stands can filled either = ⊎_elim (λ (none : HasNoCopy files). inl none)
      (λ (has : HasNewest 0 copy mid files). inr (stand_after stands can filled has)) either

-- ---- open slots

abbrev no_slot : Option ℕ
no_slot = None

-- none is open where the lowest open one is none
pub none_open : (files : Files) → open_slot_of (files 0) ≡ None → HasNoCopy files
none_open files is = pick (is_open_slot (files 0) 0) (is_open_slot (files 0) 1) refl refl is
  where
    pick : (a b : Bool) → is_open_slot (files 0) 0 ≡ a → is_open_slot (files 0) 1 ≡ b → cond a (Some 0) (cond b (Some 1) no_slot) ≡ None → HasNoCopy files
    pick true b p q none slot le = absurd (cc none)
    pick false true p q none slot le = absurd (cc none)
    pick false false p q none zero le = p
    pick false false p q none (suc zero) le = q
    pick false false p q none (suc (suc n)) le = absurd (omega (arith, le))

-- ---- what the input is

pub input_cause : (bytes : List ℕ) (up_to : Option ℕ) (refusal : InputRefusal) → RefusesAt refusal (archives_in bytes)
    → IsInputCause bytes up_to (of_input refusal)
input_cause bytes up_to (inputs.NotAnArchive at) is = is
input_cause bytes up_to (inputs.Gap container) is = absurd is
input_cause bytes up_to (inputs.UpToInvalid low high) is = absurd is
input_cause bytes up_to inputs.NoMemory is = tt

-- a choice is never refused for the bytes
no_byte : (gap : Option ℕ) (asked : Result ℕ InputRefusal) (at : ℕ) → (asked ≡ Err (inputs.NotAnArchive at) → ⊥)
    → chosen_unless gap asked ≡ Err (inputs.NotAnArchive at) → ⊥
no_byte None asked at never is = never is
no_byte (Some container) asked at never is = cc is

never_asked : (archive : Archive) (up_to : Option ℕ) (at : ℕ) → asked_for archive up_to ≡ Err (inputs.NotAnArchive at) → ⊥
never_asked archive None at is = cc is
never_asked archive (Some asked) at is = pick (ltb asked (low_bound archive.image) || ltb (high_bound archive) asked) is
  where
    pick : (b : Bool) → cond b (Err (inputs.UpToInvalid (low_bound archive.image) (high_bound archive))) (Ok asked) ≡ Err (inputs.NotAnArchive at) → ⊥
    pick true e = cc e
    pick false e = cc e

pub choice_cause : (bytes : List ℕ) (up_to : Option ℕ) (archives : List Archive) (archive : Archive) (refusal : InputRefusal)
    → archives_in bytes ≡ Ok archives → joined archives ≡ Some archive → chosen archive up_to ≡ Err refusal → IsInputCause bytes up_to (of_input refusal)
choice_cause bytes up_to archives archive (inputs.NotAnArchive at) read together is =
    absurd (no_byte (gap_in archive) (asked_for archive up_to) at (never_asked archive up_to at) is)
choice_cause bytes up_to archives archive (inputs.Gap container) read together is = (archives, archive, read, together, is)
choice_cause bytes up_to archives archive (inputs.UpToInvalid low high) read together is = (archives, archive, read, together, is)
choice_cause bytes up_to archives archive inputs.NoMemory read together is = tt

-- the same as restoring tells it
pub free_cause : (bytes : List ℕ) (up_to : Option ℕ) (refusal : RestoreRefusal) → IsInputCause bytes up_to refusal → IsFreeCause bytes up_to refusal
free_cause bytes up_to (refusals.Exists slot) is = absurd is
free_cause bytes up_to (refusals.NotAnArchive at) is = is
free_cause bytes up_to (refusals.Gap container) is = is
free_cause bytes up_to (refusals.UpToInvalid low high) is = is
free_cause bytes up_to refusals.DiskFault is = absurd is
free_cause bytes up_to refusals.NoMemory is = is

pub told_cause : (disk : DiskState) (bytes : List ℕ) (up_to : Option ℕ) (refusal : RestoreRefusal) → IsFreeCause bytes up_to refusal
    → IsRestoreCause disk bytes up_to refusal
told_cause disk bytes up_to (refusals.Exists slot) is = absurd is
told_cause disk bytes up_to (refusals.NotAnArchive at) is = is
told_cause disk bytes up_to (refusals.Gap container) is = is
told_cause disk bytes up_to (refusals.UpToInvalid low high) is = is
told_cause disk bytes up_to refusals.DiskFault is = is
told_cause disk bytes up_to refusals.NoMemory is = is

-- and what making is refused for
pub making_cause : (bytes : List ℕ) (up_to : Option ℕ) (refusal : RestoreRefusal) → IsOfMaking refusal → AreChosen bytes up_to → IsFreeCause bytes up_to refusal
making_cause bytes up_to (refusals.Exists slot) is chosen = absurd is
making_cause bytes up_to (refusals.NotAnArchive at) is chosen = absurd is
making_cause bytes up_to (refusals.Gap container) is chosen = absurd is
making_cause bytes up_to (refusals.UpToInvalid low high) is chosen = absurd is
making_cause bytes up_to refusals.DiskFault is chosen = chosen
making_cause bytes up_to refusals.NoMemory is chosen = tt

-- an input cause is no fault of the disk
pub no_fault : (bytes : List ℕ) (up_to : Option ℕ) (refusal : RestoreRefusal) → IsInputCause bytes up_to refusal → refusal ≡ refusals.DiskFault → ⊥
no_fault bytes up_to (refusals.Exists slot) is e = is
no_fault bytes up_to (refusals.NotAnArchive at) is e = cc e
no_fault bytes up_to (refusals.Gap container) is e = cc e
no_fault bytes up_to (refusals.UpToInvalid low high) is e = cc e
no_fault bytes up_to refusals.DiskFault is e = is
no_fault bytes up_to refusals.NoMemory is e = cc e

-- files that stand for what was chosen
pub stand_chosen : (bytes : List ℕ) (up_to : Option ℕ) (archive : Archive) (lsn : ℕ) → IsChosen bytes up_to archive lsn → (files : Files)
    → StandFor bytes archive lsn files → StandForRestored bytes up_to files
stand_chosen bytes up_to archive lsn chosen files stand = (archive, lsn, chosen, stand)
