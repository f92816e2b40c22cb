-- What is true of a log under the lock: how its journal leads from the opening to it.
use Rattle.std.specs.Prelude.{◌≡◌, ◌≤◌, Bool, true, false, ◌&&◌, List, [], refl}
use Rattle.std.proofs.Common.{sym, subst, le_refl}
use Rattle.std.proofs.Math.Nat.{lt_irrefl, lt_of_lt_of_le}
use Rattle.std.proofs.lemmas.Bool.{true≢false}
use Rattle.clfs_disk.specs.State.{DiskState, Rises}
use Rattle.clfs_model.specs.declared.journal.Entry.{Entry}
use Rattle.clfs_model.specs.declared.state.State.{State}
use Rattle.clfs_model.specs.Journals.{IsLegal}
use Rattle.clfs_recover.specs.Whole.{are_whole}
use Rattle.clfs_shared.specs.declared.opening.Opening.{Opening}
use Rattle.clfs_shared.specs.Crashes.{IsLeftByEntries, since}
use Rattle.clfs_shared.specs.Journal.{has_fault, has_damage, EntriesTellPlaces}

-- a log in this state over this disk, as an opening
abbrev pub opening_of : State → DiskState → Opening
opening_of s disk = record {
  state = s;
  tells_contents = disk.nature.tells_contents;
  tells_images = disk.nature.tells_images;
  is_steady = disk.nature.steady;
  is_whole = are_whole disk.files;
  faults = disk.faults;
  moment = disk.clock;
}

-- the disk fails in no call that a log makes of it: it is steady, and tells that the files are at full length
abbrev pub is_calm : Opening → Bool
is_calm o = o.is_steady && o.tells_contents && o.is_whole

-- The journal is legal from the opening to this state. A fault stands in it only where the disk has failed since, and never where it is calm;
-- damage only where the disk doesn't tell what its files hold, and at a place where bytes fail. A log that isn't broken has files at full length, where the opening had. Where the
-- disk keeps what it synced, a crash at each moment since the opening leaves what survives a call of the journal, or between two calls the flushed part.
pub record IsReached (o : Opening) (disk : DiskState) (s : State) (journal : List Entry) : Type 0 where
  pub legal : IsLegal o.tells_contents journal o.state s
  pub contents : disk.nature.tells_contents ≡ o.tells_contents
  pub images : disk.nature.tells_images ≡ o.tells_images
  pub steady : disk.nature.steady ≡ o.is_steady
  pub later : o.faults ≤ disk.faults
  pub fault : has_fault journal ≡ true → Rises o.faults disk.faults
  pub damage : o.tells_contents ≡ true → has_damage journal ≡ false
  pub places : EntriesTellPlaces o.tells_contents o.state journal s
  pub calm : is_calm o ≡ true → has_fault journal ≡ false
  pub whole : o.tells_contents ≡ true → o.is_whole ≡ true → s.broken ≡ false → are_whole disk.files ≡ true
  pub crash : o.tells_contents ≡ true → o.tells_images ≡ true → (whole : Bool) → (whole ≡ true → o.is_whole ≡ true)
      → IsLeftByEntries o.tells_contents whole (since o.moment disk.image_at) o.moment disk.clock o.state journal s

-- (cited by the lock's own law) a log without entries is at its opening
pub reached_at_once : (s : State) (disk : DiskState) (journal : List Entry) → journal ≡ [] → IsReached (opening_of s disk) disk s journal
reached_at_once s disk journal none = let F : List Entry → Type 0 = λ j. IsReached (opening_of s disk) disk s j in subst F (sym none) (record {
  legal = refl;
  contents = refl;
  images = refl;
  steady = refl;
  later = le_refl disk.faults;
  fault = λ bad. absurd (true≢false (sym bad));
  damage = λ _. refl;
  places = refl;
  calm = λ _. refl;
  whole = λ _ is _. is;
  crash = λ _ _ whole _. (
    refl,
    record {
      later = le_refl disk.clock;
      still = λ _. refl;
      leaves = λ _ moment image _ before left. absurd (lt_irrefl disk.clock (lt_of_lt_of_le left.0 before));
    },
  );
})
