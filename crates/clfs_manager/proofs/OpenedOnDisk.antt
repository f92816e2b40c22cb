-- What the disk has of a log that was opened.
use Rattle.clfs_manager.proofs.Words.{◌≡◌, ℕ, ◌+◌, ◌≤◌, Bool, true, false, refl, sym, ap, subst, ◌∙◌, inl, inr, List, [], length, arith, IsTrue, All, Some}
use Rattle.clfs_manager.proofs.Words.{None, IfSome, if◌then◌else◌, Ok, cases_Bool, All-weaker, lsn_number, container_of, frontier, LogEntry, Files, DiskState}
use Rattle.clfs_manager.proofs.Words.{TellsContents, IsHonest, IsSettled, AreWhole, State, cut, hold, Newest, Blocks, Stores, newest_of, state_of}
use Rattle.clfs_manager.proofs.Words.{records_from_container, Parts, HasForgotten, Holds, IsStored, IsOpen, AreKept, Log}
use Rattle.clfs_recover.specs.Files.{Finds}
use Rattle.clfs_recover.specs.Logs.{IsStoredIn, FitsUpTo}
use Rattle.clfs_manager.proofs.Holding.{hold_from}
use Rattle.clfs_manager.proofs.Opened.{all_from}

-- The parts of a log lie in the containers that its copy lists.
pub record AreListed (parts : Parts) : Type 0 where
  pub container : parts.place.container + 1 ≡ parts.image.first + length parts.image.files
  pub some : 1 ≤ length parts.image.files
  pub records : All (λ (entry : LogEntry). (parts.image.first ≤ container_of entry.lsn) × (container_of entry.lsn ≤ parts.place.container)) parts.entries
  pub fits : FitsUpTo parts.image (frontier parts.place)

records_from : (parts : Parts) → AreListed parts → All (λ (entry : LogEntry). lsn_number parts.image.first 0 0 ≤ entry.lsn) parts.entries
records_from parts listed =
    All-weaker (λ (entry : LogEntry). (parts.image.first ≤ container_of entry.lsn) × (container_of entry.lsn ≤ parts.place.container)) (λ (entry : LogEntry). lsn_number parts.image.first 0 0 ≤ entry.lsn) (λ entry is. omega (arith, is.0)) parts.entries listed.records

tail_from : (parts : Parts) → AreListed parts
    → IfSome (if parts.image.archiving then Some parts.image.tail else None) (λ tail. lsn_number parts.image.first 0 0 ≤ tail)
tail_from parts listed = elim (cases_Bool parts.image.archiving) [
  | inl on ↦ rw on (let is = (listed.fits.tail on).1 in omega (arith, is))
  | inr off ↦ rw off tt
]

pub opened_needed : (parts : Parts) (buffers : ℕ) → AreListed parts → parts.image.first ≤ container_of (hold (state_of parts buffers))
opened_needed parts buffers listed =
    let from = hold_from (state_of parts buffers) (lsn_number parts.image.first 0 0) (omega (arith, listed.container, listed.some)) (tail_from parts listed)
    (records_from parts listed) in
    omega (arith, from)

-- the newest copy of parts
abbrev pub newest_in : Parts → Newest
newest_in parts = record { slot = parts.slot; image = parts.image }

pub opened_stored : (files : Files) (parts : Parts) (blocks : Blocks) (buffers : ℕ) → IsStoredIn files parts blocks → AreListed parts
    → cut (state_of parts buffers) ≡ state_of parts buffers → IsStored (state_of parts buffers) (newest_in parts) blocks
opened_stored files parts blocks buffers stored listed whole = record {
  entries = parts.entries;
  log = stored.with;
  records = sym (ap (λ (t : State). records_from_container parts.image.first t.records) whole ∙ all_from (lsn_number parts.image.first 0 0) parts.entries (records_from parts listed));
  state = sym (ap (λ (p : Parts). state_of p buffers) stored.is) ∙ sym (ap (λ (t : State). record t { records = parts.entries }) whole);
  needed = opened_needed parts buffers listed;
}

-- The files of a disk that tells what they hold, or other ones in which opening finds the same.
pub found_files : (told : Bool) (known : Files) (parts : Parts) → (IsTrue told → Finds known (Ok parts)) → (files : Files) × Finds files (Ok parts)
    → (files : Files) × (Finds files (Ok parts) × (IsTrue told → (file : ℕ) → known file ≡ files file))
found_files true known parts found other = (known, (found refl, λ _ file. refl))
found_files false known parts found other = (other.0, (other.1, λ never. absurd (cc never)))

-- files that are the same have the same log
pub opened_files : (files known : Files) (parts : Parts) (blocks : Blocks) → IsStoredIn files parts blocks → ((file : ℕ) → known file ≡ files file)
    → Stores false (newest_in parts) blocks known
opened_files files known parts blocks stored same = record {
  newest = subst (λ (bytes : List ℕ). newest_of bytes ≡ Ok (parts.slot, parts.image)) (sym (same 0)) stored.log.newest;
  holds = record {
    made = λ full. absurd (cc full);
    opens = λ file listed. subst (λ (bytes : List ℕ). AreWhole parts.image.container_sectors bytes (blocks file)) (sym (same file))
        (subst (λ (number : ℕ). AreWhole parts.image.container_sectors (files number) (blocks number)) listed.is (stored.whole listed.place listed.within));
  };
}

-- nothing is kept of blocks yet
pub none_kept : (s : State) (reads : ℕ) → AreKept s (record { most = reads; blocks = [] })
none_kept s reads = record { stable = λ place records there. absurd (cc there); records = λ place records there. absurd (cc there) }

-- So a log that was opened is open.
pub opened_open : (disk : DiskState) (log : Log) (parts : Parts) (buffers reads : ℕ) → log.state.value ≡ state_of parts buffers → Holds log.state.value log
    → log.physical ≡ newest_in parts → log.buffers ≡ record { most = reads; blocks = [] } → HasForgotten log.state.value log → AreListed parts → cut (state_of parts buffers) ≡ state_of parts buffers
    → (files : Files) (blocks : Blocks) → IsStoredIn files parts blocks → (TellsContents disk → (file : ℕ) → disk.files file ≡ files file)
    → (IsHonest disk → IsSettled disk) → IsOpen disk log.state.value log
opened_open disk log parts buffers reads state holds newest kept forgotten listed whole files blocks stored same settled = record {
  memory = holds;
  blocks = blocks;
  stored = rw (state, newest) (opened_stored files parts blocks buffers stored listed whole);
  files = λ tells. rw newest (opened_files files disk.files parts blocks stored (same tells));
  kept = λ tells. rw kept (none_kept log.state.value reads);
  settled = settled;
  forgotten = forgotten;
}
