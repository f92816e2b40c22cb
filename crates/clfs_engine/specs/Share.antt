-- How a log is shared among clients that come and go, each over a source and a sink of its own.
use Rattle.std.specs.Prelude.{◌≡◌, ◌⊎◌, ℕ, ◌+◌, ◌≤◌, Bool, true, false, if◌then◌else◌, List, [], ◌∷◌, ◌++◌, length, Option}
use Rattle.std.specs.Io.KnownBytes.{Appends}
use Rattle.clfs_ports.specs.Cause as ports
use Rattle.clfs_disk.specs.State.{DiskState, TellsContents, IsHonest, IsSettled, Rises}
use Rattle.clfs_model.specs.declared.journal.Entry.{Entry}
use Rattle.clfs_model.specs.declared.state.State.{State}
use Rattle.clfs_recover.specs.declared.refusal.LoadRefusal.TheVariants.{DiskFault}
use Rattle.clfs_manager.specs.Reopening.{HoldsFlushed}
use Rattle.clfs_command.specs.Share.{Paths}
use Rattle.clfs_share.specs.Ended.{is_any_served}
use Rattle.clfs_share.specs.Taken.{AreTaken, IsOfClients}
use Rattle.clfs_share.specs.declared.pairs.ClientEnd.{ClientEnd}
use Rattle.clfs_share.specs.declared.pairs.EndedClient.{EndedClient}
use Rattle.clfs_share.specs.declared.openers.Openers as Openers
use Rattle.clfs_lines.specs.Answering.{Writes, WritesFront}
use Rattle.clfs_operations.specs.Ends.{disk_fault_text}
use Rattle.clfs_operations.specs.Opened.{RefusesLog, IsUnopenedText, IsRefusalText}
use Rattle.clfs_operations.specs.Race.{LeavesFiles}
use Rattle.clfs_operations.specs.Raced.{HasTaken}

-- What a journal with its last state says of clients.
abbrev pub Serving : Type 1
Serving = List Entry → State → Type 0

-- The log took the calls of these clients, numbered from 1, and of no other one: each client's are those of the lines that its source gave, in order, each
-- with its reply, and then the deletions of its areas; its sink took the replies to its lines. A client that wasn't served had no source and no sink.
abbrev pub AreServed : {P S K : Type 0} → Openers.Ghosts P S K → (S → Option (List ℕ)) → (S → ℕ) → (K → Option (List ℕ)) → (K → ℕ) → List P → List (EndedClient P S K)
    → Serving
AreServed opening left source_faults written sink_faults openers clients journal last =
    AreTaken opening left source_faults written sink_faults journal last 1 openers clients
    × IsOfClients (length openers) journal

-- What opens the paths of clients, of which the first has this number, was made of these paths.
abbrev pub AreOpeners : {P : Type 0} → (ℕ → Paths → P → Type 0) → ℕ → List Paths → List P → Type 0
AreOpeners makes client [] [] = Unit {0}
AreOpeners makes client [] (openers ∷ more) = ⊥
AreOpeners makes client (paths ∷ others) [] = ⊥
AreOpeners makes client (paths ∷ others) (openers ∷ more) = makes client paths openers × AreOpeners makes (client + 1) others more

-- Openers were added of clients' paths.
abbrev pub AddsOpeners : {P : Type 0} → (ℕ → Paths → P → Type 0) → ℕ → List Paths → List P → List P → Type 0
AddsOpeners {P} makes client paths old new = (made : List P) × (AreOpeners makes client paths made × (new ≡ old ++ made))

-- The same of the clients of these paths, in order: each was served by what was made of its two paths.
abbrev pub AreServedAt : {P S K : Type 0} → (ℕ → Paths → P → Type 0) → Openers.Ghosts P S K → (S → Option (List ℕ)) → (S → ℕ) → (K → Option (List ℕ)) → (K → ℕ)
    → List Paths → List (EndedClient P S K) → Serving
AreServedAt {P} makes opening left source_faults written sink_faults paths clients journal last =
    (openers : List P) × (AreOpeners makes 1 paths openers × AreServed opening left source_faults written sink_faults openers clients journal last)

-- The log on a disk was opened with so many write buffers and shared among clients until all had ended, and it was closed, broken or not.
pub record IsShared (Serves : Serving) (buffers : ℕ) (broken : Bool) (old new : DiskState) : Type 0 where
  -- the journal is legal, from the state for which the files stand to that which was left, and says what a crash left at each moment
  pub journal : List Entry
  pub taken : HasTaken buffers old new journal
  pub serves : Serves journal taken.last
  pub is_broken : taken.last.broken ≡ broken
  -- over a disk that tells what its files hold only a fault breaks the log, and the disk failed in this call then
  pub cause : broken ≡ true → TellsContents old → Rises old.faults new.faults
  -- if it isn't broken the files hold the flushed part of the last state, and nothing is pending
  pub files : broken ≡ false → TellsContents old → HoldsFlushed new.files taken.last
  pub settled : broken ≡ false → IsHonest old → IsSettled new

-- the status of a log that isn't broken when clients have ended so
abbrev pub served_status : List ClientEnd → ℕ
served_status ends = if is_any_served ends then 0 else 18

-- the statuses of sharing
abbrev pub IsShareStatus : ℕ → Type 0
IsShareStatus status = (status ≡ 0) ⊎ ((status ≡ 18) ⊎ ((status ≡ 3) ⊎ ((status ≡ 4) ⊎ ((status ≡ 5) ⊎ (status ≡ 6)))))

-- How sharing a log ends: what each status says of the log on the disk, before and after, of how the clients ended, none if the log wasn't shared, of the
-- bytes that the sink has taken that is told why the log wasn't opened, and of its count of faults.
pub record EndsSharing (Serves : Serving) (status buffers : ℕ) (old new : DiskState) (ends : List ClientEnd)
    (written written_after : Option (List ℕ)) (sink sink_after : ℕ) : Type 0 where
  -- there is no other status
  pub statuses : IsShareStatus status
  -- all clients have ended, and the log isn't broken
  pub done : status ≡ 0 → IsShared Serves buffers false old new
  pub done_silence : status ≡ 0 → Appends written written_after []
  pub done_served : status ≡ 0 → is_any_served ends ≡ true
  -- all clients have ended, none of them was served, and the log isn't broken; and this is the status wherever clients have ended and none was served
  pub none_served : status ≡ 18 → IsShared Serves buffers false old new
  pub none_served_silence : status ≡ 18 → Appends written written_after []
  pub none_served_ends : status ≡ 18 → is_any_served ends ≡ false
  pub none_served_alone : is_any_served ends ≡ false → (ends ≡ []) ⊎ (status ≡ 18)
  -- the sink failed in this call: a front of the line was written that says why the log wasn't opened
  pub sink_fault : status ≡ 3 → ports.Rises sink sink_after
  pub sink_fault_front : status ≡ 3 → WritesFront (IsRefusalText old new) written written_after
  -- all clients have ended, and the log is broken, or the disk failed in this call before the log was opened, and the line that says so was written
  pub disk_fault : status ≡ 4 → (IsShared Serves buffers true old new × Appends written written_after [])
      ⊎ (RefusesLog DiskFault old new × ((ends ≡ []) × Appends written written_after disk_fault_text))
  -- memory ran out before the log was shared, and no file has changed
  pub no_memory : status ≡ 5 → LeavesFiles old new
  pub no_memory_silence : status ≡ 5 → Appends written written_after []
  -- the files aren't a log's, and the line that says so was written
  pub no_log : status ≡ 6 → Writes (IsUnopenedText old new) written written_after
  -- no client has ended then
  pub unopened : (status ≡ 3) ⊎ ((status ≡ 5) ⊎ (status ≡ 6)) → ends ≡ []
  -- the count of faults never falls
  pub sink_count : sink ≤ sink_after
