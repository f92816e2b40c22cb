-- How a log is shared among programs that come and go by a door.
use Rattle.std.specs.Prelude.{◌≡◌, ◌⊎◌, ℕ, ◌≤◌, Bool, true, false, List, [], length, codes, Option}
use Rattle.std.specs.Io.KnownBytes.{Appends}
use Rattle.clfs_ports.specs.Cause as ports
use Rattle.clfs_disk.specs.State.{DiskState}
use Rattle.clfs_model.specs.declared.journal.Entry.{Entry}
use Rattle.clfs_model.specs.declared.state.State.{State}
use Rattle.clfs_recover.specs.declared.refusal.LoadRefusal.TheVariants.{DiskFault}
use Rattle.clfs_share.specs.Taken.{IsOfClients}
use Rattle.clfs_share.specs.Visited.{AreVisited, could_any_come}
use Rattle.clfs_share.specs.declared.visitors.Visitors as Visitors
use Rattle.clfs_share.specs.declared.visitors.ComingEnd.{ComingEnd}
use Rattle.clfs_share.specs.declared.visits.VisitedClient.{VisitedClient}
use Rattle.clfs_lines.specs.Answering.{Writes, WritesFront}
use Rattle.clfs_lines.specs.Ends.{AppendsFront}
use Rattle.clfs_operations.specs.Ends.{disk_fault_text}
use Rattle.clfs_operations.specs.Opened.{RefusesLog, IsUnopenedText, IsRefusalText}
use Rattle.clfs_operations.specs.Race.{LeavesFiles}
use Rattle.clfs_engine.specs.Share.{IsShared, IsShareStatus, Serving}

-- the line that says that programs may come
abbrev pub ready_text : List ℕ
ready_text = codes "ready\n"

-- what a journal says of visits, by the log's first state and by whether the disk tells what its files hold
abbrev pub Visiting : Type 1
Visiting = Bool → State → List Entry → Type 0

-- The log took the calls of these clients' visits, numbered from 1, and no other ones: each client's are those of its visits, one after the other, each with
-- a source and a sink of its own.
abbrev pub AreVisitsOf : {P S K : Type 0} → Visitors.Ghosts P S K → (S → Option (List ℕ)) → (S → ℕ) → (K → Option (List ℕ)) → (K → ℕ) → List P → List (VisitedClient P S K)
    → Visiting
AreVisitsOf visiting left source_faults written sink_faults visitors clients told first journal =
    AreVisited visiting left source_faults written sink_faults told first journal 1 visitors clients
    × IsOfClients (length visitors) journal

-- The same of those who came by a door that was opened so.
abbrev pub AreVisitsBy : {P S K : Type 0} → (List P → Type 0) → Visitors.Ghosts P S K → (S → Option (List ℕ)) → (S → ℕ) → (K → Option (List ℕ)) → (K → ℕ)
    → List (VisitedClient P S K) → Visiting
AreVisitsBy {P} opens visiting left source_faults written sink_faults clients told first journal =
    (visitors : List P) × (opens visitors × AreVisitsOf visiting left source_faults written sink_faults visitors clients told first journal)

-- of a journal nothing is said
abbrev pub Anybody : Serving
Anybody journal last = Unit {0}

-- The log on a disk was opened with so many write buffers and shared among those who came until no more came, and it was closed, broken or not.
pub record WasOpen (Visits : Visiting) (buffers : ℕ) (broken : Bool) (old new : DiskState) : Type 0 where
  pub shared : IsShared Anybody buffers broken old new
  pub visits : Visits old.nature.tells_contents shared.taken.first shared.journal

-- How sharing a log by a door ends: what each status says of the log on the disk, before and after, of how the clients' visits ended, none if the log wasn't
-- shared, of the bytes that the sink has taken, and of its count of faults. `Shut` says that the door can't be opened.
pub record EndsDoor (Shut : Type 0) (Visits : Visiting) (status buffers : ℕ) (old new : DiskState) (ends : List ComingEnd)
    (written written_after : Option (List ℕ)) (sink sink_after : ℕ) : Type 0 where
  -- there is no other status
  pub statuses : IsShareStatus status
  -- programs could come, no more come, and the log isn't broken; that they may come was written
  pub done : status ≡ 0 → WasOpen Visits buffers false old new
  pub done_ready : status ≡ 0 → Appends written written_after ready_text
  pub done_came : status ≡ 0 → could_any_come ends ≡ true
  -- no program could come, and the log isn't broken: the door can't be opened, and nothing was written, or it could, and that programs may come was written
  pub none_came : status ≡ 18 → (Shut × (LeavesFiles old new × ((ends ≡ []) × Appends written written_after [])))
      ⊎ (WasOpen Visits buffers false old new × ((could_any_come ends ≡ false) × Appends written written_after ready_text))
  -- this is the status wherever the log was shared and no program could come
  pub none_came_alone : could_any_come ends ≡ false → (ends ≡ []) ⊎ (status ≡ 18)
  -- the sink failed in this call: a front of the line was written that says why the log wasn't opened, or of the one that says that programs may come; no
  -- file has changed then
  pub sink_fault : status ≡ 3 → ports.Rises sink sink_after
  pub sink_fault_front : status ≡ 3 → WritesFront (IsRefusalText old new) written written_after
      ⊎ (LeavesFiles old new × AppendsFront written written_after ready_text)
  -- no more come, and the log is broken, or the disk failed in this call before the log was opened, and the line that says so was written
  pub disk_fault : status ≡ 4 → (WasOpen Visits buffers true old new × Appends written written_after ready_text)
      ⊎ (RefusesLog DiskFault old new × ((ends ≡ []) × Appends written written_after disk_fault_text))
  -- memory ran out before the log was shared, and no file has changed
  pub no_memory : status ≡ 5 → LeavesFiles old new
  pub no_memory_ready : status ≡ 5 → Appends written written_after [] ⊎ Appends written written_after ready_text
  -- the files aren't a log's, and the line that says so was written, and no other one
  pub no_log : status ≡ 6 → Writes (IsUnopenedText old new) written written_after
  -- nobody has come then
  pub unopened : (status ≡ 3) ⊎ ((status ≡ 5) ⊎ (status ≡ 6)) → ends ≡ []
  -- the count of faults never falls
  pub sink_count : sink ≤ sink_after
