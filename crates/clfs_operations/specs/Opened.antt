-- Why the log on a disk wasn't opened, as it is told.
use Rattle.std.specs.Prelude.{◌≡◌, ◌≢◌, ◌⊎◌, ℕ, ◌≤◌, List, [], ◌++◌, codes, Option}
use Rattle.std.specs.Io.KnownBytes.{Appends}
use Rattle.std.specs.Fmt.{decimal}
use Rattle.clfs_disk.specs.Files.{Unchanged}
use Rattle.clfs_disk.specs.State.{DiskState, TellsContents, IsSteady, Passes, Rises}
use Rattle.clfs_recover.specs.Opening.{IsRefused}
use Rattle.clfs_recover.specs.Telling.{TellsOpening}
use Rattle.clfs_recover.specs.declared.refusal.LoadRefusal.{LoadRefusal}
use Rattle.clfs_recover.specs.declared.refusal.LoadRefusal.TheVariants.{NoBase, Damaged, DiskFault, NoMemory}
use Rattle.clfs_ports.specs.Cause as ports
use Rattle.clfs_lines.specs.Ends.{AppendsFront}
use Rattle.clfs_operations.specs.Ends.{disk_fault_text}

-- the line for files that aren't a log's: the place is told in decimal numbers
abbrev pub no_log_text : LoadRefusal → List ℕ
no_log_text (Damaged container offset at) =
    codes "not a log: container " ++ (decimal container ++ (codes " offset " ++ (decimal offset ++ (codes " byte " ++ (decimal at ++ codes "\n")))))
no_log_text _ = codes "not a log: no open slot\n"

-- whether files aren't a log's: no slot is open, or there is damage
abbrev pub IsNoLog : LoadRefusal → Type 0
IsNoLog NoBase = Unit {0}
IsNoLog (Damaged container offset at) = Unit {0}
IsNoLog DiskFault = ⊥
IsNoLog NoMemory = ⊥

-- The log wasn't opened, for a cause that is so, and no file has changed.
pub record RefusesLog (refusal : LoadRefusal) (old new : DiskState) : Type 0 where
  pub is : TellsContents old → IsRefused old.files refusal
  pub cause : refusal ≡ DiskFault → Rises old.faults new.faults
  pub steady : IsSteady old → refusal ≡ DiskFault → ⊥
  pub same : Unchanged old.files new.files
  pub time : Passes Unchanged old new

-- The files aren't a log's, and this is the line that says so.
pub record IsNoLogText (old new : DiskState) (text : List ℕ) : Type 0 where
  pub refusal : LoadRefusal
  pub no_log : IsNoLog refusal
  pub refuses : RefusesLog refusal old new
  pub line : text ≡ no_log_text refusal

-- The same of a log that wasn't opened. Whatever the disk, damage is told of some bytes that fail at just that place: of a base copy, or of a block of a
-- container that it lists.
pub record IsUnopenedText (old new : DiskState) (text : List ℕ) : Type 0 where
  pub no_log : IsNoLogText old new text
  pub place : TellsOpening no_log.refusal

-- The log wasn't opened, and this is the line that says why.
abbrev pub IsRefusalText : DiskState → DiskState → List ℕ → Type 0
IsRefusalText old new text = IsNoLogText old new text ⊎ (RefusesLog DiskFault old new × (text ≡ disk_fault_text))

-- the line that says why the log wasn't opened
abbrev pub refusal_line : LoadRefusal → List ℕ
refusal_line DiskFault = disk_fault_text
refusal_line refusal = no_log_text refusal

-- the status for why the log wasn't opened
abbrev pub refusal_status : LoadRefusal → ℕ
refusal_status DiskFault = 4
refusal_status NoMemory = 5
refusal_status _ = 6

-- Why the log wasn't opened was told by its status and its line, or the sink failed and took a front of it, or memory ran out and nothing was
-- written.
pub record TellsRefusal (status : ℕ) (refusal : LoadRefusal) (written written_after : Option (List ℕ)) (sink sink_after : ℕ) : Type 0 where
  pub statuses : (status ≡ refusal_status refusal) ⊎ ((status ≡ 3) ⊎ (status ≡ 5))
  pub line : status ≢ 3 → status ≢ 5 → Appends written written_after (refusal_line refusal)
  pub sink_fault : status ≡ 3 → ports.Rises sink sink_after
  pub sink_fault_front : status ≡ 3 → (refusal ≢ NoMemory) × AppendsFront written written_after (refusal_line refusal)
  pub no_memory_silence : status ≡ 5 → Appends written written_after []
  pub sink_count : sink ≤ sink_after
