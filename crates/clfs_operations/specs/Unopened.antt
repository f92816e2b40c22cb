-- How a command ends whose log wasn't opened, by its status.
use Rattle.std.specs.Prelude.{◌≡◌, ◌⊎◌, ℕ, ◌≤◌, List, [], Option}
use Rattle.std.specs.Io.KnownBytes.{Appends}
use Rattle.clfs_ports.specs.Cause as ports
use Rattle.clfs_disk.specs.State.{DiskState}
use Rattle.clfs_recover.specs.declared.refusal.LoadRefusal.TheVariants.{DiskFault}
use Rattle.clfs_lines.specs.Answering.{Writes, WritesFront}
use Rattle.clfs_operations.specs.Ends.{disk_fault_text}
use Rattle.clfs_operations.specs.Opened.{RefusesLog, IsUnopenedText, IsRefusalText}
use Rattle.clfs_operations.specs.Race.{LeavesFiles}

-- The log wasn't opened: what each status says of the disk, before and after, of the bytes that the sink has taken, and of its count of faults.
pub record EndsUnopened (status : ℕ) (old new : DiskState) (written written_after : Option (List ℕ)) (sink sink_after : ℕ) : Type 0 where
  -- there is no other status
  pub statuses : (status ≡ 3) ⊎ ((status ≡ 4) ⊎ ((status ≡ 5) ⊎ (status ≡ 6)))
  -- the sink failed in this call: a front of the line was written that says why
  pub sink_fault : status ≡ 3 → ports.Rises sink sink_after
  pub sink_fault_front : status ≡ 3 → WritesFront (IsRefusalText old new) written written_after
  -- the disk failed in this call, and the line that says so was written
  pub disk_fault : status ≡ 4 → RefusesLog DiskFault old new × Appends written written_after disk_fault_text
  -- memory ran out, and no file has changed
  pub no_memory : status ≡ 5 → LeavesFiles old new
  pub no_memory_silence : status ≡ 5 → Appends written written_after []
  -- the files aren't a log's, and the line that says so was written
  pub no_log : status ≡ 6 → Writes (IsUnopenedText old new) written written_after
  -- the count of faults never falls
  pub sink_count : sink ≤ sink_after
