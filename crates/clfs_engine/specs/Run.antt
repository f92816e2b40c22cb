-- How a command of the program ends: each by a definition of its own.
use Rattle.std.specs.Prelude.{◌≡◌, ℕ, Bool, true, false, List, Option, Some, None}
use Rattle.clfs_disk.specs.State.{DiskState}
use Rattle.clfs_ports.specs.Cause.{Rises}
use Rattle.clfs_command.specs.declared.words.Command.{Command}
use Rattle.clfs_command.specs.declared.words.Command.TheVariants.{Format, Serve, Race, Trial, Crew, Check, Crowd, Dump, Txn, Archive, Restore}
use Rattle.clfs_operations.specs.Archiving.{EndsArchive, NothingFailsArchiving, IsArchivingDone}
use Rattle.clfs_operations.specs.Check.{EndsCheck}
use Rattle.clfs_operations.specs.Complete.{IsDone, NothingFailsAnswering, NothingFailsServing, NothingFailsRacing, NothingFailsMaking, NothingFailsChecking, ComesThrough, RaceComesThrough}
use Rattle.clfs_operations.specs.Dump.{EndsDump, selection_of}
use Rattle.clfs_operations.specs.Format.{EndsFormat}
use Rattle.clfs_operations.specs.Lengths.{incomplete_of, limits_of}
use Rattle.clfs_operations.specs.Race.{EndsRacing}
use Rattle.clfs_operations.specs.Restoring.{EndsRestore, NothingFailsRestoring, IsRestoringDone}
use Rattle.clfs_operations.specs.Serve.{EndsServing, EndsByUsage}
use Rattle.clfs_operations.specs.Trial.{EndsTrial}
use Rattle.clfs_operations.specs.Txn.{EndsTxn, TableComesThrough}
use Rattle.clfs_engine.specs.Crew.{EndsCrew}
use Rattle.clfs_engine.specs.Crowd.{EndsCrowd}
use Rattle.clfs_engine.specs.declared.program.ThreadedCommand.{ThreadedCommand}
use Rattle.clfs_engine.specs.declared.program.ThreadedCommand.TheVariants as threaded

-- What lies outside of the program, before a command and after it: the disk, what the source has left, what the sink has taken, and the counts of faults
-- of both.
pub record Outside : Type 1 where
  pub disk : DiskState
  pub disk_after : DiskState
  pub left : Option (List ℕ)
  pub left_after : Option (List ℕ)
  pub written : Option (List ℕ)
  pub written_after : Option (List ℕ)
  pub source : ℕ
  pub source_after : ℕ
  pub sink : ℕ
  pub sink_after : ℕ

-- How a command ends with this status, whatever happens outside.
abbrev pub Ends : Option Command → ℕ → Outside → Type 0
Ends (Some (Serve buffers reads length)) status o =
    EndsServing (limits_of length) (incomplete_of length) status buffers o.disk o.disk_after o.left o.left_after o.written o.written_after o.source o.source_after o.sink o.sink_after
Ends (Some (Race buffers)) status o =
    EndsRacing status buffers o.disk o.disk_after o.left o.left_after o.written o.written_after o.source o.source_after o.sink o.sink_after
Ends (Some (Format shape containers dedicated)) status o =
    EndsFormat status shape containers dedicated o.disk o.disk_after o.written o.written_after o.sink o.sink_after
Ends (Some (Trial number count)) status o = EndsTrial status number count o.written o.written_after o.sink o.sink_after
Ends (Some (Crew threads count)) status o = EndsCrew status threads count o.written o.written_after o.sink o.sink_after
Ends (Some (Crowd threads count)) status o = EndsCrowd status threads count o.written o.written_after o.sink o.sink_after
Ends (Some Check) status o = EndsCheck status o.disk o.disk_after o.written o.written_after o.sink o.sink_after
Ends (Some (Dump options)) status o =
    EndsDump (selection_of options) status o.disk o.disk_after o.written o.written_after o.sink o.sink_after
Ends (Some Txn) status o =
    EndsTxn status o.disk o.disk_after o.left o.left_after o.written o.written_after o.source o.source_after o.sink o.sink_after
Ends (Some Archive) status o = EndsArchive status o.disk o.disk_after o.written o.written_after o.sink o.sink_after
Ends (Some (Restore up_to)) status o =
    EndsRestore up_to status o.disk o.disk_after o.left o.left_after o.written o.written_after o.source o.source_after o.sink o.sink_after
Ends None status o = EndsByUsage status o.written o.written_after o.sink o.sink_after

-- What a command comes to if nothing outside fails: it is done, unless memory runs out.
abbrev pub ComesToAnEnd : Option Command → ℕ → Outside → Type 0
ComesToAnEnd (Some (Serve buffers reads length)) status o =
    NothingFailsAnswering (limits_of length) o.disk o.disk_after o.left o.source o.source_after o.sink o.sink_after
    → ComesThrough (limits_of length) (incomplete_of length) status buffers o.disk o.disk_after o.left o.left_after o.written o.written_after
ComesToAnEnd (Some (Race buffers)) status o =
    NothingFailsRacing o.disk o.disk_after o.left o.source o.source_after o.sink o.sink_after
    → RaceComesThrough status buffers o.disk o.disk_after o.left o.left_after o.written o.written_after
ComesToAnEnd (Some (Format shape containers dedicated)) status o = NothingFailsMaking o.disk o.disk_after o.sink o.sink_after → IsDone status
ComesToAnEnd (Some (Trial number count)) status o = (Rises o.sink o.sink_after → ⊥) → IsDone status
ComesToAnEnd (Some (Crew threads count)) status o = (Rises o.sink o.sink_after → ⊥) → IsDone status
ComesToAnEnd (Some (Crowd threads count)) status o = (Rises o.sink o.sink_after → ⊥) → IsDone status
ComesToAnEnd (Some Check) status o = NothingFailsChecking o.disk o.disk_after o.sink o.sink_after → IsDone status
ComesToAnEnd (Some (Dump options)) status o = NothingFailsChecking o.disk o.disk_after o.sink o.sink_after → IsDone status
ComesToAnEnd (Some Txn) status o =
    NothingFailsServing o.disk o.disk_after o.left o.source o.source_after o.sink o.sink_after
    → TableComesThrough status o.disk o.disk_after o.left o.left_after o.written o.written_after
ComesToAnEnd (Some Archive) status o = NothingFailsArchiving o.disk o.disk_after o.sink o.sink_after → IsArchivingDone status
ComesToAnEnd (Some (Restore up_to)) status o =
    NothingFailsRestoring o.disk o.disk_after o.source o.source_after o.sink o.sink_after → IsRestoringDone status
ComesToAnEnd None status o = Unit {0}

-- How a command ends: whatever happens outside, and if nothing there fails.
pub record EndsRun (command : Option Command) (status : ℕ) (outside : Outside) : Type 0 where
  pub ends : Ends command status outside
  pub comes : ComesToAnEnd command status outside

-- whether a command reads the source: it answers a script, or it takes archives
abbrev pub reads_source : Option Command → Bool
reads_source (Some (Serve buffers reads length)) = true
reads_source (Some (Race buffers)) = true
reads_source (Some Txn) = true
reads_source (Some (Restore up_to)) = true
reads_source _ = false

-- whether a command calls the disk: it serves a log or a table, or it races over, makes, judges, dumps, archives or restores a log
abbrev pub calls_disk : Option Command → Bool
calls_disk (Some (Trial number count)) = false
calls_disk (Some (Crew threads count)) = false
calls_disk (Some (Crowd threads count)) = false
calls_disk None = false
calls_disk _ = true

-- the command of those that start threads
abbrev pub command_of_threaded : ThreadedCommand → Command
command_of_threaded (threaded.Race buffers) = Race buffers
command_of_threaded (threaded.Crew threads count) = Crew threads count
command_of_threaded (threaded.Crowd threads count) = Crowd threads count

-- whether a command starts threads
abbrev pub starts_threads : Option Command → Bool
starts_threads (Some (Race buffers)) = true
starts_threads (Some (Crew threads count)) = true
starts_threads (Some (Crowd threads count)) = true
starts_threads _ = false
