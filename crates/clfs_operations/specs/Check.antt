-- What checking a log comes to.
use Rattle.std.specs.Prelude.{◌≡◌, ◌⊎◌, ℕ, ◌≤◌, Bool, if◌then◌else◌, List, [], ◌++◌, codes, decimal, Option}
use Rattle.std.specs.Io.KnownBytes.{Appends}
use Rattle.clfs_lsn.specs.Words.{lsn_text}
use Rattle.clfs_ports.specs.Cause as ports
use Rattle.clfs_disk.specs.Files.{Unchanged}
use Rattle.clfs_disk.specs.State.{DiskState, TellsContents, IsHonest, IsSettled, Passes}
use Rattle.clfs_recover.specs.declared.refusal.LoadRefusal.TheVariants.{DiskFault}
use Rattle.clfs_check.specs.Reporting.{IsReport, IsReportOfLog}
use Rattle.clfs_check.specs.declared.report.Report.{Report}
use Rattle.clfs_lines.specs.Ends.{AppendsFront}
use Rattle.clfs_operations.specs.Ends.{disk_fault_text}
use Rattle.clfs_operations.specs.Opened.{RefusesLog, IsUnopenedText, IsRefusalText}
use Rattle.clfs_lines.specs.Answering.{Writes, WritesFront}

-- what a report counts
abbrev pub counts_text : Report → List ℕ
counts_text report =
    codes "log containers " ++ (decimal report.containers ++ (codes " listed " ++ (decimal report.listed ++ (codes " blocks " ++ (decimal report.blocks
    ++ (codes " records " ++ (decimal report.records ++ (codes " streams " ++ decimal report.streams))))))))

-- whether the files are at full length
abbrev pub whole_text : Bool → List ℕ
whole_text whole = if whole then codes " whole yes\n" else codes " whole no\n"

-- the line of a report
abbrev pub report_text : Report → List ℕ
report_text report = counts_text report ++ (codes " end " ++ (lsn_text report.place ++ whole_text report.whole))

-- The log on a disk was judged whole, and this is its report. Nothing is pending on the disk then.
pub record ReportsLog (old new : DiskState) (report : Report) : Type 0 where
  pub is : TellsContents old → IsReport old.files report
  pub log : IsReportOfLog report
  pub settled : IsHonest old → IsSettled new

-- a log was found, and this is the line that tells what is in it
pub record IsReportText (old new : DiskState) (text : List ℕ) : Type 0 where
  pub report : Report
  pub reports : ReportsLog old new report
  pub line : text ≡ report_text report

-- A report was told by its line, or the sink failed and took a front of it, or memory ran out and nothing was written.
pub record TellsReport (status : ℕ) (report : Report) (written written_after : Option (List ℕ)) (sink sink_after : ℕ) : Type 0 where
  pub statuses : (status ≡ 0) ⊎ ((status ≡ 3) ⊎ (status ≡ 5))
  pub line : status ≡ 0 → Appends written written_after (report_text report)
  pub sink_fault : status ≡ 3 → ports.Rises sink sink_after
  pub sink_fault_front : status ≡ 3 → AppendsFront written written_after (report_text report)
  pub no_memory_silence : status ≡ 5 → Appends written written_after []
  pub sink_count : sink ≤ sink_after

-- what is told of a log, or why there is none
abbrev pub IsCheckText : DiskState → DiskState → List ℕ → Type 0
IsCheckText old new text = IsReportText old new text ⊎ IsRefusalText old new text

-- the statuses of checking: done, a sink fault, a disk fault, no memory, files that aren't a log's
abbrev pub IsCheckStatus : ℕ → Type 0
IsCheckStatus status = (status ≡ 0) ⊎ ((status ≡ 3) ⊎ ((status ≡ 4) ⊎ ((status ≡ 5) ⊎ (status ≡ 6))))

-- How checking ends: what each status says of the log on the disk and of what the sink has taken.
pub record EndsCheck (status : ℕ) (old new : DiskState) (written written_after : Option (List ℕ)) (sink sink_after : ℕ) : Type 0 where
  -- there is no other status
  pub statuses : IsCheckStatus status
  -- a log is there, and the line that tells what is in it was written
  pub done : status ≡ 0 → Writes (IsReportText old new) written written_after
  -- the sink failed in this call, and took a front of the line that tells what is in the log, or why there is none
  pub sink_fault : status ≡ 3 → ports.Rises sink sink_after
  pub sink_fault_front : status ≡ 3 → WritesFront (IsCheckText old new) written written_after
  -- the disk failed in this call, and the line that says so was written
  pub disk_fault : status ≡ 4 → RefusesLog DiskFault old new
  pub disk_fault_line : status ≡ 4 → Appends written written_after disk_fault_text
  -- memory ran out, and nothing was written
  pub no_memory_silence : status ≡ 5 → Appends written written_after []
  -- the files aren't a log's, and the line that says so was written
  pub no_log : status ≡ 6 → Writes (IsUnopenedText old new) written written_after
  -- whatever the status no file changed, and no image
  pub same : Unchanged old.files new.files
  pub time : Passes Unchanged old new
  -- the sink's count of faults never falls
  pub sink_count : sink ≤ sink_after
