-- What a check tells, against what the files of a log stand for.
use Rattle.std.specs.Prelude.{◌≡◌, ℕ, Bool, IsTrue, ◌↔◌, List, length, sum_by, Result, Ok, Err}
use Rattle.clfs_lsn.specs.Place.{frontier}
use Rattle.clfs_disk.specs.Files.{Files}
use Rattle.clfs_recover.specs.Files.{Finds, AreWholeFiles}
use Rattle.clfs_recover.specs.KnownLogs.{IsLogOf}
use Rattle.clfs_recover.specs.Logs.{IsStoredIn}
use Rattle.clfs_recover.specs.Opening.{IsRefused}
use Rattle.clfs_recover.specs.declared.parts.Parts.{Parts}
use Rattle.clfs_recover.specs.declared.refusal.LoadRefusal.{LoadRefusal}
use Rattle.clfs_check.specs.declared.report.Report.{Report}

-- the report of what opening finds, with so many open blocks, and with files that are whole or not
abbrev pub report_of : Parts → ℕ → Bool → Report
report_of parts blocks whole = record {
  containers = parts.image.containers;
  listed = length parts.image.files;
  blocks = blocks;
  records = length parts.entries;
  streams = length parts.image.streams;
  place = frontier parts.place;
  whole = whole;
}

-- A report is of the log that opening finds in files. Its blocks are the open ones of the listed containers' files, and it says whether the
-- files are whole.
pub record IsReport (files : Files) (report : Report) : Type 0 where
  pub parts : Parts
  pub found : Finds files (Ok parts)
  pub blocks : ℕ → List (List ℕ)
  pub stored : IsStoredIn files parts blocks
  pub is : report ≡ report_of parts (sum_by (λ (file : ℕ). length (blocks file)) parts.image.files) report.whole
  pub whole : IsTrue report.whole ↔ AreWholeFiles files

-- A report is of some log, whatever the disk told: of its parts and of its blocks.
pub record IsReportOfLog (report : Report) : Type 0 where
  pub parts : Parts
  pub log : IsLogOf parts
  pub is : report ≡ report_of parts (sum_by (λ (here : List (List ℕ)). length here) log.blocks) report.whole

-- What a check answers: a report of the log, or why opening finds none.
abbrev pub IsChecked : Files → Result Report LoadRefusal → Type 0
IsChecked files (Ok report) = IsReport files report
IsChecked files (Err refusal) = IsRefused files refusal
