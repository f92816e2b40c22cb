-- What is reported of the walk.
use Rattle.std.proofs.Common.{◌≡◌, ℕ, ◌-◌, ◌^◌, ◌<◌, ◌≤◌, Bool, true, List, length, Ok, sym, ap, ◌∙◌, subst, arith}
use Rattle.std.specs.Prelude.{min, sum_by, ◌==◌}
use Rattle.std.proofs.lemmas.List.Sums.{count_by-le-length}
use Rattle.clfs_lsn.specs.Lsn.{sequence_of}
use Rattle.clfs_lsn.specs.Place.{IsSmall, IsWithin, IsClosed}
use Rattle.clfs_lsn.specs.Size.{IsShape}
use Rattle.clfs_lsn.specs.declared.entry.LogEntry.{LogEntry}
use Rattle.clfs_lsn.specs.declared.place.Place.{Place}
use Rattle.clfs_lsn.specs.declared.shape.Shape.{Shape}
use Rattle.clfs_disk.specs.Files.{Files}
use Rattle.clfs_recover.specs.Counting.{blocks_begun}
use Rattle.clfs_recover.specs.Files.{Finds, AreWholeFiles}
use Rattle.clfs_recover.specs.KnownLogs.{IsLogOf}
use Rattle.clfs_recover.specs.Logs.{IsStoredIn}
use Rattle.clfs_recover.specs.Whole.{are_whole}
use Rattle.clfs_recover.specs.declared.parts.Parts.{Parts}
use Rattle.clfs_check.specs.Reporting.{report_of, IsReport, IsReportOfLog}
use Rattle.clfs_check.specs.declared.report.Report.{Report}

-- a place at which no block is open, within a container
pub small_place : (shape : Shape) (place : Place) → IsShape shape → IsWithin shape place → IsClosed place → IsSmall place
small_place shape place is within closed = record {
  offset = within.offset;
  low = omega (arith, within.offset, within.end, is.largest_container);
  used = omega (arith, closed.0);
  records = omega (arith, closed.1);
}

-- few records are counted as they are, and so are the blocks that they begin
pub few_records : (count : ℕ) (entries : List LogEntry) → count ≡ min (length entries) (2 ^ 64 - 1) → length entries < 2 ^ 31 → count ≡ length entries
few_records count entries counted few = omega (arith, counted, few)

pub few_blocks : (count : ℕ) (entries : List LogEntry) → count ≡ min (blocks_begun entries) (2 ^ 64 - 1) → length entries < 2 ^ 31 → count ≡ blocks_begun entries
few_blocks count entries counted few =
    let fewer : blocks_begun entries ≤ length entries = count_by-le-length (λ (entry : LogEntry). sequence_of entry.lsn == 0) entries in
    omega (arith, counted, few, fewer)

-- a report of what was found in files
pub reports : (files : Files) (parts : Parts) (blocks : ℕ → List (List ℕ)) (count : ℕ) (whole : Bool) (report : Report)
    → report ≡ report_of parts count whole → Finds files (Ok parts) → IsStoredIn files parts blocks
    → count ≡ sum_by (λ (file : ℕ). length (blocks file)) parts.image.files → whole ≡ are_whole files
    → (AreWholeFiles files → are_whole files ≡ true) → (are_whole files ≡ true → AreWholeFiles files) → IsReport files report
reports files parts blocks count whole report is found stored counted tested passes tells = subst (IsReport files) (sym is) (record {
  parts = parts;
  found = found;
  blocks = blocks;
  stored = stored;
  is = ap (λ (n : ℕ). report_of parts n whole) counted;
  whole = (λ yes. tells (sym tested ∙ yes), λ are. tested ∙ passes are);
})

-- a report of a log over any disk
pub reports_log : (parts : Parts) (log : IsLogOf parts) (count : ℕ) (whole : Bool) (report : Report) → report ≡ report_of parts count whole
    → count ≡ sum_by (λ (here : List (List ℕ)). length here) log.blocks → IsReportOfLog report
reports_log parts log count whole report is counted =
    subst IsReportOfLog (sym is) (record { parts = parts; log = log; is = ap (λ (n : ℕ). report_of parts n whole) counted })
