-- What is written if the disk fails.
use Rattle.std.specs.Prelude.{ℕ, List, codes}

-- the line for a disk that failed before a log was made or opened
abbrev pub disk_fault_text : List ℕ
disk_fault_text = codes "disk fault\n"
