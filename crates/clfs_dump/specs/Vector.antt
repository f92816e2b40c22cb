-- What is asked for of a small log, and its files, for the worked rows.
use Rattle.std.specs.Prelude.{ℕ, ◌==◌, if◌then◌else◌, List, [], ◌++◌, replicate, Some, None}
use Rattle.clfs_disk.specs.Files.{Files}
use Rattle.clfs_dump.specs.declared.selection.DataForm.TheVariants.{Hex, Nothing}
use Rattle.clfs_dump.specs.declared.selection.Selection.{Selection}

-- all records
abbrev pub all : Selection
all = record { from = None; to = None; stream = None; form = Hex }

-- all without their data
abbrev pub without_data : Selection
without_data = record { from = None; to = None; stream = None; form = Nothing }

-- those from an LSN on
abbrev pub from : ℕ → Selection
from lsn = record all { from = Some lsn }

-- those below an LSN
abbrev pub up_to : ℕ → Selection
up_to lsn = record all { to = Some lsn }

-- those of the stream of this name
abbrev pub named : List ℕ → Selection
named name = record all { stream = Some name }

-- files in which the first container's begins with this block, after which the gate is closed
abbrev pub one_file : List ℕ → Files
one_file block file = if file == 1 then block ++ replicate 512 0 else []
