-- What a part of a dump leaves in its sink and of its disk.
use Rattle.std.specs.Prelude.{◌≡◌, ℕ, ◌≤◌, List, take, Option, Result, Ok, Err, IsErrOf}
use Rattle.std.specs.Io.KnownBytes.{Appends}
use Rattle.clfs_ports.specs.Cause as ports
use Rattle.clfs_disk.specs.Files.{Unchanged}
use Rattle.clfs_disk.specs.State.{DiskState, IsSteady, Passes, Rises}
use Rattle.clfs_recover.specs.declared.refusal.LoadRefusal.{LoadRefusal}
use Rattle.clfs_recover.specs.declared.refusal.LoadRefusal.TheVariants as logs
use Rattle.clfs_dump.specs.declared.refusal.DumpRefusal.{DumpRefusal}
use Rattle.clfs_dump.specs.declared.refusal.DumpRefusal.TheVariants.{NoBase, Damaged, DiskFault, NoMemory, SinkFault}

-- A front of this text was written, and nothing else.
pub record AppendsFront (written written_after : Option (List ℕ)) (text : List ℕ) : Type 0 where
  pub count : ℕ
  pub front : Appends written written_after (take count text)

-- why opening finds no log, as the refusal of a dump
abbrev pub as_dump : LoadRefusal → DumpRefusal
as_dump logs.NoBase = NoBase
as_dump (logs.Damaged container offset at) = Damaged container offset at
as_dump logs.DiskFault = DiskFault
as_dump logs.NoMemory = NoMemory

-- A part of a log with this text was printed, and what was found at its end is answered. Where the sink, the disk or memory failed, a front of the
-- text was written.
abbrev pub Prints : {T : Type 0} → Option (List ℕ) → Option (List ℕ) → List ℕ → Result T LoadRefusal → Result T DumpRefusal → Type 0
Prints written written_after text found (Ok value) = Appends written written_after text × (found ≡ Ok value)
Prints written written_after text found (Err NoBase) = Appends written written_after text × (found ≡ Err logs.NoBase)
Prints written written_after text found (Err (Damaged container offset at)) =
    Appends written written_after text × (found ≡ Err (logs.Damaged container offset at))
Prints written written_after text found (Err DiskFault) = AppendsFront written written_after text
Prints written written_after text found (Err NoMemory) = AppendsFront written written_after text
Prints written written_after text found (Err SinkFault) = AppendsFront written written_after text

-- The disk was only read. No file and no image changed, and a disk fault is answered only where the disk fails, which a steady one doesn't.
pub record OnlyReads {T : Type 0} (result : Result T DumpRefusal) (old new : DiskState) : Type 0 where
  pub same : Unchanged old.files new.files
  pub time : Passes Unchanged old new
  pub cause : IsErrOf result DiskFault → Rises old.faults new.faults
  pub steady : IsSteady old → (IsErrOf result DiskFault → ⊥) × (new.faults ≡ old.faults)

-- A sink fault is answered only where the sink fails, and its count of faults never falls.
pub record HasSinkCause {T : Type 0} (result : Result T DumpRefusal) (sink sink_after : ℕ) : Type 0 where
  pub cause : IsErrOf result SinkFault → ports.Rises sink sink_after
  pub later : sink ≤ sink_after
