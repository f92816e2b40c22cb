-- What a disk in memory keeps: three copies of each file beside the record of its calls.
use Rattle.std.specs.Prelude.{◌≡◌, ℕ, false, List, length, slice_index}
use Rattle.clfs_disk.specs.Files.{Files, Unchanged}
use Rattle.clfs_disk.specs.Table.{files_by}
use Rattle.clfs_disk.specs.Record.{Moment, at_rest, replay, bytes_written}
use Rattle.clfs_disk.specs.declared.record.Event.{Event}
use Rattle.clfs_disk.specs.declared.copies.FileCopies.{FileCopies}

-- The files as they read.
abbrev pub read_files : List FileCopies → Files
read_files = files_by (λ copies. copies.read.items)

-- The files as they were last synced.
abbrev pub synced_files : List FileCopies → Files
synced_files = files_by (λ copies. copies.synced.items)

-- The files as they were when the record began.
abbrev pub first_files : List FileCopies → Files
first_files = files_by (λ copies. copies.first.items)

-- The moment after the calls of the record.
abbrev pub now_of : List FileCopies → List Event → List ℕ → Moment
now_of files calls written = replay (at_rest (first_files files)) calls written

-- A file counts as synced as far as it is long, and where nothing is pending the two copies agree.
pub record IsSound (m : Moment) : Type 0 where
  pub same_length : (file : ℕ) → length (m.synced file) ≡ length (m.files file)
  pub agree : (file i : ℕ) → m.pending file i ≡ false → slice_index (m.synced file) i ≡ slice_index (m.files file) i

-- The copies are those that the record tells, and the record has the bytes of its writes.
pub record Holds (files : List FileCopies) (calls : List Event) (written : List ℕ) : Type 0 where
  pub count : length files ≡ 257
  pub bytes : bytes_written calls ≡ length written
  pub read : Unchanged (now_of files calls written).files (read_files files)
  pub synced : Unchanged (now_of files calls written).synced (synced_files files)
  pub sound : IsSound (now_of files calls written)
