-- What a `Memory` shows, and which of its calls are done.
use Rattle.std.specs.Prelude.{ℕ, ◌+◌, ◌<◌, ◌≤◌, List, length, vec_len, Contains}
use Rattle.clfs_disk.specs.Files.{Files}
use Rattle.clfs_disk.specs.State.{DiskState}
use Rattle.clfs_disk.specs.Record.{recorded}
use Rattle.clfs_disk.specs.Copies.{read_files, synced_files, first_files}
use Rattle.clfs_disk.specs.declared.memory.Memory.{Memory}

-- All that the disk shows.
abbrev pub shown : Memory → DiskState
shown disk = recorded (first_files disk.files.items) disk.history.calls.items disk.history.written.items (read_files disk.files.items)
    disk.calls disk.faults

-- What its files held at the last sync, with zeros where they were grown since.
abbrev pub synced_of : Memory → Files
synced_of disk = synced_files disk.files.items

-- How many written bytes the record has.
abbrev pub bytes_of : Memory → ℕ
bytes_of disk = vec_len disk.history.written

-- What a disk in memory is told at its making: the room of its record in calls and in written bytes, and the numbers, from
-- 1, of the calls that are to fail.
pub record Plan : Type 0 where
  pub call_room : ℕ
  pub byte_room : ℕ
  pub failing : List ℕ

-- What the disk was told.
abbrev pub plan_of : Memory → Plan
plan_of disk = record {
  call_room = disk.history.call_room;
  byte_room = disk.history.byte_room;
  failing = disk.history.failing.items;
}

-- The next call has a place in the record, and its number isn't listed.
pub record Admits (disk : Memory) : Type 0 where
  pub room : (shown disk).calls < (plan_of disk).call_room
  pub unlisted : Contains (plan_of disk).failing ((shown disk).calls + 1) → ⊥

-- A write of so many bytes at a place of a file is done: the call is admitted, its bytes have room, and the file has the range.
pub record AdmitsWrite (file at count : ℕ) (disk : Memory) : Type 0 where
  pub call : Admits disk
  pub bytes : bytes_of disk + count ≤ (plan_of disk).byte_room
  pub range : at + count ≤ length ((shown disk).files file)
