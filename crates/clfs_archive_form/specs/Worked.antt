-- Small archives for the worked rows. The copies of whole archives are too long to be judged there byte by byte: the rows show a copy's front, and what
-- follows a copy after as many other bytes.
use Rattle.std.specs.Prelude.{ℕ, ◌+◌, ◌-◌, true, List, [], ◌∷◌, ◌++◌, length, take, replicate, Option, Some}
use Rattle.std.specs.List.{flat_map, zip}
use Rattle.byteorder.specs.Endian.{little_bytes}
use Rattle.clfs_lsn.specs.Format.{sector_payload}
use Rattle.clfs_lsn.specs.Spelling.{record_bytes}
use Rattle.clfs_lsn.specs.declared.entry.LogEntry.{LogEntry}
use Rattle.clfs_lsn.specs.declared.entry.Kind.TheVariants.{Plain, Restart}
use Rattle.clfs_block.specs.Frame.{used_payload}
use Rattle.clfs_base.specs.declared.demands.Demands.{Demands}
use Rattle.clfs_base.specs.declared.image.BaseImage.{BaseImage}
use Rattle.clfs_base.specs.Layout.{layout_in, numbers_of, fields}
use Rattle.clfs_base.specs.Spelling.{spelled}
use Rattle.clfs_base.specs.Demands.{asked, wrong_within}
use Rattle.clfs_base.specs.Vector.{small_image}
use Rattle.clfs_model.specs.declared.state.State.{State}
use Rattle.clfs_model.specs.State.{log_of}
use Rattle.clfs_archive_form.specs.declared.archive.Archive.{Archive}
use Rattle.clfs_archive_form.specs.declared.archive.Stored.{Stored}
use Rattle.clfs_archive_form.specs.Form.{count_at}
use Rattle.clfs_archive_form.specs.Copies.{with_tail}

-- the first byte of container 1 as an LSN
abbrev pub first_lsn : ℕ
first_lsn = 4294967296

-- the first byte of container 2
abbrev pub second_lsn : ℕ
second_lsn = 8589934592

-- a record of one byte in stream 1, whose links name one record
abbrev pub small_record : ℕ → ℕ → ℕ → LogEntry
small_record lsn link byte =
    record { lsn = lsn; stream = 1; kind = Plain; previous = link; undo_next = link; new_base = 0; bytes = byte ∷ [] }

-- a block of one sector at an LSN with these records
abbrev pub block_with : ℕ → List LogEntry → List ℕ
block_with start entries =
    let content = flat_map record_bytes entries in
    let payload = used_payload 165 (length entries) content in
    payload ++ (replicate (sector_payload - length payload) 0 ++ little_bytes 8 start)

-- the first record of the small log, which has two, each in a block of its own
abbrev pub first_record : LogEntry
first_record = small_record first_lsn 0 170

-- the second one, whose links name the first
abbrev pub second_record : LogEntry
second_record = small_record (first_lsn + 512) first_lsn 187

-- the block of the first record
abbrev pub first_block : List ℕ
first_block = block_with first_lsn (first_record ∷ [])

-- the block of the second record
abbrev pub second_block : List ℕ
second_block = block_with (first_lsn + 512) (second_record ∷ [])

-- three records
abbrev pub three_records : List LogEntry
three_records = small_record first_lsn 0 1 ∷ small_record (first_lsn + 1) first_lsn 2 ∷ small_record (first_lsn + 2) first_lsn 3 ∷ []

-- their block
abbrev pub three_block : List ℕ
three_block = block_with first_lsn three_records

-- a record in container 2
abbrev pub further_record : LogEntry
further_record = small_record second_lsn first_lsn 204

-- its block
abbrev pub further_block : List ℕ
further_block = block_with second_lsn (further_record ∷ [])

-- a restart area in place of the second record, which moves the base of its stream to itself
abbrev pub restart_area : LogEntry
restart_area = record (small_record (first_lsn + 512) 0 187) { kind = Restart; new_base = first_lsn + 512 }

-- its block
abbrev pub restart_block : List ℕ
restart_block = block_with (first_lsn + 512) (restart_area ∷ [])

-- the copy of that log, with this base of its stream: blocks of 2 sectors and 2 containers of 8, of which container 1 is listed
abbrev pub copy_with : ℕ → BaseImage
copy_with base = record small_image { archiving = true; tail = first_lsn; streams = record { name = 115 ∷ []; base = base } ∷ [] }

-- that copy with the base 0
abbrev pub small_copy : BaseImage
small_copy = copy_with 0

-- the same once container 2 is listed too
abbrev pub longer_copy : BaseImage
longer_copy = record small_copy { files = 1 ∷ 2 ∷ [] }

-- what follows the copy in the archive of that log
abbrev pub small_rest : List ℕ
small_rest = little_bytes 4 1 ++ (little_bytes 4 1 ++ (little_bytes 4 1024 ++ (first_block ++ second_block)))

-- an archive whose copy isn't looked at, with these bytes after that
abbrev pub behind_copy : List ℕ → List ℕ
behind_copy rest = replicate count_at 0 ++ rest

-- the front of a copy in an archive
abbrev pub copy_front : BaseImage → List ℕ
copy_front image = 49 ∷ take 65 (spelled image)

-- the first byte of the first field that is wrong in a front, or none that is asked for
abbrev pub front_fault : Demands → List ℕ → Option ℕ
front_fault demands front = wrong_within front (zip (fields (layout_in front) (numbers_of front)) (asked (with_tail front demands)))

-- a container of an input
abbrev pub stored : ℕ → ℕ → ℕ → Stored
stored container at len = record { container = container; at = at; len = len }

-- the archive of the small log over an input that has its two blocks alone
abbrev pub small_archive : BaseImage → Archive
small_archive image = record { image = image; containers = stored 1 0 1024 ∷ [] }

-- the state of that log with these records, which goes on at this offset of container 1
abbrev pub small_state : List LogEntry → ℕ → State
small_state records offset = record (log_of 2 8 2 4) {
  streams = record { name = 115 ∷ []; base = 0 } ∷ [];
  records = records;
  place = record { container = 1; offset = offset; used = 0; records = 0 };
  archive = Some first_lsn;
}
