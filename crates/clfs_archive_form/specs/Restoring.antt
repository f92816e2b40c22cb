-- What is restored of archives: which container is missing, how far they reach, and the state of the log up to an LSN.
use Rattle.std.specs.Prelude.{ℕ, ◌+◌, ◌-◌, max, min, Bool, ◌||◌, ◌==◌, nat_lt, if◌then◌else◌, List, [], length, map, filter, find, fold, reverse, Option, Some, None, is_none, Result, Ok, Err}
use Rattle.std.specs.List.{range_with_len, last_or}
use Rattle.std.specs.Option.{option_map_or}
use Rattle.clfs_lsn.specs.Lsn.{lsn_number, container_of}
use Rattle.clfs_lsn.specs.Place.{frontier}
use Rattle.clfs_lsn.specs.declared.entry.LogEntry.{LogEntry}
use Rattle.clfs_lsn.specs.declared.place.Place.{Place}
use Rattle.clfs_base.specs.declared.image.BaseImage.{BaseImage}
use Rattle.clfs_base.specs.declared.image.Row.{Row}
use Rattle.clfs_model.specs.Archive.{end_of_block}
use Rattle.clfs_model.specs.declared.state.State.{State}
use Rattle.clfs_recover.specs.Walk.{shape_of, bases_with}
use Rattle.clfs_recover.specs.Files.{state_of}
use Rattle.clfs_recover.specs.Stored.{stored_records}
use Rattle.clfs_recover.specs.declared.parts.Parts.{Parts}
use Rattle.clfs_recover.specs.declared.refusal.LoadRefusal.{LoadRefusal}
use Rattle.clfs_archive_form.specs.declared.archive.Archive.{Archive}
use Rattle.clfs_archive_form.specs.declared.archive.Stored.{Stored}
use Rattle.clfs_archive_form.specs.declared.refusal.InputRefusal.{InputRefusal}
use Rattle.clfs_archive_form.specs.declared.refusal.InputRefusal.TheVariants.{Gap, UpToInvalid}
use Rattle.clfs_archive_form.specs.Containers.{blocks_in, part_of}
use Rattle.clfs_archive_form.specs.Archives.{last_listed}

-- a container is the one of this id
abbrev pub is_container : ℕ → Stored → Bool
is_container id stored = stored.container == id

-- Where a container comes more than once, the last copy of it counts.
abbrev pub last_copy : List Stored → ℕ → Option Stored
last_copy containers id = find (is_container id) (reverse containers)

-- the ids of the containers that the copy lists
abbrev pub listed_ids : BaseImage → List ℕ
listed_ids image = range_with_len image.first (length image.files)

-- no archive has this container
abbrev pub is_missing : List Stored → ℕ → Bool
is_missing containers id = is_none (last_copy containers id)

-- the least id of those that the copy lists which no archive has
abbrev pub gap_in : Archive → Option ℕ
gap_in archive = find (is_missing archive.containers) (listed_ids archive.image)

-- the bytes of a container's blocks in its last copy
abbrev pub end_in : List Stored → ℕ → ℕ
end_in containers id = option_map_or (λ (stored : Stored). stored.len) (last_copy containers id) 0

-- the lowest LSN up to which the log can be restored: the first listed container's offset 0, and no base of the copy lies above it
abbrev pub low_bound : BaseImage → ℕ
low_bound image = fold (λ low (row : Row). max low row.base) (lsn_number image.first 0 0) image.streams

-- the highest one: the frontier of the blocks
abbrev pub high_bound : Archive → ℕ
high_bound archive = lsn_number (last_listed archive.image) (end_in archive.containers (last_listed archive.image)) 0

-- both
abbrev pub bounds_of : Archive → ℕ × ℕ
bounds_of archive = (low_bound archive.image, high_bound archive)

-- this LSN where it is within the bounds
abbrev pub within : ℕ → ℕ → ℕ → Result ℕ InputRefusal
within low high up_to = if nat_lt up_to low || nat_lt high up_to then Err (UpToInvalid low high) else Ok up_to

-- the LSN that is asked for, or the highest one, whatever the lowest is
abbrev pub asked_for : Archive → Option ℕ → Result ℕ InputRefusal
asked_for archive None = Ok (high_bound archive)
asked_for archive (Some up_to) = within (low_bound archive.image) (high_bound archive) up_to

-- Up to which LSN the log is restored: a container that is missing is told first.
abbrev pub chosen_unless : Option ℕ → Result ℕ InputRefusal → Result ℕ InputRefusal
chosen_unless None chosen = chosen
chosen_unless (Some container) chosen = Err (Gap container)

-- the same of archives
abbrev pub chosen : Archive → Option ℕ → Result ℕ InputRefusal
chosen archive up_to = chosen_unless (gap_in archive) (asked_for archive up_to)

-- the blocks of a container in its last copy
abbrev pub blocks_at : List ℕ → Archive → ℕ → List (List ℕ)
blocks_at bytes archive id =
    option_map_or (λ (stored : Stored). blocks_in (part_of bytes stored.at stored.len)) (last_copy archive.containers id) []

-- the containers that the restored log lists: those from the first to that of the LSN
abbrev pub kept_ids : BaseImage → ℕ → List ℕ
kept_ids image up_to = range_with_len image.first (container_of up_to + 1 - image.first)

-- the records that were read; none were refused when the archives were read
abbrev pub were_read : Result (List LogEntry) LoadRefusal → List LogEntry
were_read (Ok entries) = entries
were_read (Err refusal) = []

-- the records of the listed containers below the LSN
unfoldable pub kept_records : List ℕ → Archive → ℕ → List LogEntry
kept_records bytes archive up_to =
    filter (λ (entry : LogEntry). nat_lt entry.lsn up_to) (were_read (stored_records (shape_of archive.image) (length archive.image.streams)
    archive.image.first (map (blocks_at bytes archive) (kept_ids archive.image up_to))))

-- those of one container
abbrev pub in_container : ℕ → List LogEntry → List LogEntry
in_container id entries = filter (λ (entry : LogEntry). container_of entry.lsn == id) entries

-- where the last block of some records ends that has only these, or 0 where there are none
abbrev pub end_of_last : List LogEntry → List LogEntry → ℕ
end_of_last entries here = option_map_or (λ (entry : LogEntry). end_of_block entries entry.lsn) (last_or None here) 0

-- Where the restored log goes on: in the container of the LSN, after the last block that is left there, which is made short where its later
-- records are cut off.
abbrev pub restored_place : List LogEntry → ℕ → Place
restored_place entries up_to = record {
  container = container_of up_to;
  offset = end_of_last entries (in_container (container_of up_to) entries);
  used = 0;
  records = 0;
}

-- the bases of the streams: none lies above the frontier
abbrev pub restored_bases : List Row → List LogEntry → ℕ → List ℕ
restored_bases rows entries end = map (λ base. min base end) (bases_with rows entries)

-- the parts of the log with these records
abbrev pub restored_parts : BaseImage → List LogEntry → ℕ → Parts
restored_parts image entries up_to = record {
  slot = 0;
  image = record image { tail = min image.tail (frontier (restored_place entries up_to)) };
  entries = entries;
  bases = restored_bases image.streams entries (frontier (restored_place entries up_to));
  place = restored_place entries up_to;
}

-- The restored state: all but the records, the bases, the tail and the place is as in the last base copy, and archiving is on in that.
abbrev pub restored : List ℕ → Archive → ℕ → ℕ → State
restored bytes archive up_to buffers = state_of (restored_parts archive.image (kept_records bytes archive up_to) up_to) buffers
