-- What is to be archived: the flushed blocks that have a record at or above the archive tail.
use Rattle.std.specs.Prelude.{ℕ, ◌+◌, ◌-◌, ◌*◌, Bool, ◌&&◌, ◌==◌, nat_lt, nat_le, List, [], filter, length, sum_by, Option, None, slice_get}
use Rattle.std.specs.List.{range_with_len, filter_map, last_or}
use Rattle.std.specs.Option.{option_map_or, option_map}
use Rattle.clfs_lsn.specs.Format.{sector_bytes, block_header}
use Rattle.clfs_lsn.specs.Lsn.{container_of, offset_of}
use Rattle.clfs_lsn.specs.Size.{size, sectors}
use Rattle.clfs_lsn.specs.declared.entry.LogEntry.{LogEntry}
use Rattle.clfs_model.specs.declared.info.Extent.{Extent}
use Rattle.clfs_model.specs.declared.state.State.{State}
use Rattle.clfs_model.specs.Flush.{flushed}

-- two LSNs lie in one block where they have one container and one offset
abbrev pub is_in_block : ℕ → ℕ → Bool
is_in_block lsn other = (container_of lsn == container_of other) && (offset_of lsn == offset_of other)

-- the bytes of payload of a record's block: its header, and the sizes of its records
abbrev pub block_payload : List LogEntry → ℕ → ℕ
block_payload records lsn =
    block_header + sum_by (λ (entry : LogEntry). size (length entry.bytes)) (filter (λ (entry : LogEntry). is_in_block entry.lsn lsn) records)

-- the offset after a record's block
abbrev pub end_of_block : List LogEntry → ℕ → ℕ
end_of_block records lsn = offset_of lsn + sector_bytes * sectors (block_payload records lsn)

-- the records at or above the tail in flushed blocks of a container
abbrev pub archived_in : State → ℕ → ℕ → List LogEntry
archived_in s tail container =
    filter (λ (entry : LogEntry). (container_of entry.lsn == container) && nat_le tail entry.lsn && nat_lt entry.lsn (flushed s)) s.records

-- from the offset of the first record's block to the end of the last one's
abbrev pub extent_between : State → LogEntry → LogEntry → Extent
extent_between s first last = record {
  container = container_of first.lsn;
  low = offset_of first.lsn;
  high = end_of_block s.records last.lsn;
}

-- the extent of a container, where it has a block to be archived
abbrev pub extent_in : State → ℕ → ℕ → Option Extent
extent_in s tail container =
    let archived = archived_in s tail container in
    option_map (λ (first : LogEntry). extent_between s first (option_map_or (λ (last : LogEntry). last) (last_or None archived) first)) (slice_get archived 0)

-- the extents of the containers from the tail's to the place's, in order
abbrev pub extents_from : State → ℕ → List Extent
extents_from s tail = filter_map (extent_in s tail) (range_with_len (container_of tail) (s.place.container + 1 - container_of tail))

-- the extents, where archiving is on
abbrev pub extents : State → List Extent
extents s = option_map_or (extents_from s) s.archive []
