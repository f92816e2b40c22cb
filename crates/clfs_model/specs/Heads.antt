-- The heads of a state's records, and the extents to be archived, over heads alone: no table of the log needs a record's data. What else is
-- read of heads stands in `clfs_lsn`.
use Rattle.std.specs.Prelude.{ℕ, ◌+◌, ◌-◌, ◌*◌, ◌&&◌, ◌==◌, nat_lt, nat_le, List, [], map, filter, sum_by, Option, None, slice_get}
use Rattle.std.specs.List.{range_with_len, filter_map, last_or}
use Rattle.std.specs.Option.{option_map, option_map_or}
use Rattle.clfs_lsn.specs.Format.{sector_bytes, block_header}
use Rattle.clfs_lsn.specs.Head.{head_of}
use Rattle.clfs_lsn.specs.Lsn.{container_of, offset_of}
use Rattle.clfs_lsn.specs.Size.{size, sectors}
use Rattle.clfs_lsn.specs.declared.entry.Head.{Head}
use Rattle.clfs_model.specs.declared.info.Extent.{Extent}
use Rattle.clfs_model.specs.declared.state.State.{State}
use Rattle.clfs_model.specs.Archive.{is_in_block}

-- the heads of a state's records
abbrev pub heads_of : State → List Head
heads_of s = map head_of s.records

-- the offset after the block of a record
abbrev pub block_end : List Head → ℕ → ℕ
block_end heads lsn = offset_of lsn + sector_bytes
    * sectors (block_header + sum_by (λ (head : Head). size head.len) (filter (λ (head : Head). is_in_block head.lsn lsn) heads))

-- the heads at or above the tail in flushed blocks of a container
abbrev pub archived_heads : ℕ → ℕ → ℕ → List Head → List Head
archived_heads stable tail container heads =
    filter (λ (head : Head). (container_of head.lsn == container) && nat_le tail head.lsn && nat_lt head.lsn stable) heads

-- from the offset of the first one's block to the end of the last one's
abbrev pub extent_of_heads : List Head → Head → Head → Extent
extent_of_heads heads first last = record { container = container_of first.lsn; low = offset_of first.lsn; high = block_end heads last.lsn }

-- the extent of a container, where it has a block to be archived
abbrev pub container_extent : ℕ → ℕ → List Head → ℕ → Option Extent
container_extent stable tail heads container =
    let archived = archived_heads stable tail container heads in
    option_map (λ (first : Head). extent_of_heads heads first (option_map_or (λ (last : Head). last) (last_or None archived) first))
    (slice_get archived 0)

-- the extents of the containers from the tail's to the last one, in order
abbrev pub extents_of : ℕ → ℕ → Option ℕ → List Head → List Extent
extents_of stable container tail heads = option_map_or
    (λ lsn. filter_map (container_extent stable lsn heads) (range_with_len (container_of lsn) (container + 1 - container_of lsn))) tail []
