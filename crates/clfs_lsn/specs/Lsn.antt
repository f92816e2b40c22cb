-- Log sequence numbers: a container's id, a block's offset in it and a record's position in the block, in one number.
use Rattle.std.specs.Prelude.{◌≡◌, ℕ, ◌+◌, ◌-◌, ◌*◌, ◌/◌, ◌%◌, ◌^◌, ◌≤◌}
use Rattle.clfs_lsn.specs.Format.{sector_bytes}

-- The LSN that names no record. Containers are numbered from 1, so no record has it.
abbrev pub null_lsn : ℕ
null_lsn = 0

-- An offset is a multiple of 512, the bytes of a sector, and a sequence at most 511, so the two can share the low 32 bits.
abbrev pub AreLsnParts : ℕ → ℕ → Type 0
AreLsnParts offset sequence = (offset % sector_bytes ≡ 0) × (sequence ≤ sector_bytes - 1)

-- The container's id times 2^32, plus the block's offset in bytes, plus the record's position in the block from 0.
abbrev pub lsn_number : ℕ → ℕ → ℕ → ℕ
lsn_number container offset sequence = container * 2 ^ 32 + offset + sequence

-- the container's id
abbrev pub container_of : ℕ → ℕ
container_of lsn = lsn / 2 ^ 32

-- the offset of the block in its container, in bytes
abbrev pub offset_of : ℕ → ℕ
offset_of lsn = lsn % 2 ^ 32 / sector_bytes * sector_bytes

-- the record's position in its block
abbrev pub sequence_of : ℕ → ℕ
sequence_of lsn = lsn % sector_bytes
