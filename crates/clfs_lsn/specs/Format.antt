-- The sizes of the format, in bytes, each of which stands here alone, and the byte of an open gate.
use Rattle.std.specs.Prelude.{ℕ}

-- a sector
abbrev pub sector_bytes : ℕ
sector_bytes = 512

-- the payload of a sector; the other bytes are its address
abbrev pub sector_payload : ℕ
sector_payload = 504

-- the header of a block, in its payload
abbrev pub block_header : ℕ
block_header = 16

-- the header of a record
abbrev pub record_header : ℕ
record_header = 32

-- the first byte of a block or of a base copy that counts; every other value of it is a closed gate
abbrev pub open_gate : ℕ
open_gate = 165
