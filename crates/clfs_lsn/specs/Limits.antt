-- The limits of a log, each of which stands here alone.
use Rattle.std.specs.Prelude.{ℕ}

-- the most sectors of a block
abbrev pub most_block_sectors : ℕ
most_block_sectors = 128

-- the most sectors of a container
abbrev pub most_container_sectors : ℕ
most_container_sectors = 16384

-- the most records of a block
abbrev pub most_block_records : ℕ
most_block_records = 511

-- the most containers of a log
abbrev pub most_containers : ℕ
most_containers = 256

-- the fewest containers that a policy may ask for
abbrev pub fewest_containers : ℕ
fewest_containers = 2

-- the greatest growth rate: from the fewest containers to the most in one step
abbrev pub greatest_rate : ℕ
greatest_rate = 254

-- the most write buffers of a log that is open: one more than the most blocks that wait
abbrev pub most_write_buffers : ℕ
most_write_buffers = 64

-- the most streams of a log
abbrev pub most_streams : ℕ
most_streams = 192

-- the most bytes of a stream's name
abbrev pub longest_name : ℕ
longest_name = 64

-- the highest number of a client
abbrev pub most_clients : ℕ
most_clients = 64

-- the most areas of a client, and the highest number of one
abbrev pub most_areas : ℕ
most_areas = 16

-- the most cursors of an area, and the highest number of one
abbrev pub most_cursors : ℕ
most_cursors = 16

-- the most lengths of records to come that one call names
abbrev pub most_sizes : ℕ
most_sizes = 16
