-- Counting the blocks of a log by its records.
use Rattle.std.specs.Prelude.{◌==◌, ℕ, List, count_by}
use Rattle.clfs_lsn.specs.Lsn.{sequence_of}
use Rattle.clfs_lsn.specs.declared.entry.LogEntry.{LogEntry}

-- How many blocks records begin: the first record of a block has the sequence 0 in its LSN, and no other has.
abbrev pub blocks_begun : List LogEntry → ℕ
blocks_begun entries = count_by (λ (entry : LogEntry). sequence_of entry.lsn == 0) entries
