-- What is found of blocks in the heads of a log's records, as these are gone through.
use Rattle.std.specs.Prelude.{◌≡◌, ℕ, ◌+◌, ◌-◌, ◌≤◌, List, All, filter, sum_by}
use Rattle.std.specs.List.{Any}
use Rattle.clfs_lsn.specs.Format.{block_header}
use Rattle.clfs_lsn.specs.Lsn.{sequence_of}
use Rattle.clfs_lsn.specs.Size.{size}
use Rattle.clfs_lsn.specs.declared.entry.Head.{Head}
use Rattle.clfs_model.specs.Archive.{is_in_block}
use Rattle.clfs_archive.specs.Blocks.{AreSealed}
use Rattle.clfs_archive.specs.declared.block.BlockEnd.{BlockEnd}

-- the LSN at which the block of a record begins
abbrev pub start_of_block : ℕ → ℕ
start_of_block lsn = lsn - sequence_of lsn

-- the bytes of payload of a record's block: its header, and the sizes of its records
abbrev pub payload_of_block : List Head → ℕ → ℕ
payload_of_block heads lsn = block_header + sum_by (λ (head : Head). size head.len) (filter (λ (head : Head). is_in_block head.lsn lsn) heads)

-- All blocks of these records but that of the last one have their ends, and of that one the last record and the payload are known.
pub record AreFound (heads : List Head) (blocks : List BlockEnd) (last payload : ℕ) : Type 0 where
  pub ended : AreSealed 0 (start_of_block last) blocks heads
  pub there : Any (λ (head : Head). head.lsn ≡ last) heads
  pub highest : All (λ (head : Head). head.lsn ≤ last) heads
  pub sizes : payload ≡ payload_of_block heads last
