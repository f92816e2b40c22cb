use Rattle.clfs_buffers.proofs.Changes.{used_same, added_is_kept, joined_or_before}
use Rattle.clfs_buffers.proofs.laws.changes_keep_blocks.Goals as goal

pub returns : goal.returns
returns c = record {
  used = λ blocks place other. used_same other place blocks;
  added = λ blocks place records. added_is_kept blocks place records;
  joined = λ blocks place other records found is. joined_or_before other place blocks records found is;
}
