use Rattle.clfs_recover.proofs.Meanings.{stored_found, same_log}
use Rattle.clfs_recover.proofs.laws.copies_and_blocks_decide.Goals as goal

pub returns : goal.returns
returns c = record {
  found = λ slot image blocks entries files has read right.
      stored_found slot image blocks c.open_blocks_are_one_list.ensures.whole files has entries read right;
  same = λ slot image blocks files others s has had stands.
      same_log slot image blocks c.open_blocks_are_one_list.ensures.one c.open_blocks_are_one_list.ensures.whole files others s has had stands;
}
