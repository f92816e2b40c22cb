use Rattle.std.proofs.Common.{◌≡◌, ◌<◌, vec_capacity, vec_len}
use Rattle.clfs_tail.specs.Tree.{firsts_of, IsTreeBut}
use Rattle.clfs_tail.proofs.tree.settle.Given as goal

abbrev pub invariant-loop-at : goal.invariant-loop-at
invariant-loop-at l = record {
  inside : l.at < vec_len l.nodes;
  tree : IsTreeBut l.nodes.items l.at;
  firsts : firsts_of l.nodes.items ≡ firsts_of l.initial.nodes.items;
  len : vec_len l.nodes ≡ vec_len l.initial.nodes;
  capacity : vec_capacity l.nodes ≡ vec_capacity l.initial.nodes;
}

abbrev pub decreases-loop-at : goal.decreases-loop-at
decreases-loop-at l = l.at
