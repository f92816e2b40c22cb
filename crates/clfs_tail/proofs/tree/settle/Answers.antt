use Rattle.std.proofs.Common.{arith, ap, ◌∙◌, ◌≡◌, ◌<◌, length}
use Rattle.std.proofs.Math.Seq.{map-set_same}
use Rattle.clfs_tail.specs.declared.tree.Node.{Node}
use Rattle.clfs_tail.specs.Tree.{IsTreeBut, least_below}
use Rattle.clfs_tail.proofs.Trees.{right_above, right_at_root}
use Rattle.clfs_tail.proofs.tree.settle.Goals as goal

pub loop-at-preserved : goal.loop-at-preserved
loop-at-preserved c =
    let within : c.loop-at.at < length c.loop-at.nodes.items = omega arith in
    let least : c.least_below.result ≡ least_below c.loop-at.nodes.items c.loop-at.at = rw c.deref.ensures.value at c.least_below.ensures in
    record {
      inside = omega arith;
      tree = right_above c.loop-at.nodes.items c.loop-at.at c.index_mut.result.now c.least_below.result c.loop-at-test.true within
          c.index_mut.ensures.value least c.loop-at.invariant.tree;
      firsts = map-set_same (λ (node : Node). node.first) c.loop-at.nodes.items c.loop-at.at _ c.index_mut.result.now
          (ap (λ (node : Node). node.first) c.index_mut.ensures.value) ∙ c.loop-at.invariant.firsts;
      len = c.loop-at.invariant.len;
      capacity = c.loop-at.invariant.capacity;
    }

pub returns-clause-tree : goal.returns-clause-tree
returns-clause-tree c =
    let within : 0 < length c.loop-at.nodes.items = omega arith in
    let root : c.loop-at.at ≡ 0 = omega arith in
    let tree : IsTreeBut c.loop-at.nodes.items 0 = rw root at c.loop-at.invariant.tree in
    let least : c.least_below-2.result ≡ least_below c.loop-at.nodes.items 0 = rw c.deref-2.ensures.value at c.least_below-2.ensures in
    right_at_root c.loop-at.nodes.items c.index_mut-2.result.now c.least_below-2.result within c.index_mut-2.ensures.value least tree
