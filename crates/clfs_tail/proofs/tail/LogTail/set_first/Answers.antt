use Rattle.std.proofs.Common.{arith, ap, ◌∙◌, ◌-◌, ◌≤◌, length}
use Rattle.std.proofs.lemmas.List.{map-set, length-map}
use Rattle.clfs_tail.specs.declared.tree.Node.{Node}
use Rattle.clfs_tail.specs.Row.{Rows}
use Rattle.clfs_tail.proofs.Joining.{moved}
use Rattle.clfs_tail.proofs.Trees.{right_but_there}
use Rattle.clfs_tail.proofs.tail.LogTail.set_first.Goals as goal

pub settle-requires-clause-tree : goal.settle-requires-clause-tree
settle-requires-clause-tree c =
    let long = ap (λ (row : Rows). length row.firsts) c.self.view_is in
    let there : c.args.stream ≤ length c.self.inside.nodes.items
    = omega (arith, long, c.requires.there, length-map c.self.inside.nodes.items (λ (node : Node). node.first)) in
    right_but_there c.self.inside.nodes.items (c.args.stream - 1) c.index_mut.result.now c.args.first (omega (arith, there, c.requires.some))
    c.index_mut.ensures.value c.self.invariant

pub returns-clause-firsts : goal.returns-clause-firsts
returns-clause-firsts c =
    rw (← c.self.view_is) (c.settle.ensures.firsts ∙ map-set (λ (node : Node). node.first) c.self.inside.nodes.items (c.args.stream - 1) _)

pub returns-clause-told : goal.returns-clause-told
returns-clause-told c = λ bases others heads are same first.
    let long = ap (λ (row : Rows). length row.firsts) c.self.view_is in
    rw (c.settle.ensures.firsts, map-set (λ (node : Node). node.first) c.self.inside.nodes.items (c.args.stream - 1) _)
    (moved _ c.args.stream c.args.first bases others heads c.requires.some (omega (arith, long, c.requires.there)) (rw (← c.self.view_is) at are) same first)
