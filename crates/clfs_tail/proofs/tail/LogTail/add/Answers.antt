use Rattle.std.proofs.lemmas.List.{map_push}
use Rattle.clfs_tail.specs.declared.tree.Node.{Node}
use Rattle.clfs_tail.proofs.Joining.{added}
use Rattle.clfs_tail.proofs.tail.LogTail.add.Goals as goal

pub returns-clause-told : goal.returns-clause-told
returns-clause-told c = λ bases heads are. rw (c.push_reserved.ensures.items, map_push (λ (node : Node). node.first) c.self.inside.nodes.items _)
    (added _ bases heads (rw (← c.self.view_is) at are))
