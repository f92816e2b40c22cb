use Rattle.clfs_streams.proofs.Rows.{added_behind}
use Rattle.clfs_streams.proofs.streams.Streams.add.Goals as goal

pub returns : goal.returns
returns c =
    let entries = rw c.unwrap-old.ensures at c.insert.ensures.entries in
    added_behind c.args.self.now c.into_vec.result c.args.name c.null.result _ _ c.self.inside.rows.entries c.insert.new.self.entries
    c.self.view_is c.into_vec.ensures c.null.ensures c.requires.new entries
