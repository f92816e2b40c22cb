use Rattle.clfs_buffers.proofs.Words.{drop, first_lsn}
use Rattle.clfs_buffers.proofs.Fronts.{front_is_whole}
use Rattle.clfs_buffers.proofs.reading.read_kept.Goals as goal

pub returns-in-Ok-clause-exact : goal.returns-in-Ok-clause-exact
returns-in-Ok-clause-exact g c tells = front_is_whole c.blocks_are_read_as_written.ensures c.records_are_read_of_their_block.ensures.agree c.args.shape.now
    c.args.streams (first_lsn c.args.place) _ (drop c.args.place.offset ((g.D.Disk.state c.args.disk.now).files c.args.file)) c.in-Ok.block
    (c.in-Ok.ensures.exact tells)
