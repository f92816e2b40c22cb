use Rattle.clfs_recover.proofs.LowContainers.{log_left, place_left, held, same_left}
use Rattle.clfs_recover.proofs.changes.low_containers_are_left_out.Goals as goal

pub returns : goal.returns
returns c =
    let written = c.blocks_are_read_as_written.ensures in
    let reads = c.records_are_read_as_written.ensures.fits in
    record {
      log = λ image blocks entries first good from to tail with. log_left written reads image good blocks entries with first from to tail;
      place = place_left;
      held = λ image blocks entries buffers first good with below. held written reads image good blocks entries with buffers first below;
      same = λ image blocks entries buffers first good with from below. same_left written reads image good blocks entries with buffers first from below;
    }
