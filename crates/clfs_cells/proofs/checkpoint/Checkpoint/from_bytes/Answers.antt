use Rattle.clfs_cells.proofs.Words.{sym, arith}
use Rattle.clfs_cells.proofs.RestartAreas.{read_whole}
use Rattle.clfs_cells.proofs.checkpoint.Checkpoint.from_bytes.Goals as goal

pub returns : goal.returns
returns c =
    sym (read_whole c.read_u64_into.new.dst c.split_at.result.0.now c.split_at.result.1.now c.args.bytes.now c.read_u32-last.result
    (omega arith) (omega arith) c.split_at.ensures.front c.split_at.ensures.back c.read_u64_into.ensures c.read_u32-last.ensures)
