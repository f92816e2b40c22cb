use Rattle.clfs_cells.proofs.Words.{arith}
use Rattle.std.proofs.lemmas.Slice.{put_mid-rotated}
use Rattle.clfs_cells.proofs.memory.close_up.Goals as goal

pub returns : goal.returns
returns c = λ d. put_mid-rotated c.args.place _ c.args.transactions.now c.rotate_left.new.self d (omega arith) (omega arith) c.rotate_left.ensures.after
