use Rattle.std.proofs.Common.{ℕ, List, length, ap, arith}
use Rattle.clfs_disk.proofs.Holdings.{length-picked}
use Rattle.clfs_disk.proofs.copies.FileCopies.crash.Goals as goal

pub copy_from_slice-requires : goal.copy_from_slice-requires
copy_from_slice-requires c = omega (
  arith,
  c.args.self.now.same_length,
  c.deref.ensures.len,
  ap (λ (l : List ℕ). length l) c.pick_bytes.ensures,
  length-picked c.args.pick c.args.self.now.read.items c.args.self.now.synced.items,
)
