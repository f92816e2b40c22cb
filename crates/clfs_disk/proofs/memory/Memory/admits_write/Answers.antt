use Rattle.std.proofs.Common.{◌+◌, ◌<◌, ◌≤◌, ℕ, List, length, arith, sym, subst}
use Rattle.clfs_disk.specs.declared.copies.FileCopies.{FileCopies}
use Rattle.clfs_disk.proofs.Tables.{file_at}
use Rattle.clfs_disk.proofs.memory.Memory.admits_write.Goals as goal

pub returns-clause-range : goal.returns-clause-range
returns-clause-range c is =
    let lt : c.args.file < length c.args.self.now.files.items = omega (arith, c.args.self.now.holds.count) in
    subst (λ (l : List ℕ). c.args.at + c.args.count ≤ length l)
    (sym (file_at (λ (copies : FileCopies). copies.read.items) c.args.self.now.files.items c.args.file c.index.result.now lt c.index.ensures))
    (c.has_bytes-2.ensures.0 is)
