use Rattle.clfs_cells.proofs.Words.{◌∙◌, ap, ◌++◌, List, ℕ, arith, little_bytes}
use Rattle.clfs_cells.proofs.RestartAreas.{parts_joined}
use Rattle.clfs_cells.proofs.checkpoint.Checkpoint.bytes.Goals as goal

pub returns : goal.returns
returns c =
    parts_joined c.write_u64_into.new.dst _ c.write_u32.new.buf c.args.self.now.last (omega arith) (omega arith) c.write_u32.ensures
    ∙ ap (λ (l : List ℕ). l ++ little_bytes 4 c.args.self.now.last) c.write_u64_into.ensures
