use Rattle.clfs_cells.proofs.RestartAreas.{read_back, written_back, length-checkpoint_bytes}
use Rattle.clfs_cells.proofs.laws.checkpoints_are_read_as_written.Goals as goal

pub returns : goal.returns
returns c = record {
  read = read_back;
  written = λ bytes c fits is. written_back bytes c fits is;
  length = length-checkpoint_bytes;
}
