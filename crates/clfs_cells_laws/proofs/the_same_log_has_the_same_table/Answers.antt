use Rattle.clfs_cells_laws.proofs.Cut.{same_table}
use Rattle.clfs_cells_laws.proofs.the_same_log_has_the_same_table.Goals as goal

pub returns : goal.returns
returns c = λ s t same. same_table s t same (λ stream. c.sameness.ensures.live s t stream same)
