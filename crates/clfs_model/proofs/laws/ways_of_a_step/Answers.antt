use Rattle.clfs_model.proofs.Ways.{is_broken, no_memory, refused, answered, faulted, damaged}
use Rattle.clfs_model.proofs.laws.ways_of_a_step.Goals as goal

pub returns : goal.returns
returns c = record { broken = is_broken; no_memory = no_memory; refused = refused; answered = answered; faulted = faulted; damaged = damaged }
