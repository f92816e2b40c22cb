use Rattle.clfs_cells_laws.proofs.Words.{Ok, Err}
use Rattle.clfs_cells_laws.proofs.Loads.{loads}
use Rattle.clfs_cells_laws.proofs.OwnCalls.{Laws}
use Rattle.clfs_cells_laws.proofs.loading_comes_to_the_table.Goals as goal

pub returns : goal.returns
returns c =
    let laws : Laws = record {
      adds = c.steps_only_add_records.ensures;
      keeps = c.steps_keep_a_state_valid.ensures.step;
      space = c.held_sectors_suffice.ensures.space;
      containers = c.held_sectors_suffice.ensures.containers;
      spelled_row = c.records_are_read_as_written.ensures.read;
      spelled_restart = c.checkpoints_are_read_as_written.ensures.read;
    } in
    record {
      loaded = λ told log client memory t valid none step. loads laws told log client (Ok memory) t valid none step;
      refused = λ told log client cause t valid none step. loads laws told log client (Err cause) t valid none step;
    }
