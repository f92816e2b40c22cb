use Rattle.clfs_cells_laws.proofs.Words.{Ok, true, false, txn_record}
use Rattle.clfs_cells_laws.proofs.FromLoading.{load_valid, loaded_store, loaded_table}
use Rattle.clfs_cells_laws.proofs.Loads.{loads}
use Rattle.clfs_cells_laws.proofs.OwnCalls.{Laws}
use Rattle.clfs_cells_laws.proofs.Told.{stays}
use Rattle.clfs_cells_laws.proofs.stores.calls_keep_a_store.Goals as goal

pub returns : goal.returns
returns c =
    let laws : Laws = record {
      adds = c.steps_only_add_records.ensures;
      keeps = c.steps_keep_a_state_valid.ensures.step;
      space = c.held_sectors_suffice.ensures.space;
      containers = c.held_sectors_suffice.ensures.containers;
      spelled_row = c.records_are_read_as_written.ensures.read;
      spelled_restart = c.checkpoints_are_read_as_written.ensures.read;
    } in
    record {
      loaded = λ told log client memory t valid none step.
          loaded_store false told log client memory t (loads laws told log client (Ok memory) t valid none step) (load_valid laws told log client (Ok memory) t valid step)
          (λ so. absurd (cc so));
      loaded_table = λ log client memory t valid none step numbers.
          let is = loads laws true log client (Ok memory) t valid none step in
          loaded_store true true log client memory t is (load_valid laws true log client (Ok memory) t valid step) (λ _. loaded_table log client memory t is numbers);
      kept = λ tabled told s t call reply has store step.
          stays tabled laws (λ txn action. c.records_are_read_as_written.ensures.length (txn_record txn action)) told s t store call reply has step;
    }
