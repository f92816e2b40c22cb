use Rattle.clfs_cells_laws.proofs.Words.{txn_record}
use Rattle.clfs_cells_laws.proofs.Ends.{Lengths}
use Rattle.clfs_cells_laws.proofs.OwnCalls.{Laws}
use Rattle.clfs_cells_laws.proofs.Told.{back_leaves, begin_leaves, checkpoint_leaves, commit_leaves, get_leaves, rollback_leaves, set_leaves}
use Rattle.clfs_cells_laws.proofs.stores.calls_leave_the_cells_so.Goals as goal

pub returns : goal.returns
returns c =
    let laws : Laws = record {
      adds = c.steps_only_add_records.ensures;
      keeps = c.steps_keep_a_state_valid.ensures.step;
      space = c.held_sectors_suffice.ensures.space;
      containers = c.held_sectors_suffice.ensures.containers;
      spelled_row = c.records_are_read_as_written.ensures.read;
      spelled_restart = c.checkpoints_are_read_as_written.ensures.read;
    } in
    let lengths : Lengths = λ txn action. c.records_are_read_as_written.ensures.length (txn_record txn action) in
    record {
      set = λ tabled told s t number cell value inside fits store step. set_leaves tabled laws lengths told s t store number cell value inside fits step;
      back = λ tabled told s t number kept store step. back_leaves tabled laws lengths told s t store number kept step;
      rollback = λ tabled told s t number store step. rollback_leaves tabled laws lengths told s t store number step;
      commit = λ tabled told s t number store step. commit_leaves tabled laws lengths told s t store number step;
      begin = λ tabled told s t changes number store step. begin_leaves tabled laws lengths told s t store changes number step;
      checkpoint = λ tabled told s t store step. checkpoint_leaves tabled laws lengths told s t store step;
      get = λ told s t cell reply step. get_leaves told s t cell reply step;
    }
