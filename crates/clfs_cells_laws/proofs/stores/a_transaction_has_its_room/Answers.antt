use Rattle.clfs_cells_laws.proofs.Words.{txn_record}
use Rattle.clfs_cells_laws.proofs.Ends.{Lengths}
use Rattle.clfs_cells_laws.proofs.OwnCalls.{Laws}
use Rattle.clfs_cells_laws.proofs.Told.{begin_refused, within}
use Rattle.clfs_cells_laws.proofs.stores.a_transaction_has_its_room.Goals as goal

pub returns : goal.returns
returns c =
    let laws : Laws = record {
      adds = c.steps_only_add_records.ensures;
      keeps = c.steps_keep_a_state_valid.ensures.step;
      space = c.held_sectors_suffice.ensures.space;
      containers = c.held_sectors_suffice.ensures.containers;
      spelled_row = c.records_are_read_as_written.ensures.read;
      spelled_restart = c.checkpoints_are_read_as_written.ensures.read;
    } in
    let lengths : Lengths = λ txn action. c.records_are_read_as_written.ensures.length (txn_record txn action) in
    record {
      within = λ tabled told s t call given has is store step. within tabled laws lengths told s t store call given has is step;
      begin = λ tabled told s t changes given store step. begin_refused tabled laws lengths told s t store changes given step;
    }
