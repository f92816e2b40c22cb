use Rattle.clfs_cells.specs.declared.asked.TxnCall.TheVariants as asked
use Rattle.clfs_cells.specs.declared.told.TxnRefusal.TheVariants as denials
use Rattle.clfs_cells.specs.declared.told.TxnReply.TheVariants as replies
use Rattle.clfs_cells_laws.proofs.Words.{txn_record}
use Rattle.clfs_cells_laws.proofs.Ends.{Lengths}
use Rattle.clfs_cells_laws.proofs.OwnCalls.{Laws}
use Rattle.clfs_cells_laws.proofs.Reasons.{Outside, checkpoint_room, for_reason}
use Rattle.clfs_cells_laws.proofs.stores.calls_are_refused_for_the_first_reason.Goals as goal

pub returns : goal.returns
returns c =
    let laws : Laws = record {
      adds = c.steps_only_add_records.ensures;
      keeps = c.steps_keep_a_state_valid.ensures.step;
      space = c.held_sectors_suffice.ensures.space;
      containers = c.held_sectors_suffice.ensures.containers;
      spelled_row = c.records_are_read_as_written.ensures.read;
      spelled_restart = c.checkpoints_are_read_as_written.ensures.read;
    } in
    let lengths : Lengths = λ txn action. c.records_are_read_as_written.ensures.length (txn_record txn action) in
    let outside : Outside = record { whole = c.only_faults_break_a_store.ensures.whole; quiet = c.only_faults_break_a_store.ensures.quiet } in
    record {
      reason = λ tabled told s t call reply has store step. for_reason tabled laws lengths outside told s t call reply has store step;
      checkpoint = λ tabled told s t given store step.
          checkpoint_room s given (for_reason tabled laws lengths outside told s t asked.Checkpoint (replies.Refused (denials.Log given)) tt store step);
    }
