use Rattle.clfs_cells_laws.proofs.Words.{true, length, txn_plan, load_plan, table, LeavesEither, LoadsSafe, table_once}
use Rattle.clfs_cells_laws.proofs.AlongAll.{along_call_of, calls_alone, ends_so, loads_safe, rests}
use Rattle.clfs_cells_laws.proofs.AlongCalls.{EndsAs}
use Rattle.clfs_cells_laws.proofs.AlongLoad.{log_rests, opened_safe}
use Rattle.clfs_cells_laws.proofs.AlongOpen.{load_along}
use Rattle.clfs_cells_laws.proofs.OwnCalls.{Laws}
use Rattle.clfs_cells_laws.proofs.crashes.crashes_leave_the_table.Goals as goal

pub returns : goal.returns
returns c =
    let laws : Laws = record {
      adds = c.steps_only_add_records.ensures;
      keeps = c.steps_keep_a_state_valid.ensures.step;
      space = c.held_sectors_suffice.ensures.space;
      containers = c.held_sectors_suffice.ensures.containers;
      spelled_row = c.records_are_read_as_written.ensures.read;
      spelled_restart = c.checkpoints_are_read_as_written.ensures.read;
    } in
    let rising = c.flushed_never_falls.ensures.step in
    record {
      left = λ s call has store safe.
          calls_alone (LeavesEither (table s.log) (table_once s call) s.memory.client) (EndsAs (table s.log) (table_once s call)) true s.memory.client s.log
          (txn_plan s.log s.memory call) (along_call_of laws rising s call has store safe);
      ends = ends_so laws rising;
      at_rest = rests;
      loading = λ log client valid whole none safe.
          calls_alone (LeavesEither (table log) (table log) client) LoadsSafe true client log (load_plan (length log.records) client)
          (load_along laws rising (length log.records) log client valid whole none safe);
      loaded = λ log client memory t valid whole none safe step. loads_safe laws rising log client memory t valid whole none safe step;
      unloaded = λ log at x valid safe survives. log_rests log at x valid safe survives;
      opened = opened_safe;
    }
