-- The words that the proofs here use, passed on from one place. Declares nothing.
pub use Rattle.std.proofs.Common.{[], ap, arith, Bool, Err, false, inl, inr, length, List, None, Ok, Option, refl, Result, Some, subst, suc, sym, true, ℕ}
pub use Rattle.std.proofs.Common.{◌++◌, ◌+◌, ◌-◌, ◌<◌, ◌^◌, ◌∙◌, ◌∷◌, ◌≡◌, ◌≢◌, ◌≤◌, ◌⊎◌}
pub use Rattle.std.proofs.lemmas.Bool.{cases_Bool, cases_lt, eq-eqb, eqb-true, le-ltb, lt-ltb, ne_eqb}
pub use Rattle.std.proofs.lemmas.List.Elements.{recursion_from_All}
pub use Rattle.std.proofs.lemmas.Result.{err_from_is_err_and}
pub use Rattle.std.specs.List.{AllByRecursion}
pub use Rattle.std.specs.Option.{option_map, option_map_or}
pub use Rattle.std.specs.Prelude.{All, find, IfErr, IfOk, is_none, IsErrOf, IsSome, IsTrue, MatchBool, MatchOption, nat_le, nat_lt, not, OnOk, slice_index}
pub use Rattle.std.specs.Prelude.{◌&&◌, ◌==◌}
unfoldable pub use Rattle.clfs_cells.specs.Calls.{TxnStep}
pub use Rattle.clfs_cells.specs.Calls.{Answered, answers, append_call, change_to, end_plan, over_transaction, refuses, stops, txn_plan, undo_from, undo_sets}
pub use Rattle.clfs_cells.specs.Calls.{with_read_ended}
pub use Rattle.clfs_cells.specs.Kept.{transaction_of}
pub use Rattle.clfs_cells.specs.Layout.{checkpoint_bytes, txn_record_of}
unfoldable pub use Rattle.clfs_cells.specs.Loading.{LoadStep}
pub use Rattle.clfs_cells.specs.Loading.{gives_up, in_table_area, load_area, load_new, Loaded, memory_of, read_records}
pub use Rattle.clfs_cells.specs.Plans.{calls, CarriesOut, ends, never, on_info, on_placed, Plan}
pub use Rattle.clfs_cells.specs.Stored.{holder, is_at, is_numbered, Memory, most_records, newest_standing, records_made, standing, Store, Transaction}
pub use Rattle.clfs_cells.specs.Stored.{transaction, with_begun, with_set, with_undone, without_transaction}
pub use Rattle.clfs_cells.specs.Table.{table, table_name}
pub use Rattle.clfs_cells.specs.declared.asked.TxnCall.{TxnCall}
pub use Rattle.clfs_cells.specs.declared.begun.Made.{Made}
pub use Rattle.clfs_cells.specs.declared.row.Action.{Action}
pub use Rattle.clfs_cells.specs.declared.row.Action.TheVariants.{RolledBack, Set}
pub use Rattle.clfs_cells.specs.declared.row.Change.{Change}
pub use Rattle.clfs_cells.specs.declared.row.TxnRecord.{TxnRecord}
pub use Rattle.clfs_cells.specs.declared.told.TxnLoadRefusal.{TxnLoadRefusal}
pub use Rattle.clfs_cells.specs.declared.told.TxnLoadRefusal.TheVariants.{Log, NotATable}
pub use Rattle.clfs_cells.specs.declared.told.TxnRefusal.{TxnRefusal}
pub use Rattle.clfs_cells.specs.declared.told.TxnReply.{TxnReply}
pub use Rattle.clfs_cells_laws.specs.Crashes.{LeavesTables}
pub use Rattle.clfs_cells_laws.specs.Steps.{for_room_or_outside, from_outside}
pub use Rattle.clfs_cells_laws.specs.Stores.{IsKeptStore}
pub use Rattle.clfs_disk.specs.Files.{Files, Unchanged}
pub use Rattle.clfs_disk.specs.State.{DiskState, Later, Leaves, MayLeave, Nature, Passes, TellsContents}
pub use Rattle.clfs_laws.specs.Cursors.{StillGives}
pub use Rattle.clfs_lsn.specs.Lsn.{null_lsn}
pub use Rattle.clfs_lsn.specs.Place.{frontier}
pub use Rattle.clfs_lsn.specs.Size.{own}
pub use Rattle.clfs_lsn.specs.declared.cursor.Cursor.{Cursor}
pub use Rattle.clfs_lsn.specs.declared.cursor.CursorKind.TheVariants.{Records}
pub use Rattle.clfs_lsn.specs.declared.cursor.Mode.{Mode}
pub use Rattle.clfs_lsn.specs.declared.cursor.Mode.TheVariants.{Forward, UndoNext}
pub use Rattle.clfs_lsn.specs.declared.entry.LogEntry.{LogEntry}
pub use Rattle.clfs_manager.specs.Calls.{replied, Steps}
pub use Rattle.clfs_manager.specs.Crashes.{CrashSurvives, HoldSurvivor}
pub use Rattle.clfs_manager.specs.Written.{WritesDisk}
pub use Rattle.clfs_model.specs.Answers.{answer, Outcome, outcome}
pub use Rattle.clfs_model.specs.Flush.{flushed}
pub use Rattle.clfs_model.specs.Happened.{happened_of, happened_of_refusal}
pub use Rattle.clfs_model.specs.Live.{live, live_at}
pub use Rattle.clfs_model.specs.Put.{appended, next_lsn, plain_record, with_less_held}
pub use Rattle.clfs_model.specs.Reading.{next, record_cursor}
pub use Rattle.clfs_model.specs.Refusals.{refusal, refused_if}
pub use Rattle.clfs_model.specs.Run.{bad_line}
pub use Rattle.clfs_model.specs.State.{area_of, change_first, is_area}
unfoldable pub use Rattle.clfs_model.specs.Step.{Step}
pub use Rattle.clfs_model.specs.Step.{calls_disk, Comes, Goes, IsBroken, IsDamaged, IsReply, reads_disk, takes_memory}
pub use Rattle.clfs_model.specs.Survivors.{Survives}
pub use Rattle.clfs_model.specs.Valid.{IsRecord, IsValid}
pub use Rattle.clfs_model.specs.declared.call.Call.{Call}
pub use Rattle.clfs_model.specs.declared.call.Draft.{Draft}
pub use Rattle.clfs_model.specs.declared.info.LogInfo.{LogInfo}
pub use Rattle.clfs_model.specs.declared.refusal.Refusal.{Refusal}
pub use Rattle.clfs_model.specs.declared.reply.Happened.{Happened}
pub use Rattle.clfs_model.specs.declared.reply.Happened.TheVariants.{Damage, Fault, Fine}
pub use Rattle.clfs_model.specs.declared.reply.Reply.{Reply}
pub use Rattle.clfs_model.specs.declared.state.Area.{Area}
pub use Rattle.clfs_model.specs.declared.state.State.{State}
pub use Rattle.clfs_txn.specs.Calls.{checkpoint_of, HasSameArea, is_break, IsFound, IsNotFound, Leads, LeadsTo, or_stopped, TxnSteps}
pub use Rattle.clfs_txn.specs.Crashes.{CrashLeavesTable, HoldsTable}
pub use Rattle.clfs_txn.specs.Kept.{AreLogged, store_of}
pub use Rattle.clfs_txn.specs.Loading.{GoesForward, or_all_read, or_ended_read, to_come, unread}
pub use Rattle.clfs_txn.specs.Reading.{HasLink, IsAt, IsSet}
pub use Rattle.clfs_txn.specs.UnderWay.{CrashLeaves, HoldsLeft, IsLeftMeanwhile, LeavesCall, LeavesCalls, Meanwhile, UnderWay}
