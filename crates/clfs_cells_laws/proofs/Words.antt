-- The words that the proofs here use, passed on from one place. Declares nothing.
pub use Rattle.std.proofs.Common.{[], ap, arith, Bool, drop, Err, false, inl, inr, length, length-append, List, None, Ok, Option, refl, Some, subst, suc, sym}
pub use Rattle.std.proofs.Common.{true, zero, ℕ, ◌*◌, ◌++◌, ◌+◌, ◌-◌, ◌<◌, ◌∙◌, ◌∷◌, ◌≡◌, ◌≤◌, ◌⊎◌}
pub use Rattle.std.proofs.lemmas.Bool.{cases_Bool, eq-eqb, eqb-true, le-leb, le-ltb, leb-false, lt-ltb, ltb-false, ltb-true, ne_eqb}
pub use Rattle.std.proofs.lemmas.List.{append-nil, append_assoc, length-set}
pub use Rattle.std.proofs.lemmas.List.Elements.{All-from_recursion, filter-append, recursion_from_All}
pub use Rattle.std.proofs.lemmas.List.Folds.{find-append}
pub use Rattle.std.specs.List.{AllByRecursion, last_or, list_any}
pub use Rattle.std.specs.Option.{option_and_then, option_map, option_map_or, option_or}
pub use Rattle.std.specs.Prelude.{All, filter, find, if◌then◌else◌, is_none, is_some, IsSome, map, MatchBool, MatchOption, nat_le, nat_lt, not, replicate}
pub use Rattle.std.specs.Prelude.{reverse, slice_get, slice_index, slice_set, ◌&&◌, ◌==◌, ◌^◌, ◌||◌, ◌≢◌}
pub use Rattle.std.specs.Str.{bytes_eq}
unfoldable pub use Rattle.clfs_cells.specs.Calls.{TxnStep}
pub use Rattle.clfs_cells.specs.Calls.{Answered, answers, append_call, back_plan, begin_plan, change_to, checkpoint_plan, commit_plan, compensation, end_plan}
pub use Rattle.clfs_cells.specs.Calls.{greatest_number, most_transactions, over_transaction, refuses, rollback_plan, set_cell, set_plan, stops, txn_plan}
pub use Rattle.clfs_cells.specs.Calls.{undo_from, undo_set, undo_sets, unless, with_read_ended}
pub use Rattle.clfs_cells.specs.Layout.{blank_cells, blank_checkpoint, cell_count, checkpoint_bytes, checkpoint_of, IsAction, IsChange, IsTxnRecord}
pub use Rattle.clfs_cells.specs.Layout.{txn_bytes, txn_record, txn_record_of}
pub use Rattle.clfs_cells.specs.Loaded.{first_restart, load_refusal, table_area, table_stream, with_stream}
unfoldable pub use Rattle.clfs_cells.specs.Loading.{LoadStep}
pub use Rattle.clfs_cells.specs.Loading.{area_largest, area_reads, gives_up, last_number, load_above, load_area, load_new, load_plan, load_stream, load_table}
pub use Rattle.clfs_cells.specs.Loading.{Loaded, memory_of, on_more, read_records, stopped}
pub use Rattle.clfs_cells.specs.Plans.{calls, CarriesOut, ends, never, on_area, on_found, on_held, on_info, on_next, on_placed, on_stream, Plan}
pub use Rattle.clfs_cells.specs.Stored.{holder, holds, is_at, is_holder, is_numbered, Memory, most_records, newest_standing, records_made, standing, Store}
pub use Rattle.clfs_cells.specs.Stored.{Transaction, transaction, with_begun, with_one_undone, with_set, with_undone, without_first, without_transaction}
pub use Rattle.clfs_cells.specs.Table.{after_action, changed, committed, entries_after, first_cells, is_commit, is_committed, records_after, table, table_in}
pub use Rattle.clfs_cells.specs.Table.{table_name}
pub use Rattle.clfs_cells.specs.declared.asked.TxnCall.{TxnCall}
pub use Rattle.clfs_cells.specs.declared.begun.Made.{Made}
pub use Rattle.clfs_cells.specs.declared.checkpoint.Checkpoint.{Checkpoint}
pub use Rattle.clfs_cells.specs.declared.row.Action.{Action}
pub use Rattle.clfs_cells.specs.declared.row.Action.TheVariants.{Commit, Compensation, RolledBack, Set}
pub use Rattle.clfs_cells.specs.declared.row.Change.{Change}
pub use Rattle.clfs_cells.specs.declared.row.TxnRecord.{TxnRecord}
pub use Rattle.clfs_cells.specs.declared.told.TxnLoadRefusal.{TxnLoadRefusal}
pub use Rattle.clfs_cells.specs.declared.told.TxnLoadRefusal.TheVariants.{Log, NotATable}
pub use Rattle.clfs_cells.specs.declared.told.TxnRefusal.{TxnRefusal}
pub use Rattle.clfs_cells.specs.declared.told.TxnReply.{TxnReply}
pub use Rattle.clfs_laws.specs.ReplyKinds.{is_reply_of}
pub use Rattle.clfs_lsn.specs.Cursors.{cursor_in, cursors_moved, cursors_without, record_cursor_in, unused_cursor}
pub use Rattle.clfs_lsn.specs.Heads.{is_restart}
pub use Rattle.clfs_lsn.specs.Lsn.{null_lsn}
pub use Rattle.clfs_lsn.specs.Place.{frontier}
pub use Rattle.clfs_lsn.specs.Size.{own}
pub use Rattle.clfs_lsn.specs.Streams.{set_base, stream_in, stream_number_from}
pub use Rattle.clfs_lsn.specs.declared.cursor.Cursor.{Cursor}
pub use Rattle.clfs_lsn.specs.declared.cursor.CursorKind.TheVariants.{Records}
pub use Rattle.clfs_lsn.specs.declared.cursor.Mode.TheVariants.{Forward, UndoNext}
pub use Rattle.clfs_lsn.specs.declared.entry.LogEntry.{LogEntry}
pub use Rattle.clfs_lsn.specs.declared.stream.Stream.{Stream}
pub use Rattle.clfs_model.specs.Answers.{answer, found_with_cursor, info_of, moved_on, Outcome, outcome, read_at, reserved_for, restart_record, restarted}
pub use Rattle.clfs_model.specs.Answers.{unused_area}
pub use Rattle.clfs_model.specs.Flush.{cut, flush, flushed}
pub use Rattle.clfs_model.specs.Live.{is_live, last_live, live, live_at, lsn_or_null}
pub use Rattle.clfs_model.specs.Put.{appended, hold_sizes, need_of, next_lsn, plain_record, put, spend_if, with_less_held, with_more_held}
pub use Rattle.clfs_model.specs.Reading.{cursor_of, newest_restart, record_cursor, with_cursor, with_cursor_at, without_cursor}
pub use Rattle.clfs_model.specs.Refusals.{full, is_base, next_refusal, read_refusal, refusal, refused_if, restart_refusal, short, stream_number, too_long}
unfoldable pub use Rattle.clfs_model.specs.Run.{fine_outcome}
pub use Rattle.clfs_model.specs.Run.{asks, bad_line, Request}
unfoldable pub use Rattle.clfs_model.specs.Space.{grown}
pub use Rattle.clfs_model.specs.Space.{free, grown_if, has_room, own_sum, reserved}
pub use Rattle.clfs_model.specs.State.{area_of, areas_of, base_of, change_area, change_first, is_area, log_of, stream_at}
unfoldable pub use Rattle.clfs_model.specs.Step.{Step}
pub use Rattle.clfs_model.specs.Step.{calls_disk, Comes, Goes, IsBroken, IsDamaged, IsReply, reads_disk, takes_memory, with_broken}
pub use Rattle.clfs_model.specs.Survivors.{HasBases, IsSurvivor, Survives}
pub use Rattle.clfs_model.specs.Valid.{IsRecord, IsValid}
pub use Rattle.clfs_model.specs.declared.call.Call.{Call}
pub use Rattle.clfs_model.specs.declared.call.Draft.{Draft}
pub use Rattle.clfs_model.specs.declared.info.LogInfo.{LogInfo}
pub use Rattle.clfs_model.specs.declared.refusal.Refusal.{Refusal}
pub use Rattle.clfs_model.specs.declared.reply.Happened.{Happened}
pub use Rattle.clfs_model.specs.declared.reply.Happened.TheVariants.{Damage, Fault, Fine}
pub use Rattle.clfs_model.specs.declared.reply.Reply.{Reply}
pub use Rattle.clfs_model.specs.declared.state.Area.{Area}
pub use Rattle.clfs_model.specs.declared.state.State.{State}
pub use Rattle.clfs_cells_laws.specs.Breaking.{breaks_log, reads_back, tells_break, tells_table_broken, tells_table_damage}
pub use Rattle.clfs_cells_laws.specs.Crashes.{Along, CountsForNothing, EndsSafe, IsSafe, IsSafeFrom, IsSafeLog, LeavesEither, LoadsSafe, table_joined}
pub use Rattle.clfs_cells_laws.specs.Crashes.{table_once}
pub use Rattle.clfs_cells_laws.specs.Loads.{IsLoadCause, IsLoaded, IsNotLoaded}
pub use Rattle.clfs_cells_laws.specs.Reasons.{asks_log, begin_reason, reason_if, table_reason}
pub use Rattle.clfs_cells_laws.specs.Steps.{for_room_or_outside, from_outside, HasArguments, is_of_log, IsCommitted, IsRolledBack, IsSetTo, IsTakenBack}
pub use Rattle.clfs_cells_laws.specs.Stores.{AllApart, AreApart, AreStacked, is_of_cell, IsBrokenStore, IsInLog, IsKeptStore, IsLiveRecord, IsOpen, IsStore}
pub use Rattle.clfs_cells_laws.specs.Stores.{IsStoreWith, newest_of, records_left, sectors_held, store_area, value_before, value_by}
pub use Rattle.clfs_cells_laws.specs.Tables.{AreExclusive, AreOwn, changes, done_by, is_among, IsInTable, IsOwn, IsTabled, Keeps, numbers_of}
