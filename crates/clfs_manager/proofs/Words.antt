-- The words that the proofs here use, passed on from one place. Declares nothing.
pub use Rattle.std.proofs.Common.{[], ap, arith, Bool, drop, false, get_or, inl, inr, length, length-append, List, map, max, refl, rules, subst, suc, sym}
pub use Rattle.std.proofs.Common.{true, zero, ℕ, ⊎_elim, ◌%◌, ◌*◌, ◌++◌, ◌+◌, ◌-◌, ◌<◌, ◌^◌, ◌∙◌, ◌∷◌, ◌≡◌, ◌≢◌, ◌≤◌}
pub use Rattle.std.proofs.lemmas.Bool.{cases_Bool, cases_lt, eq-eqb, eqb-true, le-leb, le-ltb, leb-true, lt-leb, lt-ltb, ltb-false}
pub use Rattle.std.proofs.lemmas.Bool.Decides.{nat_tests}
pub use Rattle.std.proofs.lemmas.List.{get_or-map, length-drop, length-map, length-set}
pub use Rattle.std.proofs.lemmas.List.Elements.{All-append, All-cons, All-contains, All-contains_itself, All-filter, All-head, All-map, All-nil, All-tail}
pub use Rattle.std.proofs.lemmas.List.Elements.{All-weaker, filter-append}
pub use Rattle.std.proofs.lemmas.List.Kept.{AllPairs-from_increasing}
pub use Rattle.std.proofs.lemmas.Option.{slice_get_within}
pub use Rattle.std.specs.List.{Any}
pub use Rattle.std.specs.List.Sorted.{IsStrictlyIncreasing}
pub use Rattle.std.specs.Option.{option_and_then, option_map, option_map_or, option_to_list}
pub use Rattle.std.specs.Prelude.{All, Contains, Err, filter, find, fold, IfErr, IfOk, IfSome, if◌then◌else◌, is_none, is_some, IsErr, IsErrOf, IsOk, IsSome}
pub use Rattle.std.specs.Prelude.{IsTrue, MatchBool, min, nat_le, nat_lt, None, not, Ok, OnErr, OnOk, Option, Result, slice_get, slice_index, Some, unwrap_or}
pub use Rattle.std.specs.Prelude.{◌&&◌, ◌==◌, ◌⊎◌}
pub use Rattle.std.specs.Result.{is_err}
pub use Rattle.clfs_archive.specs.Blocks.{AreSealed, BlocksGoOn, IsBlock}
pub use Rattle.clfs_archive.specs.declared.block.BlockEnd.{BlockEnd}
pub use Rattle.clfs_areas.specs.Table.{all_held, area_at, AreaTable, no_area}
pub use Rattle.clfs_base.specs.Slots.{newest_of}
pub use Rattle.clfs_base.specs.Spelling.{current, flag, IsImage, IsName, row_in}
pub use Rattle.clfs_base.specs.Streams.{streams_with}
pub use Rattle.clfs_base.specs.Writing.{older_of}
pub use Rattle.clfs_base.specs.declared.image.BaseImage.{BaseImage}
pub use Rattle.clfs_base.specs.declared.image.Row.{Row}
pub use Rattle.clfs_block.specs.declared.head.BlockRefusal.{BlockRefusal}
pub use Rattle.clfs_buffers.specs.Buffered.{Buffered, kept_at, with_used}
pub use Rattle.clfs_buffers.specs.Reading.{block_place, first_lsn, Gives, record_in, TellsByte}
pub use Rattle.clfs_buffers.specs.declared.place.BlockPlace.{BlockPlace}
pub use Rattle.clfs_buffers.specs.declared.refusal.ReadRefusal.{ReadRefusal}
pub use Rattle.clfs_container.specs.OpenBlocks.{AreWhole, total}
pub use Rattle.clfs_disk.specs.Files.{Files, Unchanged}
pub use Rattle.clfs_disk.specs.State.{DiskState, IsHonest, IsSettled, IsSteady, Later, Leaves, Nature, Passes, Rises, TellsContents}
pub use Rattle.clfs_disk.specs.declared.disk.Failed.{Failed}
pub use Rattle.clfs_laws.specs.Between.{IsLaid, IsReadyFor, IsWhole, KeepsTables, MayMove, MayPut, readied, TakesThrough, turned}
pub use Rattle.clfs_laws.specs.Refused.{is_of_call}
pub use Rattle.clfs_laws.specs.Stages.{ready_stages}
pub use Rattle.clfs_lsn.specs.Cursors.{is_over_restarts}
pub use Rattle.clfs_lsn.specs.Format.{sector_bytes}
pub use Rattle.clfs_lsn.specs.Head.{head_of}
pub use Rattle.clfs_lsn.specs.Heads.{heads_from, least_or, stream_heads}
pub use Rattle.clfs_lsn.specs.Lsn.{container_of, lsn_number, null_lsn, offset_of, sequence_of}
pub use Rattle.clfs_lsn.specs.Place.{begins_here, block_end, frontier, IsClosed, IsWithin, joins, sealed}
pub use Rattle.clfs_lsn.specs.Size.{IsShape, own}
pub use Rattle.clfs_lsn.specs.Streams.{set_base, stream_number_from}
pub use Rattle.clfs_lsn.specs.declared.cursor.Cursor.{Cursor}
pub use Rattle.clfs_lsn.specs.declared.cursor.CursorKind.{CursorKind}
pub use Rattle.clfs_lsn.specs.declared.cursor.CursorKind.TheVariants.{Records, RestartAreas}
pub use Rattle.clfs_lsn.specs.declared.cursor.Mode.{Mode}
pub use Rattle.clfs_lsn.specs.declared.entry.Head.{Head}
pub use Rattle.clfs_lsn.specs.declared.entry.LogEntry.{LogEntry}
pub use Rattle.clfs_lsn.specs.declared.place.Place.{Place}
pub use Rattle.clfs_lsn.specs.declared.shape.Shape.{Shape}
pub use Rattle.clfs_lsn.specs.declared.stream.Stream.{Stream}
pub use Rattle.clfs_model.specs.Answers.{answer, Outcome, outcome, rebased, restart_record, restarted}
pub use Rattle.clfs_model.specs.Archive.{end_of_block, extents, is_in_block}
pub use Rattle.clfs_model.specs.Conditions.{MeetsCondition}
pub use Rattle.clfs_model.specs.Flush.{block_start, cut, first_or, flush, flushed, IsSame, seal}
pub use Rattle.clfs_model.specs.Happened.{happened_of, happened_of_refusal}
pub use Rattle.clfs_model.specs.Heads.{extents_of, heads_of}
pub use Rattle.clfs_model.specs.Live.{hold, is_live, live, live_at, live_lsns}
pub use Rattle.clfs_model.specs.Policies.{is_installed}
pub use Rattle.clfs_model.specs.Put.{flush_if, hold_sizes, need_of, next_lsn, plain_record, put, seal_if, spend_if, spent_of, with_less_held, with_more_held}
pub use Rattle.clfs_model.specs.Reading.{newest_restart, next_of_cursor, record_cursor, restart_cursor, with_cursor, with_cursor_at}
pub use Rattle.clfs_model.specs.Refusals.{full, invalid_base, open_refusal, refusal, refused_if, short, size_refusal, stream_number, too_long}
pub use Rattle.clfs_model.specs.Run.{asks, bad_line, reopens, Request}
unfoldable pub use Rattle.clfs_model.specs.Space.{grown}
pub use Rattle.clfs_model.specs.Space.{own_sum, with_containers}
pub use Rattle.clfs_model.specs.State.{area_of, base_of, change_area, change_first, is_area, stream_at}
unfoldable pub use Rattle.clfs_model.specs.Step.{ReopenStep, Step}
pub use Rattle.clfs_model.specs.Step.{calls_disk, fills_buffers, grows, is_pending, IsBroken, IsOutOfMemory, making_ready_writes, reads_disk, takes_memory}
pub use Rattle.clfs_model.specs.Step.{with_broken}
pub use Rattle.clfs_model.specs.Storable.{HasMovedBase, IsAreaWithinLimits, IsCursor, IsStorable}
pub use Rattle.clfs_model.specs.Survivors.{Survives}
pub use Rattle.clfs_model.specs.Valid.{HasRanges, HasWaiting, IsRecord, IsValid, IsWaiting}
pub use Rattle.clfs_model.specs.Ways.{GoesTheseWays}
pub use Rattle.clfs_model.specs.declared.call.Call.{Call}
pub use Rattle.clfs_model.specs.declared.call.Draft.{Draft}
pub use Rattle.clfs_model.specs.declared.info.Extent.{Extent}
pub use Rattle.clfs_model.specs.declared.refusal.Refusal.{Refusal}
pub use Rattle.clfs_model.specs.declared.reply.Happened.{Happened}
pub use Rattle.clfs_model.specs.declared.reply.Happened.TheVariants.{Fault, Fine}
pub use Rattle.clfs_model.specs.declared.reply.Reply.{Reply}
pub use Rattle.clfs_model.specs.declared.state.Area.{Area}
pub use Rattle.clfs_model.specs.declared.state.State.{State}
pub use Rattle.clfs_physical.specs.Changes.{next_copy}
pub use Rattle.clfs_physical.specs.Stored.{AreMade, Blocks, Newest, Stores, with_blocks}
pub use Rattle.clfs_physical.specs.Taking.{low_of, taken_of}
pub use Rattle.clfs_physical.specs.declared.change.Change.{Change}
pub use Rattle.clfs_physical.specs.declared.refusal.PhysicalRefusal.{PhysicalRefusal}
pub use Rattle.clfs_policy.specs.Ranges.{AreAllowed}
pub use Rattle.clfs_policy.specs.declared.policies.Policies.{Policies}
pub use Rattle.clfs_queue.specs.Group.{IsGroupOf}
pub use Rattle.clfs_queue.specs.Queued.{Queued}
pub use Rattle.clfs_queue.specs.Rows.{AreBlocks}
pub use Rattle.clfs_record.specs.declared.fields.Fields.{Fields}
pub use Rattle.clfs_recover.specs.Files.{AreWholeFiles, IsDamaged, policy_of, StandsFor, state_of}
pub use Rattle.clfs_recover.specs.Logs.{all_records, file_at_end, from_container, HaveMore, IsLogWith, records_from_container, stored_state, with_row_base}
pub use Rattle.clfs_recover.specs.Opening.{IsRefused, told_parts}
pub use Rattle.clfs_recover.specs.Reading.{file_of, IsReadAt}
pub use Rattle.clfs_recover.specs.Stored.{HasRecords, stored_place}
pub use Rattle.clfs_recover.specs.Walk.{shape_of}
pub use Rattle.clfs_recover.specs.declared.parts.Parts.{Parts}
pub use Rattle.clfs_recover.specs.declared.refusal.LoadRefusal.{LoadRefusal}
pub use Rattle.clfs_recover.specs.declared.refusal.LoadRefusal.TheVariants.{DiskFault}
pub use Rattle.clfs_tables.specs.Tables.{base_in, IsNumber, Tabled}
pub use Rattle.clfs_told.specs.declared.told.Told.{Told}
pub use Rattle.clfs_manager.specs.Base.{KeepsAllButTables, with_base}
pub use Rattle.clfs_manager.specs.CallLaws.{CallLaws, HaveByFile, StandByBlocks}
pub use Rattle.clfs_manager.specs.Calls.{Steps, WritesAs}
pub use Rattle.clfs_manager.specs.Changing.{ChangesLog, GoesThrough}
pub use Rattle.clfs_manager.specs.Crashes.{CrashLeavesSurvivor, CrashSurvives, StoredMeanwhile}
pub use Rattle.clfs_manager.specs.Fetching.{IsLeft, IsNeeded, IsNeededHead, IsReadAs, LeavesState, OnlyReads, Reaches, refused_as, TellsOf}
pub use Rattle.clfs_manager.specs.Flushing.{KeepsOthers, StoredAfter}
pub use Rattle.clfs_manager.specs.Keeping.{KeepsFew}
pub use Rattle.clfs_manager.specs.Laid.{BeginsAt, HasGroup, IsLaidLog, SendsGroup, WrittenAfter}
pub use Rattle.clfs_manager.specs.Memory.{ChangesAreas, HasForgotten, hold_start, Holds, IsSound, unflushed}
pub use Rattle.clfs_manager.specs.OnDisk.{AreKept, IsManaged, IsOpen, IsStored}
pub use Rattle.clfs_manager.specs.Preparing.{LeavesOf}
pub use Rattle.clfs_manager.specs.Putting.{MayTurnTo, unplaced}
pub use Rattle.clfs_manager.specs.Reading.{GetsRecord}
pub use Rattle.clfs_manager.specs.Reopening.{HoldsFlushed}
pub use Rattle.clfs_manager.specs.Restarts.{EndsInRestart, MayFinish, rebased_streams}
pub use Rattle.clfs_manager.specs.Settings.{archive_change, change_to, with_archive, with_policies}
pub use Rattle.clfs_manager.specs.Sizes.{ResizesLog}
pub use Rattle.clfs_manager.specs.Storing.{CallsDisk}
pub use Rattle.clfs_manager.specs.Streams.{IsNotAdded, with_stream}
pub use Rattle.clfs_manager.specs.Written.{CopyIsCurrent, IsIntact, IsYetToForget, WritesDisk}
pub use Rattle.clfs_manager.specs.declared.log.Log.{Log}
