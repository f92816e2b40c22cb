-- The words that the proofs here use, passed on from one place. Declares nothing.
pub use Rattle.std.proofs.Common.{[], ap, append_assoc, arith, Bool, false, inl, inr, length, length-append, List, refl, subst, suc, sym, true, zero, ℕ, ◌%◌}
pub use Rattle.std.proofs.Common.{◌*◌, ◌++◌, ◌+◌, ◌-◌, ◌/◌, ◌<◌, ◌^◌, ◌∙◌, ◌∷◌, ◌≡◌, ◌≢◌, ◌≤◌, ◌⊎◌}
pub use Rattle.std.proofs.lemmas.Bool.{and_parts, cases_Bool, eq-eqb, eqb-false, eqb-true, le-leb, le-ltb, leb-false, leb-true, lt-ltb, ltb-false, ltb-true}
pub use Rattle.std.proofs.lemmas.Bool.{ne_eqb}
pub use Rattle.std.proofs.lemmas.Bool.Decides.{nat_tests}
pub use Rattle.std.proofs.lemmas.Grind.{reverse_onto}
pub use Rattle.std.proofs.lemmas.List.{append-nil, length-map}
pub use Rattle.std.proofs.lemmas.List.Elements.{All-filter, All-from_recursion, All-push, All-weaker, Contains-append_left, filter-append, recursion_from_All}
pub use Rattle.std.proofs.lemmas.List.Folds.{find-append}
pub use Rattle.std.proofs.lemmas.List.Quantifiers.{all_pairs_push}
pub use Rattle.std.proofs.lemmas.List.Sums.{sum_by-append, sum_by-cons}
pub use Rattle.std.specs.List.{AllByRecursion, filter_map, last_or, range_with_len}
pub use Rattle.std.specs.List.Sorted.{IsStrictlyIncreasing}
pub use Rattle.std.specs.Option.{option_and_then, option_map, option_map_or, option_or, option_to_list}
pub use Rattle.std.specs.Prelude.{All, AllPairs, Any, Contains, filter, find, IfSome, if◌then◌else◌, is_none, is_some, IsSome, IsTrue, map, MatchBool}
pub use Rattle.std.specs.Prelude.{MatchOption, max, nat_le, nat_lt, None, not, Option, reverse, slice_get, slice_index, slice_index_or, Some, sum_by}
pub use Rattle.std.specs.Prelude.{unwrap_or, ◌&&◌, ◌==◌, ◌||◌}
pub use Rattle.clfs_lsn.specs.Cursors.{is_over_restarts, unused_cursor}
pub use Rattle.clfs_lsn.specs.Heads.{is_restart, least_or}
pub use Rattle.clfs_lsn.specs.Limits.{most_streams}
pub use Rattle.clfs_lsn.specs.Lsn.{container_of, lsn_number, null_lsn, offset_of, sequence_of}
pub use Rattle.clfs_lsn.specs.Numbers.{least_unused}
pub use Rattle.clfs_lsn.specs.Place.{begins_here, begun, block_end, frontier, IsClosed, IsOpen, IsWithin, joins, place_after, sealed}
pub use Rattle.clfs_lsn.specs.Size.{IsShape, longest, own, sectors, size}
pub use Rattle.clfs_lsn.specs.Space.{active_containers, free_sectors, growth, left_sectors}
pub use Rattle.clfs_lsn.specs.Spelling.{BaseFits}
pub use Rattle.clfs_lsn.specs.Streams.{set_base}
pub use Rattle.clfs_lsn.specs.declared.cursor.Cursor.{Cursor}
pub use Rattle.clfs_lsn.specs.declared.cursor.CursorKind.{CursorKind}
pub use Rattle.clfs_lsn.specs.declared.cursor.CursorKind.TheVariants.{Records, RestartAreas}
pub use Rattle.clfs_lsn.specs.declared.cursor.Mode.{Mode}
pub use Rattle.clfs_lsn.specs.declared.cursor.Mode.TheVariants.{Forward, Previous, UndoNext}
pub use Rattle.clfs_lsn.specs.declared.entry.Kind.{Kind}
pub use Rattle.clfs_lsn.specs.declared.entry.Kind.TheVariants.{Plain, Restart}
pub use Rattle.clfs_lsn.specs.declared.entry.LogEntry.{LogEntry}
pub use Rattle.clfs_lsn.specs.declared.place.Place.{Place}
pub use Rattle.clfs_lsn.specs.declared.policy.Policy.{Policy}
pub use Rattle.clfs_lsn.specs.declared.policy.PolicyKind.{PolicyKind}
pub use Rattle.clfs_lsn.specs.declared.shape.Shape.{Shape}
pub use Rattle.clfs_lsn.specs.declared.stream.Stream.{Stream}
pub use Rattle.clfs_model.specs.Answers.{advanced, answer, archiving, flushed_to, found_with_cursor, moved_on, new_area, opened, Outcome, outcome, over_area}
pub use Rattle.clfs_model.specs.Answers.{read_at, read_newest_restart, rebased, released, reserved_for, restart_record, restarted}
pub use Rattle.clfs_model.specs.Archive.{end_of_block, extent_in, extents, extents_from, is_in_block}
pub use Rattle.clfs_model.specs.Conditions.{IsClient, MeetsCondition}
pub use Rattle.clfs_model.specs.Flush.{block_start, cut, first_or, flush, flushed, IsSame, seal}
pub use Rattle.clfs_model.specs.Happened.{happened_of, happened_of_refusal}
pub use Rattle.clfs_model.specs.Journals.{GoesOn, held_by, held_in, IsLegal, mine}
pub use Rattle.clfs_model.specs.Live.{active, hold, is_live, last_live, live, live_at, live_lsns, lsn_or_null}
pub use Rattle.clfs_model.specs.Policies.{is_installed, needed_containers, outside, policy_refusal, with_policy, without_policy}
pub use Rattle.clfs_model.specs.Put.{appended, flush_if, hold_sizes, made_ready, need_of, next_lsn, plain_record, put, seal_if, spend_if, spent_of}
pub use Rattle.clfs_model.specs.Put.{with_less_held, with_more_held}
pub use Rattle.clfs_model.specs.Reading.{chain, chain_from, cursor_of, entry_at, newest_restart, next, next_of_cursor, record_cursor, restart_areas}
pub use Rattle.clfs_model.specs.Reading.{restart_cursor, with_cursor, with_cursor_at, without_cursor}
pub use Rattle.clfs_model.specs.Refusals.{append_refusal, create_refusal, end_of_kind, full, in_area, invalid_base, invalid_link, is_base, is_link}
pub use Rattle.clfs_model.specs.Refusals.{name_fault, next_refusal, open_refusal, read_refusal, refusal, refused_if, restart_refusal, short, size_refusal}
pub use Rattle.clfs_model.specs.Refusals.{stream_number, too_long, too_many_cursors, unless_two_containers}
unfoldable pub use Rattle.clfs_model.specs.Run.{fine_outcome}
pub use Rattle.clfs_model.specs.Run.{asks, bad_line, reopens, Request, RequestStep, Run}
unfoldable pub use Rattle.clfs_model.specs.Space.{grown, has_room}
pub use Rattle.clfs_model.specs.Space.{free, grown_if, growth_rate, own_sum, reserved, size_limit, with_containers}
pub use Rattle.clfs_model.specs.State.{area_of, areas_of, base_of, change_area, change_first, fresh, is_area, stream_at}
unfoldable pub use Rattle.clfs_model.specs.Step.{ReopenStep, Step}
pub use Rattle.clfs_model.specs.Step.{append_writes, calls_disk, Comes, fills_buffers, Goes, grows, IsBroken, IsDamaged, IsOpenedAnew, IsOutOfMemory, IsReply}
pub use Rattle.clfs_model.specs.Step.{IsReplyRead, making_ready_writes, Reopens, takes_memory, with_broken}
pub use Rattle.clfs_model.specs.Storable.{before_all, behind, behind_all, GoesOnAt, HasBlocks, HasMovedBase, IsAreaWithinLimits, IsCursor, IsStorable}
pub use Rattle.clfs_model.specs.Storable.{IsWithinLimits, LieInBlocks, LiesBehind}
pub use Rattle.clfs_model.specs.Survivors.{EndsBlockOf, HasBases, HasBasesOfRequest, HasSettings, IsSurvivor}
pub use Rattle.clfs_model.specs.Valid.{AreDifferentAreas, HasPolicies, HasWaiting, IsArea, IsRecord, IsValid, IsWaiting}
pub use Rattle.clfs_model.specs.declared.call.Call.{Call}
pub use Rattle.clfs_model.specs.declared.call.Draft.{Draft}
pub use Rattle.clfs_model.specs.declared.info.Extent.{Extent}
pub use Rattle.clfs_model.specs.declared.journal.Entry.{Entry}
pub use Rattle.clfs_model.specs.declared.refusal.Refusal.{Refusal}
pub use Rattle.clfs_model.specs.declared.reply.Happened.{Happened}
pub use Rattle.clfs_model.specs.declared.reply.Happened.TheVariants.{Damage, Fault, Fine}
pub use Rattle.clfs_model.specs.declared.reply.Reply.{Reply}
pub use Rattle.clfs_model.specs.declared.state.Area.{Area}
pub use Rattle.clfs_model.specs.declared.state.State.{State}
pub use Rattle.clfs_space.specs.Appending.{HasRoom}
pub use Rattle.clfs_space.specs.SpaceLaws.{HasSpaceLaws}
pub use Rattle.clfs_laws.specs.Between.{IsLaid, IsWhole, KeepsTables, MayMove, MayPut, readied, TakesThrough, turned}
pub use Rattle.clfs_laws.specs.Cursors.{cursor_of_kind, still_to_come, StillGives}
pub use Rattle.clfs_laws.specs.Meets.{RequestMeets}
pub use Rattle.clfs_laws.specs.Needs.{area_number, held_if_there, needed_sectors, taken_sectors}
pub use Rattle.clfs_laws.specs.Refused.{is_of_call, is_own_reply}
pub use Rattle.clfs_laws.specs.ReplyKinds.{is_reply_of}
pub use Rattle.clfs_laws.specs.Rows.{AreaRow, changed_where, row_after, row_in, row_of, row_through, with_changed_held, with_held}
pub use Rattle.clfs_laws.specs.Stable.{LeavesStable}
pub use Rattle.clfs_laws.specs.Stages.{ready_stages}
