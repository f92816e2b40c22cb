-- The words of LSNs, of the log machine and of its laws that the contracts here cite, passed on from one place. Declares nothing.
pub use Rattle.clfs_lsn.specs.Cursors.{unused_cursor}
pub use Rattle.clfs_lsn.specs.Format.{sector_bytes}
pub use Rattle.clfs_lsn.specs.Head.{head_of}
pub use Rattle.clfs_lsn.specs.Heads.{heads_from, stream_heads}
pub use Rattle.clfs_lsn.specs.Limits.{most_containers, most_cursors, most_write_buffers}
pub use Rattle.clfs_lsn.specs.Lsn.{container_of, null_lsn}
pub use Rattle.clfs_lsn.specs.Place.{begins_here, block_end, frontier, IsClosed, IsSmall, IsWithin, joins}
pub use Rattle.clfs_lsn.specs.Size.{IsShape, longest, most_data, own}
pub use Rattle.clfs_lsn.specs.declared.cursor.Mode.{Mode}
pub use Rattle.clfs_lsn.specs.declared.entry.Kind.TheVariants.{Plain}
pub use Rattle.clfs_lsn.specs.declared.entry.LogEntry.{LogEntry}
pub use Rattle.clfs_model.specs.Answers.{answer, archiving, outcome, rebased, restart_record}
pub use Rattle.clfs_model.specs.Conditions.{IsClient, MeetsCondition}
pub use Rattle.clfs_model.specs.Flush.{block_start, cut, flush, flushed, seal}
pub use Rattle.clfs_model.specs.Happened.{happened_of}
pub use Rattle.clfs_model.specs.Heads.{heads_of}
pub use Rattle.clfs_model.specs.Live.{hold, live_at}
pub use Rattle.clfs_model.specs.Policies.{policy_refusal}
pub use Rattle.clfs_model.specs.Put.{flush_if, hold_sizes, next_lsn, plain_record, put, seal_if, spend_if, spent_of, with_less_held}
pub use Rattle.clfs_model.specs.Reading.{newest_restart, next_of_cursor, record_cursor, restart_cursor, with_cursor, with_cursor_at}
pub use Rattle.clfs_model.specs.Refusals.{append_refusal, create_refusal, in_area, is_base, open_refusal, refusal, restart_refusal, stream_number, tail_refusal, unless_two_containers}
pub use Rattle.clfs_model.specs.Run.{asks, bad_line, reopens, Request}
pub use Rattle.clfs_model.specs.Space.{grown, own_sum, with_containers}
pub use Rattle.clfs_model.specs.State.{area_of, base_of, change_area, fresh, stream_at}
pub use Rattle.clfs_model.specs.Step.{calls_disk, fills_buffers, grows, is_pending, IsDamaged, making_ready_writes, ReopenStep, Step, with_broken}
pub use Rattle.clfs_model.specs.Storable.{IsStorable}
pub use Rattle.clfs_model.specs.Survivors.{Survives}
pub use Rattle.clfs_model.specs.Valid.{IsValid}
pub use Rattle.clfs_model.specs.declared.call.Call.{Call}
pub use Rattle.clfs_model.specs.declared.refusal.Refusal.{Refusal}
pub use Rattle.clfs_model.specs.declared.state.Area.{Area}
pub use Rattle.clfs_model.specs.declared.state.State.{State}
pub use Rattle.clfs_laws.specs.Between.{IsReadyFor, MayMove, MayPut, readied, TakesThrough, turned}
pub use Rattle.clfs_laws.specs.Refused.{is_of_call}
pub use Rattle.clfs_laws.specs.Stages.{ready_stages}
