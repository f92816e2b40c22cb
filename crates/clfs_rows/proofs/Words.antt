-- The words that the proofs here use, passed on from one place. Declares nothing.
pub use Rattle.std.proofs.Common.{ap, arith, Bool, false, get_or, inl, inr, length, List, refl, subst, sym, true, ℕ, ◌*◌, ◌+◌, ◌<◌, ◌≡◌, ◌≤◌, ◌⊎◌}
pub use Rattle.std.proofs.lemmas.List.Elements.{All-cons, All-head, All-nil, All-tail}
pub use Rattle.std.specs.Bool.{Decides}
unfoldable pub use Rattle.std.specs.Fmt.{digits}
pub use Rattle.std.specs.Prelude.{[], All, AllPairs, Any, codes, IfSome, IsSome, IsTrue, map, MatchBool, nat_lt, None, Option, replicate, Some, ◌==◌, ◌∷◌}
pub use Rattle.clfs_lsn.specs.Lsn.{container_of, lsn_number, null_lsn}
pub use Rattle.clfs_lsn.specs.Place.{block_end, frontier, IsClosed, sealed}
pub use Rattle.clfs_lsn.specs.declared.cursor.Cursor.{Cursor}
pub use Rattle.clfs_lsn.specs.declared.cursor.CursorKind.{CursorKind}
pub use Rattle.clfs_lsn.specs.declared.cursor.CursorKind.TheVariants.{Records, RestartAreas}
pub use Rattle.clfs_lsn.specs.declared.cursor.Mode.TheVariants.{Forward}
pub use Rattle.clfs_lsn.specs.declared.entry.Kind.{Kind}
pub use Rattle.clfs_lsn.specs.declared.entry.Kind.TheVariants.{Plain, Restart}
pub use Rattle.clfs_lsn.specs.declared.entry.LogEntry.{LogEntry}
pub use Rattle.clfs_lsn.specs.declared.place.Place.{Place}
pub use Rattle.clfs_lsn.specs.declared.shape.Shape.{Shape}
pub use Rattle.clfs_lsn.specs.declared.stream.Stream.{Stream}
pub use Rattle.clfs_model.specs.Flush.{cut, flushed}
pub use Rattle.clfs_model.specs.Reading.{entry_at}
pub use Rattle.clfs_model.specs.Refusals.{refusal}
unfoldable pub use Rattle.clfs_model.specs.Run.{fine_outcome}
unfoldable pub use Rattle.clfs_model.specs.Script.{request_in}
pub use Rattle.clfs_model.specs.Script.{line_request}
unfoldable pub use Rattle.clfs_model.specs.Space.{grown, has_room}
pub use Rattle.clfs_model.specs.State.{base_of, log_of}
unfoldable pub use Rattle.clfs_model.specs.Step.{ReopenStep, Step}
pub use Rattle.clfs_model.specs.Step.{Goes, IsBroken, IsOutOfMemory, takes_memory, with_broken}
pub use Rattle.clfs_model.specs.Storable.{IsStorable}
pub use Rattle.clfs_model.specs.Valid.{IsValid}
pub use Rattle.clfs_model.specs.declared.call.Call.{Call}
pub use Rattle.clfs_model.specs.declared.journal.Entry.{Entry}
pub use Rattle.clfs_model.specs.declared.reply.Happened.TheVariants.{Fine}
pub use Rattle.clfs_model.specs.declared.reply.Reply.{Reply}
pub use Rattle.clfs_model.specs.declared.state.Area.{Area}
pub use Rattle.clfs_model.specs.declared.state.State.{State}
unfoldable pub use Rattle.hex.specs.Hex.{decode_pairs, encode_with}
pub use Rattle.clfs_rows.specs.Arranged.{an_area, arranged_log, block_of, cursor_at, open_at, open_log, with_areas, with_cursors, with_place, with_records}
pub use Rattle.clfs_rows.specs.Compared.{two_containers, unflushed_log, with_link_to_itself, with_one_changed, without_first, without_one}
pub use Rattle.clfs_rows.specs.Crashes.{closed_at, left_of, long_append, long_log, state_behind, waiting_log, with_base, with_other_data}
pub use Rattle.clfs_rows.specs.Filled.{empty_record, streams_of}
pub use Rattle.clfs_rows.specs.Interleaved.{behind_first, behind_read}
pub use Rattle.clfs_rows.specs.ReadAnew.{read_log, second_record}
pub use Rattle.clfs_rows.specs.Worked.{flushed_log, opened_log, worked}
