-- The words that the proofs here use, passed on from one place. Declares nothing.
pub use Rattle.std.proofs.Common.{[], ap, append_assoc, arith, Bool, cond, drop, eqb, Err, false, get_or, get_or-set_other, get_or-set_same, inl, inr, leb}
pub use Rattle.std.proofs.Common.{length, length-append, length-drop, length-set, List, ltb, map, max, None, not, Ok, Option, refl, Result, set, Some, subst}
pub use Rattle.std.proofs.Common.{suc, sym, take, take-append-drop, true, vec_len, zero, ℕ, ⊎_elim, ◌%◌, ◌&&◌, ◌*◌, ◌++◌, ◌+◌, ◌-◌, ◌/◌, ◌<◌, ◌^◌, ◌||◌, ◌∙◌}
pub use Rattle.std.proofs.Common.{◌∷◌, ◌≡◌, ◌≢◌, ◌≤◌, ◌⊎◌}
pub use Rattle.std.proofs.Math.Seq.{get_or-append_seam}
pub use Rattle.std.proofs.lemmas.Bool.{cases_Bool, cases_eq, cases_lt, cond-true, eq-eqb, eqb-false, eqb-true, le-leb, le-ltb, leb-true, lt-leb, ltb-false}
pub use Rattle.std.proofs.lemmas.Bool.{ne_eqb, or_from, or_parts}
pub use Rattle.std.proofs.lemmas.List.{append-nil, drop-drop, drop-take, drop_all, drop_at, ext_get_or, get_or-map, get_or-take, get_or_append_left}
pub use Rattle.std.proofs.lemmas.List.{get_or_past, length-map, length-take, length-take-le, map-append, take-take, take_all, take_at, take_more}
pub use Rattle.std.proofs.lemmas.List.Elements.{All-append, All-from_recursion, All-nil, All-push, All-take, All-weaker, filter-append, recursion_from_All}
pub use Rattle.std.proofs.lemmas.List.FromFn.{length-map-range_with_len}
pub use Rattle.std.proofs.lemmas.List.Sums.{fold-append, position_or_len_is}
pub use Rattle.std.proofs.lemmas.Option.{slice_get-get_or}
pub use Rattle.std.proofs.lemmas.Result.{err_from_is_err_and}
pub use Rattle.std.specs.List.{AllByRecursion, Any, filter, flat_map, fold, position, position_or_len}
pub use Rattle.std.specs.Option.{option_map, option_or, option_to_list}
pub use Rattle.std.specs.Prelude.{All, IfErr, IfOk, nat_le, OnOk, slice_index}
pub use Rattle.clfs_base.specs.Checks.{image_at, told}
pub use Rattle.clfs_base.specs.Layout.{layout_of, row_place}
pub use Rattle.clfs_base.specs.Slots.{copy_in, copy_of, front_of, newest_of, slot_by, slot_of}
pub use Rattle.clfs_base.specs.Spelling.{IsImage, row_in}
pub use Rattle.clfs_base.specs.Streams.{streams_with}
pub use Rattle.clfs_base.specs.declared.image.BaseImage.{BaseImage}
pub use Rattle.clfs_base.specs.declared.image.Row.{Row}
pub use Rattle.clfs_base.specs.declared.newest.Front.{Front}
pub use Rattle.clfs_base.specs.declared.refusal.NewestRefusal.{NewestRefusal}
unfoldable pub use Rattle.clfs_block.specs.Checks.{frame_at, sectors_at}
pub use Rattle.clfs_block.specs.Checks.{head_of, IsEnough, left_from, rest_at}
pub use Rattle.clfs_block.specs.Frame.{AreBytes, payload_of, place_of}
pub use Rattle.clfs_block.specs.Judging.{AreJudgedAlone, AreReadAsWritten}
pub use Rattle.clfs_block.specs.RecordLaws.{block_framed, block_read, block_refused, block_same}
unfoldable pub use Rattle.clfs_block.specs.Records.{block_records}
pub use Rattle.clfs_block.specs.Records.{records_from, told_as, ◌>>=◌}
pub use Rattle.clfs_block.specs.declared.head.BlockHead.{BlockHead}
pub use Rattle.clfs_block.specs.declared.head.BlockRefusal.{BlockRefusal}
pub use Rattle.clfs_container.specs.OpenBlocks.{AreOpen, AreWhole, BeginsWith, block_sectors, Ends, EndsCleanly, Opens, total}
pub use Rattle.clfs_disk.specs.Files.{Files, found_count, Unchanged}
pub use Rattle.clfs_disk.specs.State.{DiskState, IsSteady, Passes, TellsContents}
pub use Rattle.clfs_lsn.specs.Checks.{pass_check, pass_guard, unless_ok, unless_wrong}
pub use Rattle.clfs_lsn.specs.Heads.{least_or}
pub use Rattle.clfs_lsn.specs.Lsn.{container_of, lsn_number, offset_of, sequence_of}
pub use Rattle.clfs_lsn.specs.Place.{block_end, frontier, IsWithin}
pub use Rattle.clfs_lsn.specs.Size.{IsShape, sectors, size}
unfoldable pub use Rattle.clfs_lsn.specs.Spelling.{record_at}
pub use Rattle.clfs_lsn.specs.Spelling.{BaseFits, FitsAt, record_bytes}
pub use Rattle.clfs_lsn.specs.Streams.{set_base}
pub use Rattle.clfs_lsn.specs.declared.entry.Kind.TheVariants.{Restart}
pub use Rattle.clfs_lsn.specs.declared.entry.LogEntry.{LogEntry}
pub use Rattle.clfs_lsn.specs.declared.place.Place.{Place}
pub use Rattle.clfs_lsn.specs.declared.shape.Shape.{Shape}
pub use Rattle.clfs_lsn.specs.declared.stream.Stream.{Stream}
pub use Rattle.clfs_model.specs.Live.{hold, is_live, live_lsns}
pub use Rattle.clfs_model.specs.Refusals.{name_fault}
pub use Rattle.clfs_model.specs.State.{base_of}
pub use Rattle.clfs_model.specs.Storable.{before_all, behind, behind_all, LieInBlocks, LiesBehind}
pub use Rattle.clfs_model.specs.Valid.{IsValid}
pub use Rattle.clfs_model.specs.declared.state.State.{State}
pub use Rattle.clfs_record.specs.Decoding.{entry_with}
pub use Rattle.clfs_recover.specs.Bases.{raised}
pub use Rattle.clfs_recover.specs.Files.{AreListed, Finds, FindsBehind, StandsFor, state_of, without_copy}
pub use Rattle.clfs_recover.specs.Fronts.{IsFrontOf, Piece, Shows}
pub use Rattle.clfs_recover.specs.Gathering.{GathersBlock, HasTaken, RefusesAs, TakesContainer, TakesListed}
pub use Rattle.clfs_recover.specs.KnownLogs.{IsLogOf, IsOpenedFrom, LieIn}
pub use Rattle.clfs_recover.specs.Logs.{file_at_end, HaveEmpty, HaveMore, IsLogWith, IsStoredIn, stored_state}
pub use Rattle.clfs_recover.specs.Opening.{parts_of}
pub use Rattle.clfs_recover.specs.Stored.{FitFrom, HasLog, HasRecords, HaveBlocks, stored_end, stored_in, stored_parts, stored_place, stored_records}
pub use Rattle.clfs_recover.specs.Telling.{TellsBehind, TellsBlock, TellsOpening}
pub use Rattle.clfs_recover.specs.Walk.{base_with, bases_with, blocks_end, blocks_records, Container, container_records, damage_at, end_at, high_row}
pub use Rattle.clfs_recover.specs.Walk.{image_fault, is_wrong_tail, last_end, listed_records, parts_with, place_behind, shape_of, slot_offset, walked}
pub use Rattle.clfs_recover.specs.declared.opening.Walked.{Walked}
pub use Rattle.clfs_recover.specs.declared.parts.Parts.{Parts}
pub use Rattle.clfs_recover.specs.declared.refusal.LoadRefusal.{LoadRefusal}
pub use Rattle.clfs_recover.specs.declared.refusal.LoadRefusal.TheVariants.{Damaged, DiskFault, NoBase, NoMemory}
