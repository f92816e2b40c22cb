-- The words that the proofs here use, passed on from one place. Declares nothing.
pub use Rattle.std.proofs.Common.{[], ap, append-nil, append_assoc, arith, Bool, cond, drop, eqb, Err, false, filter, get_or, if◌then◌else◌, inl, inr, leb}
pub use Rattle.std.proofs.Common.{length, List, ltb, map, max, min, None, not, Ok, Option, refl, Result, reverse, Some, subst, suc, sym, take, true, zero, ℕ}
pub use Rattle.std.proofs.Common.{⊎_elim, ◌%◌, ◌&&◌, ◌*◌, ◌++◌, ◌+◌, ◌-◌, ◌/◌, ◌<◌, ◌^◌, ◌||◌, ◌∙◌, ◌∷◌, ◌≡◌, ◌≢◌, ◌≤◌, ◌⊎◌}
pub use Rattle.std.proofs.Math.ListN.{get_or-append}
pub use Rattle.std.proofs.Math.Seq.{drop-append_seam, take-append_seam}
pub use Rattle.std.proofs.lemmas.Bool.{cases_lt, eq-eqb, eqb-true, le-ltb, lt-ltb, ltb-false, ne_eqb}
pub use Rattle.std.proofs.lemmas.Bool.Decides.{nat_tests}
pub use Rattle.std.proofs.lemmas.List.{drop-drop, drop_all, get_or-drop, get_or-map, get_or-take, length-append, length-drop, length-map, length-take}
pub use Rattle.std.proofs.lemmas.List.{length-take-le}
pub use Rattle.std.proofs.lemmas.List.Elements.{All-cons, All-nil, filter-append}
pub use Rattle.std.proofs.lemmas.List.FromFn.{length-map-range_with_len, length-range_with_len}
pub use Rattle.std.proofs.lemmas.Result.{err_from_is_err_and, on_ok_weaker}
pub use Rattle.std.specs.List.{find, flat_map, fold, range_with_len, zip}
pub use Rattle.std.specs.Option.{option_map_or, option_or}
pub use Rattle.std.specs.Prelude.{All, is_none}
pub use Rattle.byteorder.specs.Endian.{little_bytes}
pub use Rattle.clfs_base.specs.Checks.{image_of}
unfoldable pub use Rattle.clfs_base.specs.Demands.{fault_within}
pub use Rattle.clfs_base.specs.Demands.{Meets}
pub use Rattle.clfs_base.specs.Layout.{layout_in, number_at}
pub use Rattle.clfs_base.specs.Spelling.{current, flag, IsImage, row_in, spelled}
pub use Rattle.clfs_base.specs.Streams.{streams_with}
pub use Rattle.clfs_base.specs.declared.demands.Demands.{Demands}
pub use Rattle.clfs_base.specs.declared.image.BaseImage.{BaseImage}
pub use Rattle.clfs_base.specs.declared.image.Row.{Row}
unfoldable pub use Rattle.clfs_block.specs.Checks.{frame_at, sectors_at}
pub use Rattle.clfs_block.specs.Checks.{first_failing, head_of}
pub use Rattle.clfs_block.specs.Frame.{AreBytes, SpellsBlock}
pub use Rattle.clfs_block.specs.Judging.{AreReadAsWritten}
pub use Rattle.clfs_block.specs.RecordLaws.{block_refused}
unfoldable pub use Rattle.clfs_block.specs.Records.{block_records}
pub use Rattle.clfs_block.specs.Records.{told_as, ◌>>=◌}
pub use Rattle.clfs_block.specs.declared.head.BlockHead.{BlockHead}
pub use Rattle.clfs_block.specs.declared.head.BlockRefusal.{BlockRefusal}
pub use Rattle.clfs_container.specs.OpenBlocks.{AreWhole, BeginsWith, block_sectors, EndsCleanly, Opens, total}
pub use Rattle.clfs_disk.specs.Files.{Files}
pub use Rattle.clfs_lsn.specs.Format.{open_gate}
pub use Rattle.clfs_lsn.specs.Lsn.{container_of, lsn_number, offset_of}
pub use Rattle.clfs_lsn.specs.Place.{frontier}
pub use Rattle.clfs_lsn.specs.Size.{IsShape, sectors, size}
unfoldable pub use Rattle.clfs_lsn.specs.Spelling.{record_at}
pub use Rattle.clfs_lsn.specs.Spelling.{BaseFits, FitsAt, record_bytes}
pub use Rattle.clfs_lsn.specs.declared.entry.LogEntry.{LogEntry}
pub use Rattle.clfs_lsn.specs.declared.place.Place.{Place}
pub use Rattle.clfs_lsn.specs.declared.shape.Shape.{Shape}
pub use Rattle.clfs_model.specs.declared.state.State.{State}
pub use Rattle.clfs_recover.specs.Files.{state_of}
pub use Rattle.clfs_recover.specs.Gathering.{RefusesAs}
pub use Rattle.clfs_recover.specs.Logs.{FitsUpTo, stored_state}
pub use Rattle.clfs_recover.specs.Stored.{FitFrom, HasLog, HasRecords, HaveBlocks, stored_end, stored_in, stored_place, stored_records}
pub use Rattle.clfs_recover.specs.Walk.{base_with, bases_with, damage_at, image_fault, shape_of}
pub use Rattle.clfs_recover.specs.declared.refusal.LoadRefusal.{LoadRefusal}
pub use Rattle.clfs_recover.specs.declared.refusal.LoadRefusal.TheVariants.{Damaged, DiskFault, NoBase, NoMemory}
unfoldable pub use Rattle.clfs_archive_form.specs.Archives.{archive_there, archives_in, copy_there, rest_there}
pub use Rattle.clfs_archive_form.specs.Archives.{has_letter, magic_there, wanted_count}
unfoldable pub use Rattle.clfs_archive_form.specs.Containers.{container_there}
pub use Rattle.clfs_archive_form.specs.Containers.{block_bytes, blocks_in, blocks_of, containers_len, containers_there, damage_told, is_length, just_there}
pub use Rattle.clfs_archive_form.specs.Containers.{length_there, number_there, part_of, records_there}
pub use Rattle.clfs_archive_form.specs.Copies.{first_demands, first_listed, later_demands, slot_in, with_tail}
pub use Rattle.clfs_archive_form.specs.Form.{archive_bytes, archived_image, archived_pieces, magic, piece_bytes}
pub use Rattle.clfs_archive_form.specs.Judging.{Judging}
pub use Rattle.clfs_archive_form.specs.Kept.{AreExact, below, in_a_row, IsKeptEnd, StandIn}
pub use Rattle.clfs_archive_form.specs.ReadBack.{archive_alone, pieces_at}
pub use Rattle.clfs_archive_form.specs.Reading.{AreReadable, IsReadableAs, JudgesBlock, LieWithin, RefusesAt, Suits, TakesContainers}
unfoldable pub use Rattle.clfs_archive_form.specs.Restoring.{kept_records}
pub use Rattle.clfs_archive_form.specs.Restoring.{blocks_at, chosen, chosen_unless, end_in, end_of_last, gap_in, high_bound, in_container, is_container}
pub use Rattle.clfs_archive_form.specs.Restoring.{is_missing, kept_ids, last_copy, restored, restored_bases, restored_parts, restored_place}
pub use Rattle.clfs_archive_form.specs.Written.{HoldsKept, IsReadable, kept_count, lowered_rows, restored_copy}
pub use Rattle.clfs_archive_form.specs.declared.archive.Archive.{Archive}
pub use Rattle.clfs_archive_form.specs.declared.archive.Stored.{Stored}
pub use Rattle.clfs_archive_form.specs.declared.refusal.InputRefusal.{InputRefusal}
pub use Rattle.clfs_archive_form.specs.declared.refusal.InputRefusal.TheVariants.{UpToInvalid}
