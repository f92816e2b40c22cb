-- The words that the proofs here use, passed on from one place. Declares nothing.
pub use Rattle.std.proofs.Common.{[], ap, append_assoc, arith, codes, cond, drop, Err, get_or, inl, inr, length, length-drop, List, None, Ok, Option, refl}
pub use Rattle.std.proofs.Common.{Result, Some, subst, suc, sym, take, zero, ℕ, ⊎_elim, ◌%◌, ◌*◌, ◌++◌, ◌+◌, ◌-◌, ◌/◌, ◌<◌, ◌^◌, ◌∙◌, ◌∷◌, ◌≡◌, ◌≤◌}
pub use Rattle.std.proofs.lemmas.Bool.{cases_lt, le-leb, lt-leb}
pub use Rattle.std.proofs.lemmas.List.{append-nil, drop-drop, drop_all, take_all}
pub use Rattle.std.proofs.lemmas.Result.{err_from_is_err_and, on_ok_weaker}
unfoldable pub use Rattle.std.specs.Fmt.{digits}
pub use Rattle.std.specs.Io.KnownBytes.{Appends}
pub use Rattle.std.specs.List.{flat_map}
pub use Rattle.clfs_base.specs.Slots.{newest_of}
pub use Rattle.clfs_base.specs.declared.image.BaseImage.{BaseImage}
pub use Rattle.clfs_base.specs.declared.image.Row.{Row}
pub use Rattle.clfs_base.specs.declared.refusal.NewestRefusal.{NewestRefusal}
unfoldable pub use Rattle.clfs_block.specs.Checks.{frame_at, sectors_at}
pub use Rattle.clfs_block.specs.Checks.{rest_at}
pub use Rattle.clfs_block.specs.Frame.{payload_of}
pub use Rattle.clfs_block.specs.Judging.{AreJudgedAlone, AreReadAsWritten}
pub use Rattle.clfs_block.specs.RecordLaws.{block_same}
unfoldable pub use Rattle.clfs_block.specs.Records.{block_records}
pub use Rattle.clfs_block.specs.Records.{records_from, told_as, ◌>>=◌}
pub use Rattle.clfs_block.specs.declared.head.BlockHead.{BlockHead}
pub use Rattle.clfs_block.specs.declared.head.BlockRefusal.{BlockRefusal}
pub use Rattle.clfs_container.specs.OpenBlocks.{block_sectors}
pub use Rattle.clfs_disk.specs.Files.{Files, Unchanged}
pub use Rattle.clfs_disk.specs.State.{TellsContents}
pub use Rattle.clfs_lsn.specs.Checks.{unless_wrong}
pub use Rattle.clfs_lsn.specs.Lsn.{lsn_number}
pub use Rattle.clfs_lsn.specs.Place.{frontier}
pub use Rattle.clfs_lsn.specs.Size.{IsShape}
unfoldable pub use Rattle.clfs_lsn.specs.Spelling.{record_at}
pub use Rattle.clfs_lsn.specs.declared.entry.LogEntry.{LogEntry}
pub use Rattle.clfs_lsn.specs.declared.shape.Shape.{Shape}
pub use Rattle.clfs_recover.specs.Files.{without_copy}
pub use Rattle.clfs_recover.specs.Fronts.{IsFrontOf, Shows}
pub use Rattle.clfs_recover.specs.Walk.{damage_at, shape_of, slot_offset}
pub use Rattle.clfs_recover.specs.declared.refusal.LoadRefusal.{LoadRefusal}
pub use Rattle.clfs_recover.specs.declared.refusal.LoadRefusal.TheVariants.{Damaged}
unfoldable pub use Rattle.hex.specs.Hex.{encode_with}
pub use Rattle.clfs_dump.specs.Lines.{container_line, number_after, stream_lines}
pub use Rattle.clfs_dump.specs.Printing.{AppendsFront, as_dump, Prints}
pub use Rattle.clfs_dump.specs.Reading.{first_wrong}
pub use Rattle.clfs_dump.specs.Telling.{behind_block, block_end, block_told, blocks_told, container_told, copy_told, files_told, followed_by, framed_told}
pub use Rattle.clfs_dump.specs.Telling.{image_told, last_line, listed_told, log_end, met_with, only, place_at, record_text, records_met, then_told, Told}
pub use Rattle.clfs_dump.specs.declared.refusal.DumpRefusal.{DumpRefusal}
pub use Rattle.clfs_dump.specs.declared.refusal.DumpRefusal.TheVariants.{DiskFault, NoBase, NoMemory, SinkFault}
pub use Rattle.clfs_dump.specs.declared.selection.Selection.{Selection}
