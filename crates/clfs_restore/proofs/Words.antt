-- The words that the proofs here use, passed on from one place. Declares nothing.
pub use Rattle.std.proofs.Common.{[], ap, append_assoc, arith, Bool, drop, eqb, Err, false, get_or, inl, inr, length, List, ltb, map, min, None, Ok, Option}
pub use Rattle.std.proofs.Common.{refl, Result, Some, subst, suc, sym, take, true, vec_len, zero, ℕ, ⊎_elim, ◌*◌, ◌++◌, ◌+◌, ◌-◌, ◌<◌, ◌||◌, ◌∙◌, ◌∷◌, ◌≡◌}
pub use Rattle.std.proofs.Common.{◌≢◌, ◌≤◌, ◌⊎◌}
pub use Rattle.std.proofs.lemmas.Bool.{cases_lt}
pub use Rattle.std.proofs.lemmas.List.{drop-take, get_or-drop, length-drop, length-take, length-take-le, take-take}
pub use Rattle.std.proofs.lemmas.Result.{err_from_is_err_and, IfErr-weaker, on_ok_weaker}
pub use Rattle.std.specs.List.{flat_map}
pub use Rattle.std.specs.Prelude.{IsTrue, MatchBool, MatchOption}
pub use Rattle.byteorder.specs.Endian.{little_bytes}
pub use Rattle.clfs_archive_form.specs.Archives.{archives_in, joined}
pub use Rattle.clfs_archive_form.specs.Drafting.{front_bytes}
pub use Rattle.clfs_archive_form.specs.Form.{archive_bytes, archived_image, archived_pieces, piece_bytes}
pub use Rattle.clfs_archive_form.specs.Kept.{below}
pub use Rattle.clfs_archive_form.specs.Restoring.{chosen, restored}
pub use Rattle.clfs_archive_form.specs.Written.{HoldsKept, restored_copy}
pub use Rattle.clfs_archive_form.specs.declared.archive.Archive.{Archive}
pub use Rattle.clfs_archive_form.specs.declared.refusal.InputRefusal.{InputRefusal}
pub use Rattle.clfs_base.specs.Checks.{image_at}
pub use Rattle.clfs_base.specs.Slots.{copy_in, front_of, is_open_slot, newest_of, slot_by, slot_of}
pub use Rattle.clfs_base.specs.Spelling.{spelled}
pub use Rattle.clfs_base.specs.Writing.{HasNoCopy, NoneOrFirst}
pub use Rattle.clfs_base.specs.declared.image.BaseImage.{BaseImage}
pub use Rattle.clfs_base.specs.declared.newest.Front.{Front}
pub use Rattle.clfs_base.specs.declared.refusal.NewestRefusal.{NewestRefusal}
pub use Rattle.clfs_container.specs.OpenBlocks.{AreWhole, total}
pub use Rattle.clfs_disk.specs.Files.{Files, GrownIn, Unchanged}
pub use Rattle.clfs_disk.specs.State.{DiskState, IsSettled, IsSteady, Leaves, Nature, Passes, Rises, TellsContents}
pub use Rattle.clfs_format.specs.Making.{BaseStays, open_slot_of}
pub use Rattle.clfs_lsn.specs.Lsn.{container_of, lsn_number}
pub use Rattle.clfs_lsn.specs.declared.entry.LogEntry.{LogEntry}
pub use Rattle.clfs_lsn.specs.declared.shape.Shape.{Shape}
pub use Rattle.clfs_manager.specs.Written.{WritesDisk}
pub use Rattle.clfs_model.specs.Answers.{answer}
pub use Rattle.clfs_model.specs.Flush.{flushed}
pub use Rattle.clfs_model.specs.Happened.{happened_of_refusal}
pub use Rattle.clfs_model.specs.Refusals.{refused_if, tail_refusal}
unfoldable pub use Rattle.clfs_model.specs.Step.{Step}
pub use Rattle.clfs_model.specs.Step.{Comes, Goes, IsBroken, IsOutOfMemory, with_broken}
pub use Rattle.clfs_model.specs.declared.refusal.Refusal.{Refusal}
pub use Rattle.clfs_model.specs.declared.reply.Happened.{Happened}
pub use Rattle.clfs_model.specs.declared.reply.Happened.TheVariants.{Damage, Fault, Fine}
pub use Rattle.clfs_model.specs.declared.reply.Reply.{Reply}
pub use Rattle.clfs_model.specs.declared.state.State.{State}
pub use Rattle.clfs_recover.specs.Files.{StandsFor}
pub use Rattle.clfs_recover.specs.Stored.{stored_in, stored_records}
pub use Rattle.clfs_recover.specs.Walk.{shape_of}
pub use Rattle.clfs_recover.specs.declared.refusal.LoadRefusal.{LoadRefusal}
pub use Rattle.clfs_restore.specs.Archiving.{AreReadable, GivesCopy, GoesOn, pieces_from, Reads, refused_as, TellsArchived, TellsContainer}
pub use Rattle.clfs_restore.specs.Restoring.{AreFilled, base_bytes, ComesAtOnce, GrowsBase, IsFreeCause, IsOfMaking, IsPiece, IsRestoreCause, StandForRestored}
pub use Rattle.clfs_restore.specs.declared.refusal.ArchiveRefusal.{ArchiveRefusal}
pub use Rattle.clfs_restore.specs.declared.refusal.ArchiveRefusal.TheVariants.{Log, NoMemory, TooLong}
pub use Rattle.clfs_restore.specs.declared.refusal.RestoreRefusal.{RestoreRefusal}
