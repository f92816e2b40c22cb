-- The words that the proofs here use, passed on from one place. Declares nothing.
pub use Rattle.std.proofs.Common.{[], ap, append_assoc, arith, drop, get_or, inl, inr, length, length-append, length-drop, List, refl, replicate, subst, sym}
pub use Rattle.std.proofs.Common.{take, take-append-drop, ℕ, ⊎_elim, ◌%◌, ◌*◌, ◌++◌, ◌+◌, ◌-◌, ◌<◌, ◌^◌, ◌∙◌, ◌∷◌, ◌≡◌, ◌≤◌}
pub use Rattle.std.proofs.lemmas.Bool.Decides.{nat_tests}
pub use Rattle.std.proofs.lemmas.List.{append-nil, drop-drop, drop_at, drop_more, length-take-le, length_push, take-append-le, take_all, take_at}
pub use Rattle.std.proofs.lemmas.List.Concat.{flat_map-append}
pub use Rattle.std.specs.List.{concat, flat_map}
pub use Rattle.std.specs.Prelude.{IsSome, Some}
pub use Rattle.clfs_block.specs.Frame.{payload_from, payload_of, place_of, SpellsBlock, used_bytes}
pub use Rattle.clfs_container.specs.OpenBlocks.{total}
pub use Rattle.clfs_lsn.specs.Lsn.{lsn_number, offset_of, sequence_of}
pub use Rattle.clfs_lsn.specs.Place.{IsClosed, IsWithin, place_after}
pub use Rattle.clfs_lsn.specs.Size.{longest, sectors, size}
pub use Rattle.clfs_lsn.specs.Spelling.{filling, FitsAt, header_bytes, record_bytes}
pub use Rattle.clfs_lsn.specs.declared.entry.LogEntry.{LogEntry}
pub use Rattle.clfs_lsn.specs.declared.place.Place.{Place}
pub use Rattle.clfs_lsn.specs.declared.shape.Shape.{Shape}
pub use Rattle.clfs_record.specs.Fields.{placed_record}
pub use Rattle.clfs_queue.specs.Group.{IsGroupOf}
pub use Rattle.clfs_queue.specs.Held.{IsHeld, payload_before}
pub use Rattle.clfs_queue.specs.Kept.{EndsWith, IsKept, IsOpenPart}
pub use Rattle.clfs_queue.specs.Queued.{data_at, HasRoomFor, Queued}
pub use Rattle.clfs_queue.specs.Rows.{AreBlocks, AreInRow, IsBlock}
