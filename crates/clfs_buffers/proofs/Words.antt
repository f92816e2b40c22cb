-- The words that the proofs here use, passed on from one place. Declares nothing.
pub use Rattle.std.proofs.Common.{[], ap, arith, drop, Err, get_or, length, length-drop, List, None, Ok, Option, refl, Result, Some, subst, suc, sym, take}
pub use Rattle.std.proofs.Common.{zero, ℕ, ◌*◌, ◌++◌, ◌+◌, ◌-◌, ◌∙◌, ◌∷◌, ◌≡◌, ◌≤◌}
pub use Rattle.std.proofs.lemmas.List.{length-take}
pub use Rattle.std.proofs.lemmas.Result.{err_from_is_err_and}
pub use Rattle.std.specs.Option.{ok_or, option_map}
pub use Rattle.std.specs.Prelude.{slice_get}
pub use Rattle.clfs_block.specs.Checks.{frame_at}
pub use Rattle.clfs_block.specs.RecordLaws.{behind, block_refused}
pub use Rattle.clfs_block.specs.Records.{block_records, records_from, told_as}
pub use Rattle.clfs_block.specs.declared.head.BlockHead.{BlockHead}
pub use Rattle.clfs_block.specs.declared.head.BlockRefusal.{BlockRefusal}
pub use Rattle.clfs_block.specs.declared.head.BlockRefusal.TheVariants.{BadByte, Closed, NoMemory}
pub use Rattle.clfs_lsn.specs.Format.{sector_bytes}
pub use Rattle.clfs_lsn.specs.Lsn.{sequence_of}
pub use Rattle.clfs_lsn.specs.Size.{size}
unfoldable pub use Rattle.clfs_lsn.specs.Spelling.{record_at}
pub use Rattle.clfs_lsn.specs.Spelling.{entry_of, header_of}
pub use Rattle.clfs_lsn.specs.declared.entry.LogEntry.{LogEntry}
pub use Rattle.clfs_lsn.specs.declared.shape.Shape.{Shape}
pub use Rattle.lru.specs.LruCache.{lru_cache}
pub use Rattle.clfs_buffers.specs.Buffered.{Blocks, is_same_place, kept_at}
pub use Rattle.clfs_buffers.specs.Kept.{AreStarts, HaveLsns, IsStart, records_at, RefusesAs, wrong_in}
pub use Rattle.clfs_buffers.specs.Reading.{block_place, first_lsn, refused_at, TellsBlock}
pub use Rattle.clfs_buffers.specs.declared.place.BlockPlace.{BlockPlace}
