-- The words that the proofs here use, passed on from one place. Declares nothing.
pub use Rattle.std.proofs.Common.{[], ap, arith, Bool, drop, false, filter, find, get_or, if◌then◌else◌, inl, inr, length, length-drop, List, None, not}
pub use Rattle.std.proofs.Common.{Option, position, refl, slice_index_or, slice_set, Some, subst, suc, sym, take, take-append-drop, true, zero, ℕ, ◌*◌, ◌++◌}
pub use Rattle.std.proofs.Common.{◌+◌, ◌<◌, ◌^◌, ◌∙◌, ◌∷◌, ◌≡◌, ◌≤◌}
pub use Rattle.std.proofs.Math.Seq.{take-set-lt}
pub use Rattle.std.proofs.lemmas.Bool.{cases_Bool}
pub use Rattle.std.proofs.lemmas.List.{append-nil, drop-drop, drop_all, get_or-take, length-map, length-take, length-take-le}
unfoldable pub use Rattle.std.specs.Fmt.{digits}
pub use Rattle.std.specs.List.{flat_map, position_or_len}
pub use Rattle.std.specs.Option.{option_map}
pub use Rattle.std.specs.Prelude.{map, nat_lt, slice_get, ◌&&◌, ◌==◌}
pub use Rattle.byteorder.specs.Endian.{IsRead, little_bytes, little_number}
pub use Rattle.byteorder.specs.Numbers.{little_from-lt, little_number-reads_back}
unfoldable pub use Rattle.clfs_model.specs.Run.{fine_outcome}
pub use Rattle.clfs_model.specs.Run.{asks}
unfoldable pub use Rattle.clfs_model.specs.Script.{request_in}
unfoldable pub use Rattle.clfs_model.specs.Space.{grown, has_room}
pub use Rattle.clfs_model.specs.State.{change_first}
pub use Rattle.clfs_model.specs.declared.reply.Happened.TheVariants.{Fine}
unfoldable pub use Rattle.hex.specs.Hex.{decode_pairs, encode_with}
pub use Rattle.clfs_cells.specs.Kept.{memory_of, transaction_of}
pub use Rattle.clfs_cells.specs.Layout.{numbers_in}
unfoldable pub use Rattle.clfs_cells.specs.Lines.{txn_call_in}
pub use Rattle.clfs_cells.specs.Loading.{last_number}
pub use Rattle.clfs_cells.specs.Stored.{is_at, is_numbered, Memory, Transaction, with_one_undone}
pub use Rattle.clfs_cells.specs.Table.{changed, is_committed}
unfoldable pub use Rattle.clfs_cells.specs.Worked.{call_without_memory, fine_call, fine_load}
pub use Rattle.clfs_cells.specs.declared.begun.Made.{Made}
pub use Rattle.clfs_cells.specs.declared.row.Change.{Change}
pub use Rattle.clfs_cells.specs.declared.row.TxnRecord.{TxnRecord}
