-- The words that the proofs here use, passed on from one place. Declares nothing.
pub use Rattle.std.proofs.Common.{[], ap, append_assoc, arith, Bool, cond, drop, eqb, Err, false, find, get_or, inl, inr, leb, length, length-append}
pub use Rattle.std.proofs.Common.{length-drop, List, ltb, map, min, None, not, Ok, Option, refl, replicate, Result, slice_get, Some, subst, suc, sym, take}
pub use Rattle.std.proofs.Common.{take-append-drop, true, zero, ℕ, ⊎_elim, ◌%◌, ◌&&◌, ◌*◌, ◌++◌, ◌+◌, ◌-◌, ◌<◌, ◌^◌, ◌||◌, ◌∙◌, ◌∷◌, ◌≡◌, ◌≢◌, ◌≤◌}
pub use Rattle.std.proofs.Math.Nat.{mul-le-mul_left}
pub use Rattle.std.proofs.lemmas.Bool.{cases_eq, cases_lt}
pub use Rattle.std.proofs.lemmas.Bool.Decides.{nat_tests}
pub use Rattle.std.proofs.lemmas.List.{append-nil, drop-drop, drop_all, drop_at, drop_more, ext_get_or, get_or-drop, get_or-replicate, get_or-take}
pub use Rattle.std.proofs.lemmas.List.{length-replicate, length-take, length-take-le, take_all, take_at}
pub use Rattle.std.proofs.lemmas.List.FromFn.{get_or-map-range_with_len, length-map-range_with_len, map-range_with_len_more}
pub use Rattle.std.proofs.lemmas.Result.{err_from_is_err_and, on_ok_weaker}
pub use Rattle.std.proofs.lemmas.Slice.Eq.{bytes_eq-Decides}
pub use Rattle.std.specs.List.{flat_map, list_all, list_any, range_with_len, zip}
pub use Rattle.std.specs.Option.{option_map, option_or}
pub use Rattle.std.specs.Prelude.{IfOk}
pub use Rattle.std.specs.Str.{bytes_eq}
pub use Rattle.byteorder.specs.Endian.{little_bytes, little_number}
pub use Rattle.clfs_disk.specs.Files.{Files, TornIn, Unchanged, WrittenIn}
pub use Rattle.clfs_disk.specs.State.{DiskState, Leaves, Passes}
pub use Rattle.clfs_lsn.specs.Checks.{unless_ok, unless_wrong}
pub use Rattle.clfs_lsn.specs.Limits.{most_containers}
pub use Rattle.clfs_lsn.specs.Names.{is_name_byte}
pub use Rattle.clfs_lsn.specs.Size.{IsShape}
unfoldable pub use Rattle.clfs_base.specs.Checks.{first_some, slot_fault}
pub use Rattle.clfs_base.specs.Checks.{behind_fields, file_in, files_in, image_at, image_of, image_with, is_other, is_taken, is_wrong_field, is_wrong_file}
pub use Rattle.clfs_base.specs.Checks.{name_in, name_len, other_byte, row_fault, row_of, rows_of, told, wrong_field, wrong_file, wrong_row}
pub use Rattle.clfs_base.specs.Decoding.{Gives, GivesNewest}
unfoldable pub use Rattle.clfs_base.specs.Demands.{fault_within}
pub use Rattle.clfs_base.specs.Demands.{anything, asked, is_wrong_within, wrong_within}
pub use Rattle.clfs_base.specs.Layout.{fields, file_place, layout_in, layout_of, most_dedicated, most_minimum, most_tail, number_at, numbers_of, row_place}
pub use Rattle.clfs_base.specs.Layout.{slot_bytes, version_one, version_two}
pub use Rattle.clfs_base.specs.Slots.{copy_in, copy_of, front_of, is_open_slot, newest_of, slot_by, slot_of, slot_place, used_slot}
pub use Rattle.clfs_base.specs.Spelling.{AreFiles, AreRows, field_bytes, filled, flag, IsImage, IsImageOf, IsName, IsPolicy, number_bytes, numbers_for}
pub use Rattle.clfs_base.specs.Spelling.{row_in, spelled, spelled_as, spelled_row}
pub use Rattle.clfs_base.specs.Writing.{EitherNewest, HasNewest, NoneOrFirst}
pub use Rattle.clfs_base.specs.declared.demands.Asked.{Asked}
pub use Rattle.clfs_base.specs.declared.demands.Asked.TheVariants.{Anything}
pub use Rattle.clfs_base.specs.declared.demands.Demands.{Demands}
pub use Rattle.clfs_base.specs.declared.image.BaseImage.{BaseImage}
pub use Rattle.clfs_base.specs.declared.image.Row.{Row}
pub use Rattle.clfs_base.specs.declared.layout.Field.{Field}
pub use Rattle.clfs_base.specs.declared.layout.Layout.{Layout}
pub use Rattle.clfs_base.specs.declared.layout.Numbers.{Numbers}
pub use Rattle.clfs_base.specs.declared.refusal.BaseRefusal.{BaseRefusal}
pub use Rattle.clfs_base.specs.declared.refusal.NewestRefusal.{NewestRefusal}
