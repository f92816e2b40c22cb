-- The words that the proofs here use, passed on from one place. Declares nothing.
pub use Rattle.std.proofs.Common.{[], ap, ap₂, arith, Bool, false, get_or, inl, inr, length, List, map, None, not, Option, refl, Some, subst, suc, sym, true}
pub use Rattle.std.proofs.Common.{zero, ℕ, ◌++◌, ◌+◌, ◌<◌, ◌||◌, ◌∙◌, ◌∷◌, ◌≡◌, ◌≢◌, ◌≤◌, ◌⊎◌}
pub use Rattle.std.proofs.lemmas.Bool.Decides.{nat_tests}
pub use Rattle.std.proofs.lemmas.List.{get_or-map, length-map, map-set}
pub use Rattle.std.proofs.lemmas.List.Sums.{sum_by-cons}
pub use Rattle.std.specs.List.{list_any, range_with_len, remove}
pub use Rattle.std.specs.Option.{option_map}
pub use Rattle.std.specs.Prelude.{AllPairs, cond, count_by, filter, find, position, slice_set, unwrap_or, ◌==◌}
pub use Rattle.clfs_cursor.specs.Rows.{AreaCursors, HaveDifferentNumbers}
pub use Rattle.clfs_ledger.specs.Rows.{has_row, total_held, without}
pub use Rattle.clfs_ledger.specs.declared.row.Reservation.{Reservation}
pub use Rattle.clfs_lsn.specs.Numbers.{least_unused}
pub use Rattle.clfs_lsn.specs.declared.cursor.Cursor.{Cursor}
pub use Rattle.clfs_model.specs.State.{change_first, is_area}
pub use Rattle.clfs_model.specs.Valid.{AreDifferentAreas}
pub use Rattle.clfs_model.specs.declared.state.Area.{Area}
pub use Rattle.clfs_areas.specs.Kept.{AreJoined, AreParts, cursors_of, inside_areas, reservation_of, row_of, table_of}
pub use Rattle.clfs_areas.specs.Rows.{AreDifferentRows, is_client_row, is_name, is_row, is_used, name_in}
pub use Rattle.clfs_areas.specs.Table.{all_held, area_at, AreaTable, client_areas, no_area}
pub use Rattle.clfs_areas.specs.declared.areas.Areas.TheInside.{Inside}
pub use Rattle.clfs_areas.specs.declared.row.AreaName.{AreaName}
pub use Rattle.clfs_areas.specs.declared.row.AreaRow.{AreaRow}
