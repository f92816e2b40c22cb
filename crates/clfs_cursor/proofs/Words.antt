-- The words that the proofs here use, passed on from one place. Declares nothing.
pub use Rattle.std.proofs.Common.{[], ap, ap₂, arith, Bool, cond, false, get_or, is_some, length, List, map, None, Option, refl, rules, Some, subst, suc, sym}
pub use Rattle.std.proofs.Common.{take, tests, true, zero, ℕ, ◌++◌, ◌+◌, ◌<◌, ◌∙◌, ◌∷◌, ◌≡◌, ◌≢◌, ◌≤◌}
pub use Rattle.std.proofs.lemmas.Bool.Decides.{nat_tests}
pub use Rattle.std.proofs.lemmas.List.{length-map, set-get_or}
pub use Rattle.std.proofs.lemmas.List.Filters.{sum_by-filter_both}
pub use Rattle.std.proofs.lemmas.List.Sums.{get_or-le-sum_by, sum_by-cons, sum_by-set, sum_by_push}
pub use Rattle.std.specs.List.{range_with_len, remove}
pub use Rattle.std.specs.Option.{option_map}
pub use Rattle.std.specs.Prelude.{count_by, filter, find, not, slice_set, sum_by, unwrap_or, ◌==◌}
pub use Rattle.clfs_lsn.specs.Cursors.{cursor_in, cursors_moved, cursors_without, unused_cursor}
pub use Rattle.clfs_lsn.specs.Numbers.{least_unused}
pub use Rattle.clfs_lsn.specs.declared.cursor.Cursor.{Cursor}
pub use Rattle.slab.specs.Slab.{get, Slab, slab_len, Updates}
pub use Rattle.clfs_cursor.specs.Kept.{area_by, AreOwned, cursor_by, has_key, kind_of, last_of, uses, uses_in}
pub use Rattle.clfs_cursor.specs.Keys.{AreDifferent, has_number, is_numbered, Keys}
pub use Rattle.clfs_cursor.specs.Rows.{area_at, AreaCursors, HaveDifferentNumbers, no_cursors, Table, with_cursors}
pub use Rattle.clfs_cursor.specs.declared.keys.Numbered.{Numbered}
pub use Rattle.clfs_cursor.specs.declared.standing.Standing.{Standing}
