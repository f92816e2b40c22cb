-- What holds of the rows and the number kept beside them.
use Rattle.std.specs.Prelude.{◌≡◌, ℕ, false, List, [], ◌∷◌}
use Rattle.clfs_ledger.specs.declared.row.Reservation.{Reservation}
use Rattle.clfs_ledger.specs.Rows.{has_row, total_held}

-- No area has two rows: the second would count in the total and never be found.
abbrev pub AreDifferentRows : List Reservation → Type 0
AreDifferentRows [] = Unit {0}
AreDifferentRows (row ∷ rows) = (has_row rows row.client row.area ≡ false) × AreDifferentRows rows

-- The total is that of the rows, so it needn't be added up.
pub record HaveTotal (rows : List Reservation) (total : ℕ) : Type 0 where
  pub different : AreDifferentRows rows
  pub total_is : total ≡ total_held rows
