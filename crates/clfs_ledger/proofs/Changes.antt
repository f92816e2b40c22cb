-- All that follows from one change of the rows.
use Rattle.std.proofs.Common.{◌≡◌, ℕ, ◌+◌, ◌-◌, ◌<◌, ◌≤◌, true, false, List, length, slice_set, slice_index_or, remove, refl, ap, arith}
use Rattle.clfs_ledger.specs.declared.row.Reservation.{Reservation}
use Rattle.clfs_ledger.specs.Rows.{has_row, held_of, row_at, total_held, with_held, with_held_at, without, OtherRowsStay}
use Rattle.clfs_ledger.specs.Kept.{HaveTotal}
use Rattle.clfs_ledger.proofs.HeldSectors.{
  held_of-with_held,
  total_held-with_held,
  total_held-without,
  others_stay-with_held,
  others_stay-without,
  held_of-le-total_held,
}
use Rattle.clfs_ledger.proofs.KeptRows.{different-with_held, gone-without, kept-without}
use Rattle.clfs_ledger.proofs.Places.{StandsAt, held_of-stands_at, has_row-stands_at, with_held-stands_at, without-stands_at, stands_at-own, row_there}

-- what follows where an area holds so many sectors more
pub record Raised (old new : List Reservation) (c a sectors sum : ℕ) : Type 0 where
  pub rows : new ≡ with_held old c a (held_of old c a + sectors)
  pub held : held_of new c a ≡ held_of old c a + sectors
  pub total : total_held new ≡ total_held old + sectors
  pub others : OtherRowsStay old new c a
  pub kept : HaveTotal new (sum + sectors)

-- what follows where it holds so many less
pub record Lowered (old new : List Reservation) (c a sectors sum : ℕ) : Type 0 where
  pub rows : new ≡ with_held old c a (held_of old c a - sectors)
  pub held : held_of new c a + sectors ≡ held_of old c a
  pub total : total_held new + sectors ≡ total_held old
  pub others : OtherRowsStay old new c a
  pub kept : HaveTotal new (sum - sectors)

-- what follows where the area's row is taken away
pub record Removed (old new : List Reservation) (c a held sum : ℕ) : Type 0 where
  pub held_is : held ≡ held_of old c a
  pub rows : new ≡ without old c a
  pub gone : has_row new c a ≡ false
  pub total : total_held new + held ≡ total_held old
  pub others : OtherRowsStay old new c a
  pub kept : HaveTotal new (sum - held)

raised-with_held : (rows : List Reservation) (c a sectors total : ℕ) → has_row rows c a ≡ true → HaveTotal rows total
    → Raised rows (with_held rows c a (held_of rows c a + sectors)) c a sectors total
raised-with_held rows c a sectors total there h =
    let n = held_of rows c a + sectors in
    let sum = total_held-with_held rows c a n there in
    record {
      rows = refl;
      held = held_of-with_held rows c a n there;
      total = omega (arith, sum);
      others = others_stay-with_held rows c a n;
      kept = record { different = different-with_held rows c a n h.different; total_is = omega (arith, sum, h.total_is) };
    }

lowered-with_held : (rows : List Reservation) (c a sectors total : ℕ) → has_row rows c a ≡ true
    → sectors ≤ held_of rows c a → HaveTotal rows total
    → Lowered rows (with_held rows c a (held_of rows c a - sectors)) c a sectors total
lowered-with_held rows c a sectors total there enough h =
    let n = held_of rows c a - sectors in
    let sum = total_held-with_held rows c a n there in
    record {
      rows = refl;
      held = omega (arith, held_of-with_held rows c a n there);
      total = omega (arith, sum);
      others = others_stay-with_held rows c a n;
      kept = record { different = different-with_held rows c a n h.different; total_is = omega (arith, sum, h.total_is) };
    }

pub write_raises : (rows : List Reservation) (c a i sectors total : ℕ) (row : Reservation) → StandsAt rows c a i
    → row ≡ slice_index_or rows i row → HaveTotal rows total
    → Raised rows (slice_set rows i (record row { held = row.held + sectors })) c a sectors total
write_raises rows c a i sectors total row at is h =
    rw (with_held-stands_at rows c a i (row.held + sectors) row at is, held_of-stands_at rows c a i row at is)
    (raised-with_held rows c a sectors total (has_row-stands_at rows c a i at) h)

pub write_lowers : (rows : List Reservation) (c a i sectors total held : ℕ) (row : Reservation) → StandsAt rows c a i
    → row ≡ slice_index_or rows i row → held ≡ held_of rows c a → sectors ≤ held → HaveTotal rows total
    → Lowered rows (slice_set rows i (record row { held = held - sectors })) c a sectors total
write_lowers rows c a i sectors total held row at is same enough h =
    rw (with_held-stands_at rows c a i (held - sectors) row at is, same)
    (lowered-with_held rows c a sectors total (has_row-stands_at rows c a i at) (omega (arith, same, enough)) h)

pub removal_removes : (rows new : List Reservation) (c a i total : ℕ) (row : Reservation) → StandsAt rows c a i
    → row ≡ slice_index_or rows i row → new ≡ remove rows i → HaveTotal rows total
    → Removed rows new c a row.held total
removal_removes rows new c a i total row at is items h =
    rw (items, without-stands_at rows c a i at, held_of-stands_at rows c a i row at is) record {
      held_is = refl;
      rows = refl;
      gone = gone-without rows c a h.different;
      total = total_held-without rows c a;
      others = others_stay-without rows c a;
      kept = kept-without rows c a total h;
    }

-- The row that was read at a place. The area whose it is stands there.
module _ (rows : List Reservation) (place : ℕ) (row : Reservation) (there : place < length rows) (is : row ≡ slice_index_or rows place row) where
  -- a write to it is a change of the row at the place
  pub write_is : (change : ℕ → ℕ) → slice_set rows place (record row { held = change row.held }) ≡ with_held_at place (change (row_at place rows).held) rows
  write_is change = ap (λ (r : Reservation). slice_set rows place (record r { held = change r.held })) (row_there rows place row there is)

  pub held_is : row.held ≡ (row_at place rows).held
  held_is = ap (λ (r : Reservation). r.held) (row_there rows place row there is)

  -- what the row at the place holds serves for the row read
  pub enough_there : (sectors : ℕ) → sectors ≤ (row_at place rows).held → sectors ≤ row.held
  enough_there sectors enough = omega (arith, held_is, enough)

  module _ (total : ℕ) (h : HaveTotal rows total) where
    at : StandsAt rows row.client row.area place
    at = stands_at-own rows place row h.different there is

    -- it holds no more than all
    pub held-le-total : row.held ≤ total_held rows
    held-le-total =
        omega (arith, held_of-stands_at rows row.client row.area place row at is, held_of-le-total_held rows row.client row.area)

    pub write_raises_at : (sectors : ℕ)
        → Raised rows (slice_set rows place (record row { held = row.held + sectors })) row.client row.area sectors total
    write_raises_at sectors = write_raises rows row.client row.area place sectors total row at is h

    pub write_lowers_at : (sectors : ℕ) → sectors ≤ row.held
        → Lowered rows (slice_set rows place (record row { held = row.held - sectors })) row.client row.area sectors total
    write_lowers_at sectors enough = write_lowers rows row.client row.area place sectors total row.held row at is
        (held_of-stands_at rows row.client row.area place row at is) enough h
