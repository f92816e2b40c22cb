-- What the areas hold after a change of the rows. In these lemmas c is a client and a the number of its area.
use Rattle.std.proofs.Common.{◌≡◌, ℕ, ◌+◌, ◌≤◌, true, false, List, [], ◌∷◌, refl, arith}
use Rattle.std.proofs.lemmas.Bool.Decides.{nat_tests}
use Rattle.clfs_ledger.specs.declared.row.Reservation.{Reservation}
use Rattle.clfs_ledger.specs.Rows.{has_row, held_of, total_held, with_held, without, OtherRowsStay}

-- an area without a row holds nothing
pub held_of-absent : (rows : List Reservation) (c a : ℕ) → has_row rows c a ≡ false → held_of rows c a ≡ 0
held_of-absent [] c a h = refl
held_of-absent (row ∷ rows) c a h = grind (arith, held_of-absent rows c a)

-- no area holds more than all of them
pub held_of-le-total_held : (rows : List Reservation) (c a : ℕ) → held_of rows c a ≤ total_held rows
held_of-le-total_held [] c a = omega arith
held_of-le-total_held (row ∷ rows) c a = grind (arith, held_of-le-total_held rows c a)

-- a row that is changed is that area's row still
pub has_row-with_held : (rows : List Reservation) (c a n x y : ℕ) → has_row (with_held rows c a n) x y ≡ has_row rows x y
has_row-with_held [] c a n x y = refl
has_row-with_held (row ∷ rows) c a n x y = grind (arith, has_row-with_held rows c a n x y)

pub with_held-absent : (rows : List Reservation) (c a n : ℕ) → has_row rows c a ≡ false → with_held rows c a n ≡ rows
with_held-absent [] c a n h = refl
with_held-absent (row ∷ rows) c a n h = grind (arith, with_held-absent rows c a n)

pub without-absent : (rows : List Reservation) (c a : ℕ) → has_row rows c a ≡ false → without rows c a ≡ rows
without-absent [] c a h = refl
without-absent (row ∷ rows) c a h = grind (arith, without-absent rows c a)

pub held_of-with_held : (rows : List Reservation) (c a n : ℕ) → has_row rows c a ≡ true → held_of (with_held rows c a n) c a ≡ n
held_of-with_held [] c a n h = cc
held_of-with_held (row ∷ rows) c a n h = grind (arith, held_of-with_held rows c a n)

pub total_held-with_held : (rows : List Reservation) (c a n : ℕ) → has_row rows c a ≡ true
    → total_held (with_held rows c a n) + held_of rows c a ≡ total_held rows + n
total_held-with_held [] c a n h = cc
total_held-with_held (row ∷ rows) c a n h = grind (arith, total_held-with_held rows c a n)

pub total_held-without : (rows : List Reservation) (c a : ℕ) → total_held (without rows c a) + held_of rows c a ≡ total_held rows
total_held-without [] c a = refl
total_held-without (row ∷ rows) c a = grind (arith, total_held-without rows c a)

-- the other areas hold what they held
pub others_stay-with_held : (rows : List Reservation) (c a n : ℕ) → OtherRowsStay rows (with_held rows c a n) c a
others_stay-with_held [] c a n x y h = refl
others_stay-with_held (row ∷ rows) c a n x y h = grind (arith, nat_tests, others_stay-with_held rows c a n x y h)

pub others_stay-without : (rows : List Reservation) (c a : ℕ) → OtherRowsStay rows (without rows c a) c a
others_stay-without [] c a x y h = refl
others_stay-without (row ∷ rows) c a x y h = grind (arith, nat_tests, others_stay-without rows c a x y h)
