-- The rows stay different and the total theirs.
use Rattle.std.proofs.Common.{◌≡◌, ℕ, ◌-◌, true, false, ◌||◌, if◌then◌else◌, List, [], ◌∷◌, ◌++◌, refl, arith}
use Rattle.std.proofs.lemmas.Bool.Decides.{nat_tests}
use Rattle.clfs_ledger.specs.declared.row.Reservation.{Reservation}
use Rattle.clfs_ledger.specs.Rows.{is_of, has_row, held_of, total_held, with_held, without}
use Rattle.clfs_ledger.specs.Kept.{AreDifferentRows, HaveTotal}
use Rattle.clfs_ledger.proofs.HeldSectors.{has_row-with_held, total_held-without}

-- a row of a new area keeps the rows different and the total
has_row-push : (rows : List Reservation) (row : Reservation) (x y : ℕ)
    → has_row (rows ++ row ∷ []) x y ≡ (has_row rows x y || is_of x y row)
has_row-push [] row x y = grind (arith, nat_tests)
has_row-push (first ∷ rows) row x y = grind (arith, nat_tests, has_row-push rows row x y)

different-push : (rows : List Reservation) (c a n : ℕ) → AreDifferentRows rows → has_row rows c a ≡ false
    → AreDifferentRows (rows ++ record { client = c; area = a; held = n } ∷ [])
different-push [] c a n h absent = (refl, tt)
different-push (first ∷ rows) c a n h absent =
    let row : Reservation = record { client = c; area = a; held = n } in
    let rest : has_row rows c a ≡ false = grind (arith, nat_tests, absent) in (
      grind (arith, nat_tests, has_row-push rows row first.client first.area, h.0, absent),
      different-push rows c a n h.1 rest,
    )

total_held-push : (rows : List Reservation) (row : Reservation) → row.held ≡ 0 → total_held (rows ++ row ∷ []) ≡ total_held rows
total_held-push [] row h = omega (arith, h)
total_held-push (first ∷ rows) row h = omega (arith, total_held-push rows row h)

pub kept-push : (rows : List Reservation) (c a total : ℕ) → HaveTotal rows total → has_row rows c a ≡ false
    → HaveTotal (rows ++ record { client = c; area = a; held = 0 } ∷ []) total
kept-push rows c a total h absent =
    let row : Reservation = record { client = c; area = a; held = 0 } in
    record { different = different-push rows c a 0 h.different absent; total_is = rw (total_held-push rows row refl) h.total_is }

pub different-with_held : (rows : List Reservation) (c a n : ℕ) → AreDifferentRows rows → AreDifferentRows (with_held rows c a n)
different-with_held [] c a n h = tt
different-with_held (row ∷ rows) c a n h =
    elim (is_of c a row) as (λ b. AreDifferentRows (if b then record row { held = n } ∷ rows else row ∷ with_held rows c a n)) [
      | true ↦ (h.0, h.1)
      | false ↦ (rw (has_row-with_held rows c a n row.client row.area) h.0, different-with_held rows c a n h.1)
    ]

-- a row that is gone was the area's only one
has_row-without : (rows : List Reservation) (c a x y : ℕ) → has_row rows x y ≡ false → has_row (without rows c a) x y ≡ false
has_row-without [] c a x y h = refl
has_row-without (row ∷ rows) c a x y h = grind (arith, nat_tests, h, has_row-without rows c a x y)

different-without : (rows : List Reservation) (c a : ℕ) → AreDifferentRows rows → AreDifferentRows (without rows c a)
different-without [] c a h = tt
different-without (row ∷ rows) c a h =
    elim (is_of c a row) as (λ b. AreDifferentRows (if b then rows else row ∷ without rows c a)) [
      | true ↦ h.1
      | false ↦ (has_row-without rows c a row.client row.area h.0, different-without rows c a h.1)
    ]

pub gone-without : (rows : List Reservation) (c a : ℕ) → AreDifferentRows rows → has_row (without rows c a) c a ≡ false
gone-without [] c a h = refl
gone-without (row ∷ rows) c a h = grind (arith, nat_tests, h.0, gone-without rows c a h.1)

pub kept-without : (rows : List Reservation) (c a total : ℕ) → HaveTotal rows total → HaveTotal (without rows c a) (total - held_of rows c a)
kept-without rows c a total h = record {
  different = different-without rows c a h.different;
  total_is = omega (arith, total_held-without rows c a, h.total_is);
}
