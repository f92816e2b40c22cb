-- Rows sorted by LSN, and places in them. What a row's LSN is says the function that comes first.
use Rattle.std.specs.Prelude.{ℕ, ◌<◌, ◌≤◌, nat_le, List, filter, length, AllPairs, slice_index_or}

-- Each has a lower LSN than those after it: no LSN comes twice, and a search by halves finds it.
abbrev pub AreRising : {X : Type 0} → (X → ℕ) → List X → Type 0
AreRising {X} lsn_of rows = AllPairs (λ (a b : X). lsn_of a < lsn_of b) rows

-- the place of the first one from an LSN on: those before it lie below the LSN, it and those after it don't
pub record IsPlaceOf {X : Type 0} (lsn_of : X → ℕ) (rows : List X) (lsn place : ℕ) : Type 0 where
  pub within : place ≤ length rows
  pub below : (k : ℕ) (d : X) → k < place → lsn_of (slice_index_or rows k d) < lsn
  pub above : (k : ℕ) (d : X) → place ≤ k → k < length rows → lsn ≤ lsn_of (slice_index_or rows k d)

-- those from an LSN on
abbrev pub rows_from : {X : Type 0} → (X → ℕ) → ℕ → List X → List X
rows_from {X} lsn_of lsn rows = filter (λ (row : X). nat_le lsn (lsn_of row)) rows
