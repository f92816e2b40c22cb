-- The place of an area's row, and what a write to it or its removal makes of the rows.
use Rattle.std.proofs.Common.{◌≡◌, ℕ, zero, suc, ◌<◌, true, false, List, [], ◌∷◌, length, Option, Some, None, IsSome, position}
use Rattle.std.proofs.Common.{slice_set, slice_index_or, remove, refl, ap, sym, subst, ◌∙◌, arith, rules}
use Rattle.std.specs.List.{position_or_len}
use Rattle.std.proofs.lemmas.List.Quantifiers.{position-Some}
use Rattle.std.proofs.lemmas.Bool.{lt-ltb}
use Rattle.std.proofs.lemmas.Bool.Decides.{nat_tests}
use Rattle.clfs_ledger.specs.declared.row.Reservation.{Reservation}
use Rattle.clfs_ledger.specs.Rows.{is_of, has_row, held_of, row_at, with_held, without}
use Rattle.clfs_ledger.specs.Kept.{AreDifferentRows}

-- the row at this place is the first that is the area's
pub record StandsAt (rows : List Reservation) (client area place : ℕ) : Type 0 where
  pub inside : place < length rows
  pub there : (d : Reservation) → is_of client area (slice_index_or rows place d) ≡ true
  pub first : (d : Reservation) (before : ℕ) → before < place → is_of client area (slice_index_or rows before d) ≡ false

pub stands_at : (rows : List Reservation) (c a i : ℕ) → position (is_of c a) rows ≡ Some i → StandsAt rows c a i
stands_at rows c a i h =
    let d : Reservation = record { client = 0; area = 0; held = 0 } in
    record {
      inside = (position-Some (is_of c a) rows i d h).0;
      there = λ e. (position-Some (is_of c a) rows i e h).1;
      first = λ e. (position-Some (is_of c a) rows i e h).2;
    }

stands_at-rest : (row : Reservation) (rows : List Reservation) (c a i : ℕ) → StandsAt (row ∷ rows) c a (suc i) → StandsAt rows c a i
stands_at-rest row rows c a i h =
    record { inside = omega (arith, h.inside); there = h.there; first = λ d k l. h.first d (suc k) (omega arith) }

-- where the area's row stands, the area holds what that row says
pub held_of-stands_at : (rows : List Reservation) (c a i : ℕ) (row : Reservation) → StandsAt rows c a i
    → row ≡ slice_index_or rows i row → row.held ≡ held_of rows c a
held_of-stands_at [] c a i row h e = absurd (omega (arith, h.inside))
held_of-stands_at (first ∷ rows) c a zero row h e = rw (h.there row) (ap (λ r. r.held) e)
held_of-stands_at (first ∷ rows) c a (suc i) row h e =
    rw (h.first row 0 (omega arith)) (held_of-stands_at rows c a i row (stands_at-rest first rows c a i h) e)

pub has_row-stands_at : (rows : List Reservation) (c a i : ℕ) → StandsAt rows c a i → has_row rows c a ≡ true
has_row-stands_at [] c a i h = absurd (omega (arith, h.inside))
has_row-stands_at (row ∷ rows) c a zero h = rw (h.there row) refl
has_row-stands_at (row ∷ rows) c a (suc i) h =
    rw (h.first row 0 (omega arith)) (has_row-stands_at rows c a i (stands_at-rest row rows c a i h))

-- a write to that row is a change of what the area holds
pub with_held-stands_at : (rows : List Reservation) (c a i n : ℕ) (row : Reservation) → StandsAt rows c a i
    → row ≡ slice_index_or rows i row → slice_set rows i (record row { held = n }) ≡ with_held rows c a n
with_held-stands_at [] c a i n row h e = absurd (omega (arith, h.inside))
with_held-stands_at (first ∷ rows) c a zero n row h e =
    rw (h.there row) (ap (λ (r : Reservation). let changed : Reservation = record r { held = n } in changed ∷ rows) e)
with_held-stands_at (first ∷ rows) c a (suc i) n row h e =
    rw (h.first row 0 (omega arith))
    (ap (λ rest. first ∷ rest) (with_held-stands_at rows c a i n row (stands_at-rest first rows c a i h) e))

pub without-stands_at : (rows : List Reservation) (c a i : ℕ) → StandsAt rows c a i → remove rows i ≡ without rows c a
without-stands_at [] c a i h = absurd (omega (arith, h.inside))
without-stands_at (row ∷ rows) c a zero h = rw (h.there row) refl
without-stands_at (row ∷ rows) c a (suc i) h =
    rw (h.first row 0 (omega arith)) (ap (λ rest. row ∷ rest) (without-stands_at rows c a i (stands_at-rest row rows c a i h)))

-- a row that is there is found
position_or_len-has_row : (rows : List Reservation) (c a : ℕ) → has_row rows c a ≡ true
    → position_or_len (is_of c a) rows < length rows
position_or_len-has_row [] c a h = cc
position_or_len-has_row (row ∷ rows) c a h = grind (arith, nat_tests, position_or_len-has_row rows c a)

-- where the search finds no place, the area has no row
pub has_row-position : (rows : List Reservation) (c a : ℕ) → position (is_of c a) rows ≡ None → has_row rows c a ≡ false
has_row-position rows c a none =
    elim (has_row rows c a) as (λ b. has_row rows c a ≡ b → b ≡ false) [
      | true ↦ λ there. let found = lt-ltb _ _ (position_or_len-has_row rows c a there) in cc (none, found)
      | false ↦ λ _. refl
    ] refl

-- The place that was looked up in a slice of the rows is where the area's row stands.
pub stands_at-found : (rows slice : List Reservation) (c a i : ℕ) (placed : Option ℕ)
    → slice ≡ rows → placed ≡ position (is_of c a) slice → placed ≡ Some i → StandsAt rows c a i
stands_at-found rows slice c a i placed same is some =
    stands_at rows c a i (ap (λ xs. position (is_of c a) xs) (sym same) ∙ sym is ∙ some)

pub no_row-found : (rows slice : List Reservation) (c a : ℕ) (placed : Option ℕ)
    → slice ≡ rows → placed ≡ position (is_of c a) slice → placed ≡ None → has_row rows c a ≡ false
no_row-found rows slice c a placed same is none =
    has_row-position rows c a (ap (λ xs. position (is_of c a) xs) (sym same) ∙ sym is ∙ none)

pub row-found : (rows slice : List Reservation) (c a : ℕ) (placed : Option ℕ)
    → slice ≡ rows → placed ≡ position (is_of c a) slice → has_row rows c a ≡ true → IsSome placed
row-found rows slice c a placed same is there =
    elim placed as (λ p. placed ≡ p → IsSome p) [
      | None ↦ λ none. let absent = no_row-found rows slice c a placed same is none in absurd (cc (there, absent))
      | Some i ↦ λ _. search rules
    ] refl

-- where the area has no row, none of them is its
none_is : (rows : List Reservation) (c a i : ℕ) (d : Reservation) → has_row rows c a ≡ false → i < length rows → is_of c a (slice_index_or rows i d) ≡ false
none_is [] c a i d none inside = absurd (omega (arith, inside))
none_is (row ∷ rows) c a zero d none inside = grind (arith, nat_tests, none)
none_is (row ∷ rows) c a (suc i) d none inside =
    let others : has_row rows c a ≡ false = grind (arith, nat_tests, none) in
    none_is rows c a i d others (omega (arith, inside))

own_row : (row : Reservation) → is_of row.client row.area row ≡ true
own_row row = grind (arith, nat_tests)

other_way : (one other : Reservation) → is_of one.client one.area other ≡ false → is_of other.client other.area one ≡ false
other_way one other differ = grind (arith, nat_tests, differ)

-- the row at a place is the first of its area
pub stands_at-own : (rows : List Reservation) (i : ℕ) (row : Reservation) → AreDifferentRows rows → i < length rows
    → row ≡ slice_index_or rows i row → StandsAt rows row.client row.area i
stands_at-own [] i row different inside is = absurd (omega (arith, inside))
stands_at-own (first ∷ rows) zero row different inside is = record {
  inside = inside;
  there = λ d. subst (λ (r : Reservation). is_of row.client row.area r ≡ true) is (own_row row);
  first = λ d k less. absurd (omega (arith, less));
}
stands_at-own (first ∷ rows) (suc i) row different inside is =
    let rest : StandsAt rows row.client row.area i = stands_at-own rows i row different.1 (omega (arith, inside)) is in
    let none : is_of first.client first.area row ≡ false =
    subst (λ (r : Reservation). is_of first.client first.area r ≡ false) (sym is) (none_is rows first.client first.area i row different.0 (omega (arith, inside))) in
    record { inside = inside; there = rest.there; first = before rest (other_way first row none) }
  where
    before : StandsAt rows row.client row.area i → is_of row.client row.area first ≡ false
        → (d : Reservation) (k : ℕ) → k < suc i → is_of row.client row.area (slice_index_or (first ∷ rows) k d) ≡ false
    before rest differs d zero less = differs
    before rest differs d (suc k) less = rest.first d k (omega (arith, less))

-- the row that was read at a place is the one there
pub row_there : (rows : List Reservation) (i : ℕ) (row : Reservation) → i < length rows → row ≡ slice_index_or rows i row → row ≡ row_at i rows
row_there [] i row inside is = absurd (omega (arith, inside))
row_there (first ∷ rows) zero row inside is = is
row_there (first ∷ rows) (suc i) row inside is = row_there rows i row (omega (arith, inside)) is
