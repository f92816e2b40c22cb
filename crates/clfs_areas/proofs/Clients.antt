-- The areas of a client, by their rows.
use Rattle.clfs_areas.proofs.Words.{◌≡◌, ℕ, ◌+◌, Bool, true, false, not, ◌||◌, refl, sym, ap, ◌∙◌, List, [], ◌∷◌, length, map, Option, ◌==◌, count_by, find}
use Rattle.clfs_areas.proofs.Words.{cond, unwrap_or, list_any, range_with_len, sum_by-cons, Area, least_unused, has_row, client_areas, is_client_row, is_row}
use Rattle.clfs_areas.proofs.Words.{is_used, row_of, reservation_of, AreaRow}
use Rattle.std.specs.Prelude.{sum_by}
use Rattle.std.proofs.lemmas.List.Sums.{length-filter}
use Rattle.clfs_model.specs.declared.state.State.{State}
use Rattle.clfs_model.specs.Answers.{unused_area}

-- a sum over what f gives
pub sum_of_map : {X Y : Type 0} (f : X → Y) (g : Y → ℕ) (xs : List X) → sum_by g (map f xs) ≡ sum_by (λ x. g (f x)) xs
sum_of_map f g [] = refl
sum_of_map f g (x ∷ xs) =
    sum_by-cons g (f x) (map f xs) ∙ ap (λ (n : ℕ). g (f x) + n) (sum_of_map f g xs) ∙ sym (sum_by-cons (λ y. g (f y)) x xs)

-- a client has as many rows as areas
pub count_seen : (client : ℕ) (areas : List Area) → count_by (is_client_row client) (map row_of areas) ≡ length (client_areas client areas)
count_seen client areas =
    sum_of_map row_of (λ row. cond (is_client_row client row) 1 0) areas ∙ sym (length-filter (λ (area : Area). area.client == client) areas)

-- and with the same numbers
pub used_seen : (client : ℕ) (areas : List Area) (number : ℕ)
    → is_used client (map row_of areas) number ≡ list_any (λ (area : Area). area.number == number) (client_areas client areas)
used_seen client [] number = refl
used_seen client (area ∷ areas) number = go (area.client == client) refl (used_seen client areas number)
  where
    go : (b : Bool) → (area.client == client) ≡ b
        → is_used client (map row_of areas) number ≡ list_any (λ (area : Area). area.number == number) (client_areas client areas)
        → is_used client (map row_of (area ∷ areas)) number ≡ list_any (λ (area : Area). area.number == number) (client_areas client (area ∷ areas))
    go true here rest = rw here (ap (λ (b : Bool). (area.number == number) || b) rest)
    go false here rest = rw here rest

-- tests that answer alike find the same number
find_alike : (p q : ℕ → Bool) → ((n : ℕ) → p n ≡ q n) → (xs : List ℕ) → find p xs ≡ find q xs
find_alike p q alike [] = refl
find_alike p q alike (x ∷ xs) = rw (alike x, find_alike p q alike xs) refl

-- the number of a client's next area
next_number : (client : ℕ) (areas : List Area) → least_unused (count_by (is_client_row client) (map row_of areas)) (is_used client (map row_of areas))
    ≡ least_unused (length (client_areas client areas)) (λ number. list_any (λ (area : Area). area.number == number) (client_areas client areas))
next_number client areas =
    ap (λ (count : ℕ). least_unused count (is_used client (map row_of areas))) (count_seen client areas)
    ∙ ap (λ (found : Option ℕ). unwrap_or found (length (client_areas client areas) + 1))
    (find_alike (λ n. not (is_used client (map row_of areas) n)) (λ n. not (list_any (λ (area : Area). area.number == n) (client_areas client areas)))
    (λ n. ap not (used_seen client areas n)) (range_with_len 1 (length (client_areas client areas))))

module _ (areas : List Area) (rows : List AreaRow) (are : rows ≡ map row_of areas) (client : ℕ) where
  pub count_of_client : count_by (is_client_row client) rows ≡ length (client_areas client areas)
  count_of_client = ap (λ (all : List AreaRow). count_by (is_client_row client) all) are ∙ count_seen client areas

  pub unused_in_state : (s : State) → s.areas ≡ areas → least_unused (count_by (is_client_row client) rows) (is_used client rows) ≡ unused_area s client
  unused_in_state s same =
      ap (λ (all : List AreaRow). least_unused (count_by (is_client_row client) all) (is_used client all)) are
      ∙ next_number client areas
      ∙ ap (λ (all : List Area). least_unused (length (client_areas client all)) (λ number. list_any (λ (area : Area). area.number == number) (client_areas client all))) (sym same)

-- the ledger has a row for each area
pub held_row_seen : (areas : List Area) (client number : ℕ) → has_row (map reservation_of areas) client number ≡ is_used client (map row_of areas) number
held_row_seen [] client number = refl
held_row_seen (area ∷ areas) client number = ap (λ (b : Bool). is_row client number (row_of area) || b) (held_row_seen areas client number)
