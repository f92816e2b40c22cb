-- Taking back one set of a transaction.
use Rattle.clfs_cells.proofs.Words.{◌≡◌, ℕ, ◌<◌, true, false, List, length, take, Some, None, position, sym, ap, ◌∙◌, slice_get, take-set-lt, get_or-take}
use Rattle.clfs_cells.proofs.Words.{Made, Transaction, is_at, with_one_undone}
use Rattle.std.specs.Prelude.{slice_set, slice_index_or}
use Rattle.std.proofs.lemmas.Option.{get_or_from_slice_get, slice_get-get_or}
use Rattle.clfs_cells.proofs.Places.{stands_at, changed_there, unchanged, far}

-- a set that was taken back
abbrev pub undone : Made → Made
undone made = record made { undone = true }

-- a write to one of all sets is one to those that were made
pub written : (sets : List Made) (count place : ℕ) (d made : Made) → place < count → slice_get (take count sets) place ≡ Some made
    → take count (slice_set sets place (undone (slice_index_or sets place d))) ≡ slice_set (take count sets) place (undone made)
written sets count place d made inside is =
    let there : slice_index_or sets place d ≡ made =
    sym (get_or-take count sets place d inside) ∙ get_or_from_slice_get (take count sets) place made d is in
    take-set-lt count sets place (undone (slice_index_or sets place d)) inside ∙ ap (λ (x : Made). slice_set (take count sets) place (undone x)) there

-- a set that stands for any
abbrev any_set : Made
any_set = record { lsn = 0; undo_next = 0; change = record { cell = 0; old = 0; new = 0 }; undone = false }

-- the set that stands at a place
pub set_there : (made : List Made) (place : ℕ) → place < length made → slice_get made place ≡ Some (slice_index_or made place any_set)
set_there made place inside = slice_get-get_or made place any_set inside

pub inside : (made : List Made) (lsn place : ℕ) → position (is_at lsn) made ≡ Some place → place < length made
inside made lsn place is = (stands_at (is_at lsn) made place is).inside

-- where it stands, the transaction is changed by a write to it
pub undone_there : (t : Transaction) (lsn at place : ℕ) → position (is_at lsn) t.made ≡ Some place
    → (let x : Transaction = record t { made = slice_set t.made place (undone (slice_index_or t.made place any_set)); last = at } in x) ≡ with_one_undone lsn at t
undone_there t lsn at place is =
    ap (λ (made : List Made). let x : Transaction = record t { made = made; last = at } in x)
    (changed_there (is_at lsn) undone t.made place any_set (stands_at (is_at lsn) t.made place is))

-- where none stands there, nothing but the newest record changes
pub undone_nowhere : (t : Transaction) (lsn at : ℕ) → position (is_at lsn) t.made ≡ None
    → (let x : Transaction = record t { last = at } in x) ≡ with_one_undone lsn at t
undone_nowhere t lsn at none =
    ap (λ (made : List Made). let x : Transaction = record t { made = made; last = at } in x) (sym (unchanged (is_at lsn) undone t.made (far (is_at lsn) t.made none)))
