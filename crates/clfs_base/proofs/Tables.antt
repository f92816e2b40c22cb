-- The table of the fields: each field stands after the one before it.
use Rattle.clfs_base.proofs.Words.{◌≡◌, ℕ, zero, suc, ◌+◌, ◌-◌, ◌≤◌, ◌<◌, Bool, true, false, ◌&&◌, eqb, leb, List, [], ◌∷◌, length, get_or, take, drop, ◌++◌}
use Rattle.clfs_base.proofs.Words.{refl, ◌∙◌, ap, arith, length-append, nat_tests, flat_map, Field, Layout, Numbers, fields, filled, field_bytes}
use Rattle.clfs_base.proofs.Filling.{length-low, put_more}

abbrev pub no_field : Field
no_field = record { at = 0; width = 0; number = 0; least = 0; most = 0; may_be_zero = false }

-- from a place up to an end
pub is_in_row : ℕ → ℕ → List Field → Bool
is_in_row from end [] = leb from end
is_in_row from end (f ∷ fs) = eqb f.at from && is_in_row (from + f.width) end fs

pub fields_in_row : (layout : Layout) (n : Numbers) → is_in_row 1 41 (fields layout n) ≡ true
unfolding is_in_row
fields_in_row layout n = refl

both : (a b : Bool) → (a && b) ≡ true → (a ≡ true) × (b ≡ true)
both true b e = (refl, e)
both false b e = absurd (cc e)

at_is : (a b : ℕ) → eqb a b ≡ true → a ≡ b
at_is a b e = grind (arith, nat_tests)

le_is : (a b : ℕ) → leb a b ≡ true → a ≤ b
le_is a b e = grind (arith, nat_tests)

ends : (from end : ℕ) (fs : List Field) → is_in_row from end fs ≡ true → from ≤ end
unfolding is_in_row
ends from end [] row = le_is from end row
ends from end (f ∷ fs) row = omega (arith, ends (from + f.width) end fs (both _ _ row).1)

-- where the fields up to one end
pub placed : (from end : ℕ) (fs : List Field) (i : ℕ) → is_in_row from end fs ≡ true → i < length fs
    → ((get_or fs i no_field).at ≡ from + length (flat_map field_bytes (take i fs)))
    × (from + length (flat_map field_bytes (take i fs)) + (get_or fs i no_field).width ≤ end)
unfolding is_in_row
placed from end [] i row lt = absurd (omega (arith, lt))
placed from end (f ∷ fs) zero row lt =
    let parts = both _ _ row in
    (at_is f.at from parts.0 ∙ omega arith, omega (arith, ends (from + f.width) end fs parts.1))
placed from end (f ∷ fs) (suc i) row lt =
    let rest = placed (from + f.width) end fs i (both _ _ row).1 (omega (arith, lt)) in
    let size : length (flat_map field_bytes (take (suc i) (f ∷ fs))) ≡ f.width + length (flat_map field_bytes (take i fs)) =
    length-append (field_bytes f) (flat_map field_bytes (take i fs)) ∙ ap (λ (k : ℕ). k + length (flat_map field_bytes (take i fs))) (length-low 0 f.width f.number) in
    (omega (arith, rest.0, size), omega (arith, rest.1, size))

-- one field more
pub fields_more : (layout : Layout) (n : Numbers) (table : List Field) (i : ℕ) (out new : List ℕ) → table ≡ fields layout n → i < 17
    → out ≡ filled 63 (flat_map field_bytes (take i (fields layout n)))
    → new ≡ take ((get_or table i no_field).at - 1) out ++ (field_bytes (get_or table i no_field)
    ++ drop ((get_or table i no_field).at - 1 + (get_or table i no_field).width) out)
    → new ≡ filled 63 (flat_map field_bytes (take (i + 1) (fields layout n)))
fields_more layout n table i out new table_is lt is new_is =
    let fs = fields layout n in
    let f = get_or fs i no_field in
    let place = placed 1 41 fs i (fields_in_row layout n) lt in
    new_is ∙ ap (λ (t : List Field). take ((get_or t i no_field).at - 1) out ++ (field_bytes (get_or t i no_field)
    ++ drop ((get_or t i no_field).at - 1 + (get_or t i no_field).width) out)) table_is
    ∙ put_more field_bytes fs f no_field i 63 (f.at - 1) f.width out lt refl (length-low 0 f.width f.number) is
    (omega (arith, place.0)) (omega (arith, place.0, place.1))
