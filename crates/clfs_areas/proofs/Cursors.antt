-- Cursors of which no two have the same number.
use Rattle.clfs_areas.proofs.Words.{◌≡◌, ◌≢◌, ℕ, ◌+◌, ◌<◌, ◌≤◌, Bool, true, sym, ap, ◌∙◌, subst, arith, zero, suc, List, [], ◌∷◌, length, get_or, ◌==◌}
use Rattle.clfs_areas.proofs.Words.{AllPairs, count_by, nat_tests, sum_by-cons, Cursor, HaveDifferentNumbers}
use Rattle.std.proofs.Common.{cond}

-- one that passes is counted
one_counted : {X : Type 0} (p : X → Bool) (xs : List X) (i : ℕ) (d : X) → i < length xs → p (get_or xs i d) ≡ true → 1 ≤ count_by p xs
one_counted p [] i d there is = absurd (omega (arith, there))
one_counted p (x ∷ xs) zero d there is =
    let first = sum_by-cons (λ y. cond (p y) 1 0) x xs ∙ ap (λ (b : Bool). cond b 1 0 + count_by p xs) is in omega (arith, first)
one_counted p (x ∷ xs) (suc i) d there is =
    omega (arith, sum_by-cons (λ y. cond (p y) 1 0) x xs, one_counted p xs i d (omega (arith, there)) is)

-- and two are counted as two
two_counted : {X : Type 0} (p : X → Bool) (xs : List X) (i j : ℕ) (d : X) → i < j → j < length xs → p (get_or xs i d) ≡ true → p (get_or xs j d) ≡ true
    → 2 ≤ count_by p xs
two_counted p [] i j d before there first second = absurd (omega (arith, there))
two_counted p (x ∷ xs) i zero d before there first second = absurd (omega (arith, before))
two_counted p (x ∷ xs) zero (suc j) d before there first second =
    let one = sum_by-cons (λ y. cond (p y) 1 0) x xs ∙ ap (λ (b : Bool). cond b 1 0 + count_by p xs) first in
    omega (arith, one, one_counted p xs j d (omega (arith, there)) second)
two_counted p (x ∷ xs) (suc i) (suc j) d before there first second =
    omega (arith, sum_by-cons (λ y. cond (p y) 1 0) x xs, two_counted p xs i j d (omega (arith, before)) (omega (arith, there)) first second)

own_number : (n : ℕ) → (n == n) ≡ true
own_number n = grind (arith, nat_tests)

-- where no number stands twice, any two differ
pub numbers_differ : (cursors : List Cursor) → HaveDifferentNumbers cursors → AllPairs (λ (a b : Cursor). a.number ≢ b.number) cursors
numbers_differ cursors different = λ i j d before there same.
    let number = (get_or cursors j d).number in
    let first : ((get_or cursors i d).number == number) ≡ true = subst (λ (n : ℕ). (n == number) ≡ true) (sym same) (own_number number) in
    omega (arith, different number, two_counted (λ (cursor : Cursor). cursor.number == number) cursors i j d before there first (own_number number))
