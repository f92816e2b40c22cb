-- That a file is free where fewer are listed than were made.
use Rattle.clfs_physical.proofs.Words.{◌≡◌, ◌≢◌, ⊎_elim, ℕ, ◌+◌, ◌-◌, ◌<◌, ◌≤◌, List, [], ◌∷◌, length, get_or, refl, sym, ◌∙◌, ap, arith, cases_lt, cases_eq}
use Rattle.clfs_physical.proofs.Words.{IsIn, IsFree}
use Rattle.std.proofs.Common.{zero, suc}

-- a list without one of its elements
abbrev without : ℕ → List ℕ → List ℕ
without place [] = []
without zero (x ∷ xs) = xs
without (suc place) (x ∷ xs) = x ∷ without place xs

length-without : (place : ℕ) (xs : List ℕ) → place < length xs → length (without place xs) + 1 ≡ length xs
length-without place [] within = absurd (omega (arith, within))
length-without zero (x ∷ xs) within = omega arith
length-without (suc place) (x ∷ xs) within = omega (arith, length-without place xs (omega (arith, within)))

below-without : (place : ℕ) (xs : List ℕ) (i : ℕ) → i < place → get_or (without place xs) i 0 ≡ get_or xs i 0
below-without place [] i below = refl
below-without zero (x ∷ xs) i below = absurd (omega (arith, below))
below-without (suc place) (x ∷ xs) zero below = refl
below-without (suc place) (x ∷ xs) (suc i) below = below-without place xs i (omega (arith, below))

above-without : (place : ℕ) (xs : List ℕ) (i : ℕ) → place ≤ i → place < length xs → get_or (without place xs) i 0 ≡ get_or xs (suc i) 0
above-without place [] i above within = absurd (omega (arith, within))
above-without zero (x ∷ xs) i above within = refl
above-without (suc place) (x ∷ xs) zero above within = absurd (omega (arith, above))
above-without (suc place) (x ∷ xs) (suc i) above within = above-without place xs i (omega (arith, above)) (omega (arith, within))

-- what stands at another place is still there
other_in : (place : ℕ) (xs : List ℕ) (file : ℕ) → place < length xs → get_or xs place 0 ≢ file → IsIn xs file → IsIn (without place xs) file
other_in place xs file within apart is = ⊎_elim
    (λ (below : is.place < place). record {
      place = is.place;
      within = omega (arith, below, within, length-without place xs within);
      is = below-without place xs is.place below ∙ is.is;
    })
    (λ (above : place ≤ is.place). ⊎_elim
    (λ (same : is.place ≡ place). absurd (apart (ap (λ (k : ℕ). get_or xs k 0) (sym same) ∙ is.is)))
    (λ (past : is.place ≢ place). record {
      place = is.place - 1;
      within = omega (arith, above, past, is.within, length-without place xs within);
      is = above-without place xs (is.place - 1) (omega (arith, above, past)) within
          ∙ ap (λ (k : ℕ). get_or xs k 0) (omega (arith, above, past)) ∙ is.is;
    })
    (cases_eq is.place place))
    (cases_lt is.place place)

-- a list that has all of the numbers from 1 to so many has at least as many elements
pub as_many : (count : ℕ) (xs : List ℕ) → ((k : ℕ) → 1 ≤ k → k ≤ count → IsIn xs k) → count ≤ length xs
as_many zero xs each = omega arith
as_many (suc count) xs each =
    let last : IsIn xs (suc count) = each (suc count) (omega arith) (omega arith) in
    let fewer : count ≤ length (without last.place xs) = as_many count (without last.place xs)
    (λ k some few. other_in last.place xs k last.within (λ same. absurd (omega (arith, last.is, same, few))) (each k some (omega (arith, few)))) in
    omega (arith, fewer, length-without last.place xs last.within)

-- only one file is the least free one
pub one_free : (made : ℕ) (files : List ℕ) (a b : ℕ) → IsFree made files a → IsFree made files b → a ≡ b
one_free made files a b first second = ⊎_elim
    (λ (below : a < b). absurd (first.free (second.least a first.some below)))
    (λ (above : b ≤ a). ⊎_elim (λ (same : a ≡ b). same) (λ (apart : a ≢ b). absurd (second.free (first.least b second.some (omega (arith, above, apart)))))
    (cases_eq a b))
    (cases_lt a b)

-- where a file and all smaller ones are among some, they are as many
pub all_to : (xs : List ℕ) (file : ℕ) → ((other : ℕ) → 1 ≤ other → other < file → IsIn xs other) → IsIn xs file → (other : ℕ) → 1 ≤ other → other < file + 1
    → IsIn xs other
all_to xs file least is other some few = ⊎_elim
    (λ (below : other < file). least other some below)
    (λ (above : file ≤ other). record { place = is.place; within = is.within; is = is.is ∙ omega (arith, above, few) })
    (cases_lt other file)

pub so_many : (xs : List ℕ) (file : ℕ) → ((other : ℕ) → 1 ≤ other → other < file → IsIn xs other) → IsIn xs file → file ≤ length xs
so_many xs file least is = as_many file xs (λ k some few. all_to xs file least is k some (omega (arith, few)))
