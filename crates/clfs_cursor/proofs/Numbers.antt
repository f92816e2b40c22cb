-- The least number that isn't used.
use Rattle.clfs_cursor.proofs.Words.{◌≡◌, ℕ, ◌+◌, ◌<◌, Bool, true, false, refl, ap, ◌∙◌, arith, zero, suc, Some, None, find, not, unwrap_or, range_with_len}
use Rattle.clfs_cursor.proofs.Words.{least_unused}

next : (first k : ℕ) → first + 1 + k ≡ first + (k + 1)
next first k = omega arith

-- among numbers that are all used none is found
none_unused : (used : ℕ → Bool) (first count : ℕ) → ((k : ℕ) → k < count → used (first + k) ≡ true)
    → find (λ number. not (used number)) (range_with_len first count) ≡ None
none_unused used first zero all = refl
none_unused used first (suc count) all =
    let same : first + 0 ≡ first = omega arith in
    let here : used first ≡ true = rw same at (all 0 (omega arith)) in
    rw here (none_unused used (first + 1) count (λ k less. rw (next first k) (all (k + 1) (omega (arith, less)))))

-- the first that isn't used is found
first_unused : (used : ℕ → Bool) (first count place : ℕ) → place < count → ((k : ℕ) → k < place → used (first + k) ≡ true)
    → used (first + place) ≡ false → find (λ number. not (used number)) (range_with_len first count) ≡ Some (first + place)
first_unused used first zero place less below here = absurd (omega (arith, less))
first_unused used first (suc count) zero less below here =
    let same : first + 0 ≡ first = omega arith in
    let fails : used first ≡ false = rw same at here in
    rw (fails, same) refl
first_unused used first (suc count) (suc place) less below here =
    let same : first + 0 ≡ first = omega arith in
    let passes : used first ≡ true = rw same at (below 0 (omega arith)) in
    let behind : first + 1 + place ≡ first + suc place = omega arith in
    let rest = first_unused used (first + 1) count place (omega (arith, less))
    (λ k under. rw (next first k) (below (k + 1) (omega (arith, under)))) (rw behind here) in
    rw passes (rest ∙ ap Some behind)

pub unused_at : (used : ℕ → Bool) (count place : ℕ) → place < count → ((k : ℕ) → k < place → used (k + 1) ≡ true)
    → used (place + 1) ≡ false → least_unused count used ≡ place + 1
unused_at used count place less below here =
    let turned : (k : ℕ) → 1 + k ≡ k + 1 = λ k. omega arith in
    let found = first_unused used 1 count place less (λ k under. rw (turned k) (below k under)) (rw (turned place) here) in
    ap (λ number. unwrap_or number (count + 1)) found ∙ turned place

pub all_used : (used : ℕ → Bool) (count : ℕ) → ((k : ℕ) → k < count → used (k + 1) ≡ true) → least_unused count used ≡ count + 1
all_used used count all =
    let turned : (k : ℕ) → 1 + k ≡ k + 1 = λ k. omega arith in
    ap (λ number. unwrap_or number (count + 1)) (none_unused used 1 count (λ k under. rw (turned k) (all k under)))
