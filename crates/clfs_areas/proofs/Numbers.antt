-- The least number that a client doesn't use is not used.
use Rattle.clfs_areas.proofs.Words.{◌≡◌, ℕ, ◌+◌, ◌<◌, ◌≤◌, Bool, true, false, not, refl, ap, ◌∙◌, arith, zero, suc, List, [], ◌∷◌, Option, Some, None}
use Rattle.clfs_areas.proofs.Words.{count_by, find, unwrap_or, list_any, range_with_len, nat_tests, sum_by-cons, least_unused, is_client_row, is_row, is_used}
use Rattle.clfs_areas.proofs.Words.{AreaRow}
use Rattle.std.proofs.Common.{cond, add-one, below_more}

-- the first, and the others
counted_first : {X : Type 0} (p : X → Bool) (x : X) (xs : List X) → count_by p (x ∷ xs) ≡ cond (p x) 1 0 + count_by p xs
counted_first p x xs = sum_by-cons (λ y. cond (p y) 1 0) x xs

-- the first counts where it passes the test, and not where it fails it
counted : {X : Type 0} (p : X → Bool) (x : X) (xs : List X) (b : Bool) → p x ≡ b → count_by p (x ∷ xs) ≡ cond b 1 0 + count_by p xs
counted p x xs b is = counted_first p x xs ∙ ap (λ (b : Bool). cond b 1 0 + count_by p xs) is

-- where one passes a test, some are counted
some_counted : {X : Type 0} (p : X → Bool) (xs : List X) → list_any p xs ≡ true → 1 ≤ count_by p xs
some_counted p [] some = absurd (grind (arith, some))
some_counted p (x ∷ xs) some = go (p x) refl (some_counted p xs)
  where
    go : (b : Bool) → p x ≡ b → (list_any p xs ≡ true → 1 ≤ count_by p xs) → 1 ≤ count_by p (x ∷ xs)
    go true is rest = omega (arith, counted p x xs true is)
    go false is rest =
        let others : list_any p xs ≡ true = rw is at some in
        omega (arith, counted p x xs false is, rest others)

-- how many rows of a client have one of the first numbers
tally : ℕ → List AreaRow → ℕ → ℕ
tally client rows zero = 0
tally client rows (suc most) = tally client rows most + count_by (is_row client (suc most)) rows

tally_none : (client most : ℕ) → tally client [] most ≡ 0
unfolding tally
tally_none client zero = refl
tally_none client (suc most) = omega (arith, tally_none client most)

-- one more is counted once at most, and only where it is the client's
tally_first : (client : ℕ) (first : AreaRow) (rows : List AreaRow) (most : ℕ)
    → ((most < first.number) → tally client (first ∷ rows) most ≡ tally client rows most)
    × (tally client (first ∷ rows) most ≤ tally client rows most + cond (is_client_row client first) 1 0)
unfolding tally
tally_first client first rows zero = (λ _. refl, omega arith)
tally_first client first rows (suc most) =
    go (is_row client (suc most) first) refl (tally_first client first rows most)
  where
    go : (b : Bool) → is_row client (suc most) first ≡ b
        → ((most < first.number) → tally client (first ∷ rows) most ≡ tally client rows most)
        × (tally client (first ∷ rows) most ≤ tally client rows most + cond (is_client_row client first) 1 0)
        → ((suc most < first.number) → tally client (first ∷ rows) (suc most) ≡ tally client rows (suc most))
        × (tally client (first ∷ rows) (suc most) ≤ tally client rows (suc most) + cond (is_client_row client first) 1 0)
    go true is before =
        let same : first.number ≡ suc most = grind (arith, nat_tests, is) in
        let own : is_client_row client first ≡ true = grind (arith, nat_tests, is) in
        let counts : ◌≡◌ {A = ℕ} (cond (is_client_row client first) 1 0) 1 = ap (λ (b : Bool). cond b 1 0) own in
        let one = counted (is_row client (suc most)) first rows true is in
        let rest = before.0 (omega (arith, same)) in
        (λ less. absurd (omega (arith, less, same)), omega (arith, one, rest, counts))
    go false is before =
        let none = counted (is_row client (suc most)) first rows false is in
        (λ less. let rest = before.0 (omega (arith, less)) in omega (arith, none, rest), omega (arith, none, before.1))

tally_fits : (client : ℕ) (rows : List AreaRow) (most : ℕ) → tally client rows most ≤ count_by (is_client_row client) rows
tally_fits client [] most = omega (arith, tally_none client most)
tally_fits client (first ∷ rows) most =
    omega (arith, tally_fits client rows most, (tally_first client first rows most).1, counted_first (is_client_row client) first rows)

tally_all : (client : ℕ) (rows : List AreaRow) (most : ℕ) → ((k : ℕ) → k < most → is_used client rows (k + 1) ≡ true) → most ≤ tally client rows most
unfolding tally
tally_all client rows zero all = omega arith
tally_all client rows (suc most) all =
    let one = some_counted (is_row client (suc most)) rows (rw add-one at (all most (omega arith))) in
    omega (arith, one, tally_all client rows most (λ k less. all k (omega (arith, less))))

-- where as many numbers from 1 on are used as the client has areas, the next one isn't
next_is_unused : (client : ℕ) (rows : List AreaRow) → ((k : ℕ) → k < count_by (is_client_row client) rows → is_used client rows (k + 1) ≡ true)
    → is_used client rows (count_by (is_client_row client) rows + 1) ≡ false
next_is_unused client rows all = go (is_used client rows (count_by (is_client_row client) rows + 1)) refl
  where
    go : (b : Bool) → is_used client rows (count_by (is_client_row client) rows + 1) ≡ b → is_used client rows (count_by (is_client_row client) rows + 1) ≡ false
    go false is = is
    go true is =
        let count = count_by (is_client_row client) rows in
        let more : (k : ℕ) → k < count + 1 → is_used client rows (k + 1) ≡ true = below_more _ _ all is in
        absurd (omega (arith, tally_all client rows (count + 1) more, tally_fits client rows (count + 1)))

-- what is found isn't used
found_unused : (used : ℕ → Bool) (numbers : List ℕ) (number : ℕ) → find (λ n. not (used n)) numbers ≡ Some number → used number ≡ false
found_unused used [] number found = absurd (cc)
found_unused used (n ∷ numbers) number found = go (used n) refl (found_unused used numbers number)
  where
    go : (b : Bool) → used n ≡ b → (find (λ n. not (used n)) numbers ≡ Some number → used number ≡ false) → used number ≡ false
    go true is rest = let behind : find (λ n. not (used n)) numbers ≡ Some number = rw is at found in rest behind
    go false is rest =
        let here : Some n ≡ Some number = rw is at found in
        let same : n ≡ number = cc in
        rw (← same) is

-- where nothing is found, all numbers are used
none_found : (used : ℕ → Bool) (first count : ℕ) → find (λ n. not (used n)) (range_with_len first count) ≡ None → (k : ℕ) → k < count → used (first + k) ≡ true
none_found used first zero none k less = absurd (omega (arith, less))
none_found used first (suc count) none k less = go (used first) refl (none_found used (first + 1) count) k less
  where
    go : (b : Bool) → used first ≡ b
        → (find (λ n. not (used n)) (range_with_len (first + 1) count) ≡ None → (k : ℕ) → k < count → used (first + 1 + k) ≡ true)
        → (k : ℕ) → k < suc count → used (first + k) ≡ true
    go false is rest k less = let found : Some first ≡ None = rw is at none in absurd (cc)
    go true is rest zero less = let same : first + 0 ≡ first = omega arith in rw same is
    go true is rest (suc k) less =
        let behind : find (λ n. not (used n)) (range_with_len (first + 1) count) ≡ None = rw is at none in
        let same : first + suc k ≡ first + 1 + k = omega arith in
        rw same (rest behind k (omega (arith, less)))

pub least_is_unused : (client : ℕ) (rows : List AreaRow)
    → is_used client rows (least_unused (count_by (is_client_row client) rows) (is_used client rows)) ≡ false
least_is_unused client rows = go (find (λ n. not (is_used client rows n)) (range_with_len 1 (count_by (is_client_row client) rows))) refl
  where
    go : (found : Option ℕ) → find (λ n. not (is_used client rows n)) (range_with_len 1 (count_by (is_client_row client) rows)) ≡ found
        → is_used client rows (least_unused (count_by (is_client_row client) rows) (is_used client rows)) ≡ false
    go (Some number) is =
        ap (λ (o : Option ℕ). is_used client rows (unwrap_or o (count_by (is_client_row client) rows + 1))) is
        ∙ found_unused (is_used client rows) (range_with_len 1 (count_by (is_client_row client) rows)) number is
    go None is =
        let turned : (k : ℕ) → k + 1 ≡ 1 + k = λ k. omega arith in
        ap (λ (o : Option ℕ). is_used client rows (unwrap_or o (count_by (is_client_row client) rows + 1))) is
        ∙ next_is_unused client rows (λ k less. rw (turned k) (none_found (is_used client rows) 1 (count_by (is_client_row client) rows) is k less))
