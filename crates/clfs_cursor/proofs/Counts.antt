-- How many cursors of an area have a number.
use Rattle.clfs_cursor.proofs.Words.{◌≡◌, ℕ, ◌+◌, ◌<◌, ◌≤◌, Bool, true, false, cond, refl, ap, ◌∙◌, arith, zero, suc, List, [], ◌∷◌, ◌++◌, length, not}
use Rattle.clfs_cursor.proofs.Words.{filter, count_by, nat_tests, sum_by-cons, sum_by_push, sum_by-filter_both, AreDifferent, has_number, is_numbered, Numbered}
use Rattle.std.proofs.Common.{add-one, zero-add, below_more}
use Rattle.std.specs.List.{list_any}

-- the first, and the others
counted_first : {X : Type 0} (p : X → Bool) (x : X) (xs : List X) → count_by p (x ∷ xs) ≡ cond (p x) 1 0 + count_by p xs
counted_first p x xs = sum_by-cons (λ y. cond (p y) 1 0) x xs

-- the first counts where it passes the test
pub counted_more : {X : Type 0} (p : X → Bool) (x : X) (xs : List X) → p x ≡ true → count_by p (x ∷ xs) ≡ 1 + count_by p xs
counted_more p x xs is = counted_first p x xs ∙ ap (λ (b : Bool). cond b 1 0 + count_by p xs) is

-- and not where it fails it
pub counted_same : {X : Type 0} (p : X → Bool) (x : X) (xs : List X) → p x ≡ false → count_by p (x ∷ xs) ≡ count_by p xs
counted_same p x xs is = counted_first p x xs ∙ ap (λ (b : Bool). cond b 1 0 + count_by p xs) is ∙ zero-add (count_by p xs)

-- the others count no more than all
pub counted_le : {X : Type 0} (p : X → Bool) (x : X) (xs : List X) → count_by p xs ≤ count_by p (x ∷ xs)
counted_le p x xs = omega (arith, counted_first p x xs)

-- where none passes a test, none is counted
pub none_counted : {X : Type 0} (p : X → Bool) (xs : List X) → list_any p xs ≡ false → count_by p xs ≡ 0
none_counted p [] none = refl
none_counted p (x ∷ xs) none = go (p x) refl (none_counted p xs)
  where
    go : (b : Bool) → p x ≡ b → (list_any p xs ≡ false → count_by p xs ≡ 0) → count_by p (x ∷ xs) ≡ 0
    go true is rest = absurd (grind (arith, is, none))
    go false is rest =
        let others : list_any p xs ≡ false = rw is at none in
        counted_same p x xs is ∙ rest others

-- where one passes it, some are counted
pub some_counted : {X : Type 0} (p : X → Bool) (xs : List X) → list_any p xs ≡ true → 1 ≤ count_by p xs
some_counted p [] some = absurd (grind (arith, some))
some_counted p (x ∷ xs) some = go (p x) refl (some_counted p xs)
  where
    go : (b : Bool) → p x ≡ b → (list_any p xs ≡ true → 1 ≤ count_by p xs) → 1 ≤ count_by p (x ∷ xs)
    go true is rest = omega (arith, counted_more p x xs is)
    go false is rest =
        let others : list_any p xs ≡ true = rw is at some in
        omega (arith, counted_same p x xs is, rest others)

-- a filter leaves no number twice
pub filter_is_different : (p : Numbered → Bool) (keys : List Numbered) → AreDifferent keys → AreDifferent (filter p keys)
filter_is_different p keys different = λ number.
    let parts = sum_by-filter_both p (λ x. not (p x)) (λ _. refl) (λ x. cond (has_number number x) 1 0) keys in
    omega (arith, parts, different number)

-- one more with a number that none has
pub push_is_different : (keys : List Numbered) (last : Numbered) → is_numbered keys last.number ≡ false → AreDifferent keys → AreDifferent (keys ++ last ∷ [])
push_is_different keys last unused different = λ number.
    go number (has_number number last) refl (sum_by_push (λ x. cond (has_number number x) 1 0) keys last)
  where
    go : (number : ℕ) (b : Bool) → has_number number last ≡ b
        → count_by (has_number number) (keys ++ last ∷ []) ≡ count_by (has_number number) keys + cond (has_number number last) 1 0
        → count_by (has_number number) (keys ++ last ∷ []) ≤ 1
    go number true is more =
        let same : last.number ≡ number = grind (arith, nat_tests, is) in
        let none : count_by (has_number number) keys ≡ 0 = none_counted (has_number number) keys (rw same at unused) in
        let all = more ∙ ap (λ (b : Bool). count_by (has_number number) keys + cond b 1 0) is in
        omega (arith, all, none)
    go number false is more =
        let all = more ∙ ap (λ (b : Bool). count_by (has_number number) keys + cond b 1 0) is in
        omega (arith, all, different number)

-- how many have one of the first numbers
tally : List Numbered → ℕ → ℕ
tally keys zero = 0
tally keys (suc most) = tally keys most + count_by (has_number (suc most)) keys

tally_none : (most : ℕ) → tally [] most ≡ 0
unfolding tally
tally_none zero = refl
tally_none (suc most) = omega (arith, tally_none most)

-- one more is counted once at most
tally_first : (first : Numbered) (keys : List Numbered) (most : ℕ)
    → ((most < first.number) → tally (first ∷ keys) most ≡ tally keys most) × (tally (first ∷ keys) most ≤ tally keys most + 1)
unfolding tally
tally_first first keys zero = (λ _. refl, omega arith)
tally_first first keys (suc most) =
    go (has_number (suc most) first) refl (tally_first first keys most)
  where
    go : (b : Bool) → has_number (suc most) first ≡ b
        → ((most < first.number) → tally (first ∷ keys) most ≡ tally keys most) × (tally (first ∷ keys) most ≤ tally keys most + 1)
        → ((suc most < first.number) → tally (first ∷ keys) (suc most) ≡ tally keys (suc most)) × (tally (first ∷ keys) (suc most) ≤ tally keys (suc most) + 1)
    go true is before =
        let same : first.number ≡ suc most = grind (arith, nat_tests, is) in
        let one = counted_more (has_number (suc most)) first keys is in
        let rest = before.0 (omega (arith, same)) in
        (λ less. absurd (omega (arith, less, same)), omega (arith, one, rest))
    go false is before =
        let none = counted_same (has_number (suc most)) first keys is in
        (λ less. let rest = before.0 (omega (arith, less)) in omega (arith, none, rest), omega (arith, none, before.1))

tally_fits : (keys : List Numbered) (most : ℕ) → tally keys most ≤ length keys
tally_fits [] most = omega (arith, tally_none most)
tally_fits (first ∷ keys) most = omega (arith, tally_fits keys most, (tally_first first keys most).1)

tally_all : (keys : List Numbered) (most : ℕ) → ((k : ℕ) → k < most → is_numbered keys (k + 1) ≡ true) → most ≤ tally keys most
unfolding tally
tally_all keys zero all = omega arith
tally_all keys (suc most) all =
    let one = some_counted (has_number (suc most)) keys (rw add-one at (all most (omega arith))) in
    omega (arith, one, tally_all keys most (λ k less. all k (omega (arith, less))))

-- where as many numbers from 1 on are used as there are cursors, the next one isn't
pub next_is_unused : (keys : List Numbered) → ((k : ℕ) → k < length keys → is_numbered keys (k + 1) ≡ true) → is_numbered keys (length keys + 1) ≡ false
next_is_unused keys all = go (is_numbered keys (length keys + 1)) refl
  where
    go : (b : Bool) → is_numbered keys (length keys + 1) ≡ b → is_numbered keys (length keys + 1) ≡ false
    go false is = is
    go true is =
        let more : (k : ℕ) → k < length keys + 1 → is_numbered keys (k + 1) ≡ true = below_more _ _ all is in
        absurd (omega (arith, tally_all keys (length keys + 1) more, tally_fits keys (length keys + 1)))
