-- The first number that fails a test.
use Rattle.clfs_archive_form.proofs.Words.{◌≡◌, ℕ, suc, ◌+◌, ◌-◌, ◌<◌, ◌≤◌, Bool, true, false, cond, Some, None, sym, ◌∙◌, ap, arith, find, range_with_len}
use Rattle.clfs_archive_form.proofs.Words.{first_failing}

module _ (test : ℕ → Bool) (i end : ℕ) where
  one_more : i < end → first_failing test i (end - i) ≡ cond (test i) (first_failing test (i + 1) (end - (i + 1))) (Some i)
  one_more lt = let e : end - i ≡ suc (end - (i + 1)) = omega (arith, lt) in ap (λ (n : ℕ). first_failing test i n) e

  -- the number passes, and the search goes on after it
  pub passes_on : i < end → test i ≡ true → first_failing test (i + 1) (end - (i + 1)) ≡ first_failing test i (end - i)
  passes_on lt pass = sym (one_more lt ∙ ap (λ b. cond b (first_failing test (i + 1) (end - (i + 1))) (Some i)) pass)

  -- it is the first that fails
  pub fails_here : i < end → test i ≡ false → first_failing test i (end - i) ≡ Some i
  fails_here lt fail = one_more lt ∙ ap (λ b. cond b (first_failing test (i + 1) (end - (i + 1))) (Some i)) fail

-- The first of numbers in a row that passes a test.
module _ (test : ℕ → Bool) (first i end : ℕ) where
  row_more : i < end → find test (range_with_len (first + i) (end - i))
      ≡ cond (test (first + i)) (Some (first + i)) (find test (range_with_len (first + (i + 1)) (end - (i + 1))))
  row_more lt =
      let e : end - i ≡ suc (end - (i + 1)) = omega (arith, lt) in
      let next : first + i + 1 ≡ first + (i + 1) = omega arith in
      ap (λ (n : ℕ). find test (range_with_len (first + i) n)) e
      ∙ ap (λ (n : ℕ). cond (test (first + i)) (Some (first + i)) (find test (range_with_len n (end - (i + 1))))) next

  -- the number fails, and the search goes on after it
  pub fails_on : i < end → test (first + i) ≡ false
      → find test (range_with_len (first + (i + 1)) (end - (i + 1))) ≡ find test (range_with_len (first + i) (end - i))
  fails_on lt fail = sym (row_more lt ∙ ap (λ b. cond b (Some (first + i)) (find test (range_with_len (first + (i + 1)) (end - (i + 1))))) fail)

  -- it is the first that passes
  pub passes_here : i < end → test (first + i) ≡ true → find test (range_with_len (first + i) (end - i)) ≡ Some (first + i)
  passes_here lt pass = row_more lt ∙ ap (λ b. cond b (Some (first + i)) (find test (range_with_len (first + (i + 1)) (end - (i + 1))))) pass

  -- none does
  pub none_left : end ≤ i → find test (range_with_len (first + i) (end - i)) ≡ None
  none_left all = let e : end - i ≡ 0 = omega (arith, all) in ap (λ (n : ℕ). find test (range_with_len (first + i) n)) e
