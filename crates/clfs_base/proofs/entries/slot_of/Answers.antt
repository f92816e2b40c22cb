use Rattle.clfs_base.proofs.Words.{◌≡◌, ℕ, ◌*◌, ◌<◌, ◌≤◌, min, List, length, take, drop, ⊎_elim, sym, ◌∙◌, ap, arith, cases_lt, take_all, drop_all}
use Rattle.clfs_base.proofs.entries.slot_of.Goals as goal

-- where a front ends after the list, all of it is taken, and nothing is left
taken : (xs : List ℕ) (n m : ℕ) → m ≡ min (length xs) n → take m xs ≡ take n xs
taken xs n m is = ⊎_elim
    (λ (low : n < length xs). let same : m ≡ n = omega (arith, is, low) in ap (λ (k : ℕ). take k xs) same)
    (λ (high : length xs ≤ n). take_all m xs (omega (arith, is, high)) ∙ sym (take_all n xs high))
    (cases_lt n (length xs))

left : (xs : List ℕ) (n m : ℕ) → m ≡ min (length xs) n → drop m xs ≡ drop n xs
left xs n m is = ⊎_elim
    (λ (low : n < length xs). let same : m ≡ n = omega (arith, is, low) in ap (λ (k : ℕ). drop k xs) same)
    (λ (high : length xs ≤ n). drop_all m xs (omega (arith, is, high)) ∙ sym (drop_all n xs high))
    (cases_lt n (length xs))

pub returns : goal.returns
returns c =
    let base = c.args.base.now in
    taken c.split_at.result.1.now 16384 c.min-count.result c.min-count.ensures
    ∙ ap (λ (l : List ℕ). take 16384 l) (c.split_at.ensures.back ∙ left base (16384 * c.args.slot) c.min-from.result c.min-from.ensures)
