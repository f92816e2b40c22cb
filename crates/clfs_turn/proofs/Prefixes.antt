-- Beginnings of one list.
use Rattle.std.proofs.Common.{◌≡◌, ◌≤◌, Bool, true, false, cond, ltb, List, [], ◌∷◌, ◌++◌, length, refl, ap, sym, ◌∙◌, arith, append_assoc, length-append}
use mathlib.Core.List.{IsPrefix}
use Rattle.std.proofs.lemmas.Bool.{ltb-true, ltb-false}
use Rattle.clfs_turn.specs.Lists.{longer}

-- a fact that follows whichever value a test has
pub by_test : (b : Bool) (P : Bool → Type 0) → (b ≡ true → P true) → (b ≡ false → P false) → P b
by_test true P on off = on refl
by_test false P on off = off refl

module _ {A : Type 0} where
  -- each list begins with itself
  pub prefix_self : (xs : List A) → IsPrefix xs xs
  prefix_self [] = ([], refl)
  prefix_self (x ∷ xs) = let rest = prefix_self xs in (rest.0, ap (λ ys. x ∷ ys) rest.1)

  pub prefix_trans : (xs ys zs : List A) → IsPrefix xs ys → IsPrefix ys zs → IsPrefix xs zs
  prefix_trans xs ys zs p q = (p.0 ++ q.0, sym (append_assoc xs p.0 q.0) ∙ (ap (λ w. w ++ q.0) p.1 ∙ q.1))

  -- of two beginnings of one list the shorter begins the longer
  pub prefix_shorter : (xs ys zs : List A) → IsPrefix xs zs → IsPrefix ys zs → length xs ≤ length ys → IsPrefix xs ys
  prefix_shorter [] ys zs p q le = (ys, refl)
  prefix_shorter (x ∷ xs) [] zs p q le = absurd (omega arith)
  prefix_shorter (x ∷ xs) (y ∷ ys) [] p q le = absurd (cc (p.1))
  prefix_shorter (x ∷ xs) (y ∷ ys) (z ∷ zs) p q le =
      let heads : x ≡ y = cc (p.1, q.1) in
      let rest = prefix_shorter xs ys zs (p.0, cc (p.1)) (q.0, cc (q.1)) (omega arith) in
      (rest.0, cc (heads, rest.1))

  -- a beginning as long as the whole is the whole
  pub prefix_whole : (xs ys : List A) → IsPrefix xs ys → length ys ≤ length xs → xs ≡ ys
  prefix_whole [] [] p le = refl
  prefix_whole [] (y ∷ ys) p le = absurd (omega arith)
  prefix_whole (x ∷ xs) [] p le = absurd (cc (p.1))
  prefix_whole (x ∷ xs) (y ∷ ys) p le =
      let rest = prefix_whole xs ys (p.0, cc (p.1)) (omega arith) in cc (p.1, rest)

  pub prefix_length : (xs ys : List A) → IsPrefix xs ys → length xs ≤ length ys
  prefix_length xs ys p = omega (arith, sym (ap length p.1) ∙ length-append xs p.0)

  -- of two beginnings of one list the longer begins it too, and each of the two begins the longer
  pub longest : (xs ys zs : List A) → IsPrefix xs zs → IsPrefix ys zs
      → IsPrefix (longer xs ys) zs × IsPrefix xs (longer xs ys) × IsPrefix ys (longer xs ys)
  longest xs ys zs p q = by_test (ltb (length xs) (length ys))
      (λ b. IsPrefix (cond b ys xs) zs × IsPrefix xs (cond b ys xs) × IsPrefix ys (cond b ys xs))
      (λ lt. (q, prefix_shorter xs ys zs p q (omega (arith, ltb-true _ _ lt)), prefix_self ys))
      (λ ge. (p, prefix_self xs, prefix_shorter ys xs zs q p (omega (arith, ltb-false _ _ ge))))

  longer_agrees_by : (xs ys : List A) (a b : Bool) → ltb (length xs) (length ys) ≡ a → ltb (length ys) (length xs) ≡ b
      → IsPrefix xs (cond b xs ys) → cond a ys xs ≡ cond b xs ys
  longer_agrees_by xs ys true true p q h = let p' = ltb-true _ _ p in let q' = ltb-true _ _ q in absurd (omega (arith, p', q'))
  longer_agrees_by xs ys true false p q h = refl
  longer_agrees_by xs ys false true p q h = refl
  longer_agrees_by xs ys false false p q h = prefix_whole xs ys h (ltb-false _ _ p)

  -- the longer of two beginnings of one list is the same whichever comes first
  pub longer_agrees : (xs ys : List A) → IsPrefix xs (longer ys xs) → longer xs ys ≡ longer ys xs
  longer_agrees xs ys h = longer_agrees_by xs ys (ltb (length xs) (length ys)) (ltb (length ys) (length xs)) refl refl h
