-- What a sink was given, piece by piece.
use Rattle.clfs_dump.proofs.Words.{◌≡◌, ℕ, zero, suc, ◌+◌, List, [], ◌∷◌, ◌++◌, length, take, refl, sym, ap, ◌∙◌, subst, arith, append_assoc, append-nil}
use Rattle.clfs_dump.proofs.Words.{take_all, Appends, AppendsFront}
use Rattle.std.proofs.Common.{min}
use Rattle.std.specs.Prelude.{Option, Some, None}

pub appends_more : (a b c : Option (List ℕ)) (xs ys zs : List ℕ) → zs ≡ xs ++ ys → Appends a b xs → Appends b c ys → Appends a c zs
appends_more None b c xs ys zs e p q = tt
appends_more (Some a) None c xs ys zs e p q = absurd p
appends_more (Some a) (Some b) None xs ys zs e p q = absurd q
appends_more (Some a) (Some b) (Some c) xs ys zs e p q = q ∙ rw (p, e, append_assoc) refl

-- nothing was given
pub appends_none : (written : Option (List ℕ)) → Appends written written []
appends_none None = tt
appends_none (Some xs) = sym (append-nil xs)

-- ---- fronts of a text

take_behind : (xs ys : List ℕ) (n : ℕ) → take (length xs + n) (xs ++ ys) ≡ xs ++ take n ys
take_behind [] ys n = let e : 0 + n ≡ n = omega arith in ap (λ (k : ℕ). take k ys) e
take_behind (x ∷ xs) ys n =
    let e : suc (length xs) + n ≡ suc (length xs + n) = omega arith in
    ap (λ (k : ℕ). take k (x ∷ xs ++ ys)) e ∙ ap (λ (l : List ℕ). x ∷ l) (take_behind xs ys n)

take_short : (n : ℕ) (xs ys : List ℕ) → take (min n (length xs)) (xs ++ ys) ≡ take n xs
take_short zero xs ys = let e : min 0 (length xs) ≡ 0 = omega arith in ap (λ (k : ℕ). take k (xs ++ ys)) e
take_short (suc n) [] ys = let e : min (suc n) 0 ≡ 0 = omega arith in ap (λ (k : ℕ). take k ys) e
take_short (suc n) (x ∷ xs) ys =
    let e : min (suc n) (suc (length xs)) ≡ suc (min n (length xs)) = omega arith in
    ap (λ (k : ℕ). take k (x ∷ xs ++ ys)) e ∙ ap (λ (l : List ℕ). x ∷ l) (take_short n xs ys)

-- all of it is one
pub front_of_all : (a b : Option (List ℕ)) (text : List ℕ) → Appends a b text → AppendsFront a b text
front_of_all a b text all = record {
  count = length text;
  front = subst (λ (l : List ℕ). Appends a b l) (sym (take_all (length text) text (omega arith))) all;
}

-- none of it is one
pub front_of_none : (a : Option (List ℕ)) (text : List ℕ) → AppendsFront a a text
front_of_none a text = record { count = 0; front = appends_none a }

-- a front of what comes after a text that was written
pub front_behind : (a b c : Option (List ℕ)) (lines text : List ℕ) → Appends a b lines → AppendsFront b c text → AppendsFront a c (lines ++ text)
front_behind a b c lines text first front = record {
  count = length lines + front.count;
  front = appends_more a b c lines (take front.count text) (take (length lines + front.count) (lines ++ text))
      (take_behind lines text front.count) first front.front;
}

-- a front of a text is one of what it begins
pub front_longer : (a b : Option (List ℕ)) (lines text : List ℕ) → AppendsFront a b lines → AppendsFront a b (lines ++ text)
front_longer a b lines text front = record {
  count = min front.count (length lines);
  front = subst (λ (l : List ℕ). Appends a b l) (sym (take_short front.count lines text)) front.front;
}

-- a text that was added before the rest
pub put_before : (out front new text rest : List ℕ) → front ≡ out ++ text → new ≡ front ++ rest → new ≡ out ++ (text ++ rest)
put_before out front new text rest first then = then ∙ ap (λ (l : List ℕ). l ++ rest) first ∙ append_assoc out text rest
