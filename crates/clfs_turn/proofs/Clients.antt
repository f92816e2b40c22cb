-- Lists of clients, and the entries of one client.
use Rattle.std.proofs.Common.{◌≡◌, ◌≢◌, ℕ, eqb, Bool, true, false, cond, ◌||◌, List, [], ◌∷◌, ◌++◌, refl, ap, sym, ◌∙◌, append-nil, append_assoc, eq-eqb, ne_eqb}
use mathlib.Core.Logic.{dite}
use mathlib.Core.List.{IsPrefix}
use native.Mathlib.Decide.{ℕ_discrete}
use Rattle.std.proofs.lemmas.Bool.{true≢false}
use Rattle.std.proofs.lemmas.List.Elements.{filter-append}
use Rattle.clfs_turn.specs.Lists.{is_in, entries_of}
use Rattle.clfs_turn.proofs.Prefixes.{by_test}

pub is_in-one : (c : ℕ) → is_in c (c ∷ []) ≡ true
is_in-one c = ap (λ (b : Bool). b || false) (eq-eqb c c refl)

pub only_one : (d c : ℕ) → is_in d (c ∷ []) ≡ true → d ≡ c
only_one d c h = dite (ℕ_discrete d c) (λ e. e)
    (λ ne. absurd (true≢false (sym h ∙ ap (λ (b : Bool). b || false) (ne_eqb c d (λ e. ne (sym e))))))

pub is_in-later : (d c : ℕ) (cs : List ℕ) → is_in d cs ≡ true → is_in d (c ∷ cs) ≡ true
is_in-later d c cs h = by_test (eqb c d) (λ b. (b || is_in d cs) ≡ true) (λ _. refl) (λ _. h)

pub is_in-left : (d : ℕ) (xs ys : List ℕ) → is_in d xs ≡ true → is_in d (xs ++ ys) ≡ true
is_in-left d [] ys h = absurd (true≢false (sym h))
is_in-left d (x ∷ xs) ys h = by_test (eqb x d) (λ b. (b || is_in d xs) ≡ true → (b || is_in d (xs ++ ys)) ≡ true)
    (λ _ _. refl) (λ _ k. is_in-left d xs ys k) h

pub is_in-right : (d : ℕ) (xs ys : List ℕ) → is_in d ys ≡ true → is_in d (xs ++ ys) ≡ true
is_in-right d [] ys h = h
is_in-right d (x ∷ xs) ys h = by_test (eqb x d) (λ b. (b || is_in d (xs ++ ys)) ≡ true) (λ _. refl) (λ _. is_in-right d xs ys h)

-- who is in two lists together and not in the second is in the first
pub not_right : (d : ℕ) (xs ys : List ℕ) → is_in d ys ≡ false → is_in d (xs ++ ys) ≡ true → is_in d xs ≡ true
not_right d [] ys away h = absurd (true≢false (sym h ∙ away))
not_right d (x ∷ xs) ys away h = by_test (eqb x d) (λ b. (b || is_in d (xs ++ ys)) ≡ true → (b || is_in d xs) ≡ true)
    (λ _ _. refl) (λ _ k. not_right d xs ys away k) h

empty_left : {A : Type 0} (xs ys : List A) → xs ++ ys ≡ [] → xs ≡ []
empty_left [] ys e = refl
empty_left (x ∷ xs) ys e = absurd (cc e)

append_none : {A : Type 0} (xs ys : List A) → xs ++ ys ≡ xs → ys ≡ []
append_none [] ys e = e
append_none (x ∷ xs) ys e = append_none xs ys (cc e)

module _ {E : Type 0} (client_of : E → ℕ) (c : ℕ) where
  -- one entry more of this client
  pub entries_of-own : (xs : List E) (e : E) → client_of e ≡ c → entries_of client_of c (xs ++ e ∷ []) ≡ entries_of client_of c xs ++ e ∷ []
  entries_of-own xs e is = filter-append (λ z. eqb (client_of z) c) xs (e ∷ [])
      ∙ ap (λ (b : Bool). entries_of client_of c xs ++ cond b (e ∷ []) []) (eq-eqb (client_of e) c is)

  -- an entry of another client is none of this one's
  pub entries_of-other : (xs : List E) (e : E) → client_of e ≢ c → entries_of client_of c (xs ++ e ∷ []) ≡ entries_of client_of c xs
  entries_of-other xs e ne = filter-append (λ z. eqb (client_of z) c) xs (e ∷ [])
      ∙ (ap (λ (b : Bool). entries_of client_of c xs ++ cond b (e ∷ []) []) (ne_eqb (client_of e) c ne) ∙ append-nil (entries_of client_of c xs))

  -- where a beginning has all entries of a client, so has a longer beginning
  pub entries_of-between : (xs ys zs : List E) → IsPrefix xs ys → IsPrefix ys zs → entries_of client_of c xs ≡ entries_of client_of c zs
      → entries_of client_of c ys ≡ entries_of client_of c zs
  entries_of-between xs ys zs p q e = let p' = p.1 in let q' = q.1 in
      let of : List E → List E = entries_of client_of c in
      let a : of xs ++ of p.0 ≡ of ys = sym (filter-append (λ z. eqb (client_of z) c) xs p.0) ∙ ap of p.1 in
      let b : of ys ++ of q.0 ≡ of zs = sym (filter-append (λ z. eqb (client_of z) c) ys q.0) ∙ ap of q.1 in
      let all : of xs ++ (of p.0 ++ of q.0) ≡ of xs = sym (append_assoc (of xs) (of p.0) (of q.0)) ∙ (ap (λ z. z ++ of q.0) a ∙ (b ∙ sym e)) in
      let none_more : of p.0 ++ of q.0 ≡ [] = append_none (of xs) (of p.0 ++ of q.0) all in
      sym a ∙ (ap (λ z. of xs ++ z) (empty_left (of p.0) (of q.0) none_more) ∙ (append-nil (of xs) ∙ e))
