-- Tests that compute, each with the statement that it decides: instances of relations are shown by what a test gives.
use Rattle.clfs_rows.proofs.Words.{◌≡◌, ◌⊎◌, ℕ, ◌<◌, ◌≤◌, Bool, true, false, refl, sym, ap, subst, inl, inr, List, length, get_or, arith, ◌==◌, nat_lt}
use Rattle.clfs_rows.proofs.Words.{Option, Some, None, All, AllPairs, Any, IsSome, IfSome, Decides, All-nil, All-cons, All-head, All-tail}
use Rattle.std.proofs.Common.{zero, suc, [], ◌∷◌}
use Rattle.std.specs.Prelude.{nat_le, not, ◌&&◌, ◌||◌}
use Rattle.std.proofs.lemmas.Bool.{ltb-true, ltb-false, leb-true}
use Rattle.std.proofs.lemmas.Bool.Decides.{Decides-eqb, Decides-ltb, Decides-and, Decides-or, Decides-not, not_from_Decides, leb_tells}
use Rattle.std.proofs.lemmas.List.Kept.{AllPairs-cons}

-- a test, and that it decides the statement
abbrev pub Decision : Type 0 → Type 0
Decision P = (r : Bool) × Decides r P

pub yes : {P : Type 0} (d : Decision P) → d.0 ≡ true → P
yes d e = d.1.0 e

pub no : {P : Type 0} (d : Decision P) → d.0 ≡ false → ¬ P
no d e = not_from_Decides d.0 d.1 e

abbrev pub like : {P Q : Type 0} → (P → Q) → (Q → P) → Decision P → Decision Q
like to from d = (d.0, (λ e. to (d.1.0 e), λ q. d.1.1 (from q)))

-- false is not true
pub wrong : {P : Type 0} → false ≡ true → P
wrong e = absurd (cc)

abbrev pub always : Decision (Unit {0})
always = (true, (λ _. tt, λ _. refl))

abbrev pub never : Decision ⊥
never = (false, (λ e. wrong e, λ bad. absurd bad))

abbrev pub both : {P Q : Type 0} → Decision P → Decision Q → Decision (P × Q)
both p q = (p.0 && q.0, Decides-and p.0 q.0 p.1 q.1)

abbrev pub either : {P Q : Type 0} → Decision P → Decision Q → Decision (P ⊎ Q)
either p q = (p.0 || q.0, Decides-or p.0 q.0 p.1 q.1)

abbrev pub refuted : {P : Type 0} → Decision P → Decision (¬ P)
refuted p = (not p.0, Decides-not p.0 p.1)

pub implied : {P Q : Type 0} (r t : Bool) → Decides r P → Decides t Q → Decides (not r || t) (P → Q)
implied true t p q = (λ e given. q.0 e, λ holds. q.1 (holds (p.0 refl)))
implied false t p q = (λ e given. let e : false ≡ true = p.1 given in absurd (cc), λ holds. refl)

abbrev pub implies : {P Q : Type 0} → Decision P → Decision Q → Decision (P → Q)
implies p q = (not p.0 || q.0, implied p.0 q.0 p.1 q.1)

abbrev pub equal : (a b : ℕ) → Decision (a ≡ b)
equal a b = (a == b, Decides-eqb a b)

abbrev pub less : (a b : ℕ) → Decision (a < b)
less a b = (nat_lt a b, Decides-ltb a b)

pub at_most_decides : (a b : ℕ) → Decides (nat_le a b) (a ≤ b)
at_most_decides a b = (leb-true a b, λ below. grind (arith, leb_tells))

abbrev pub at_most : (a b : ℕ) → Decision (a ≤ b)
at_most a b = (nat_le a b, at_most_decides a b)

pub bools_decide : (a b : Bool) → Decides ((a && b) || (not a && not b)) (a ≡ b)
bools_decide true true = (λ _. refl, λ _. refl)
bools_decide true false = (λ e. absurd (cc), λ e. absurd (cc))
bools_decide false true = (λ e. absurd (cc), λ e. absurd (cc))
bools_decide false false = (λ _. refl, λ _. refl)

abbrev pub alike : (a b : Bool) → Decision (a ≡ b)
alike a b = ((a && b) || (not a && not b), bools_decide a b)

abbrev pub each : {X : Type 0} {P : X → Type 0} → ((x : X) → Decision (P x)) → (xs : List X) → Decision (All P xs)
each {X} {P} d [] = (true, (λ _. All-nil P, λ _. refl))
each {X} {P} d (x ∷ xs) = like (λ pair. All-cons P x xs pair.0 pair.1) (λ all. (All-head P x xs all, All-tail P x xs all)) (both (d x) (each d xs))

pub none_of_none : {X : Type 0} (P : X → Type 0) → Any P [] → ⊥
none_of_none P any = absurd (omega (arith, any.2))

pub some_of : {X : Type 0} (P : X → Type 0) (x : X) (xs : List X) → P x ⊎ Any P xs → Any P (x ∷ xs)
some_of P x xs (inl here) = (0, x, omega arith, refl, here)
some_of P x xs (inr there) = (suc there.0, there.1, omega (arith, there.2), there.3, there.4)

pub from_some : {X : Type 0} (P : X → Type 0) (x : X) (xs : List X) (k : ℕ) (y : X) → k < length (x ∷ xs) → get_or (x ∷ xs) k y ≡ y → P y → P x ⊎ Any P xs
from_some P x xs zero y within is holds = inl (subst P (sym is) holds)
from_some P x xs (suc k) y within is holds = inr (k, y, omega arith, is, holds)

abbrev pub some : {X : Type 0} {P : X → Type 0} → ((x : X) → Decision (P x)) → (xs : List X) → Decision (Any P xs)
some {X} {P} d [] = like (λ bad. absurd bad) (none_of_none P) never
some {X} {P} d (x ∷ xs) = like (some_of P x xs) (λ any. from_some P x xs any.0 any.1 any.2 any.3 any.4) (either (d x) (some d xs))

pub pairs_head : {X : Type 0} (R : X → X → Type 0) (x : X) (xs : List X) → AllPairs R (x ∷ xs) → All (R x) xs
pairs_head R x xs pairs = λ k d within. pairs 0 (suc k) d (omega arith) (omega arith)

pub pairs_tail : {X : Type 0} (R : X → X → Type 0) (x : X) (xs : List X) → AllPairs R (x ∷ xs) → AllPairs R xs
pairs_tail R x xs pairs = λ i j d order within. pairs (suc i) (suc j) d (omega arith) (omega arith)

pub no_pairs : {X : Type 0} (R : X → X → Type 0) → AllPairs R []
no_pairs R = λ i j d order within. absurd (omega arith)

abbrev pub each_two : {X : Type 0} {R : X → X → Type 0} → ((x y : X) → Decision (R x y)) → (xs : List X) → Decision (AllPairs R xs)
each_two {X} {R} d [] = (true, (λ _. no_pairs R, λ _. refl))
each_two {X} {R} d (x ∷ xs) =
    like (λ pair. AllPairs-cons R x xs pair.0 pair.1) (λ pairs. (pairs_head R x xs pairs, pairs_tail R x xs pairs)) (both (each (d x) xs) (each_two d xs))

pub same_heads : {X : Type 0} (x y : X) (xs ys : List X) → (x ≡ y) × (xs ≡ ys) → x ∷ xs ≡ y ∷ ys
same_heads x y xs ys pair = cc

pub from_same_heads : {X : Type 0} (x y : X) (xs ys : List X) → x ∷ xs ≡ y ∷ ys → (x ≡ y) × (xs ≡ ys)
from_same_heads x y xs ys same = (cc, cc)

pub none_is_some : {X : Type 0} {P : Type 0} (y : X) (ys : List X) → [] ≡ y ∷ ys → P
none_is_some y ys e = absurd (cc)

pub some_is_none : {X : Type 0} {P : Type 0} (y : X) (ys : List X) → y ∷ ys ≡ [] → P
some_is_none y ys e = absurd (cc)

abbrev pub same_lists : {X : Type 0} → ((x y : X) → Decision (x ≡ y)) → (xs ys : List X) → Decision (xs ≡ ys)
same_lists d [] [] = (true, (λ _. refl, λ _. refl))
same_lists d [] (y ∷ ys) = (false, (λ e. wrong e, none_is_some y ys))
same_lists d (x ∷ xs) [] = (false, (λ e. wrong e, some_is_none x xs))
same_lists d (x ∷ xs) (y ∷ ys) = like (same_heads x y xs ys) (from_same_heads x y xs ys) (both (d x y) (same_lists d xs ys))

pub lacks : {X : Type 0} {P : Type 0} (x : X) → None ≡ Some x → P
lacks x e = absurd (cc)

pub same_value : {X : Type 0} (x y : X) → Some x ≡ Some y → x ≡ y
same_value x y e = cc

abbrev pub same_options : {X : Type 0} → ((x y : X) → Decision (x ≡ y)) → (a b : Option X) → Decision (a ≡ b)
same_options d None None = (true, (λ _. refl, λ _. refl))
same_options d None (Some y) = (false, (λ e. wrong e, lacks y))
same_options d (Some x) None = (false, (λ e. wrong e, λ e. lacks x (sym e)))
same_options d (Some x) (Some y) = like (λ e. ap Some e) (same_value x y) (d x y)

abbrev pub is_there : {X : Type 0} → (a : Option X) → Decision (IsSome a)
is_there None = (false, (λ e. wrong e, λ e. e))
is_there (Some x) = (true, (λ _. refl, λ _. refl))

abbrev pub where_some : {X : Type 0} {P : X → Type 0} → ((x : X) → Decision (P x)) → (a : Option X) → Decision (IfSome a P)
where_some d None = (true, (λ _. tt, λ _. refl))
where_some d (Some x) = d x

pub one_more_below : (P : ℕ → Type 0) (bound : ℕ) → ((n : ℕ) → n < bound → P n) × P bound → (n : ℕ) → n < suc bound → P n
one_more_below P bound pair n within = by_order (nat_lt n bound) refl
  where
    by_order : (t : Bool) → nat_lt n bound ≡ t → P n
    by_order true e = pair.0 n (ltb-true n bound e)
    by_order false e = let same : bound ≡ n = omega (arith, ltb-false n bound e) in subst P same pair.1

pub one_fewer_below : (P : ℕ → Type 0) (bound : ℕ) → ((n : ℕ) → n < suc bound → P n) → ((n : ℕ) → n < bound → P n) × P bound
one_fewer_below P bound all = (λ n within. all n (omega arith), all bound (omega arith))

pub none_below : (P : ℕ → Type 0) → (n : ℕ) → n < 0 → P n
none_below P n within = absurd (omega arith)

abbrev pub each_below : {P : ℕ → Type 0} → ((n : ℕ) → Decision (P n)) → (bound : ℕ) → Decision ((n : ℕ) → n < bound → P n)
each_below {P} d zero = (true, (λ _. none_below P, λ _. refl))
each_below {P} d (suc bound) = like (one_more_below P bound) (one_fewer_below P bound) (both (each_below d bound) (d bound))

pub low_and_high : (P : ℕ → Type 0) (bound : ℕ) → ((n : ℕ) → bound ≤ n → P n) → ((n : ℕ) → n < bound → P n) → (n : ℕ) → P n
low_and_high P bound high low n = by_order (nat_lt n bound) refl
  where
    by_order : (t : Bool) → nat_lt n bound ≡ t → P n
    by_order true e = low n (ltb-true n bound e)
    by_order false e = high n (ltb-false n bound e)

-- of every number, where those from a bound on are known
abbrev pub each_number : {P : ℕ → Type 0} → ((n : ℕ) → Decision (P n)) → (bound : ℕ) → ((n : ℕ) → bound ≤ n → P n) → Decision ((n : ℕ) → P n)
each_number {P} d bound high = like (low_and_high P bound high) (λ all n _. all n) (each_below d bound)
