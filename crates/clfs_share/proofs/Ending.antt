-- Clients before and after, in another order.
use Rattle.std.proofs.Common.{◌≡◌, ℕ, suc, refl, sym, ap, subst, ◌∙◌, List, [], ◌∷◌, ◌++◌, length, map, reverse}
use Rattle.std.specs.Prelude.{All}
use Rattle.std.specs.List.{AllByRecursion}
use Rattle.std.proofs.lemmas.List.{reverse-append, reverse-reverse}
use Rattle.std.proofs.lemmas.List.Elements.{All-from_recursion, recursion_from_All}
use Rattle.clfs_shared.specs.Sessions.{SharedState, IsOf}
use Rattle.clfs_share.specs.declared.clients.Client.{Client}
use Rattle.clfs_share.specs.Heard.{HasEnded, HaveEnded, Serves}
use Rattle.clfs_share.proofs.Answering.{same_log}

-- ---- lists in the other order

reverse_first : {A : Type 0} (x : A) (xs : List A) → reverse (x ∷ xs) ≡ reverse xs ++ x ∷ []
reverse_first x xs = reverse-append (x ∷ []) xs

-- ---- facts on each of a list

module _ {A : Type 0} (P : A → Type 0) where
  all_and_last : (xs : List A) (x : A) → AllByRecursion P xs → P x → AllByRecursion P (xs ++ x ∷ [])
  all_and_last [] x all last = (last, tt)
  all_and_last (first ∷ xs) x all last = (all.0, all_and_last xs x all.1 last)

  pub all_reversed : (xs : List A) → AllByRecursion P xs → AllByRecursion P (reverse xs)
  all_reversed [] all = tt
  all_reversed (x ∷ xs) all =
      let F : List A → Type 0 = λ z. AllByRecursion P z in
      subst F (sym (reverse_first x xs)) (all_and_last (reverse xs) x (all_reversed xs all.1) all.0)

  pub all_back : (xs : List A) → AllByRecursion P (reverse xs) → AllByRecursion P xs
  all_back xs all = let F : List A → Type 0 = λ z. AllByRecursion P z in subst F (reverse-reverse xs) (all_reversed (reverse xs) all)

  front_and_last : (xs : List A) (x : A) → AllByRecursion P (xs ++ x ∷ []) → AllByRecursion P xs × P x
  front_and_last [] x all = (tt, all.0)
  front_and_last (first ∷ xs) x all = let rest = front_and_last xs x all.1 in ((all.0, rest.0), rest.1)

  -- the last of them apart
  pub popped : (all xs : List A) (x : A) → all ≡ xs ++ x ∷ [] → All P all → All P xs × P x
  popped all xs x are each =
      let F : List A → Type 0 = λ z. AllByRecursion P z in
      let two = front_and_last xs x (subst F are (recursion_from_All P all each)) in
      (All-from_recursion P xs two.0, two.1)

module _ {A B : Type 0} (f : A → B) (P : B → Type 0) where
  pub all_unmapped : (xs : List A) → AllByRecursion P (map f xs) → AllByRecursion (λ (x : A). P (f x)) xs
  all_unmapped [] all = tt
  all_unmapped (x ∷ xs) all = (all.0, all_unmapped xs all.1)

  pub all_mapped : (xs : List A) → AllByRecursion (λ (x : A). P (f x)) xs → AllByRecursion P (map f xs)
  all_mapped [] all = tt
  all_mapped (x ∷ xs) all = (all.0, all_mapped xs all.1)

-- ---- all clients

module _ {C : Type 0} (serves : Serves C) where
  abbrev Each : List (Client C) → List (Client C) → Type 0
  Each olds news = HaveEnded serves olds news

  pub ended_length : (olds news : List (Client C)) → Each olds news → length news ≡ length olds
  ended_length [] [] each = refl
  ended_length [] (new ∷ news) each = absurd each
  ended_length (old ∷ olds) [] each = absurd each
  ended_length (old ∷ olds) (new ∷ news) each = ap (λ (n : ℕ). suc n) (ended_length olds news each.1)

  -- one client more
  ended_more : (olds news : List (Client C)) (old new : Client C) → Each olds news → HasEnded serves old new → Each (olds ++ old ∷ []) (news ++ new ∷ [])
  ended_more [] [] old new each one = (one, tt)
  ended_more [] (other ∷ news) old new each one = absurd each
  ended_more (other ∷ olds) [] old new each one = absurd each
  ended_more (first ∷ olds) (other ∷ news) old new each one = (each.0, ended_more olds news old new each.1 one)

  -- one client more, where the others were lent out
  pub ended_last : (all front news back : List (Client C)) (old new : Client C) → all ≡ front ++ old ∷ [] → Each front news → HasEnded serves old new
      → back ≡ news ++ new ∷ [] → Each all back
  ended_last all front news back old new are each one back_are =
      let F : List (Client C) → Type 0 = λ z. Each z back in
      let G : List (Client C) → Type 0 = λ z. Each (front ++ old ∷ []) z in
      subst F (sym are) (subst G (sym back_are) (ended_more front news old new each one))

  pub ended_reversed : (olds news : List (Client C)) → Each olds news → Each (reverse olds) (reverse news)
  ended_reversed [] [] each = tt
  ended_reversed [] (new ∷ news) each = absurd each
  ended_reversed (old ∷ olds) [] each = absurd each
  ended_reversed (old ∷ olds) (new ∷ news) each =
      ended_last (reverse (old ∷ olds)) (reverse olds) (reverse news) (reverse (new ∷ news)) old new (reverse_first old olds)
      (ended_reversed olds news each.1) each.0 (reverse_first new news)

  pub ended_clients : (olds news : List (Client C)) → Each olds news
      → map (λ (c : Client C). c.session.client) news ≡ map (λ (c : Client C). c.session.client) olds
  ended_clients [] [] each = refl
  ended_clients [] (new ∷ news) each = absurd each
  ended_clients (old ∷ olds) [] each = absurd each
  ended_clients (old ∷ olds) (new ∷ news) each =
      ap (λ (c : ℕ). c ∷ map (λ (x : Client C). x.session.client) news) each.0.same.client
      ∙ ap (λ (z : List ℕ). old.session.client ∷ z) (ended_clients olds news each.1)

  pub ended_log : (log : SharedState) (olds news : List (Client C)) → Each olds news → AllByRecursion (λ (c : Client C). IsOf log c.session) olds
      → AllByRecursion (λ (c : Client C). IsOf log c.session) news
  ended_log log [] [] each all = tt
  ended_log log [] (new ∷ news) each all = absurd each
  ended_log log (old ∷ olds) [] each all = absurd each
  ended_log log (old ∷ olds) (new ∷ news) each all = (same_log log old.session new.session each.0.same all.0, ended_log log olds news each.1 all.1)
