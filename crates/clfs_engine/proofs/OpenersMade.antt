-- What opens the paths of clients is made of them one after the other.
use Rattle.std.proofs.Common.{◌≡◌, ℕ, ◌+◌, suc, refl, sym, ap, subst, ◌∙◌, List, [], ◌∷◌, ◌++◌, length}
use Rattle.std.proofs.lemmas.List.{append_assoc, append-nil}
use Rattle.clfs_command.specs.Share.{Paths}
use Rattle.clfs_engine.specs.Share.{AddsOpeners, AreOpeners}

module _ {P : Type 0} (makes : ℕ → Paths → P → Type 0) where
  -- no paths, no openers
  pub none_added : (client : ℕ) (old : List P) → AddsOpeners makes client [] old old
  none_added client old = ([], (tt, sym (append-nil old)))

  -- one client's, and then the others'
  pub one_added : (client : ℕ) (path : Paths) (paths : List Paths) (made : P) (old mid new : List P) → makes client path made → mid ≡ old ++ made ∷ []
      → AddsOpeners makes (client + 1) paths mid new → AddsOpeners makes client (path ∷ paths) old new
  one_added client path paths made old mid new is added more =
      (made ∷ more.0, ((is, more.1.0), more.1.1 ∙ ap (λ (front : List P). front ++ more.0) added ∙ append_assoc old (made ∷ []) more.0))

  -- all that there are were added
  pub all_added : (client : ℕ) (paths : List Paths) (old new : List P) → old ≡ [] → AddsOpeners makes client paths old new → AreOpeners makes client paths new
  all_added client paths old new none added =
      subst (λ (openers : List P). AreOpeners makes client paths openers) (sym (added.1.1 ∙ ap (λ (front : List P). front ++ added.0) none)) added.1.0

  pub as_many : (client : ℕ) (paths : List Paths) (openers : List P) → AreOpeners makes client paths openers → length openers ≡ length paths
  as_many client [] [] are = refl
  as_many client [] (opener ∷ openers) are = absurd are
  as_many client (path ∷ paths) [] are = absurd are
  as_many client (path ∷ paths) (opener ∷ openers) are = ap suc (as_many (client + 1) paths openers are.1)
