-- The dealer's clients, one by one.
use Rattle.std.proofs.Common.{◌≡◌, ℕ, zero, suc, ◌<◌, not, ◌&&◌, Bool, true, false, List, [], ◌∷◌, length, get_or, drop, Option, sym, refl, ap, ◌∙◌, arith, drop-cons}
use Rattle.std.proofs.lemmas.Bool.{true≢false}
use Rattle.atomic_table.specs.Table.{Me}
use Rattle.clfs_turn.specs.declared.view.View.{View}
use Rattle.clfs_turn.specs.Lists.{is_in, are_distinct}
use Rattle.clfs_turn.specs.Steps.{other_clients}
use Rattle.clfs_turn.specs.Views.{at_rest}

not_both : (a b : Bool) → (not a && b) ≡ true → (a ≡ false) × (b ≡ true)
not_both true b h = absurd (true≢false (sym h))
not_both false b h = (refl, h)

-- each client is none of the later ones
pub apart : (cs : List ℕ) (i : ℕ) → are_distinct cs ≡ true → i < length cs → is_in (get_or cs i 0) (drop (suc i) cs) ≡ false
apart [] i d l = absurd (omega arith)
apart (c ∷ cs) zero d l = (not_both (is_in c cs) (are_distinct cs) d).0
apart (c ∷ cs) (suc i) d l = apart cs i (not_both (is_in c cs) (are_distinct cs) d).1 (omega arith)

-- a dealer from which the first i clients' seats were cut off
module _ {V E O : Type 0} (m : Me (Option V) (View E O)) (o : Option O) (cs : List ℕ) (i : ℕ) (inside : i < length cs)
    (is : m ≡ (at_rest o (drop i cs) [], [])) where
  others : other_clients m.0.clients ≡ drop (suc i) cs
  others = ap (λ (z : Me (Option V) (View E O)). other_clients z.0.clients) is ∙ ap other_clients (drop-cons cs i 0 inside)

  opening : m.0.opening ≡ o
  opening = ap (λ (z : Me (Option V) (View E O)). z.0.opening) is

  -- the next client is the first of the dealer's
  pub next : m ≡ (at_rest m.0.opening (get_or cs i 0 ∷ other_clients m.0.clients) [], [])
  next = is ∙ (ap (λ (z : List ℕ). (at_rest o z [], [])) (drop-cons cs i 0 inside)
      ∙ (λ k. (at_rest (sym opening k) (get_or cs i 0 ∷ sym others k) [], [])))

  -- and is none of the others
  pub next_apart : are_distinct cs ≡ true → is_in (get_or cs i 0) (other_clients m.0.clients) ≡ false
  next_apart d = ap (is_in (get_or cs i 0)) others ∙ apart cs i d inside
