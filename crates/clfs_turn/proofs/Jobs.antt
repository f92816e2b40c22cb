-- What a job that is done under the turn leaves of the value and of the seat.
use Rattle.std.proofs.Common.{◌≡◌, ℕ, ◌+◌, ◌<◌, ◌^◌, eqb, not, Bool, true, List, [], ◌∷◌, ◌++◌, length, Option, Some, None, sym, refl, ap, ◌∙◌, subst, ⊎_elim, arith, length-append, eq-eqb, ne_eqb, is_some}
use Rattle.std.proofs.lemmas.Bool.{true≢false}
use mathlib.Core.List.{IsPrefix}
use Rattle.atomic_table.specs.Table.{Me, rest}
use Rattle.clfs_turn.specs.declared.view.View.{View}
use Rattle.clfs_turn.specs.Calls.{AddsAtMostOne}
use Rattle.clfs_turn.specs.Lists.{is_in}
use Rattle.clfs_turn.specs.Steps.{Meets, Returns, Worked, holding}
use Rattle.clfs_turn.specs.Views.{at_rest}
use Rattle.clfs_turn.proofs.Clients.{is_in-one}
use Rattle.clfs_turn.proofs.Prefixes.{prefix_self, prefix_trans}
use Rattle.clfs_turn.proofs.TurnSteps.{held_value}

-- an option that has a value
pub some_of : {X : Type 0} (o : Option X) → is_some o ≡ true → (x : X) × (o ≡ Some x)
some_of (Some x) h = (x, refl)
some_of None h = absurd (true≢false (sym h))

-- what is read from the slot in hand is the value that was taken
same_value : {V : Type 0} (xs ys : List (ℕ × Option V)) (r : Option V) (x y : V) → xs ≡ (0, Some x) ∷ [] → xs ≡ (0, r) ∷ ys → r ≡ Some y → x ≡ y
same_value {V} xs ys r x y e f h = ap (held_value x) (sym e ∙ (f ∙ ap (λ (z : Option V). (0, z) ∷ ys) h))

module _ {V E O : Type 0} (entries : V → List E) (client_of : E → ℕ) (reached : O → V → Type 0) where
  abbrev Sat : Type 0
  Sat = Me (Option V) (View E O)

  -- the seat m took the turn with the value x, and is now m'
  abbrev pub Took : Sat → Sat → V → Type 0
  Took m m' x = (m' ≡ holding entries (record m.0 { turn = Some (entries x) }) x) × Meets entries client_of reached m.0 x

  -- the slot in the hand of a seat that took the turn
  pub hand_of : (m m' : Sat) (x : V) → Took m m' x → m'.1 ≡ (0, Some x) ∷ rest m'.1
  hand_of m m' x t = let e = ap (λ (z : Sat). z.1) t.0 in e ∙ ap (λ (z : List (ℕ × Option V)). (0, Some x) ∷ rest z) (sym e)

  -- what the claim told holds of the value that was read
  pub took_read : (m m' : Sat) (x y : V) (r : Option V) → Took m m' x → m'.1 ≡ (0, r) ∷ rest m'.1 → r ≡ Some y → Took m m' y
  took_read m m' x y r t read is = subst (λ (z : V). Took m m' z)
      (same_value m'.1 (rest m'.1) r x y (ap (λ (z : Sat). z.1) t.0) read is) t

  -- a count that rose says that one entry was added
  pub returns : (c : ℕ) (x y : V) (before after : ℕ) → before ≡ length (entries x) → after ≡ length (entries y) → after < 2 ^ 64
      → AddsAtMostOne entries client_of c x y → Returns entries client_of (not (eqb before after)) c (entries x) y
  returns c x y before after is is' small = ⊎_elim
      (λ (same : entries y ≡ entries x). subst (λ (b : Bool). Returns entries client_of (not b) c (entries x) y)
      (sym (eq-eqb before after (is ∙ (ap length (sym same) ∙ sym is')))) same)
      (λ (more : (e : E) × (entries y ≡ entries x ++ e ∷ []) × (client_of e ≡ c)).
      let by_one : length (entries y) ≡ length (entries x) + 1 = ap length more.1 ∙ length-append (entries x) (more.0 ∷ []) in
      subst (λ (b : Bool). Returns entries client_of (not b) c (entries x) y)
      (sym (ne_eqb before after (λ e. absurd (omega (arith, e, is, is', by_one)))))
      (more.0, more.1, more.2, subst (λ (n : ℕ). n < 2 ^ 64) is' small))

  -- a seat at rest that took the turn, and read the value x
  module _ (c : ℕ) (m m' : Sat) (x : V) (idle : m ≡ (at_rest m.0.opening (c ∷ []) m.0.seen, [])) (t : Took m m' x) where
    pub turn_of : m'.0.turn ≡ Some (entries x)
    turn_of = ap (λ (z : Sat). z.0.turn) t.0

    pub client_in : is_in c m'.0.clients ≡ true
    client_in = ap (λ (z : Sat). is_in c z.0.clients) t.0 ∙ (ap (λ (z : Sat). is_in c z.0.clients) idle ∙ is_in-one c)

    pub opening_of : m'.0.opening ≡ m.0.opening
    opening_of = ap (λ (z : Sat). z.0.opening) t.0

  -- a seat goes on from what it had seen
  pub seen_more : (c : ℕ) (job : V → V → Type 0) (m m' : Sat) → Worked entries client_of reached c job m m' → IsPrefix m.0.seen m'.0.seen
  seen_more c job m m' w = ⊎_elim
      (λ (same : entries w.left ≡ entries w.found). subst (λ (z : Sat). IsPrefix m.0.seen z.0.seen) (sym (w.stayed same)) (prefix_self m.0.seen))
      (λ (more : (e : E) × (entries w.left ≡ entries w.found ++ e ∷ []) × (client_of e ≡ c)).
      subst (λ (z : Sat). IsPrefix m.0.seen z.0.seen) (sym (w.added more.0 more.1))
      (prefix_trans m.0.seen (entries w.found) (entries w.left) w.meets.begins (more.0 ∷ [], sym more.1)))
      w.one
