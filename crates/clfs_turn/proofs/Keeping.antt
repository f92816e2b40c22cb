-- What any step on the table has to show: how the rule passes from one list of views to the next.
use Rattle.std.proofs.Common.{◌≡◌, ◌≢◌, ◌⊎◌, ℕ, zero, suc, true, List, [], ◌∷◌, ◌++◌, length, get_or, set, Option, Some, None, sym, refl, ap, ◌∙◌, subst, ⊎_elim, inl, inr}
use mathlib.Core.Logic.{dite}
use mathlib.Core.Option.{some, some-injective, some-ne-none}
use mathlib.Core.List.{IsPrefix}
use native.Mathlib.Decide.{ℕ_discrete}
use lib.ListN.{get_elem?}
use lib.Seq.{set-get_or}
use Rattle.atomic_table.specs.Table.{State, keeps, stepped}
use Rattle.atomic_table.proofs.Lists.{at_set, set_else}
use Rattle.clfs_turn.specs.declared.view.View.{View}
use Rattle.clfs_turn.specs.declared.view.Roll.{Roll}
use Rattle.clfs_turn.specs.Lists.{is_in, entries_of}
use Rattle.clfs_turn.specs.Rule.{KeepsView, KeepsTable}
use Rattle.clfs_turn.proofs.Pasts.{past_still}
use Rattle.clfs_turn.proofs.Prefixes.{prefix_trans}

pub at_set_here : {A : Type 0} (l : List A) (i : ℕ) (a b : A) → get_elem? l i ≡ some a → get_elem? (set l i b) i ≡ some b
at_set_here [] i a b e = absurd (some-ne-none a (sym e))
at_set_here (x ∷ xs) zero a b e = refl
at_set_here (x ∷ xs) (suc i) a b e = at_set_here xs i a b e

-- an element of a list with one more after it is the last one, or stood there before
pub at_snoc_at : {A : Type 0} (l : List A) (a b : A) (j : ℕ) → get_elem? (l ++ a ∷ []) j ≡ some b
    → (get_elem? l j ≡ some b) ⊎ ((j ≡ length l) × (a ≡ b))
at_snoc_at [] a b zero e = inr (refl, some-injective a b e)
at_snoc_at [] a b (suc j) e = absurd (some-ne-none b (sym e))
at_snoc_at (x ∷ xs) a b zero e = inl e
at_snoc_at (x ∷ xs) a b (suc j) e = ⊎_elim (λ t. inl t) (λ (t : (j ≡ length xs) × (a ≡ b)). inr (ap suc t.0, t.1)) (at_snoc_at xs a b j e)

-- where one view is changed, a fact of each view is one of the new view and one of each other
pub each_after : {W : Type 0} (P : ℕ → W → Type 0) (vs : List W) (id : ℕ) (w : W) → P id w
    → ((j : ℕ) (u : W) → j ≢ id → get_elem? vs j ≡ some u → P j u)
    → (j : ℕ) (u : W) → get_elem? (set vs id w) j ≡ some u → P j u
each_after {W} P vs id w here others j u e = ⊎_elim
    (λ (t : (j ≡ id) × (w ≡ u)). subst (λ (x : ℕ × W). P x.0 x.1) (λ i. (sym t.0 i, t.1 i)) here)
    (λ (t : (j ≢ id) × (get_elem? vs j ≡ some u)). others j u t.0 t.1)
    (at_set vs id j w u e)

module _ {V E O : Type 0} (entries : V → List E) (client_of : E → ℕ) (opening : V → O) (reached : O → V → Type 0) (key : Roll V) where
  abbrev pub W : Type 0
  W = View E O

  abbrev pub St : Type 0
  St = State (Option V) W

  abbrev pub Rule : St → Type 0
  Rule = KeepsTable entries client_of opening reached key

  -- the rule of one view, at this history, word HELD, holder and seats of the clients
  abbrev pub Fits : List E → ℕ → ℕ → (ℕ → ℕ) → ℕ → W → Type 0
  Fits hist held holder seat_of j u = KeepsView client_of hist held holder seat_of (opening key.first.value) key.clients.items j u

  -- another seat's view stays right where the history grows by none of its clients' entries
  pub other_fits : (hist hist' : List E) (held held' holder holder' : ℕ) (seat_of seat_of' : ℕ → ℕ) (j : ℕ) (u : W)
      → Fits hist held holder seat_of j u → IsPrefix hist hist'
      → ((c : ℕ) → is_in c u.clients ≡ true → seat_of c ≡ j → (seat_of' c ≡ j) × (entries_of client_of c hist ≡ entries_of client_of c hist'))
      → ((h : List E) → u.turn ≡ Some h → (j ≡ holder') × (held' ≡ 1) × (h ≡ hist'))
      → Fits hist' held' holder' seat_of' j u
  other_fits hist hist' held held' holder holder' seat_of seat_of' j u k more still turn = record {
    opening = k.opening;
    sees = prefix_trans u.seen hist hist' k.sees more;
    saw = past_still client_of hist hist' u.clients u.olds more (λ c o. (still c o (k.own c o).0).1) k.saw;
    own = λ c o. let a = k.own c o in let b = still c o a.0 in (b.0, a.1 ∙ b.1, a.2);
    turn = λ h e. let a = turn h e in (a.0, a.1, a.2, (k.turn h e).3);
  }

  -- a step that changes no word and moves no value
  pub unmoved : (s : St) (r : Rule s) (i id : ℕ) (hand : List (ℕ × Option V)) (v w : W) → get_elem? s.views id ≡ some v → w.turn ≡ v.turn
      → Fits r.history (get_or s.words 0 0) r.holder r.seat_of id w → Rule (stepped s i (get_or s.words i 0) id hand w keeps)
  unmoved s r i id hand v w at same fits =
      subst (λ (z : List ℕ). Rule record { words = z; homes = s.homes; views = set s.views id w }) (sym (set-get_or s.words i 0)) record {
        history = r.history;
        holder = r.holder;
        seat_of = r.seat_of;
        wide = r.wide;
        deep = r.deep;
        counted = r.counted;
        views = each_after (Fits r.history (get_or s.words 0 0) r.holder r.seat_of) s.views id w fits (λ j u _ e. r.views j u e);
        home = r.home;
        busy = λ z. let b = r.busy z in dite (ℕ_discrete r.holder id)
            (λ here. (
              w,
              subst (λ (k : ℕ). get_elem? (set s.views id w) k ≡ some w) (sym here) (at_set_here s.views id v w at),
              same ∙ (ap (λ (u : W). u.turn) (some-injective v b.0 (sym at ∙ (ap (get_elem? s.views) (sym here) ∙ b.1))) ∙ b.2),
            ))
            (λ away. (b.0, set_else s.views id r.holder w away ∙ b.1, b.2));
        others = r.others;
        lawful = r.lawful;
      }

  -- the seat with the turn is the holder, so another has no turn
  pub alone : (s : St) (r : Rule s) (id : ℕ) (v : W) (h : List E) → get_elem? s.views id ≡ some v → v.turn ≡ Some h
      → (j : ℕ) (u : W) (l : List E) → j ≢ id → get_elem? s.views j ≡ some u → u.turn ≢ Some l
  alone s r id v h at turn j u l ne e t = ne (((r.views j u e).turn l t).0 ∙ sym ((r.views id v at).turn h turn).0)

  -- where a seat has no turn, the holder is another
  pub holder_other : (s : St) (r : Rule s) (id : ℕ) (v u : W) → get_elem? s.views id ≡ some v → v.turn ≡ None
      → get_elem? s.views r.holder ≡ some u → u.turn ≡ Some r.history → r.holder ≢ id
  holder_other s r id v u at idle there turn is =
      let same : u ≡ v = some-injective u v (sym there ∙ (ap (get_elem? s.views) is ∙ at)) in
      absurd (cc (sym turn ∙ (ap (λ (z : W). z.turn) same ∙ idle)))

  -- another seat's clients are others than c, which this seat has
  pub other_client : (s : St) (r : Rule s) (id c : ℕ) (v : W) → get_elem? s.views id ≡ some v → is_in c v.clients ≡ true
      → (j d : ℕ) → j ≢ id → r.seat_of d ≡ j → c ≢ d
  other_client s r id c v at own j d ne is same = ne (sym is ∙ (ap r.seat_of (sym same) ∙ ((r.views id v at).own c own).0))
