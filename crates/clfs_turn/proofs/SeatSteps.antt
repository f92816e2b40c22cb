-- Splitting a seat, joining two and looking keep the rule.
use Rattle.std.proofs.Common.{◌≡◌, ◌≢◌, ℕ, eqb, ltb, true, false, ◌||◌, List, [], ◌∷◌, ◌++◌, length, get_or, set, Option, None, cond, sym, refl, ap, ◌∙◌, subst, le_refl, ⊎_elim, arith, length-set, eq-eqb, ne_eqb}
use mathlib.Core.Logic.{dite}
use mathlib.Core.Option.{none, some, some-injective}
use native.Mathlib.Decide.{ℕ_discrete}
use lib.ListN.{get_elem?}
use Rattle.std.proofs.lemmas.Bool.{true≢false, ltb-true, ltb-false}
use Rattle.atomic_table.specs.Table.{State, Me, step, keeps, Allows, Splits, Joins}
use Rattle.atomic_table.proofs.Lists.{set_else, at_longer}
use Rattle.clfs_turn.specs.declared.view.View.{View}
use Rattle.clfs_turn.specs.declared.view.Roll.{Roll}
use Rattle.clfs_turn.specs.Lists.{is_in, entries_of}
use Rattle.clfs_turn.specs.Steps.{past, first_client, other_clients, joined, looked}
use Rattle.clfs_turn.specs.Views.{at_rest, spent}
use Rattle.clfs_turn.proofs.Clients.{only_one, is_in-later, is_in-left, is_in-right, not_right, entries_of-between}
use Rattle.clfs_turn.proofs.Keeping.{Rule, Fits, at_set_here, at_snoc_at, each_after, other_fits, unmoved, holder_other}
use Rattle.clfs_turn.proofs.Pasts.{AllShort, past_wider, past_both, past_seen}
use Rattle.clfs_turn.proofs.Prefixes.{by_test, prefix_self, prefix_trans, longest}

module _ {V E O : Type 0} (entries : V → List E) (client_of : E → ℕ) (opening : V → O) (reached : O → V → Type 0) (key : Roll V) where
  abbrev W : Type 0
  W = View E O

  abbrev St : Type 0
  St = State (Option V) W

  abbrev R : St → Type 0
  R = Rule entries client_of opening reached key

  abbrev K : List E → ℕ → ℕ → (ℕ → ℕ) → ℕ → W → Type 0
  K = Fits entries client_of opening reached key

  -- the rule of every view of a table, at this history and these seats of the clients
  abbrev Each : St → List E → ℕ → (ℕ → ℕ) → ℕ → W → Type 0
  Each s hist holder seat_of = K hist (get_or s.words 0 0) holder seat_of

  pub looks : (slots id : ℕ) (v : W) → AllShort (length v.seen) v.olds
      → Allows R slots id (v, []) 1 (λ n. n) (looked entries client_of reached (step slots 1 0 0 none) (v, []))
  looks slots id v short s r deep at fits =
      let k = r.views id v at in
      let w : W = record v { olds = [] } in
      let l = r.lawful in (
        w,
        keeps,
        tt,
        unmoved entries client_of opening reached key s r 1 id [] v w at refl record { opening = k.opening; sees = k.sees; saw = tt; own = k.own; turn = k.turn },
        (
          refl,
          past_seen client_of v.seen r.history v.clients v.olds k.sees (λ c o. (k.own c o).1) short k.saw,
          λ o from. (l.0, subst (λ (z : O). reached z l.0) (sym (k.opening o from)) l.1, prefix_trans v.seen r.history (entries l.0) k.sees l.2),
        ),
      )

  -- the look after a join of two seats at rest
  pub looks_at : (slots id : ℕ) (m : Me (Option V) W) (o o' : Option O) (cs cs' : List ℕ) (seen seen' : List E)
      → m ≡ (joined (at_rest o cs seen) (at_rest o' cs' seen'), [])
      → Allows R slots id m 1 (λ n. n) (looked entries client_of reached (step slots 1 0 0 none) m)
  looks_at slots id m o o' cs cs' seen seen' e =
      subst (λ (z : Me (Option V) W). Allows R slots id z 1 (λ n. n) (looked entries client_of reached (step slots 1 0 0 none) z)) (sym e)
      (looks slots id (joined (at_rest o cs seen) (at_rest o' cs' seen'))
      (by_test (ltb (length seen) (length seen')) (λ b. AllShort (length (cond b seen' seen)) (past cs seen ∷ past cs' seen' ∷ []))
      (λ lt. let l = ltb-true _ _ lt in (omega (arith, l), (le_refl _, tt)))
      (λ ge. let l = ltb-false _ _ ge in (le_refl _, (omega (arith, l), tt)))))

  -- a seat is cut in two, and the new one has some of its clients
  cuts : (s : St) (r : R s) (id : ℕ) (v left right : W) (seat_of : ℕ → ℕ) → get_elem? s.views id ≡ some v → left.turn ≡ v.turn → right.turn ≡ None
      → Each s r.history r.holder seat_of id left → Each s r.history r.holder seat_of (length s.views) right
      → ((j d : ℕ) → j ≢ id → r.seat_of d ≡ j → seat_of d ≡ j)
      → R record { words = s.words; homes = s.homes; views = set s.views id left ++ right ∷ [] }
  cuts s r id v left right seat_of at same idle here new still =
      let held : ℕ = get_or s.words 0 0 in
      record {
        history = r.history;
        holder = r.holder;
        seat_of = seat_of;
        wide = r.wide;
        deep = r.deep;
        counted = r.counted;
        views = λ j u e. ⊎_elim
            (λ old. each_after (Each s r.history r.holder seat_of) s.views id left here
            (λ i x ne q. other_fits entries client_of opening reached key r.history r.history held held r.holder r.holder r.seat_of seat_of i x (r.views i x q)
            (prefix_self r.history) (λ d _ is. (still i d ne is, refl)) (λ l t. let z = (r.views i x q).turn l t in (z.0, z.1, z.2))) j u old)
            (λ (t : (j ≡ length (set s.views id left)) × (right ≡ u)). subst (λ (x : ℕ × W). Each s r.history r.holder seat_of x.0 x.1)
            (λ i. ((sym (length-set s.views id left) ∙ sym t.0) i, t.1 i)) new)
            (at_snoc_at (set s.views id left) right u j e);
        home = r.home;
        busy = λ z. let b = r.busy z in dite (ℕ_discrete r.holder id)
            (λ is. (
              left,
              at_longer (set s.views id left) (right ∷ []) r.holder left
                  (subst (λ (k : ℕ). get_elem? (set s.views id left) k ≡ some left) (sym is) (at_set_here s.views id v left at)),
              same ∙ (ap (λ (u : W). u.turn) (some-injective v b.0 (sym at ∙ (ap (get_elem? s.views) (sym is) ∙ b.1))) ∙ b.2),
            ))
            (λ away. (b.0, at_longer (set s.views id left) (right ∷ []) r.holder b.0 (set_else s.views id r.holder left away ∙ b.1), b.2));
        others = r.others;
        lawful = r.lawful;
      }

  deals : (id c : ℕ) (rest : List ℕ) (o : Option O) (seen : List E) → is_in c rest ≡ false
      → Splits R id (at_rest o (c ∷ rest) seen) (at_rest o rest seen) (at_rest o (c ∷ []) seen)
  deals id c rest o seen apart s r at =
      let v : W = at_rest o (c ∷ rest) seen in
      let k = r.views id v at in
      let seat_of : ℕ → ℕ = λ d. cond (eqb d c) (length s.views) (r.seat_of d) in
      let first : is_in c (c ∷ rest) ≡ true = ap (λ b. b || is_in c rest) (eq-eqb c c refl) in
      cuts s r id v (at_rest o rest seen) (at_rest o (c ∷ []) seen) seat_of at refl refl
      record {
        opening = k.opening;
        sees = k.sees;
        saw = tt;
        own = λ d there. let a = k.own d (is_in-later d c rest there) in
            let ne : d ≢ c = λ e. true≢false (sym there ∙ (ap (λ z. is_in z rest) e ∙ apart)) in
            (ap (λ b. cond b (length s.views) (r.seat_of d)) (ne_eqb d c ne) ∙ a.0, a.1, a.2);
        turn = λ l e. absurd (cc e);
      }
      record {
        opening = k.opening;
        sees = k.sees;
        saw = tt;
        own = λ d there. let e : d ≡ c = only_one d c there in let a = k.own c first in (
          ap (λ b. cond b (length s.views) (r.seat_of d)) (eq-eqb d c e),
          subst (λ z. entries_of client_of z seen ≡ entries_of client_of z r.history) (sym e) a.1,
          ap (λ z. is_in z key.clients.items) e ∙ a.2,
        );
        turn = λ l e. absurd (cc e);
      }
      (λ j d ne is. let other : d ≢ c = λ e. ne (sym is ∙ (ap r.seat_of e ∙ (k.own c first).0)) in
      ap (λ b. cond b (length s.views) (r.seat_of d)) (ne_eqb d c other) ∙ is)

  pub deals_at : (id c : ℕ) (m : Me (Option V) W) → m ≡ (at_rest m.0.opening (c ∷ other_clients m.0.clients) [], []) → is_in c (other_clients m.0.clients) ≡ false
      → Splits R id m.0 (at_rest m.0.opening (other_clients m.0.clients) m.0.seen) (at_rest m.0.opening (first_client m.0.clients) m.0.seen)
  deals_at id c m e apart =
      let o = m.0.opening in
      let rest = other_clients m.0.clients in
      let f : m.0 ≡ at_rest o (c ∷ rest) [] = ap (λ (z : Me (Option V) W). z.0) e in
      subst (λ (z : W). Splits R id z (at_rest z.opening (other_clients z.clients) z.seen) (at_rest z.opening (first_client z.clients) z.seen)) (sym f)
      (deals id c rest o [] apart)

  pub copies : (id : ℕ) (v : W) → Splits R id v v (at_rest v.opening [] v.seen)
  copies id v s r at = let k = r.views id v at in
      cuts s r id v v (at_rest v.opening [] v.seen) r.seat_of at refl refl k
      record { opening = k.opening; sees = k.sees; saw = tt; own = λ d there. absurd (true≢false (sym there)); turn = λ l e. absurd (cc e) }
      (λ j d _ is. is)

  -- the view that takes in another: it has both seats' clients, and has seen the longer of the two
  takes_in : (s : St) (r : R s) (id : ℕ) (v : W) (other : ℕ) (w : W) → v.turn ≡ None → get_elem? s.views id ≡ some v → get_elem? s.views other ≡ some w
      → Each s r.history r.holder (λ d. cond (is_in d w.clients) id (r.seat_of d)) id (joined v w)
  takes_in s r id v other w idle at there =
      let both : W = joined v w in
      let k = r.views id v at in
      let k' = r.views other w there in
      let fits = longest v.seen w.seen r.history k.sees k'.sees in
      let more : (d : ℕ) → is_in d v.clients ≡ true → is_in d both.clients ≡ true = λ d o. is_in-left d v.clients w.clients o in
      let more' : (d : ℕ) → is_in d w.clients ≡ true → is_in d both.clients ≡ true = λ d o. is_in-right d v.clients w.clients o in
      let olds = past_wider client_of r.history v.clients both.clients v.olds more k.saw in
      let olds' = past_wider client_of r.history w.clients both.clients w.olds more' k'.saw in
      record {
        opening = k.opening;
        sees = fits.0;
        saw = (
          record { begins = k.sees; own = λ d o. (more d o, (k.own d o).1) },
          (
            record { begins = k'.sees; own = λ d o. (more' d o, (k'.own d o).1) },
            past_both client_of r.history both.clients v.olds w.olds olds olds',
          ),
        );
        own = λ d o. by_test (is_in d w.clients)
            (λ b. (cond b id (r.seat_of d) ≡ id) × (entries_of client_of d both.seen ≡ entries_of client_of d r.history) × (is_in d key.clients.items ≡ true))
            (λ on. let a = k'.own d on in (refl, entries_of-between client_of d w.seen both.seen r.history fits.2 fits.0 a.1, a.2))
            (λ off. let a = k.own d (not_right d v.clients w.clients off o) in (a.0, entries_of-between client_of d v.seen both.seen r.history fits.1 fits.0 a.1, a.2));
        turn = λ l t. absurd (cc (sym t ∙ idle));
      }

  spent_fits : (s : St) (r : R s) (seat_of : ℕ → ℕ) (j : ℕ) → Each s r.history r.holder seat_of j spent
  spent_fits s r seat_of j = record {
    opening = λ o e. absurd (cc e);
    sees = (r.history, refl);
    saw = tt;
    own = λ d e. absurd (true≢false (sym e));
    turn = λ l e. absurd (cc e);
  }

  pub joins : (id : ℕ) (v : W) (other : ℕ) (w : W) → v.turn ≡ None → w.turn ≡ None → Joins R id v other w (joined v w) spent
  joins id v other w idle idle' s r at apart at' =
      let both : W = joined v w in
      let mid : List W = set s.views id both in
      let there : get_elem? s.views other ≡ some w = sym (set_else s.views id other both apart) ∙ at' in
      let k' = r.views other w there in
      let held : ℕ = get_or s.words 0 0 in
      let seat_of : ℕ → ℕ = λ d. cond (is_in d w.clients) id (r.seat_of d) in
      record {
        history = r.history;
        holder = r.holder;
        seat_of = seat_of;
        wide = r.wide;
        deep = r.deep;
        counted = r.counted;
        views = each_after (Each s r.history r.holder seat_of) mid other spent (spent_fits s r seat_of other)
            (λ j u ne e. each_after (λ i x. i ≢ other → Each s r.history r.holder seat_of i x) s.views id both
            (λ _. takes_in s r id v other w idle at there)
            (λ i x away q not_other. other_fits entries client_of opening reached key r.history r.history held held r.holder r.holder
            r.seat_of seat_of i x (r.views i x q)
            (prefix_self r.history)
            (λ d _ is. (by_test (is_in d w.clients) (λ b. cond b id (r.seat_of d) ≡ i) (λ on. absurd (not_other (sym is ∙ (k'.own d on).0))) (λ _. is), refl))
            (λ l t. let z = (r.views i x q).turn l t in (z.0, z.1, z.2))) j u e ne);
        home = r.home;
        busy = λ z. let b = r.busy z in
            let ne = holder_other entries client_of opening reached key s r id v b.0 at idle b.1 b.2 in
            let ne' = holder_other entries client_of opening reached key s r other w b.0 there idle' b.1 b.2 in
            (b.0, set_else mid other r.holder spent ne' ∙ (set_else s.views id r.holder both ne ∙ b.1), b.2);
        others = r.others;
        lawful = r.lawful;
      }

  pub joins_at : (id : ℕ) (m : Me (Option V) W) (other : ℕ) (w : Me (Option V) W) (v v' : W) → m ≡ (v, []) → w ≡ (v', []) → v.turn ≡ None → v'.turn ≡ None
      → Joins R id m.0 other w.0 (joined m.0 w.0) spent
  joins_at id m other w v v' e f idle idle' =
      joins id m.0 other w.0 (ap (λ (z : Me (Option V) W). z.0.turn) e ∙ idle) (ap (λ (z : Me (Option V) W). z.0.turn) f ∙ idle')
