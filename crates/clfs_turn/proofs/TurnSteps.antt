-- Claim, post and release keep the rule.
use Rattle.std.proofs.Common.{◌≡◌, ℕ, ◌+◌, ◌%◌, ◌^◌, ◌<◌, eqb, true, List, [], ◌∷◌, ◌++◌, length, get_or, set, Option, Some, None, sym, refl, ap, ◌∙◌, subst, arith, length-set, length-append, get_or-set_other, get_or-set_same}
use mathlib.Core.Option.{none, some}
use mathlib.Core.List.{IsPrefix}
use lib.ListN.{get_elem?}
use prog.Atomic.{either}
use Rattle.std.proofs.lemmas.Bool.{true≢false}
use Rattle.std.proofs.Math.Nat.{mod-eq_of_lt}
use Rattle.atomic_table.specs.Table.{State, Me, Act, step, rest, keeps, takes, gives, stepped, carried_after, Valid, Allows}
use Rattle.atomic_table.proofs.Lists.{set_here, exchanged}
use Rattle.clfs_turn.specs.declared.view.Past.{Past}
use Rattle.clfs_turn.specs.declared.view.View.{View}
use Rattle.clfs_turn.specs.declared.view.Roll.{Roll}
use Rattle.clfs_turn.specs.Lists.{is_in, entries_of}
use Rattle.clfs_turn.specs.Rule.{AllPast}
use Rattle.clfs_turn.specs.Steps.{Returns, holding, claimed, posted, released}
use Rattle.clfs_turn.proofs.Clients.{entries_of-other}
use Rattle.clfs_turn.proofs.Keeping.{Rule, Fits, at_set_here, each_after, other_fits, unmoved, alone, other_client}
use Rattle.clfs_turn.proofs.Prefixes.{prefix_self}

abbrev or_else : {A : Type 0} → A → Option A → A
or_else d (Some x) = x
or_else d None = d

-- the value in a hand, where it has one
abbrev pub held_value : {V : Type 0} → V → List (ℕ × Option V) → V
held_value d [] = d
held_value d (x ∷ xs) = or_else d x.1

module _ {V E O : Type 0} (entries : V → List E) where
  -- a hand that held nothing in the slot, and then the value
  pub in_hand : (me me' : Me (Option V) (View E O)) (y : V) → me.1 ≡ (0, None) ∷ [] → me' ≡ (me.0, (0, Some y) ∷ rest me.1) → me' ≡ holding entries me.0 y
  in_hand me me' y empty is = is ∙ ap (λ (z : List (ℕ × Option V)). (me.0, (0, Some y) ∷ rest z)) empty

  -- after a post the seat knows the list of the value in its hand
  pub has_posted : (me me' : Me (Option V) (View E O)) (v : View E O) (y : V) → me ≡ holding entries v y
      → ((z : V) → me.1 ≡ (0, Some z) ∷ [] → me' ≡ holding entries (record me.0 { turn = Some (entries z); seen = entries z }) z)
      → me' ≡ holding entries (record v { turn = Some (entries y); seen = entries y }) y
  has_posted me me' v y is told = told y (ap (λ (z : Me (Option V) (View E O)). z.1) is)
      ∙ ap (λ (z : Me (Option V) (View E O)). holding entries (record z.0 { turn = Some (entries y); seen = entries y }) y) is

module _ {V E O : Type 0} (entries : V → List E) (client_of : E → ℕ) (opening : V → O) (reached : O → V → Type 0) (key : Roll V) where
  abbrev W : Type 0
  W = View E O

  abbrev St : Type 0
  St = State (Option V) W

  abbrev R : St → Type 0
  R = Rule entries client_of opening reached key

  abbrev K : List E → ℕ → ℕ → (ℕ → ℕ) → ℕ → W → Type 0
  K = Fits entries client_of opening reached key

  abbrev Claimed : ℕ → W → ℕ → Me (Option V) W → Type 0
  Claimed slots v = claimed entries client_of reached (step slots 0 0 1 none) (v, [])

  -- HELD was 0: the seat has the turn and the value
  taken : (slots id c : ℕ) (v : W) → is_in c v.clients ≡ true → (s : St) (r : R s) → get_elem? s.views id ≡ some v → get_or s.words 0 0 ≡ 0
      → (w : W) × (a : Act (Option V)) × Valid s.homes [] a × R (stepped s 0 1 id [] w a) × Claimed slots v (get_or s.words 0 0) (w, carried_after [] a)
  taken slots id c v owns s r at free =
      let k = r.views id v at in
      let wide = r.wide in
      let h = r.home free in
      let w : W = record v { turn = Some (entries h.0) } in
      let held' : ℕ = get_or (set s.words 0 1) 0 0 in
      let now : held' ≡ 1 = get_or-set_same s.words 0 1 0 (omega arith) in (
        w,
        takes 0 (Some h.0),
        h.1,
        record {
          history = r.history;
          holder = id;
          seat_of = r.seat_of;
          wide = length-set s.words 0 1 ∙ wide;
          deep = length-set s.homes 0 none ∙ r.deep;
          counted = get_or-set_other s.words 0 1 1 0 (λ e. omega arith) ∙ r.counted;
          views = each_after (K r.history held' id r.seat_of) s.views id w
              record { opening = k.opening; sees = k.sees; saw = k.saw; own = k.own; turn = λ l e. (refl, now, sym (cc e) ∙ h.2, (c, owns)) }
              (λ j u ne e. other_fits entries client_of opening reached key r.history r.history (get_or s.words 0 0) held' r.holder id r.seat_of r.seat_of j u
              (r.views j u e) (prefix_self r.history) (λ d o is. (is, refl))
              (λ l t. let had = ((r.views j u e).turn l t).1 in absurd (omega (arith, had, free))));
          home = λ z. absurd (omega (arith, z, now));
          busy = λ _. (w, at_set_here s.views id v w at, ap Some h.2);
          others = r.others;
          lawful = r.lawful;
        },
        (
          λ _. (
            h.0,
            refl,
            record {
              begins = subst (IsPrefix v.seen) (sym h.2) k.sees;
              own = λ d o. (k.own d o).1 ∙ ap (entries_of client_of d) (sym h.2);
              lawful = λ o e. subst (λ (z : O). reached z h.0) (sym (k.opening o e)) h.3;
            },
          ),
          λ ne. absurd (ne free),
        ),
      )

  claims : (slots id c : ℕ) (v : W) → v.turn ≡ None → is_in c v.clients ≡ true → Allows R slots id (v, []) 0 (λ n. either (eqb n 0) 1 n) (Claimed slots v)
  claims slots id c v idle owns s r deep at fits =
      exchanged (get_or s.words 0 0) 0 1
      (λ m. (w : W) × (a : Act (Option V)) × Valid s.homes [] a × R (stepped s 0 m id [] w a) × Claimed slots v (get_or s.words 0 0) (w, carried_after [] a))
      (λ free. taken slots id c v owns s r at free)
      (λ busy. (v, keeps, tt, unmoved entries client_of opening reached key s r 0 id [] v v at refl (r.views id v at), ((λ z. absurd (busy z)), λ _. refl)))

  pub claims_at : (slots id c : ℕ) (me : Me (Option V) W) → me.1 ≡ [] → me.0.turn ≡ None → is_in c me.0.clients ≡ true
      → Allows R slots id me 0 (λ n. either (eqb n 0) 1 n) (claimed entries client_of reached (step slots 0 0 1 none) me)
  claims_at slots id c me empty idle owns =
      subst (λ (z : List (ℕ × Option V)). Allows R slots id (me.0, z) 0 (λ n. either (eqb n 0) 1 n)
      (claimed entries client_of reached (step slots 0 0 1 none) (me.0, z)))
      (sym empty) (claims slots id c me.0 idle owns)

  posts : (slots id c : ℕ) (v : W) (h : List E) (y : V) (e : E) (o : O) → v.opening ≡ Some o → reached o y → v.olds ≡ [] → v.turn ≡ Some h
      → entries y ≡ h ++ e ∷ [] → client_of e ≡ c → is_in c v.clients ≡ true → length (entries y) < 2 ^ 64
      → Allows R slots id (holding entries v y) 1 (λ n. (n + 1) % 2 ^ 64) (posted entries (step slots 1 1 0 none) (holding entries v y))
  posts slots id c v h y e o from good bare turn more names owns small s r deep at fits =
      let n' : ℕ = (get_or s.words 1 0 + 1) % 2 ^ 64 in
      let k = r.views id v at in
      let wide = r.wide in
      let t = k.turn h turn in
      let w : W = record v { turn = Some (entries y); seen = entries y } in
      let grown : r.history ++ e ∷ [] ≡ entries y = ap (λ (z : List E). z ++ e ∷ []) (sym t.2) ∙ sym more in
      let by_one : length (entries y) ≡ length r.history + 1 = sym (ap length grown) ∙ length-append r.history (e ∷ []) in
      let counts : n' ≡ length (entries y) =
      let c' = r.counted in
      let fit : get_or s.words 1 0 + 1 < 2 ^ 64 = omega (arith, c', by_one, small) in
      mod-eq_of_lt fit ∙ omega (arith, c', by_one) in
      let held : get_or (set s.words 1 n') 0 0 ≡ get_or s.words 0 0 = get_or-set_other s.words 1 0 n' 0 (λ z. omega arith) in
      let rises : IsPrefix r.history (entries y) = (e ∷ [], grown) in (
        w,
        keeps,
        tt,
        record {
          history = entries y;
          holder = id;
          seat_of = r.seat_of;
          wide = length-set s.words 1 n' ∙ wide;
          deep = r.deep;
          counted = get_or-set_same s.words 1 n' 0 (omega arith) ∙ counts;
          views = each_after (K (entries y) (get_or (set s.words 1 n') 0 0) id r.seat_of) s.views id w
              record {
                opening = k.opening;
                sees = prefix_self (entries y);
                saw = subst (λ (z : List (Past E)). AllPast client_of (entries y) v.clients z) (sym bare) tt;
                own = λ d o. let a = k.own d o in (a.0, refl, a.2);
                turn = λ l q. (refl, held ∙ t.1, sym (cc q), (c, owns));
              }
              (λ j u ne q. other_fits entries client_of opening reached key r.history (entries y) (get_or s.words 0 0) (get_or (set s.words 1 n') 0 0) r.holder id
              r.seat_of r.seat_of j u (r.views j u q) rises
              (λ d o is. (
                is,
                sym (ap (entries_of client_of d) (sym grown)
                    ∙ entries_of-other client_of d r.history e
                    (λ same. other_client entries client_of opening reached key s r id c v at owns j d ne is (sym names ∙ same))),
              ))
              (λ l q'. absurd (alone entries client_of opening reached key s r id v h at turn j u l ne q q')));
          home = λ z. absurd (omega (arith, z, held, t.1));
          busy = λ _. (w, at_set_here s.views id v w at, refl);
          others = λ d out. ap (entries_of client_of d) (sym grown)
              ∙ entries_of-other client_of d r.history e
              (λ same. true≢false (sym (k.own c owns).2 ∙ (ap (λ (z : ℕ). is_in z key.clients.items) (sym names ∙ same) ∙ out)))
              ∙ r.others d out;
          lawful = (y, subst (λ (z : O). reached z y) (k.opening o from) good, prefix_self (entries y));
        },
        (λ z q. let same : y ≡ z = ap (held_value y) q in ap (λ (x : V). holding entries (record v { turn = Some (entries x); seen = entries x }) x) same),
      )

  releases : (slots id : ℕ) (v : W) (h : List E) (o : O) (y : V) → v.turn ≡ Some h → entries y ≡ h → v.opening ≡ Some o → reached o y
      → Allows R slots id (holding entries v y) 0 (λ _. 0) (λ _. released entries (step slots 0 0 0 none) (holding entries v y) 0)
  releases slots id v h o y turn same from good s r deep at fits =
      let k = r.views id v at in
      let wide = r.wide in
      let d = r.deep in
      let t = k.turn h turn in
      let w : W = record v { turn = None } in
      let held' : ℕ = get_or (set s.words 0 0) 0 0 in
      let now : held' ≡ 0 = get_or-set_same s.words 0 0 0 (omega arith) in (
        w,
        gives,
        tt,
        record {
          history = r.history;
          holder = r.holder;
          seat_of = r.seat_of;
          wide = length-set s.words 0 0 ∙ wide;
          deep = length-set s.homes 0 (some (Some y)) ∙ d;
          counted = get_or-set_other s.words 0 1 0 0 (λ e. omega arith) ∙ r.counted;
          views = each_after (K r.history held' r.holder r.seat_of) s.views id w
              record { opening = k.opening; sees = k.sees; saw = k.saw; own = k.own; turn = λ l e. absurd (cc e) }
              (λ j u ne e. other_fits entries client_of opening reached key r.history r.history (get_or s.words 0 0) held' r.holder r.holder r.seat_of r.seat_of j u
              (r.views j u e) (prefix_self r.history) (λ c _ is. (is, refl))
              (λ l q. absurd (alone entries client_of opening reached key s r id v h at turn j u l ne e q)));
          home = λ _. (y, set_here s.homes 0 (some (Some y)) (omega arith), same ∙ t.2, subst (λ (z : O). reached z y) (k.opening o from) good);
          busy = λ z. absurd (z now);
          others = r.others;
          lawful = r.lawful;
        },
        refl,
      )

  pub posts_at : (slots id c : ℕ) (me : Me (Option V) W) (v : W) (h : List E) (o : O) (y : V) → me ≡ holding entries v y → v.opening ≡ Some o → reached o y
      → v.olds ≡ [] → v.turn ≡ Some h → is_in c v.clients ≡ true → Returns entries client_of true c h y
      → Allows R slots id me 1 (λ n. (n + 1) % 2 ^ 64) (posted entries (step slots 1 1 0 none) me)
  posts_at slots id c me v h o y is from good bare turn owns g =
      subst (λ (z : Me (Option V) W). Allows R slots id z 1 (λ n. (n + 1) % 2 ^ 64) (posted entries (step slots 1 1 0 none) z)) (sym is)
      (posts slots id c v h y g.0 o from good bare turn g.1 g.2 owns g.3)

  pub releases_at : (slots id : ℕ) (me : Me (Option V) W) (v : W) (h : List E) (o : O) (y : V) → me ≡ holding entries v y → v.turn ≡ Some h → entries y ≡ h
      → v.opening ≡ Some o → reached o y → Allows R slots id me 0 (λ _. 0) (λ _. released entries (step slots 0 0 0 none) me 0)
  releases_at slots id me v h o y is turn same from good =
      subst (λ (z : Me (Option V) W). Allows R slots id z 0 (λ _. 0) (λ _. released entries (step slots 0 0 0 none) z 0)) (sym is)
      (releases slots id v h o y turn same from good)
