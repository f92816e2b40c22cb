-- The table when it is made, and when it is closed.
use Rattle.std.proofs.Common.{◌≡◌, ℕ, zero, suc, true, false, List, [], ◌∷◌, map, length, get_or, All, Option, Some, None, is_some, sym, refl, ap, ◌∙◌, subst, ⊎_elim}
use mathlib.Core.Logic.{dite}
use mathlib.Core.Option.{none, some, some-injective, some-ne-none}
use native.Mathlib.Decide.{ℕ_discrete}
use lib.ListN.{get_elem?}
use Rattle.std.proofs.lemmas.Bool.{true≢false}
use Rattle.atomic_table.specs.Table.{State, step, Enters, Final, Seen, opening as at_first}
use Rattle.atomic_table.proofs.Lists.{at_longer}
use Rattle.clfs_turn.specs.declared.view.View.{View}
use Rattle.clfs_turn.specs.declared.view.Roll.{Roll}
use Rattle.clfs_turn.specs.Lists.{is_in, entries_of}
use Rattle.clfs_turn.specs.Rule.{AllPast, dealer}
use Rattle.clfs_turn.specs.Seats.{LockId, LockState, SeatState, HasSeen}
use Rattle.clfs_turn.specs.Steps.{AllGathered, entered}
use Rattle.clfs_turn.specs.Views.{spent}
use Rattle.clfs_turn.proofs.Gathering.{owns_all, all_seen}
use Rattle.clfs_turn.proofs.Keeping.{Rule, Fits, at_snoc_at, holder_other}

unwrapped : {X : Type 0} (x y : X) → Some x ≡ Some y → x ≡ y
unwrapped x y e = cc e

module _ {V E O : Type 0} (entries : V → List E) (client_of : E → ℕ) (reached : O → V → Type 0) where
  -- the value y that a closed lock gives back, whose seats were these
  pub record Ended (at : LockState O) (seats : List (SeatState E O)) (y : V) : Type 0 where
    pub each : All (λ s. HasSeen client_of (entries y) s) seats
    pub others : (c : ℕ) → is_in c at.clients ≡ false → entries_of client_of c (entries y) ≡ []
    pub lawful : reached at.opening y

  -- the closed table's slot has such a value
  abbrev pub EndsAt : LockState O → List (SeatState E O) → List (Option V) → Type 0
  EndsAt at seats xs = (y : V) × (get_elem? xs 0 ≡ some (Some y)) × Ended at seats y

module _ {V E O : Type 0} (entries : V → List E) (client_of : E → ℕ) (opening : V → O) (reached : O → V → Type 0) (key : Roll V) where
  abbrev W : Type 0
  W = View E O

  abbrev R : State (Option V) W → Type 0
  R = Rule entries client_of opening reached key

  abbrev K : List E → ℕ → ℕ → (ℕ → ℕ) → ℕ → W → Type 0
  K = Fits entries client_of opening reached key

  first_fits : (u : W) → dealer opening key ≡ u → K [] 0 0 (λ _. 0) 0 u
  first_fits u e = subst (λ (z : W). K [] 0 0 (λ _. 0) 0 z) e record {
    opening = λ o f. sym (cc f);
    sees = ([], refl);
    saw = tt;
    own = λ d f. (refl, refl, f);
    turn = λ l f. absurd (cc f);
  }

  first_view : (j : ℕ) (u : W) → get_elem? (dealer opening key ∷ []) j ≡ some u → K [] 0 0 (λ _. 0) j u
  first_view zero u e = first_fits u (some-injective (dealer opening key) u e)
  first_view (suc j) u e = absurd (some-ne-none u (sym e))

  -- a table with the value in its slot, both words 0 and the dealer alone
  pub opens : (value : V) → key.first.value ≡ value → entries value ≡ [] → reached (opening value) value
      → R (at_first (0 ∷ 0 ∷ []) (Some value ∷ []) (dealer opening key))
  opens value is none_yet good =
      let from : reached (opening key.first.value) value = subst (λ (z : V). reached (opening z) value) (sym is) good in
      record {
        history = [];
        holder = 0;
        seat_of = λ _. 0;
        wide = refl;
        deep = refl;
        counted = refl;
        views = λ j u e. first_view j u e;
        home = λ _. (value, refl, none_yet, from);
        busy = λ z. absurd (z refl);
        others = λ c _. refl;
        lawful = (value, from, (entries value, refl));
      }

  -- a seat that knows nothing may come at any time
  pub enters : (slots : ℕ) → Enters R slots 1 (λ n w. entered {V = V} (step slots 1 0 0 none) (dealer opening key, []) n (w, []))
  enters slots s r deep fits =
      let held : ℕ = get_or s.words 0 0 in (
        spent,
        record {
          history = r.history;
          holder = r.holder;
          seat_of = r.seat_of;
          wide = r.wide;
          deep = r.deep;
          counted = r.counted;
          views = λ j u e. ⊎_elim (r.views j u)
              (λ (t : (j ≡ length s.views) × (spent ≡ u)). subst (λ (z : W). K r.history held r.holder r.seat_of j z) t.1 record {
                opening = λ o e. absurd (cc e);
                sees = (r.history, refl);
                saw = tt;
                own = λ d e. absurd (true≢false (sym e));
                turn = λ l e. absurd (cc e);
              })
              (at_snoc_at s.views spent u j e);
          home = r.home;
          busy = λ z. let b = r.busy z in (b.0, at_longer s.views (spent ∷ []) r.holder b.0 b.1, b.2);
          others = r.others;
          lawful = r.lawful;
        },
        refl,
      )

  -- where all clients' seats were joined into one that has no turn, nobody has it, so the value is home
  ends : (lock : LockId) (id : ℕ) (v : W) (ws : List ℕ) (xs : List (Option V)) (ss : List (SeatState E O)) → v.turn ≡ None → AllGathered v ss
      → ((c : ℕ) → is_in c key.clients.items ≡ true → is_in c (map (λ s. s.client) ss) ≡ true)
      → Final (Seen R id v) ws xs
      → EndsAt entries client_of reached record { lock = lock; opening = opening key.first.value; clients = key.clients.items } ss xs
  ends lock id v ws xs ss idle gathered each f =
      let s = f.0 in
      let r = f.1.0 in
      let at = f.1.1 in
      let k = r.views id v at in
      let home : get_or s.words 0 0 ≡ 0 = dite (ℕ_discrete (get_or s.words 0 0) 0) (λ z. z)
      (λ busy. let b = r.busy busy in
      let kb = r.views r.holder b.0 b.1 in
      let t = kb.turn r.history b.2 in
      let own = kb.own t.3.0 t.3.1 in
      let mine_too = k.own t.3.0 (owns_all v ss gathered t.3.0 (each t.3.0 own.2)) in
      absurd (holder_other entries client_of opening reached key s r id v b.0 at idle b.1 b.2 (sym own.0 ∙ mine_too.0))) in
      let h = r.home home in (
        h.0,
        f.4 0 (Some h.0) h.1,
        record {
          each = all_seen client_of (entries h.0) v ss (subst (λ (z : List E). AllPast client_of z v.clients v.olds) (sym h.2) k.saw) gathered;
          others = λ c o. ap (entries_of client_of c) h.2 ∙ r.others c o;
          lawful = h.3;
        },
      )

  -- the same, of the lock as contracts see it
  pub closes : (at : LockState O) (lock : LockId)
      → ◌≡◌ {A = LockState O} (record { lock = lock; opening = opening key.first.value; clients = key.clients.items }) at
      → (id : ℕ) (v : W) (ws : List ℕ) (xs : List (Option V)) (ss : List (SeatState E O)) → v.turn ≡ None → AllGathered v ss
      → ((c : ℕ) → is_in c at.clients ≡ true → is_in c (map (λ s. s.client) ss) ≡ true)
      → Final (Seen R id v) ws xs
      → EndsAt entries client_of reached at ss xs
  closes at lock is id v ws xs ss idle gathered each f =
      subst (λ (z : LockState O). ((c : ℕ) → is_in c z.clients ≡ true → is_in c (map (λ s. s.client) ss) ≡ true) → EndsAt entries client_of reached z ss xs) is
      (λ every. ends lock id v ws xs ss idle gathered every f) each

module _ {V E O : Type 0} (entries : V → List E) (client_of : E → ℕ) (reached : O → V → Type 0)
    (at : LockState O) (ss : List (SeatState E O)) (xs : List (Option V)) where
  -- the slot of a closed table has a value
  pub is_home : (r : Option V) → EndsAt entries client_of reached at ss xs → get_elem? xs 0 ≡ some r → is_some r ≡ true
  is_home r e found = ap is_some (some-injective r (Some e.0) (sym found ∙ e.1))

  -- and the value that is taken from it is the one that has all this
  pub ended : (r : Option V) (y : V) → EndsAt entries client_of reached at ss xs → get_elem? xs 0 ≡ some r → r ≡ Some y → Ended entries client_of reached at ss y
  ended r y e found is = subst (Ended entries client_of reached at ss) (unwrapped e.0 y (sym (some-injective r (Some e.0) (sym found ∙ e.1)) ∙ is)) e.2
