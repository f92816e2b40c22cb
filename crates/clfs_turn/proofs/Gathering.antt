-- Seats that are joined into one before the table is closed.
use Rattle.std.proofs.Common.{◌≡◌, ℕ, zero, suc, ◌<◌, Bool, true, ◌||◌, List, [], ◌∷◌, ◌++◌, map, length, get_or, All, sym, ap, ◌∙◌, subst, ⊎_elim, inl, inr, arith, ne_eqb}
use mathlib.Core.Logic.{dite}
use mathlib.Core.List.{IsPrefix}
use native.Mathlib.Decide.{ℕ_discrete}
use Rattle.atomic_table.specs.declared.badge.Badge.{Badge}
use Rattle.clfs_turn.specs.declared.view.View.{View}
use Rattle.clfs_turn.specs.declared.view.Past.{Past}
use Rattle.clfs_turn.specs.Lists.{is_in, entries_of}
use Rattle.clfs_turn.specs.Rule.{AllPast}
use Rattle.clfs_turn.specs.Seats.{SeatState, HasSeen}
use Rattle.clfs_turn.specs.Steps.{past, joined, IsKept, Gathered, AllGathered}
use Rattle.clfs_turn.specs.Views.{at_rest, view_in, IsAtRest}
use Rattle.clfs_turn.proofs.Clients.{is_in-one, is_in-left, is_in-right}

pub all_last : {X : Type 0} (P : X → Type 0) (xs : List X) (x : X) → All P (xs ++ x ∷ []) → P x
all_last P [] x h = h 0 x (omega arith)
all_last P (y ∷ xs) x h = all_last P xs x (λ k d l. h (suc k) d (omega (arith, l)))

pub all_front : {X : Type 0} (P : X → Type 0) (xs : List X) (x : X) → All P (xs ++ x ∷ []) → (k : ℕ) (d : X) → k < length xs → P (get_or xs k d)
all_front P [] x h k d l = absurd (omega arith)
all_front P (y ∷ xs) x h zero d l = h 0 d (omega arith)
all_front P (y ∷ xs) x h (suc k) d l = all_front P xs x (λ j e m. h (suc j) e (omega (arith, m))) k d (omega arith)

module _ {E : Type 0} where
  in_more : (p : Past E) (xs ys : List (Past E)) → IsKept p xs → IsKept p (xs ++ ys)
  in_more p [] ys h = absurd h
  in_more p (x ∷ xs) ys h = ⊎_elim (λ e. inl e) (λ k. inr (in_more p xs ys k)) h

  what_is_past : (client_of : E → ℕ) (hist : List E) (cs : List ℕ) (p : Past E) (ps : List (Past E)) → AllPast client_of hist cs ps → IsKept p ps
      → IsPrefix p.seen hist × ((c : ℕ) → is_in c p.clients ≡ true → entries_of client_of c p.seen ≡ entries_of client_of c hist)
  what_is_past client_of hist cs p [] a h = absurd h
  what_is_past client_of hist cs p (x ∷ xs) a h = ⊎_elim
      (λ (e : x ≡ p). subst (λ (z : Past E). IsPrefix z.seen hist × ((c : ℕ) → is_in c z.clients ≡ true → entries_of client_of c z.seen ≡ entries_of client_of c hist))
      e (a.0.begins, λ c o. (a.0.own c o).1))
      (λ k. what_is_past client_of hist cs p xs a.1 k) h

module _ {E O : Type 0} where
  -- the seat that a badge at rest is made into
  pub badge_view : (b : Badge (View E O)) (client : ℕ) (w : View E O) → b.views ≡ w ∷ [] → IsAtRest b client
      → w ≡ at_rest (view_in b.views).opening (client ∷ []) (view_in b.views).seen
  badge_view b client w is rest = ap view_in (sym is ∙ rest)

  gathers : (v w : View E O) (s : SeatState E O) → w.clients ≡ s.client ∷ [] → w.seen ≡ s.seen → Gathered (joined v w) s
  gathers v w s cs seen = (
    is_in-right s.client v.clients w.clients (ap (is_in s.client) cs ∙ is_in-one s.client),
    inr (inl (λ k. past (cs k) (seen k))),
  )

  still : (v w : View E O) (ss : List (SeatState E O)) → AllGathered v ss → AllGathered (joined v w) ss
  still v w [] h = tt
  still v w (s ∷ ss) h = (
    (is_in-left s.client v.clients w.clients h.0.0, inr (inr (in_more (past (s.client ∷ []) s.seen) v.olds w.olds h.0.1))),
    still v w ss h.1,
  )

  -- one seat more was joined
  pub gathers_all : (v w : View E O) (s : SeatState E O) (ss : List (SeatState E O)) → w.clients ≡ s.client ∷ [] → w.seen ≡ s.seen
      → AllGathered v ss → AllGathered (joined v w) (s ∷ ss)
  gathers_all v w s ss cs seen h = (gathers v w s cs seen, still v w ss h)

  -- the view has all clients of the joined seats
  pub owns_all : (v : View E O) (ss : List (SeatState E O)) → AllGathered v ss → (c : ℕ) → is_in c (map (λ s. s.client) ss) ≡ true → is_in c v.clients ≡ true
  owns_all v [] h c i = absurd (cc i)
  owns_all v (s ∷ ss) h c i = dite (ℕ_discrete s.client c) (λ e. ap (λ (z : ℕ). is_in z v.clients) (sym e) ∙ h.0.0)
      (λ ne. owns_all v ss h.1 c (ap (λ (b : Bool). b || is_in c (map (λ s. s.client) ss)) (sym (ne_eqb s.client c ne)) ∙ i))

  -- what each joined seat had seen begins the history
  pub all_seen : (client_of : E → ℕ) (hist : List E) (v : View E O) (ss : List (SeatState E O)) → AllPast client_of hist v.clients v.olds → AllGathered v ss
      → (k : ℕ) (d : SeatState E O) → k < length ss → HasSeen client_of hist (get_or ss k d)
  all_seen client_of hist v [] a h k d l = absurd (omega arith)
  all_seen client_of hist v (s ∷ ss) a h zero d l =
      let p = what_is_past client_of hist v.clients (past (s.client ∷ []) s.seen) v.olds a h.0.1 in
      record { begins = p.0; own = p.1 s.client (is_in-one s.client) }
  all_seen client_of hist v (s ∷ ss) a h (suc k) d l = all_seen client_of hist v ss a h.1 k d (omega arith)
