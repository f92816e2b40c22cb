-- What each step on the table tells the seat that makes it, by its view and hand before, the number found, and its view and
-- hand after.
use Rattle.std.specs.Prelude.{◌≡◌, ◌≢◌, ◌⊎◌, ℕ, ◌<◌, ◌^◌, Bool, true, false, List, [], ◌∷◌, ◌++◌, length, Option, Some, None}
use mathlib.Core.List.{IsPrefix}
use Rattle.atomic_table.specs.Table.{Me, Step}
use Rattle.clfs_turn.specs.declared.view.Past.{Past}
use Rattle.clfs_turn.specs.declared.view.View.{View}
use Rattle.clfs_turn.specs.Calls.{IsAdded, AddsAtMostOne, IsLawful}
use Rattle.clfs_turn.specs.Lists.{is_in, entries_of, longer}
use Rattle.clfs_turn.specs.Rule.{AllPast}
use Rattle.clfs_turn.specs.Seats.{SeatState}
use Rattle.clfs_turn.specs.Views.{spent}

-- what a seat of these clients had seen
abbrev pub past : {E : Type 0} → List ℕ → List E → Past E
past clients seen = record { clients = clients; seen = seen }

-- the first of these clients alone
abbrev pub first_client : List ℕ → List ℕ
first_client [] = []
first_client (c ∷ cs) = c ∷ []

-- the others of these clients
abbrev pub other_clients : List ℕ → List ℕ
other_clients [] = []
other_clients (c ∷ cs) = cs

-- join: the two seats' clients and the longer of what was seen; what each had seen is kept until a look compares it
abbrev pub joined : {E O : Type 0} → View E O → View E O → View E O
joined v w = record {
  opening = v.opening;
  turn = v.turn;
  clients = v.clients ++ w.clients;
  seen = longer v.seen w.seen;
  olds = past v.clients v.seen ∷ past w.clients w.seen ∷ v.olds ++ w.olds;
}

-- p is one of these
abbrev pub IsKept : {E : Type 0} → Past E → List (Past E) → Type 0
IsKept p [] = ⊥
IsKept p (x ∷ xs) = (x ≡ p) ⊎ IsKept p xs

-- the view has taken in this seat: it has the seat's client, and keeps what the seat had seen
abbrev pub Gathered : {E O : Type 0} → View E O → SeatState E O → Type 0
Gathered v s = (is_in s.client v.clients ≡ true) × IsKept (past (s.client ∷ []) s.seen) v.olds

-- the view has taken in each of these seats
abbrev pub AllGathered : {E O : Type 0} → View E O → List (SeatState E O) → Type 0
AllGathered v [] = Unit {0}
AllGathered v (s ∷ ss) = Gathered v s × AllGathered v ss

-- the list y begins with the list x, and has the same entries of each of these clients
pub record Grows {E : Type 0} (client_of : E → ℕ) (clients : List ℕ) (x y : List E) : Type 0 where
  pub begins : IsPrefix x y
  pub own : (c : ℕ) → is_in c clients ≡ true → entries_of client_of c x ≡ entries_of client_of c y

-- a value to be put back has the history h, with one more entry of this client where one is to be posted, and its length fits COUNT
abbrev pub Returns : {V E : Type 0} → (V → List E) → (E → ℕ) → Bool → ℕ → List E → V → Type 0
Returns {V} {E} entries client_of true client h y =
    (e : E) × (entries y ≡ h ++ e ∷ []) × (client_of e ≡ client) × (length (entries y) < 2 ^ 64)
Returns entries client_of false client h y = entries y ≡ h

-- a seat at the table: its view, and the slots in its hand
abbrev SeatOf : Type 0 → Type 0 → Type 0 → Type 0
SeatOf V E O = Me (Option V) (View E O)

module _ {V E O : Type 0} where
  module _ (entries : V → List E) where
    -- a seat with this view, and with the value in its hand
    abbrev pub holding : View E O → V → SeatOf V E O
    holding v x = (v, (0, Some x) ∷ [])

    -- what a view that takes the value x knows of it, as a seat does
    pub record Meets (client_of : E → ℕ) (reached : O → V → Type 0) (v : View E O) (x : V) : Type 0 where
      pub begins : IsPrefix v.seen (entries x)
      pub own : (c : ℕ) → is_in c v.clients ≡ true → entries_of client_of c v.seen ≡ entries_of client_of c (entries x)
      pub lawful : (o : O) → v.opening ≡ Some o → reached o x

    -- a seat took the turn, and a job of the client c took the value from `found` to `left`: m before, m' after the release
    pub record Worked (client_of : E → ℕ) (reached : O → V → Type 0) (c : ℕ) (job : V → V → Type 0) (m m' : SeatOf V E O) : Type 0 where
      pub found : V
      pub left : V
      pub ran : job found left
      pub meets : Meets client_of reached m.0 found
      pub lawful : (o : O) → m.0.opening ≡ Some o → reached o left
      pub one : AddsAtMostOne entries client_of c found left
      pub fits : length (entries left) < 2 ^ 64
      pub stayed : entries left ≡ entries found → m' ≡ m
      pub added : (e : E) → IsAdded entries e found left → m' ≡ (record m.0 { seen = entries left }, [])

    -- claim: where HELD was 0 the seat has the turn and takes the slot with the value; else nothing changes
    abbrev pub claimed : (E → ℕ) → (O → V → Type 0) → Step (Option V) → SeatOf V E O → ℕ → SeatOf V E O → Type 0
    claimed client_of reached st m n m' =
        (n ≡ 0 → (x : V) × (m' ≡ holding (record m.0 { turn = Some (entries x) }) x) × Meets client_of reached m.0 x)
        × (n ≢ 0 → m' ≡ m)

    -- post: the history is the list of the value in hand, and the seat has seen all of it
    abbrev pub posted : Step (Option V) → SeatOf V E O → ℕ → SeatOf V E O → Type 0
    posted st m n m' =
        (y : V) → m.1 ≡ (0, Some y) ∷ [] → m' ≡ holding (record m.0 { turn = Some (entries y); seen = entries y }) y

    -- release: the turn and the slot are given up
    abbrev pub released : Step (Option V) → SeatOf V E O → ℕ → SeatOf V E O → Type 0
    released st m n m' = m' ≡ (record m.0 { turn = None }, [])

    -- look: what each joined seat had seen begins what is seen now, with the same entries of its clients, and that is lawful
    abbrev pub looked : (E → ℕ) → (O → V → Type 0) → Step (Option V) → SeatOf V E O → ℕ → SeatOf V E O → Type 0
    looked client_of reached st m n m' =
        (m' ≡ (record m.0 { olds = [] }, m.1))
        × AllPast client_of m.0.seen m.0.clients m.0.olds
        × ((o : O) → m.0.opening ≡ Some o → IsLawful entries reached o m.0.seen)

  -- a seat that comes to close the table knows nothing
  abbrev pub entered : Step (Option V) → SeatOf V E O → ℕ → SeatOf V E O → Type 0
  entered st m n m' = m' ≡ (spent, [])
