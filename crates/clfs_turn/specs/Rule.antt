-- The rule of the table, which holds between any two steps of any threads. Word 0, HELD, is 1 while a seat has the turn.
-- Word 1, COUNT, is the length of the history. Slot 0 has the value. The history exists in the proof alone.
-- Above each part of the rule stands the mistake that it stops.
use Rattle.std.specs.Prelude.{◌≡◌, ◌≢◌, ℕ, true, false, List, [], ◌∷◌, length, slice_index, Option, Some}
use mathlib.Core.Option.{some}
use mathlib.Core.List.{IsPrefix}
use lib.ListN.{get_elem?}
use Rattle.atomic_table.specs.Table.{State}
use Rattle.clfs_turn.specs.declared.view.Past.{Past}
use Rattle.clfs_turn.specs.declared.view.View.{View}
use Rattle.clfs_turn.specs.declared.view.Roll.{Roll}
use Rattle.clfs_turn.specs.Calls.{IsLawful}
use Rattle.clfs_turn.specs.Lists.{is_in, entries_of}
use Rattle.clfs_turn.specs.Views.{at_rest}

-- what some seat had seen: the history begins with it, and it has all entries of the seat's clients, which are among these
pub record IsPast {E : Type 0} (client_of : E → ℕ) (history : List E) (clients : List ℕ) (p : Past E) : Type 0 where
  pub begins : IsPrefix p.seen history
  pub own : (c : ℕ) → is_in c p.clients ≡ true → (is_in c clients ≡ true) × (entries_of client_of c p.seen ≡ entries_of client_of c history)

-- the same of each of these
abbrev pub AllPast : {E : Type 0} → (E → ℕ) → List E → List ℕ → List (Past E) → Type 0
AllPast client_of history clients [] = Unit {0}
AllPast client_of history clients (p ∷ ps) = IsPast client_of history clients p × AllPast client_of history clients ps

module _ {E O : Type 0} (client_of : E → ℕ) (history : List E) (held holder : ℕ) (seat_of : ℕ → ℕ) (start : O) (all : List ℕ) where
  -- what the rule keeps of the view v of the seat j
  pub record KeepsView (j : ℕ) (v : View E O) : Type 0 where
    -- stops a seat that takes the history for one with another opening
    pub opening : (o : O) → v.opening ≡ Some o → o ≡ start
    -- stops a seat that has seen an entry which isn't in the history, or entries out of order
    pub sees : IsPrefix v.seen history
    -- stops two seats that meet and keep the shorter of what they had seen, or drop an entry of the other
    pub saw : AllPast client_of history v.clients v.olds
    -- stops a seat that is given another's client or entries, and an entry of a client that its one seat hasn't seen
    pub own : (c : ℕ) → is_in c v.clients ≡ true
        → (seat_of c ≡ j) × (entries_of client_of c v.seen ≡ entries_of client_of c history) × (is_in c all ≡ true)
    -- stops a second seat with the turn, a turn while HELD is 0, a post by a seat that doesn't know the whole history,
    -- and a turn of a copy, which is no client's seat
    pub turn : (h : List E) → v.turn ≡ Some h
        → (j ≡ holder) × (held ≡ 1) × (h ≡ history) × ((c : ℕ) × (is_in c v.clients ≡ true))

module _ {V E O : Type 0} (entries : V → List E) (client_of : E → ℕ) (opening : V → O) (reached : O → V → Type 0) where
  -- what the rule keeps of the table
  pub record KeepsTable (key : Roll V) (s : State (Option V) (View E O)) : Type 0 where
    -- all entries that were posted, in the order of the posts
    pub history : List E
    -- the seat that has the turn, where HELD is 1
    pub holder : ℕ
    -- the one seat that adds the entries of a client
    pub seat_of : ℕ → ℕ
    -- stops a step on a word or a slot that isn't there
    pub wide : length s.words ≡ 2
    pub deep : length s.homes ≡ 1
    -- stops an entry that isn't counted, a count without an entry, and COUNT raised by two
    pub counted : slice_index s.words 1 ≡ length history
    pub views : (j : ℕ) (v : View E O) → get_elem? s.views j ≡ some v
        → KeepsView client_of history (slice_index s.words 0) holder seat_of (opening key.first.value) key.clients.items j v
    -- stops a release before the value is home, a release of another value, and one of a value with an entry that wasn't posted
    pub home : slice_index s.words 0 ≡ 0
        → (x : V) × (get_elem? s.homes 0 ≡ some (some (Some x))) × (entries x ≡ history) × reached (opening key.first.value) x
    -- stops HELD at 1 with no seat that will release it
    pub busy : slice_index s.words 0 ≢ 0 → (v : View E O) × (get_elem? s.views holder ≡ some v) × (v.turn ≡ Some history)
    -- stops an entry in the name of a client without a seat
    pub others : (c : ℕ) → is_in c key.clients.items ≡ false → entries_of client_of c history ≡ []
    -- stops a history, seen while the value is out with a seat, that no value could have
    pub lawful : IsLawful entries reached (opening key.first.value) history

-- the first view: it has seen nothing, and adds the entries of all clients until these have seats of their own
abbrev pub dealer : {V E O : Type 0} → (V → O) → Roll V → View E O
dealer opening key = at_rest (Some (opening key.first.value)) key.clients.items []
