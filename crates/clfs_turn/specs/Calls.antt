-- What a call of the lock tells its seat. The parameters are the value's own: the list of its entries, the client that an
-- entry names, and which values are lawfully reached from which opening.
use Rattle.std.specs.Prelude.{◌≡◌, ◌⊎◌, ℕ, List, [], ◌∷◌, ◌++◌}
use mathlib.Core.List.{IsPrefix}
use Rattle.clfs_turn.specs.Lists.{entries_of}
use Rattle.clfs_turn.specs.Seats.{SeatState, own}

module _ {V E : Type 0} (entries : V → List E) where
  -- y's list is x's with this entry more
  abbrev pub IsAdded : E → V → V → Type 0
  IsAdded e x y = entries y ≡ entries x ++ e ∷ []

  -- y's list is x's, or has one entry more, which names this client
  abbrev pub AddsAtMostOne : (E → ℕ) → ℕ → V → V → Type 0
  AddsAtMostOne client_of client x y = (entries y ≡ entries x) ⊎ ((e : E) × IsAdded e x y × (client_of e ≡ client))

  -- the entries begin the list of some value that was lawfully reached from this opening
  abbrev pub IsLawful : {O : Type 0} → (O → V → Type 0) → O → List E → Type 0
  IsLawful reached opening es = (x : V) × reached opening x × IsPrefix es (entries x)

module _ {V E O : Type 0} (entries : V → List E) (client_of : E → ℕ) (reached : O → V → Type 0) where
  -- what a seat knows of the value while nobody else has it
  pub record Knows (s : SeatState E O) (x : V) : Type 0 where
    -- the value's list begins with all that the seat has seen
    pub begins : IsPrefix s.seen (entries x)
    -- and has of the seat's client just what the seat has seen
    pub own : own client_of s ≡ entries_of client_of s.client (entries x)
    -- the value was lawfully reached from the opening
    pub lawful : reached s.opening x

  -- one call by a seat, which was s before and is t after it
  pub record Called (job : V → V → Type 0) (s t : SeatState E O) : Type 0 where
    -- the value at the end of the history when the seat had the turn, and the value that the job left
    pub found : V
    pub left : V
    -- the job's answer is of these two
    pub ran : job found left
    pub before : Knows s found
    pub after : Knows t left
    pub one : AddsAtMostOne entries client_of s.client found left
    -- a job that added no entry left the seat as it was
    pub stayed : entries left ≡ entries found → t.seen ≡ s.seen
    -- an entry that the job added is the last that the seat has seen, and its own entries grew by just this one
    pub added : (e : E) → IsAdded entries e found left → (t.seen ≡ entries left) × (own client_of t ≡ own client_of s ++ e ∷ [])
