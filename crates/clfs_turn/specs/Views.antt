-- Views of seats at rest, and what a `TurnSeat` shows of its own.
use Rattle.std.specs.Prelude.{◌≡◌, ℕ, true, List, [], ◌∷◌, Option, Some, None, is_some}
use Rattle.std.proofs.Common.{sym}
use Rattle.std.proofs.lemmas.Bool.{true≢false}
use Rattle.atomic_table.specs.declared.badge.Badge.{Badge}
use Rattle.clfs_turn.specs.declared.view.View.{View}
use Rattle.clfs_turn.specs.Seats.{LockId, SeatState}

-- the value of an option that has one
abbrev pub value_of : {X : Type 0} (o : Option X) → is_some o ≡ true → X
value_of (Some x) has = x
value_of None has = absurd (true≢false (sym has))

module _ {E O : Type 0} where
  -- a seat without the turn, which adds the entries of these clients and has seen this much
  abbrev pub at_rest : Option O → List ℕ → List E → View E O
  at_rest opening clients seen = record { opening = opening; turn = None; clients = clients; seen = seen; olds = [] }

  -- a seat that was joined into another: it adds nothing and knows nothing
  abbrev pub spent : View E O
  spent = at_rest None [] []

  -- the view in a badge, which has one or none
  abbrev pub view_in : List (View E O) → View E O
  view_in [] = spent
  view_in (v ∷ vs) = v

  -- the badge has the view of a seat without the turn, which adds this client's entries alone
  abbrev pub IsAtRest : Badge (View E O) → ℕ → Type 0
  IsAtRest b client = b.views ≡ at_rest (view_in b.views).opening (client ∷ []) (view_in b.views).seen ∷ []

  -- a seat that was just cut off at this lock, whose history began in this opening
  abbrev pub IsDealt : LockId → Option O → SeatState E O → Type 0
  IsDealt lock opening s = (s.lock ≡ lock) × (opening ≡ Some s.opening) × (s.seen ≡ [])
