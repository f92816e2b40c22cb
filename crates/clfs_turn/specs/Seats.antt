-- What contracts see of a lock and of a seat.
use Rattle.std.specs.Prelude.{◌≡◌, ℕ, List, [], refl}
use Rattle.std.specs.Coded.{Coded, code_by, coded_ℕ, coded_list, coded×}
use mathlib.Core.List.{IsPrefix}
use Rattle.atomic_table.specs.Seated.{TableId, table_id_coded}
use Rattle.clfs_turn.specs.Lists.{entries_of}

-- which lock it is
abbrev pub LockId : Type 0
LockId = TableId

-- a lock's name that a type parameter has until a call picks another
abbrev pub blank_lock : LockId
blank_lock = record { words = 0; slots = 0; views_name = 0; atom = 0; block = 0; offset = 0; slot_names = [] }

-- a lock: which one it is, the state in which its history began, and the clients that have a seat at it
pub record LockState (O : Type 0) : Type 0 where
  pub lock : LockId
  pub opening : O
  pub clients : List ℕ

-- a seat: its lock, its client, the state in which the lock's history began, and the part of the history that it has seen
pub record SeatState (E O : Type 0) : Type 0 where
  pub lock : LockId
  pub client : ℕ
  pub opening : O
  pub seen : List E

-- a lock is stored as the tuple of its fields
abbrev pub lock_code : {O : Type 0} → Coded O → Coded (LockState O)
lock_code {O} opening =
    code_by (LockId × (O × List ℕ))
    (coded× table_id_coded (coded× opening (coded_list coded_ℕ)))
    (λ t. (t.lock, (t.opening, t.clients)))
    (λ p. record { lock = p.0; opening = p.1.0; clients = p.1.1 })
    (λ _. refl)

-- a seat is stored as the tuple of its fields
abbrev pub seat_code : {E O : Type 0} → Coded E → Coded O → Coded (SeatState E O)
seat_code {E} {O} entry opening =
    code_by (LockId × (ℕ × (O × List E)))
    (coded× table_id_coded (coded× coded_ℕ (coded× opening (coded_list entry))))
    (λ s. (s.lock, (s.client, (s.opening, s.seen))))
    (λ p. record { lock = p.0; client = p.1.0; opening = p.1.1.0; seen = p.1.1.1 })
    (λ _. refl)

module _ {E O : Type 0} where
  -- the own entries of a seat: those of its client that it has seen
  abbrev pub own : (E → ℕ) → SeatState E O → List E
  own client_of s = entries_of client_of s.client s.seen

  -- a new seat at this lock: it has seen nothing
  pub record IsNewSeat (at : LockState O) (s : SeatState E O) : Type 0 where
    pub lock : s.lock ≡ at.lock
    pub opening : s.opening ≡ at.opening
    pub seen : s.seen ≡ []

  -- the same seat as before, which may have seen more
  pub record IsSameSeat (s t : SeatState E O) : Type 0 where
    pub lock : t.lock ≡ s.lock
    pub client : t.client ≡ s.client
    pub opening : t.opening ≡ s.opening

  -- the history begins with what the seat has seen, which has all that the history has of the seat's client
  pub record HasSeen (client_of : E → ℕ) (history : List E) (s : SeatState E O) : Type 0 where
    pub begins : IsPrefix s.seen history
    pub own : own client_of s ≡ entries_of client_of s.client history
