-- The notes of one writer.
use Rattle.std.specs.Prelude.{◌≡◌, ℕ, zero, suc, List, [], ◌∷◌, ◌++◌}
use Rattle.clfs_turn.specs.Seats.{SeatState, own}
use Rattle.clfs_turn_uses.specs.declared.diary.Note.{Note}

-- the note of this client with this number
abbrev pub note : ℕ → ℕ → Note
note client number = record { client = client; number = number }

-- the first notes of this client, so many of them
abbrev pub first_notes : ℕ → ℕ → List Note
first_notes client zero = []
first_notes client (suc n) = first_notes client n ++ note client n ∷ []

-- a seat, s before and t after it: its own notes became more by its first ones, so many of them
abbrev pub HasWritten : ℕ → SeatState Note (Unit {0}) → SeatState Note (Unit {0}) → Type 0
HasWritten count s t = own (λ n. n.client) t ≡ own (λ n. n.client) s ++ first_notes s.client count
