-- One note more.
use Rattle.std.proofs.Common.{◌≡◌, ℕ, ◌+◌, List, [], ◌∷◌, ◌++◌, sym, ap, ◌∙◌, append_assoc, add-one}
use Rattle.clfs_turn.specs.Calls.{IsAdded, Called}
use Rattle.clfs_turn.specs.Seats.{SeatState, own}
use Rattle.clfs_turn_uses.specs.declared.diary.Note.{Note}
use Rattle.clfs_turn_uses.specs.declared.diary.Diary.{Diary}
use Rattle.clfs_turn_uses.specs.Notes.{note, first_notes, HasWritten}

abbrev Seat : Type 0
Seat = SeatState Note (Unit {0})

abbrev notes_of : Diary → List Note
notes_of d = d.notes.items

abbrev client_of : Note → ℕ
client_of n = n.client

-- a call that added the note n to those before it
pub one_more : (s t u : Seat) (client n : ℕ) → client ≡ s.client → HasWritten n s t
    → Called notes_of client_of (λ _ _. Unit {0}) (λ x y. IsAdded notes_of (note client n) x y × Unit {0}) t u
    → HasWritten (n + 1) s u
one_more s t u client n is before call =
    (call.added (note client n) call.ran.0).1
    ∙ (ap (λ (z : List Note). z ++ note client n ∷ []) before
    ∙ (append_assoc (own client_of s) (first_notes s.client n) (note client n ∷ [])
    ∙ (ap (λ (c : ℕ). own client_of s ++ (first_notes s.client n ++ note c n ∷ [])) is
    ∙ ap (λ (k : ℕ). own client_of s ++ first_notes s.client k) (sym (add-one n)))))
