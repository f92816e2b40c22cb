-- What an area was made for and what it holds, and how one call of its client changes that, by the call and its reply alone.
use Rattle.std.specs.Prelude.{◌≡◌, ℕ, ◌+◌, ◌-◌, Bool, false, ◌==◌, if◌then◌else◌, List, [], ◌∷◌, length, Option, Some, None}
use Rattle.std.specs.Option.{option_map}
use Rattle.clfs_model.specs.declared.call.Call.{Call}
use Rattle.clfs_model.specs.declared.call.Call.TheVariants as calls
use Rattle.clfs_model.specs.declared.journal.Entry.{Entry}
use Rattle.clfs_model.specs.declared.reply.Reply.{Reply}
use Rattle.clfs_model.specs.declared.reply.Reply.TheVariants as replies
use Rattle.clfs_model.specs.declared.state.State.{State}
use Rattle.clfs_model.specs.declared.state.Area.{Area}
use Rattle.clfs_model.specs.State.{area_of}
use Rattle.clfs_model.specs.Space.{own_sum}
use Rattle.clfs_model.specs.Put.{spent_of}

-- an area without its name and its cursors
pub record AreaRow : Type 0 where
  pub stream : ℕ
  pub largest : ℕ
  pub reads : ℕ
  pub held : ℕ

-- the row of an area
abbrev pub row_of : Area → AreaRow
row_of area = record { stream = area.stream; largest = area.largest; reads = area.reads; held = area.held }

-- the row of a client's area of a number, where it is there
abbrev pub row_in : State → ℕ → ℕ → Option AreaRow
row_in s client number = option_map row_of (area_of s client number)

-- a row that holds so many sectors
abbrev pub with_held : ℕ → AreaRow → AreaRow
with_held sectors row = record row { held = sectors }

-- a row that holds so many sectors fewer, and then so many more
abbrev pub with_changed_held : ℕ → ℕ → AreaRow → AreaRow
with_changed_held fewer more row = record row { held = row.held - fewer + more }

-- the row changed, where it is the one that is named
abbrev pub changed_where : Bool → (AreaRow → AreaRow) → Option AreaRow → Option AreaRow
changed_where named change row = if named then option_map change row else row

-- The row of a number after a call of its client. The held sectors are also counted by themselves, by `held_after`, for a caller who
-- asks for nothing else; in a legal journal both give what the area holds, which the laws on own entries say of each.
abbrev pub row_after : ℕ → Option AreaRow → Call → Reply → Option AreaRow
row_after number row (calls.CreateArea stream largest reads) (replies.Area given) =
    if given == number then Some (record { stream = stream; largest = largest; reads = reads; held = 0 }) else row
row_after number row (calls.DeleteArea given) replies.Done = if given == number then None else row
row_after number row (calls.Reserve given sizes) (replies.Held now) = changed_where (given == number) (with_held now) row
row_after number row (calls.Release given sectors) (replies.Held now) = changed_where (given == number) (with_held now) row
row_after number row (calls.Append given draft reserved sizes) (replies.Placed lsn) =
    changed_where (given == number) (with_changed_held (spent_of reserved (length draft.bytes)) (own_sum sizes)) row
row_after number row (calls.WriteRestart given bytes base reserved) (replies.Placed lsn) =
    changed_where (given == number) (with_changed_held (spent_of reserved (length bytes)) 0) row
row_after number row call reply = row

-- the row of a number after some of its client's entries
abbrev pub row_through : ℕ → Option AreaRow → List Entry → Option AreaRow
row_through number row [] = row
row_through number row (entry ∷ entries) = row_through number (row_after number row entry.call entry.reply) entries

-- the entry of a call and its reply makes the client's area of this number, or deletes it
abbrev pub makes_or_ends : ℕ → Call → Reply → Bool
makes_or_ends number (calls.CreateArea stream largest reads) (replies.Area given) = given == number
makes_or_ends number (calls.DeleteArea given) replies.Done = given == number
makes_or_ends number call reply = false

-- none of these entries makes or deletes it
abbrev pub NoneMakesOrEnds : ℕ → List Entry → Type 0
NoneMakesOrEnds number [] = Unit {0}
NoneMakesOrEnds number (entry ∷ entries) = (makes_or_ends number entry.call entry.reply ≡ false) × NoneMakesOrEnds number entries
