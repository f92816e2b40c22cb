-- What a cursor still gives where reading goes on and no other call comes between.
use Rattle.std.specs.Prelude.{◌≡◌, ◌≢◌, ℕ, nat_lt, Bool, List, [], ◌∷◌, length, filter, Option, Some}
use Rattle.clfs_lsn.specs.declared.entry.LogEntry.{LogEntry}
use Rattle.clfs_model.specs.declared.call.Call.{Call}
use Rattle.clfs_model.specs.declared.call.Call.TheVariants as calls
use Rattle.clfs_model.specs.declared.refusal.Refusal.TheVariants as refusals
use Rattle.clfs_model.specs.declared.reply.Happened.TheVariants.{Fine}
use Rattle.clfs_model.specs.declared.reply.Reply.{Reply}
use Rattle.clfs_model.specs.declared.reply.Reply.TheVariants as replies
use Rattle.clfs_model.specs.declared.state.State.{State}
use Rattle.clfs_model.specs.declared.state.Area.{Area}
use Rattle.clfs_lsn.specs.declared.cursor.Cursor.{Cursor}
use Rattle.clfs_lsn.specs.declared.cursor.CursorKind.{CursorKind}
use Rattle.clfs_lsn.specs.declared.cursor.CursorKind.TheVariants.{Records, RestartAreas}
use Rattle.clfs_model.specs.State.{area_of}
use Rattle.clfs_model.specs.Reading.{next, chain_from, restart_areas, record_cursor, restart_cursor}
use Rattle.clfs_model.specs.Step.{Step}

-- an area's cursor of this number that goes over records, or over restart areas
abbrev pub cursor_of_kind : Area → ℕ → CursorKind → Option Cursor
cursor_of_kind area number (Records mode) = record_cursor area number
cursor_of_kind area number RestartAreas = restart_cursor area number

-- what is still to come after the record that was given last: the chain from its next on, or the older restart areas
abbrev pub still_to_come : State → ℕ → CursorKind → ℕ → List LogEntry
still_to_come s stream (Records mode) last = chain_from s stream mode (length s.records) (next s stream mode last)
still_to_come s stream RestartAreas last = filter (λ (entry : LogEntry). nat_lt entry.lsn last) (restart_areas s stream)

-- A client's cursor, by the numbers of its area and its own, goes over these records in turn and is before the first of them.
pub record StillGives (s : State) (client number cursor : ℕ) (kind : CursorKind) (entries : List LogEntry) : Type 0 where
  pub area : Area
  pub area_there : area_of s client number ≡ Some area
  pub at : Cursor
  pub cursor_there : cursor_of_kind area cursor kind ≡ Some at
  pub same_kind : at.kind ≡ kind
  pub gives : still_to_come s area.stream kind at.last ≡ entries

-- the call that reads on with a cursor of this kind
abbrev pub read_on : CursorKind → ℕ → ℕ → Call
read_on (Records mode) number cursor = calls.ReadNext number cursor
read_on RestartAreas number cursor = calls.PreviousRestart number cursor

-- The same call of a client again and again, with these replies, where nothing happens and memory suffices.
abbrev pub Repeats : Bool → State → ℕ → Call → List Reply → State → Type 0
Repeats told s client call [] t = t ≡ s
Repeats told s client call (reply ∷ others) t = (mid : State) × Step told s client call Fine reply mid
    × (reply ≢ replies.Refused refusals.NoMemory) × Repeats told mid client call others t
