-- Journals: the calls of several clients in the order in which the log took them.
use Rattle.std.specs.Prelude.{◌≡◌, ◌≢◌, ℕ, ◌+◌, ◌-◌, Bool, ◌==◌, if◌then◌else◌, List, [], ◌∷◌, ◌++◌, length, filter, map, All, Contains}
use Rattle.clfs_model.specs.declared.call.Call.{Call}
use Rattle.clfs_model.specs.declared.call.Call.TheVariants as calls
use Rattle.clfs_model.specs.declared.journal.Entry.{Entry}
use Rattle.clfs_model.specs.declared.refusal.Refusal.TheVariants as refusals
use Rattle.clfs_model.specs.declared.reply.Reply.{Reply}
use Rattle.clfs_model.specs.declared.reply.Reply.TheVariants as replies
use Rattle.clfs_model.specs.declared.state.State.{State}
use Rattle.clfs_model.specs.declared.state.Area.{Area}
use Rattle.clfs_model.specs.State.{area_of}
use Rattle.clfs_model.specs.Space.{own_sum}
use Rattle.clfs_model.specs.Put.{spent_of}
use Rattle.clfs_model.specs.Step.{Step}
use Rattle.std.specs.Option.{option_map_or}

-- the entries of a client
abbrev pub mine : List Entry → ℕ → List Entry
mine journal client = filter (λ (entry : Entry). entry.client == client) journal

-- One entry after others is a step of the machine. Out of memory is no entry, and the number counts the client's entries from 1.
pub record IsNext (told : Bool) (before : List Entry) (s : State) (entry : Entry) (t : State) : Type 0 where
  pub step : Step told s entry.client entry.call entry.happened entry.reply t
  pub no_want : entry.reply ≢ replies.Refused refusals.NoMemory
  pub number : entry.number ≡ length (mine before entry.client) + 1

-- entries that go on after others, from a state to another
abbrev pub GoesOn : Bool → List Entry → State → List Entry → State → Type 0
GoesOn told before s [] t = t ≡ s
GoesOn told before s (entry ∷ entries) t =
    (mid : State) × (IsNext told before s entry mid × GoesOn told (before ++ entry ∷ []) mid entries t)

-- A legal journal is one step of the machine after the other, from the opening state to the last.
abbrev pub IsLegal : Bool → List Entry → State → State → Type 0
IsLegal told journal s t = GoesOn told [] s journal t

-- the sectors that the client's area of a number holds after one of the client's own entries, by its call and its reply alone
abbrev pub held_after : ℕ → ℕ → Call → Reply → ℕ
held_after area held call (replies.Area number) = if number == area then 0 else held
held_after area held (calls.DeleteArea number) replies.Done = if number == area then 0 else held
held_after area held (calls.Reserve number sizes) (replies.Held now) = if number == area then now else held
held_after area held (calls.Release number sectors) (replies.Held now) = if number == area then now else held
held_after area held (calls.Append number draft reserved sizes) (replies.Placed lsn) =
    if number == area then held - spent_of reserved (length draft.bytes) + own_sum sizes else held
held_after area held (calls.WriteRestart number bytes base reserved) (replies.Placed lsn) =
    if number == area then held - spent_of reserved (length bytes) else held
held_after area held call reply = held

-- the same after several of them
abbrev pub held_through : ℕ → ℕ → List Entry → ℕ
held_through area held [] = held
held_through area held (entry ∷ entries) = held_through area (held_after area held entry.call entry.reply) entries

-- the sectors that the client's area of a number holds in a state, or 0 where there is no such area
abbrev pub held_in : State → ℕ → ℕ → ℕ
held_in s client number = option_map_or (λ (area : Area). area.held) (area_of s client number) 0

-- the sectors that a client's area holds, computed from the opening state and the client's own entries
abbrev pub held_by : State → ℕ → List Entry → ℕ → ℕ
held_by s client own_entries area = held_through area (held_in s client area) own_entries

-- the lines of one client in order
pub record ClientScript : Type 0 where
  pub client : ℕ
  pub calls : List Call

-- A journal shuffles scripts: of each client it has the calls of its lines, in order and each once, and of no other client any.
pub record IsShuffle (journal : List Entry) (scripts : List ClientScript) : Type 0 where
  pub each : All (λ (script : ClientScript). map (λ (entry : Entry). entry.call) (mine journal script.client) ≡ script.calls) scripts
  pub none_else : All (λ (entry : Entry). Contains (map (λ (script : ClientScript). script.client) scripts) entry.client) journal
