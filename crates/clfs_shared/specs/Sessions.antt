-- What contracts of the shared log say of a session.
use Rattle.std.specs.Prelude.{◌≡◌, ◌≢◌, ◌⊎◌, ℕ, ◌+◌, Bool, true, false, List, [], ◌∷◌, ◌++◌, length, Some}
use mathlib.Core.List.{IsPrefix}
use Rattle.clfs_turn.specs.Lists.{is_in}
use Rattle.clfs_turn.specs.Seats.{SeatState, LockState, own}
use Rattle.clfs_model.specs.declared.call.Call.{Call}
use Rattle.clfs_model.specs.declared.call.Call.TheVariants as calls
use Rattle.clfs_model.specs.declared.journal.Entry.{Entry}
use Rattle.clfs_model.specs.declared.refusal.Refusal.{Refusal}
use Rattle.clfs_model.specs.declared.refusal.Refusal.TheVariants as refusals
use Rattle.clfs_model.specs.declared.reply.Reply.{Reply}
use Rattle.clfs_model.specs.declared.reply.Reply.TheVariants as replies
use Rattle.clfs_model.specs.declared.state.State.{State}
use Rattle.clfs_model.specs.declared.state.Area.{Area}
use Rattle.clfs_model.specs.State.{area_of}
use Rattle.clfs_model.specs.Happened.{happened_of}
use Rattle.clfs_model.specs.Journals.{IsLegal, mine, held_in, held_by}
use Rattle.clfs_model.specs.Step.{Step, IsDamaged, takes_memory}
use Rattle.clfs_model.specs.Storable.{IsStorable}
use Rattle.clfs_model.specs.Valid.{IsValid}
use Rattle.clfs_model.specs.Conditions.{IsClient}
use Rattle.clfs_manager.specs.Reading.{TellsBlock}
use Rattle.clfs_laws.specs.Rows.{row_in, row_through, NoneMakesOrEnds}
use Rattle.clfs_shared.specs.declared.opening.Opening.{Opening}
use Rattle.clfs_shared.specs.Journal.{entry_of, client_of, has_fault, has_damage, is_out_of_memory}
use Rattle.clfs_shared.specs.Reached.{is_calm}

-- a session, as contracts see it
abbrev pub SessionState : Type 0
SessionState = SeatState Entry Opening

-- a shared log, as contracts see it
abbrev pub SharedState : Type 0
SharedState = LockState Opening

-- the calls that a session's client made, of those that it has seen
abbrev pub own_entries : SessionState → List Entry
own_entries s = own client_of s

-- the session is one of this log
pub record IsOf (log : SharedState) (s : SessionState) : Type 0 where
  pub lock : s.lock ≡ log.lock
  pub opening : s.opening ≡ log.opening
  pub client : is_in s.client log.clients ≡ true

-- One call of a client under the lock: out of memory changes nothing, and comes to a call that takes memory, or where the journal may lack it for a
-- further entry of the client. Every other reply is the machine's, with one entry more; damage is told of the block of the record to which the call comes.
pub record HasRun (may_lack : List Entry → Type 0) (told : Bool) (s : State) (before : List Entry) (client : ℕ) (call : Call) (reply : Reply) (t : State) (after : List Entry) : Type 0 where
  pub none : is_out_of_memory reply ≡ true → (after ≡ before) × (t ≡ s)
  pub wanted : is_out_of_memory reply ≡ true → (takes_memory call ≡ true) ⊎ may_lack (mine before client)
  pub step : is_out_of_memory reply ≡ false → Step told s client call (happened_of reply) reply t
  pub place : is_out_of_memory reply ≡ false → (given : Refusal) → reply ≡ replies.Refused given → TellsBlock s client call given
  pub entry : is_out_of_memory reply ≡ false → after ≡ before ++ entry_of client (length (mine before client) + 1) call reply ∷ []

-- A call's place in the journal: what came before begins with all that the session had seen, and leads from the opening to the state from which
-- the call is a step. The session has seen all of it then, with the call at its end, and its own calls became more by just this one. No entry that
-- it has seen is a fault where the disk is calm, and none is damage where the disk tells what its files hold; elsewhere damage is told of the block of the
-- record to which the call comes.
pub record IsStepped (s t : SessionState) (call : Call) (reply : Reply) : Type 0 where
  pub before : List Entry
  pub found : State
  pub left : State
  pub begins : IsPrefix s.seen before
  pub legal : IsLegal s.opening.tells_contents before s.opening.state found
  pub step : Step s.opening.tells_contents found s.client call (happened_of reply) reply left
  pub place : (given : Refusal) → reply ≡ replies.Refused given → TellsBlock found s.client call given
  pub whole : IsLegal s.opening.tells_contents t.seen s.opening.state left
  pub ends : t.seen ≡ before ++ entry_of s.client (length (own_entries s) + 1) call reply ∷ []
  pub grew : own_entries t ≡ own_entries s ++ entry_of s.client (length (own_entries s) + 1) call reply ∷ []
  pub others : own_entries s ≡ mine before s.client
  pub calm : is_calm s.opening ≡ true → has_fault t.seen ≡ false
  pub damage : s.opening.tells_contents ≡ true → has_damage t.seen ≡ false

-- What a session's own entries say of its areas in a state to which all that it has seen leads: the sectors that one holds, what it was made for,
-- and that it is there as it was made, where the last own entry that made or deleted it made it.
pub record HasAreas (s : SessionState) (at : State) : Type 0 where
  pub held : (number : ℕ) → held_in at s.client number ≡ held_by s.opening.state s.client (own_entries s) number
  pub row : (number : ℕ) → row_in at s.client number ≡ row_through number (row_in s.opening.state s.client number) (own_entries s)
  pub there : (stream largest reads number : ℕ) (before after : List Entry) (entry : Entry) → own_entries s ≡ before ++ entry ∷ after
      → entry.call ≡ calls.CreateArea stream largest reads → entry.reply ≡ replies.Area number → NoneMakesOrEnds number after
      → (area : Area) × (area_of at s.client number ≡ Some area)
      × (area.stream ≡ stream) × (area.largest ≡ largest) × (area.reads ≡ reads)

-- a reply that tells neither a fault of the disk, nor damage, nor that the log is broken
pub record IsCalmReply (reply : Reply) : Type 0 where
  pub fault : reply ≢ replies.Refused refusals.DiskFault
  pub damage : IsDamaged reply → ⊥
  pub broken : reply ≢ replies.Refused refusals.Broken

-- entries that a log goes through from its opening
abbrev pub IsLegalFrom : Opening → List Entry → Type 0
IsLegalFrom o entries = (s : State) × IsLegal o.tells_contents entries o.state s

-- what is true of a shared log: it began in a state that a log can be in and that files can hold, and its clients are clients
pub record IsShared (log : SharedState) : Type 0 where
  pub valid : IsValid log.opening.state
  pub storable : IsStorable log.opening.state
  pub clients : (c : ℕ) → is_in c log.clients ≡ true → IsClient c
