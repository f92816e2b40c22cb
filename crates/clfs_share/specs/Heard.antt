-- Clients on their way through their threads, whatever is done for them there, and what a journal has heard of them then.
use Rattle.std.specs.Prelude.{◌≡◌, ℕ, ◌+◌, List, [], ◌∷◌, All}
use Rattle.clfs_model.specs.declared.journal.Entry.{Entry}
use Rattle.clfs_turn.specs.Seats.{HasSeen, IsSameSeat}
use Rattle.clfs_shared.specs.declared.opening.Opening.{Opening}
use Rattle.clfs_shared.specs.Journal.{client_of}
use Rattle.clfs_shared.specs.Sessions.{SessionState, SharedState, IsOf}
use Rattle.clfs_share.specs.declared.clients.Client.{Client}

-- What is done for a client: from what is to be done and the session, to what was done and the session then.
abbrev pub Serves : Type 0 → Type 1
Serves C = C → SessionState → C → SessionState → Type 0

-- the sessions of clients are of this log
pub record AreClientsOf {C : Type 0} (log : SharedState) (clients : List (Client C)) : Type 0 where
  pub each : All (λ (client : Client C). IsOf log client.session) clients

-- what is done for a client
abbrev pub service_of : {C : Type 0} → Client C → C
service_of client = client.service

-- one client before and after
pub record HasEnded {C : Type 0} (serves : Serves C) (old new : Client C) : Type 0 where
  pub same : IsSameSeat old.session new.session
  pub served : serves old.service old.session new.service new.session

-- clients before and after, in the same order
abbrev pub HaveEnded : {C : Type 0} → Serves C → List (Client C) → List (Client C) → Type 0
HaveEnded serves [] [] = Unit {0}
HaveEnded serves [] (new ∷ others) = ⊥
HaveEnded serves (old ∷ clients) [] = ⊥
HaveEnded serves (old ∷ clients) (new ∷ others) = HasEnded serves old new × HaveEnded serves clients others

-- A client of this number was served by a session that began with the log and had seen nothing then, and the journal has all its calls.
pub record WasHeard {P C : Type 0} (begun_by : C → P) (serves : Serves C) (opening : Opening) (journal : List Entry) (client : ℕ) (openers : P) (ended : C) : Type 0 where
  pub begun : C
  pub is : begun_by begun ≡ openers
  pub session : SessionState
  pub seen : session.seen ≡ []
  pub begins : session.opening ≡ opening
  pub number : session.client ≡ client
  pub left : SessionState
  pub same : IsSameSeat session left
  pub heard : HasSeen client_of journal left
  pub served : serves begun session ended left

-- clients with their numbers, of which the first has this one
abbrev pub AreHeard : {P C : Type 0} → (C → P) → Serves C → Opening → List Entry → ℕ → List P → List C → Type 0
AreHeard begun_by serves opening journal client [] [] = Unit {0}
AreHeard begun_by serves opening journal client [] (ended ∷ others) = ⊥
AreHeard begun_by serves opening journal client (openers ∷ more) [] = ⊥
AreHeard begun_by serves opening journal client (openers ∷ more) (ended ∷ others) =
    WasHeard begun_by serves opening journal client openers ended × AreHeard begun_by serves opening journal (client + 1) more others
