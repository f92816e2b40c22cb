-- The calls of lines, client by client, as the program gathers them.
use Rattle.std.specs.Prelude.{◌≡◌, ℕ, ◌==◌, Bool, if◌then◌else◌, true, List, [], ◌∷◌, ◌++◌, map}
use Rattle.std.specs.List.{All}
use Rattle.clfs_turn.specs.Lists.{is_in, are_distinct}
use Rattle.clfs_model.specs.declared.call.Call.{Call}
use Rattle.clfs_model.specs.Conditions.{IsClient, HasArguments}
use Rattle.clfs_model.specs.Journals.{ClientScript}
use Rattle.clfs_model.specs.Run.{Request, asks, reopens, bad_line}
use Rattle.clfs_race.specs.Scripts.{calls_asked, bad_places}
use Rattle.clfs_race.specs.Meets.{Meets}
use Rattle.clfs_race.specs.declared.dividing.Division.{Division}

-- the clients of scripts
abbrev pub clients_of : List ClientScript → List ℕ
clients_of scripts = map (λ (script : ClientScript). script.client) scripts

-- whether a script is the client's
abbrev pub is_of : ℕ → ClientScript → Bool
is_of client script = script.client == client

-- the calls of a client among scripts; none if it has no script
abbrev pub calls_in : List ClientScript → ℕ → List Call
calls_in [] client = []
calls_in (script ∷ scripts) client = if is_of client script then script.calls else calls_in scripts client

-- scripts with one call more of a client, which gets a script if it had none
abbrev pub with_call : List ClientScript → ℕ → Call → List ClientScript
with_call [] client call = record { client = client; calls = call ∷ [] } ∷ []
with_call (script ∷ scripts) client call =
    if is_of client script then record script { calls = script.calls ++ call ∷ [] } ∷ scripts else script ∷ with_call scripts client call

-- scripts with what one line more asks for
abbrev pub with_request : List ClientScript → Request → List ClientScript
with_request scripts (asks client call) = with_call scripts client call
with_request scripts (reopens client) = scripts
with_request scripts (bad_line at) = scripts

-- the calls of a script meet their conditions
abbrev pub HasAllArguments : ClientScript → Type 0
HasAllArguments script = All HasArguments script.calls

-- Each client that asks for calls has one script, with its calls in order, and each line that asks for nothing has its place.
pub record IsDivided (requests : List Request) (division : Division) : Type 0 where
  pub bad : division.bad.items ≡ bad_places requests
  pub calls : (client : ℕ) → calls_in division.scripts.items client ≡ calls_asked client requests
  pub apart : are_distinct (clients_of division.scripts.items) ≡ true
  pub clients : (client : ℕ) → is_in client (clients_of division.scripts.items) ≡ true → IsClient client
  pub arguments : All HasAllArguments division.scripts.items

-- One line more was read, which asks for this.
pub record IsDividedFurther (old : Division) (request : Request) (new : Division) : Type 0 where
  pub scripts : new.scripts.items ≡ with_request old.scripts.items request
  pub bad : new.bad.items ≡ old.bad.items ++ bad_places (request ∷ [])
  pub meets : Meets request
