-- The conditions of calls, which speak of their arguments alone. The types bound the rest.
use Rattle.std.specs.Prelude.{ℕ, ◌<◌, ◌≤◌, ◌^◌, length}
use Rattle.clfs_lsn.specs.Limits.{most_clients, most_cursors}
use Rattle.clfs_model.specs.declared.call.Call.{Call}
use Rattle.clfs_model.specs.declared.call.Call.TheVariants as calls

-- a client is a number from 1 to 64
pub record IsClient (client : ℕ) : Type 0 where
  pub least : 1 ≤ client
  pub greatest : client ≤ most_clients

-- A name and the data of a record have less than 2^32 bytes, and an area is made for 1 to 16 cursors.
abbrev pub HasArguments : Call → Type 0
HasArguments (calls.OpenStream name) = length name < 2 ^ 32
HasArguments (calls.CreateArea stream largest reads) = (1 ≤ reads) × (reads ≤ most_cursors)
HasArguments (calls.Append area draft reserved sizes) = length draft.bytes < 2 ^ 32
HasArguments (calls.WriteRestart area bytes base reserved) = length bytes < 2 ^ 32
HasArguments _ = Unit {0}

-- a client that makes a call meets the call's condition
pub record MeetsCondition (client : ℕ) (call : Call) : Type 0 where
  pub is_client : IsClient client
  pub arguments : HasArguments call
