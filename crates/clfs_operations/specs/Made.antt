-- What the clients of a race have made of a shared log.
use Rattle.std.specs.Prelude.{◌≡◌, ℕ, ◌≤◌, List, ◌++◌, map, take, length}
use Rattle.clfs_turn.specs.Seats.{IsSameSeat}
use Rattle.clfs_model.specs.declared.call.Call.{Call}
use Rattle.clfs_model.specs.declared.journal.Entry.{Entry}
use Rattle.clfs_shared.specs.Sessions.{SessionState, own_entries}

-- the calls of entries
abbrev pub calls_of : List Entry → List Call
calls_of entries = map (λ (entry : Entry). entry.call) entries

-- A client's own entries became more by the first so many of its calls, in order and each once.
pub record HasMade (s t : SessionState) (calls : List Call) (made : ℕ) : Type 0 where
  pub same : IsSameSeat s t
  pub calls_are : calls_of (own_entries t) ≡ calls_of (own_entries s) ++ take made calls

-- the same of some of its calls: all up to one that ran out of memory
pub record HasMadeSome (s t : SessionState) (calls : List Call) : Type 0 where
  pub count : ℕ
  pub few : count ≤ length calls
  pub made : HasMade s t calls count
