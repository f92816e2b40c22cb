-- What the parts of a race do.
use Rattle.std.specs.Prelude.{◌≡◌, ◌⊎◌, ℕ, ◌≤◌, ◌==◌, Bool, true, List, [], ◌++◌, length, All, Option}
use Rattle.std.specs.List.{list_all}
use Rattle.std.specs.Io.KnownBytes.{Appends}
use mathlib.Core.List.{IsPrefix}
use Rattle.clfs_ports.specs.Cause.{Rises}
use Rattle.clfs_disk.specs.State.{DiskState}
use Rattle.clfs_model.specs.declared.journal.Entry.{Entry}
use Rattle.clfs_model.specs.declared.state.State.{State}
use Rattle.clfs_model.specs.Conditions.{IsClient}
use Rattle.clfs_model.specs.Journals.{ClientScript, mine}
use Rattle.clfs_race.specs.Divided.{calls_in}
use Rattle.clfs_race.specs.declared.input.ScriptEnd.{ScriptEnd}
use Rattle.clfs_race.specs.declared.input.ScriptEnd.TheVariants.{Whole, Fault, TooLong}
use Rattle.clfs_shared.specs.declared.opening.Opening.{Opening}
use Rattle.clfs_shared.specs.Reached.{IsReached}
use Rattle.clfs_lines.specs.Ends.{AppendsFront}
use Rattle.clfs_lines.specs.Answering.{too_long_text}
use Rattle.clfs_operations.specs.Made.{calls_of}

-- each client has as many entries as calls
abbrev pub has_all : List Entry → List ClientScript → Bool
has_all journal scripts = list_all (λ (script : ClientScript). length (mine journal script.client) == length script.calls) scripts

-- A log took the calls of clients since its opening: of each some of its script, the first ones in order, or all of them.
pub record HasRun (o : Opening) (scripts : List ClientScript) (disk : DiskState) (s : State) (journal : List Entry) (whole : Bool) : Type 0 where
  pub reached : IsReached o disk s journal
  pub fronts : (client : ℕ) → IsPrefix (calls_of (mine journal client)) (calls_in scripts client)
  pub all : whole ≡ true → (client : ℕ) → calls_of (mine journal client) ≡ calls_in scripts client
  pub clients : All (λ (entry : Entry). IsClient entry.client) journal

-- what stands after the replies
abbrev pub end_text : ScriptEnd → List ℕ
end_text Whole = []
end_text Fault = []
end_text TooLong = too_long_text

-- the status of a race that was done
abbrev pub end_status : ScriptEnd → ℕ
end_status Whole = 0
end_status Fault = 2
end_status TooLong = 7

-- Replies were written whole, or a front of them was, or nothing. Nothing is written where some call wasn't made.
pub record TellsRace (status : ℕ) (whole : Bool) (end : ScriptEnd) (text : List ℕ) (written written_after : Option (List ℕ)) (sink sink_after : ℕ) : Type 0 where
  pub statuses : ((whole ≡ true) × ((status ≡ end_status end) ⊎ (status ≡ 3))) ⊎ (status ≡ 5)
  pub done : status ≡ end_status end → Appends written written_after (text ++ end_text end)
  pub front : status ≡ 3 → AppendsFront written written_after (text ++ end_text end)
  pub cause : status ≡ 3 → Rises sink sink_after
  pub silence : status ≡ 5 → Appends written written_after []
  pub sink_count : sink ≤ sink_after
