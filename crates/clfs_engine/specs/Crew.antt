-- What a crew prints, and how it ends.
use Rattle.std.specs.Prelude.{◌≡◌, ◌⊎◌, ℕ, ◌+◌, ◌*◌, ◌≤◌, Bool, true, false, List, [], ◌++◌, count_by, codes, Option}
use Rattle.std.specs.List.{list_any}
use Rattle.std.specs.Io.KnownBytes.{Appends}
use Rattle.std.specs.Fmt.{decimal}
use Rattle.clfs_ports.specs.Cause.{Rises}
use Rattle.clfs_model.specs.declared.call.Call.{Call}
use Rattle.clfs_model.specs.declared.call.Call.TheVariants as calls
use Rattle.clfs_model.specs.declared.journal.Entry.{Entry}
use Rattle.clfs_model.specs.declared.reply.Reply.{Reply}
use Rattle.clfs_model.specs.declared.reply.Reply.TheVariants as replies
use Rattle.clfs_model.specs.declared.state.State.{State}
use Rattle.clfs_model.specs.Journals.{IsLegal, held_in}
use Rattle.clfs_model.specs.State.{log_of}
use Rattle.clfs_lines.specs.Answering.{Writes, WritesFront}
use Rattle.clfs_operations.specs.Trial.{is_refusal}

-- ---- the journal of a crew

-- the log of a crew when it has just been made: blocks of one sector, containers of 1,024, of which it has 8, and 4 write buffers
abbrev pub crew_log : State
crew_log = log_of 1 1024 8 4

-- the client whose area the threads share
abbrev pub crew_client : ℕ
crew_client = 1

-- an append that was answered with an LSN
abbrev pub is_placed : Call → Reply → Bool
is_placed (calls.Append area draft reserved sizes) (replies.Placed lsn) = true
is_placed call reply = false

-- how many of these entries are such appends
abbrev pub placed_in : List Entry → ℕ
placed_in entries = count_by (λ (entry : Entry). is_placed entry.call entry.reply) entries

-- some entry was refused
abbrev pub is_any_refused : List Entry → Bool
is_any_refused entries = list_any (λ (entry : Entry). is_refusal entry.reply) entries

-- ---- the line that is printed

-- the threads and the count as they were given, the records that were appended, and the sectors that are still held
abbrev pub crew_text : ℕ → ℕ → ℕ → ℕ → List ℕ
crew_text threads count records held =
    codes "crew " ++ (decimal threads ++ (codes " " ++ (decimal count ++ (codes " records " ++ (decimal records
    ++ (codes " held " ++ (decimal held ++ codes "\n")))))))

-- A crew's log took the calls of a journal, and this text tells what came of them. None was refused, so the appends that aren't counted are no entries of
-- it; an append that there is no memory for is none. Their sectors are still held.
pub record IsCrewText (threads count : ℕ) (text : List ℕ) : Type 0 where
  pub journal : List Entry
  pub last : State
  pub area : ℕ
  pub records : ℕ
  pub held : ℕ
  -- the journal is one step of the log machine after the other, from a log that was just made
  pub legal : IsLegal true journal crew_log last
  -- no entry of it was refused
  pub none_refused : is_any_refused journal ≡ false
  -- so many of its entries are appends that were answered with an LSN
  pub placed : placed_in journal ≡ records
  -- and at its end the area holds so many sectors
  pub holds : held_in last crew_client area ≡ held
  -- these are all records that were asked for
  pub all : records + held ≡ threads * count
  pub is : text ≡ crew_text threads count records held

-- ---- the end

-- How a crew ends: what each status says of what the sink has taken.
pub record EndsCrew (status threads count : ℕ) (written written_after : Option (List ℕ)) (sink sink_after : ℕ) : Type 0 where
  -- done, a sink fault, no memory; there is no other status
  pub statuses : (status ≡ 0) ⊎ ((status ≡ 3) ⊎ (status ≡ 5))
  -- the line was written
  pub done : status ≡ 0 → Writes (IsCrewText threads count) written written_after
  -- the sink failed in this call, and what was written is a front of the line
  pub sink_fault : status ≡ 3 → Rises sink sink_after
  pub sink_fault_front : status ≡ 3 → WritesFront (IsCrewText threads count) written written_after
  -- memory ran out, and nothing was written
  pub no_memory_silence : status ≡ 5 → Appends written written_after []
  -- the sink's count of faults never falls
  pub sink_count : sink ≤ sink_after
