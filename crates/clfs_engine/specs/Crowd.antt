-- What a crowd prints, and how it ends.
use Rattle.std.specs.Prelude.{◌≡◌, ◌⊎◌, ℕ, ◌*◌, ◌≤◌, Bool, true, false, nat_lt, List, [], ◌++◌, count_by, codes, Option}
use Rattle.std.specs.List.{list_any}
use Rattle.std.specs.Io.KnownBytes.{Appends}
use Rattle.std.specs.Fmt.{decimal}
use Rattle.clfs_ports.specs.Cause.{Rises}
use Rattle.clfs_model.specs.declared.call.Call.{Call}
use Rattle.clfs_model.specs.declared.call.Call.TheVariants as calls
use Rattle.clfs_model.specs.declared.journal.Entry.{Entry}
use Rattle.clfs_model.specs.declared.reply.Reply.{Reply}
use Rattle.clfs_model.specs.declared.reply.Reply.TheVariants as replies
use Rattle.clfs_model.specs.declared.state.State.{State}
use Rattle.clfs_model.specs.Flush.{flushed}
use Rattle.clfs_model.specs.Journals.{IsLegal}
use Rattle.clfs_model.specs.State.{log_of}
use Rattle.clfs_engine.specs.Crew.{placed_in}
use Rattle.clfs_lines.specs.Answering.{Writes, WritesFront}

-- ---- the journal of a crowd

-- the log of a crowd when it has just been made: blocks of one sector, containers of 1,024, of which it has 8, and 4 write buffers
abbrev pub crowd_log : State
crowd_log = log_of 1 1024 8 4

-- an append that was refused
abbrev pub is_refused_append : Call → Reply → Bool
is_refused_append (calls.Append area draft reserved sizes) (replies.Refused given) = true
is_refused_append call reply = false

-- some append of these entries was refused
abbrev pub is_any_append_refused : List Entry → Bool
is_any_append_refused entries = list_any (λ (entry : Entry). is_refused_append entry.call entry.reply) entries

-- an append that was answered with an LSN below this one
abbrev pub is_placed_below : ℕ → Call → Reply → Bool
is_placed_below stable (calls.Append area draft reserved sizes) (replies.Placed lsn) = nat_lt lsn stable
is_placed_below stable call reply = false

-- how many of these entries are such appends
abbrev pub placed_below : ℕ → List Entry → ℕ
placed_below stable entries = count_by (λ (entry : Entry). is_placed_below stable entry.call entry.reply) entries

-- ---- the line that is printed

-- the threads and the count as they were given, the records that were appended, and those of which the group answered that they are on the disk
abbrev pub crowd_text : ℕ → ℕ → ℕ → ℕ → List ℕ
crowd_text threads count records stable =
    codes "crowd " ++ (decimal threads ++ (codes " " ++ (decimal count ++ (codes " records " ++ (decimal records
    ++ (codes " stable " ++ (decimal stable ++ codes "\n")))))))

-- A crowd's log took the calls of a journal, and this text tells what came of them. No append was refused, so those that aren't counted are no entries of
-- it; an append that there is no memory for is none.
pub record IsCrowdText (threads count : ℕ) (text : List ℕ) : Type 0 where
  pub journal : List Entry
  pub last : State
  pub records : ℕ
  pub stable : ℕ
  -- the journal is one step of the log machine after the other, from a log that was just made
  pub legal : IsLegal true journal crowd_log last
  -- no append of it was refused
  pub none_refused : is_any_append_refused journal ≡ false
  -- so many of its entries are appends that were answered with an LSN
  pub placed : placed_in journal ≡ records
  -- at least so many of these records are on the disk at its end
  pub on_disk : stable ≤ placed_below (flushed last) journal
  -- and these are all: a flush takes no memory
  pub answered : stable ≡ records
  -- there are no more than were asked for
  pub few : records ≤ threads * count
  pub is : text ≡ crowd_text threads count records stable

-- ---- the end

-- How a crowd ends: what each status says of what the sink has taken.
pub record EndsCrowd (status threads count : ℕ) (written written_after : Option (List ℕ)) (sink sink_after : ℕ) : Type 0 where
  -- done, a sink fault, no memory; there is no other status
  pub statuses : (status ≡ 0) ⊎ ((status ≡ 3) ⊎ (status ≡ 5))
  -- the line was written
  pub done : status ≡ 0 → Writes (IsCrowdText threads count) written written_after
  -- the sink failed in this call, and what was written is a front of the line
  pub sink_fault : status ≡ 3 → Rises sink sink_after
  pub sink_fault_front : status ≡ 3 → WritesFront (IsCrowdText threads count) written written_after
  -- memory ran out, and nothing was written
  pub no_memory_silence : status ≡ 5 → Appends written written_after []
  -- the sink's count of faults never falls
  pub sink_count : sink ≤ sink_after
