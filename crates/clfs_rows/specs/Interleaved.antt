-- Scripts of several clients, and journals of their calls.
use Rattle.std.specs.Prelude.{ℕ, List, [], ◌∷◌, codes}
use Rattle.clfs_lsn.specs.Lsn.{lsn_number}
use Rattle.clfs_lsn.specs.declared.entry.LogEntry.{LogEntry}
use Rattle.clfs_model.specs.declared.call.Call.{Call}
use Rattle.clfs_model.specs.declared.call.Call.TheVariants as calls
use Rattle.clfs_model.specs.declared.journal.Entry.{Entry}
use Rattle.clfs_model.specs.declared.refusal.Refusal.TheVariants as refusals
use Rattle.clfs_model.specs.declared.reply.Happened.TheVariants.{Fine, Fault}
use Rattle.clfs_model.specs.declared.reply.Reply.{Reply}
use Rattle.clfs_model.specs.declared.reply.Reply.TheVariants as replies
use Rattle.clfs_model.specs.declared.state.State.{State}
use Rattle.clfs_model.specs.Journals.{ClientScript}
use Rattle.clfs_rows.specs.Worked.{opened_log}
use Rattle.clfs_rows.specs.OwnEntries.{entry_for_line}
use Rattle.clfs_rows.specs.Crashes.{state_behind}
use Rattle.clfs_rows.specs.ReadAnew.{read_log}

-- a client's script
abbrev pub script : ℕ → List Call → ClientScript
script client own_calls = record { client = client; calls = own_calls }

-- client 1 asks for two calls, and client 2 for three
abbrev pub two_scripts : List ClientScript
two_scripts = script 1 (calls.Flush 1 ∷ calls.DeleteArea 1 ∷ []) ∷ script 2 (calls.Info 1 ∷ calls.ListExtents ∷ calls.Info 1 ∷ []) ∷ []

-- an entry of a client for a call; what is answered doesn't matter to a shuffle
abbrev pub entry_for : ℕ → Call → Entry
entry_for client call = record { client = client; number = 1; call = call; happened = Fine; reply = replies.Done }

-- a client's entry of this number, for a line that is answered so
abbrev pub entry_of : ℕ → ℕ → List ℕ → Reply → Entry
entry_of client number line reply = record (entry_for_line number line reply) { client = client }

-- client 1 appends a record
abbrev pub first_entry : Entry
first_entry = entry_of 1 1 (codes "1 append 1 aa 0:0:0 0:0:0") (replies.Placed (lsn_number 1 0 0))

-- then client 2 opens a stream
abbrev pub second_entry : Entry
second_entry = entry_of 2 1 (codes "2 open b") (replies.Stream 2)

-- and then client 1 flushes
abbrev pub third_entry : Entry
third_entry = entry_of 1 2 (codes "1 flush 1") (replies.Flushed (lsn_number 1 512 0))

-- the state after the first of these entries
abbrev pub behind_first : State
behind_first = state_behind opened_log (codes "1 append 1 aa 0:0:0 0:0:0")

-- after the second
abbrev pub behind_second : State
behind_second = state_behind behind_first (codes "2 open b")

-- after the third
abbrev pub behind_third : State
behind_third = state_behind behind_second (codes "1 flush 1")

-- in place of the flush: the disk fails in it
abbrev pub fault_entry : Entry
fault_entry = record (entry_of 1 2 (codes "1 flush 1") (replies.Refused refusals.DiskFault)) { happened = Fault }

-- and then client 2 finds the log broken
abbrev pub broken_entry : Entry
broken_entry = entry_of 2 1 (codes "2 open b") (replies.Refused refusals.Broken)

-- an append that memory doesn't suffice for
abbrev pub want_entry : Entry
want_entry = entry_of 1 1 (codes "1 append 1 aa 0:0:0 0:0:0") (replies.Refused refusals.NoMemory)

-- a read of the record at 1:200:0, which is given so
abbrev pub read_entry : LogEntry → Entry
read_entry entry = entry_of 1 1 (codes "1 read 1 1:200:0 forward") (replies.Found 3 entry)

-- the state after it
abbrev pub behind_read : State
behind_read = state_behind read_log (codes "1 read 1 1:200:0 forward")
