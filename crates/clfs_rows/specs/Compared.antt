-- Logs whose records in the first container no reply can show, and what is the same as they are or not.
use Rattle.std.specs.Prelude.{ℕ, ◌+◌, Bool, ◌++◌, codes, map, take, drop}
use Rattle.std.specs.List.{flat_map, range_with_len}
use Rattle.clfs_lsn.specs.declared.entry.LogEntry.{LogEntry}
use Rattle.clfs_model.specs.declared.reply.Reply.TheVariants as replies
use Rattle.clfs_model.specs.declared.reply.Happened.TheVariants.{Fine}
use Rattle.clfs_model.specs.declared.state.State.{State}
use Rattle.clfs_model.specs.Step.{ReopenStep}
use Rattle.clfs_model.specs.Run.{state_after}
use Rattle.clfs_model.specs.Script.{script_requests}
use Rattle.clfs_rows.specs.Worked.{opened_log}

-- Eight blocks of a record each fill the first container, and the first block of the second one has three records. All are flushed, and
-- the second of these three is the base, so the hold lies in the second container. The place is at 2:200:0.
abbrev pub two_containers : State
two_containers = state_after opened_log (script_requests (flat_map (λ _. codes "1 append 1 aa 0:0:0 0:0:0 seal\n") (range_with_len 0 8)
    ++ codes "1 append 1 b0 0:0:0 0:0:0\n1 append 1 b1 0:0:0 0:0:0\n1 append 1 b2 0:0:0 0:0:0 flush\n1 advance 1 2:0:1\n"))

-- the same with a record at 2:200:0 that waits
abbrev pub unflushed_log : State
unflushed_log = state_after two_containers (script_requests (codes "1 append 1 b3 0:0:0 0:0:0 seal\n"))

-- the log without its first records, so many of them
abbrev pub without_first : ℕ → State → State
without_first count s = record s { records = drop count s.records }

-- the log without one record, which so many others go before
abbrev pub without_one : ℕ → State → State
without_one before s = record s { records = take before s.records ++ drop (before + 1) s.records }

-- the log with one record changed, which so many others go before
abbrev pub with_one_changed : (LogEntry → LogEntry) → ℕ → State → State
with_one_changed change before s =
    record s { records = take before s.records ++ (map change (take 1 (drop before s.records)) ++ drop (before + 1) s.records) }

-- Opening the log again is answered with this LSN, and leaves this state.
abbrev pub OpensTo : Bool → State → ℕ → State → Type 0
OpensTo told s lsn t = ReopenStep told s Fine (replies.Flushed lsn) t

-- a record that goes on with itself, which none does
abbrev pub with_link_to_itself : LogEntry → LogEntry
with_link_to_itself entry = record entry { previous = entry.lsn }
