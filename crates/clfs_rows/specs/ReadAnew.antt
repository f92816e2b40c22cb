-- Records that lines are answered with, and the state after them, over disks that tell what they hold and over others.
use Rattle.std.specs.Prelude.{ℕ, Bool, List, [], ◌∷◌, ◌++◌, codes}
use Rattle.clfs_lsn.specs.Lsn.{null_lsn, lsn_number}
use Rattle.clfs_lsn.specs.declared.entry.LogEntry.{LogEntry}
use Rattle.clfs_lsn.specs.declared.entry.Kind.TheVariants.{Plain, Restart}
use Rattle.clfs_model.specs.declared.reply.Happened.TheVariants.{Fine}
use Rattle.clfs_model.specs.declared.reply.Reply.{Reply}
use Rattle.clfs_model.specs.declared.reply.Reply.TheVariants as replies
use Rattle.clfs_model.specs.declared.state.State.{State}
use Rattle.clfs_model.specs.Step.{Step}
use Rattle.clfs_model.specs.Run.{state_after}
use Rattle.clfs_model.specs.Script.{line_request, script_requests}
use Rattle.clfs_rows.specs.Worked.{opened_log}
use Rattle.clfs_rows.specs.OwnEntries.{call_asked}
use Rattle.clfs_rows.specs.Crashes.{state_behind}

-- Records at 1:0:0, 1:200:0 and 1:400:0, of which the last isn't flushed. Cursors 1 and 2 stand at the first two.
abbrev pub read_log : State
read_log = state_after opened_log (script_requests (codes "1 append 1 aa 0:0:0 0:0:0 flush\n1 append 1 bb 1:0:0 1:0:0 flush\n"
    ++ codes "1 append 1 cc 0:0:0 0:0:0\n1 read 1 1:0:0 forward\n1 read 1 1:200:0 forward\n"))

-- a client's record of the first stream, with these links and a byte of data
abbrev pub record_of : ℕ → ℕ → ℕ → LogEntry
record_of lsn link byte = record {
  lsn = lsn;
  stream = 1;
  kind = Plain;
  previous = link;
  undo_next = link;
  new_base = null_lsn;
  bytes = byte ∷ [];
}

-- the second one of them as it is
abbrev pub second_record : LogEntry
second_record = record_of (lsn_number 1 512 0) (lsn_number 1 0 0) 187

-- the third one as it is
abbrev pub third_record : LogEntry
third_record = record_of (lsn_number 1 1024 0) null_lsn 204

-- a restart area with a base after that record, which is flushed with it
abbrev pub restart_log : State
restart_log = state_behind read_log (codes "1 restart 1 dd 1:400:0")

-- the restart area as it is, at 1:400:1
abbrev pub restart_area : LogEntry
restart_area = record (record_of (lsn_number 1 1024 1) null_lsn 221) { kind = Restart; new_base = lsn_number 1 1024 0 }

-- Client 1's line may be answered with this reply, and may leave this state, where nothing happens.
abbrev pub MayReply : Bool → State → List ℕ → Reply → State → Type 0
MayReply told s line reply t = Step told s 1 (call_asked (line_request line)) Fine reply t

-- The line may be answered with a cursor and this record.
abbrev pub MayFind : Bool → State → List ℕ → ℕ → LogEntry → Type 0
MayFind told s line cursor entry = MayReply told s line (replies.Found cursor entry) (state_behind s line)

-- The line may be answered with this record, to which a cursor came.
abbrev pub MayComeTo : Bool → State → List ℕ → LogEntry → Type 0
MayComeTo told s line entry = MayReply told s line (replies.Next entry) (state_behind s line)
