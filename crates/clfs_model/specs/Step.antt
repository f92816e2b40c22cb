-- One call of the log machine: what it may reply, and the state that it leaves.
use Rattle.std.specs.Prelude.{◌≡◌, ℕ, ◌+◌, ◌⊎◌, Bool, true, false, not, ◌&&◌, ◌||◌, ◌==◌, nat_lt, nat_le, if◌then◌else◌, List, [], length, None, is_some, is_none, MatchBool, MatchOption, IsTrue}
use Rattle.clfs_lsn.specs.Place.{joins, begins_here}
use Rattle.clfs_lsn.specs.declared.entry.LogEntry.{LogEntry}
use Rattle.clfs_model.specs.declared.call.Call.{Call}
use Rattle.clfs_model.specs.declared.call.Call.TheVariants as calls
use Rattle.clfs_model.specs.declared.call.Draft.{Draft}
use Rattle.clfs_model.specs.declared.refusal.Refusal.TheVariants as refusals
use Rattle.clfs_model.specs.declared.reply.Happened.{Happened}
use Rattle.clfs_model.specs.declared.reply.Happened.TheVariants.{Fine, Fault, Damage}
use Rattle.clfs_model.specs.declared.reply.Reply.{Reply}
use Rattle.clfs_model.specs.declared.reply.Reply.TheVariants as replies
use Rattle.clfs_model.specs.declared.state.State.{State}
use Rattle.clfs_model.specs.Space.{own_sum, grown}
use Rattle.clfs_model.specs.Flush.{flushed, cut, IsSame}
use Rattle.clfs_model.specs.Put.{need_of, made_ready}
use Rattle.clfs_model.specs.Refusals.{refusal, stream_number}
use Rattle.clfs_model.specs.Answers.{Outcome, answer}
use Rattle.clfs_model.specs.Valid.{IsValid}
use Rattle.clfs_model.specs.Storable.{IsStorable}

-- the calls that out of memory may refuse
abbrev pub takes_memory : Call → Bool
takes_memory (calls.OpenStream name) = true
takes_memory (calls.CreateArea stream largest reads) = true
takes_memory (calls.Reserve area sizes) = true
takes_memory (calls.Append area draft reserved sizes) = true
takes_memory (calls.Read area lsn mode) = true
takes_memory (calls.ReadNext area cursor) = true
takes_memory (calls.WriteRestart area bytes base reserved) = true
takes_memory (calls.ReadRestart area) = true
takes_memory (calls.PreviousRestart area cursor) = true
takes_memory calls.ListExtents = true
takes_memory (calls.SetSize containers) = true
takes_memory _ = false

-- the calls that read records from the disk
abbrev pub reads_disk : Call → Bool
reads_disk (calls.Read area lsn mode) = true
reads_disk (calls.ReadNext area cursor) = true
reads_disk (calls.ReadRestart area) = true
reads_disk (calls.PreviousRestart area cursor) = true
reads_disk _ = false

-- something isn't on the disk yet
abbrev pub is_pending : State → Bool
is_pending s = nat_lt 0 (length s.waiting) || nat_lt 0 s.place.records

-- with one block more, as many wait as there are write buffers, so that all are written
abbrev pub fills_buffers : State → Bool
fills_buffers s = nat_le s.buffers (length s.waiting + 1)

-- the log grows for what the call needs; it tries to only where it can
abbrev pub grows : State → ℕ → Bool
grows s need = nat_lt s.containers (grown s need).containers

-- The record seals the open block, where there is one, and that fills the buffers; or it begins a container, before which all
-- is flushed and a file is taken.
abbrev pub making_ready_writes : State → ℕ → Bool
making_ready_writes s n =
    if joins s.shape s.place n then false
    else if begins_here s.shape s.place n then nat_lt 0 s.place.records && fills_buffers s
    else true

-- An append writes where the log grows for it, where it makes a block or a container ready, where its own block is sealed and
-- fills the buffers, and where it flushes, since its own record isn't on the disk yet.
abbrev pub append_writes : State → Draft → Bool → List ℕ → Bool
append_writes s draft reserved sizes =
    let n = length draft.bytes in
    grows s (need_of reserved n sizes) || making_ready_writes s n || (draft.seal && fills_buffers (made_ready s n)) || draft.flush

-- A call that flushes nothing, fills no buffers, makes no turn to a further container, doesn't grow the log and writes no base
-- copy makes no call on the disk, but for the reads of those that read. A base copy is written for a new stream, for each
-- change of a base, of the archive, of a policy and of the size; not where archiving or the size is as asked already.
abbrev pub calls_disk : State → Call → Bool
calls_disk s (calls.OpenStream name) = is_none (stream_number s name)
calls_disk s (calls.Reserve area sizes) = grows s (own_sum sizes)
calls_disk s (calls.Append area draft reserved sizes) = append_writes s draft reserved sizes
calls_disk s (calls.Flush area) = is_pending s
calls_disk s (calls.FlushTo area lsn) = nat_le (flushed s) lsn && is_pending s
calls_disk s (calls.WriteRestart area bytes base reserved) = true
calls_disk s (calls.Advance area lsn) = true
calls_disk s (calls.SetArchive on) = if on then is_none s.archive else is_some s.archive
calls_disk s (calls.SetArchiveTail lsn) = true
calls_disk s (calls.InstallPolicy policy) = true
calls_disk s (calls.RemovePolicy kind) = true
calls_disk s (calls.SetSize containers) = not (containers == s.containers)
calls_disk s call = reads_disk call

-- the state after a disk fault or damage
abbrev pub with_broken : State → State
with_broken s = record s { broken = true }

-- damage at some place
abbrev pub IsDamaged : Reply → Type 0
IsDamaged (replies.Refused (refusals.Damaged container offset at)) = Unit {0}
IsDamaged _ = ⊥

-- A record that a reply hands out, where the disk doesn't tell what it holds. One below the flushed LSN is read from the disk, so its
-- fields are open, its LSN apart; one at or above it isn't on the disk yet, and is given exactly.
abbrev pub IsRecordRead : ℕ → LogEntry → LogEntry → Type 0
IsRecordRead stable entry read = MatchBool (nat_lt entry.lsn stable) (read.lsn ≡ entry.lsn) (read ≡ entry)

-- the machine's reply, the record that it hands out as it may be read
abbrev pub IsReplyRead : ℕ → Reply → Reply → Type 0
IsReplyRead stable (replies.Found cursor entry) reply = (read : LogEntry) × (IsRecordRead stable entry read × (reply ≡ replies.Found cursor read))
IsReplyRead stable (replies.Next entry) reply = (read : LogEntry) × (IsRecordRead stable entry read × (reply ≡ replies.Next read))
IsReplyRead stable answered reply = reply ≡ answered

-- A reply is the machine's; over a disk that doesn't tell what it holds, up to what is read of a record below the flushed LSN.
abbrev pub IsReply : Bool → ℕ → Reply → Reply → Type 0
IsReply told stable answered reply = MatchBool told (reply ≡ answered) (IsReplyRead stable answered reply)

-- the reply and the state that an outcome tells; the state is exact over every disk
abbrev pub Comes : Bool → ℕ → Outcome → Reply → State → Type 0
Comes told stable outcome reply t = IsReply told stable outcome.reply reply × (t ≡ outcome.state)

-- A step that isn't stopped because memory ran out, from a state that isn't broken. Where nothing happened, the first refusal comes,
-- or else the answer. A fault comes only in a call that isn't refused and that calls the disk, damage only in one that reads.
abbrev pub Goes : Bool → State → ℕ → Call → Happened → Reply → State → Type 0
Goes told s client call Fine reply t = MatchOption (refusal s client call)
    (Comes told (flushed s) (answer s client call) reply t)
    (λ first. (reply ≡ replies.Refused first) × (t ≡ s))
Goes told s client call Fault reply t = (refusal s client call ≡ None) × (IsTrue (calls_disk s call)
    × ((reply ≡ replies.Refused refusals.DiskFault) × (t ≡ with_broken s)))
Goes told s client call Damage reply t = (refusal s client call ≡ None) × (IsTrue (reads_disk call)
    × (IsDamaged reply × (t ≡ with_broken s)))

-- out of memory changes nothing
abbrev pub IsOutOfMemory : State → Reply → State → Type 0
IsOutOfMemory s reply t = (reply ≡ replies.Refused refusals.NoMemory) × (t ≡ s)

-- A broken log answers that and changes nothing.
abbrev pub IsBroken : State → Reply → State → Type 0
IsBroken s reply t = (reply ≡ replies.Refused refusals.Broken) × (t ≡ s)

-- One call of a client. Being broken is told first of all; out of memory may stand in place of any other answer of a call
-- that takes memory.
unfoldable pub Step : Bool → State → ℕ → Call → Happened → Reply → State → Type 0
Step told s client call happened reply t = MatchBool s.broken
    (IsBroken s reply t)
    ((IsTrue (takes_memory call) × IsOutOfMemory s reply t) ⊎ Goes told s client call happened reply t)

-- what opening again leaves, whatever is read: no area, nothing that isn't on the disk yet, as many write buffers as before, and a
-- log that isn't broken
abbrev pub IsOpenedAnew : State → State → Type 0
IsOpenedAnew s t = (t.areas ≡ []) × ((is_pending t ≡ false) × ((t.buffers ≡ s.buffers) × (t.broken ≡ false)))

-- What reading the files again comes to. The new state is one that files can stand for, whatever was read. Over a disk that tells what
-- it holds it is the flushed part of the old one, up to records that no reply can show; over another one it is some such state that
-- has just been opened.
pub record IsReopened (told : Bool) (s : State) (reply : Reply) (t : State) : Type 0 where
  pub flushed_part : reply ≡ replies.Flushed (flushed t)
  pub valid : IsValid t
  pub storable : IsStorable t
  pub read : MatchBool told ((flushed t ≡ flushed s) × IsSame (cut s) t) (IsOpenedAnew s t)

-- opening again, from a state that isn't broken
abbrev pub Reopens : Bool → State → Happened → Reply → State → Type 0
Reopens told s Fine reply t = IsReopened told s reply t
Reopens told s Fault reply t = (reply ≡ replies.Refused refusals.DiskFault) × (t ≡ with_broken s)
Reopens told s Damage reply t = IsDamaged reply × (t ≡ with_broken s)

-- opening again, which is no client's call: it syncs and reads the disk, and takes memory
unfoldable pub ReopenStep : Bool → State → Happened → Reply → State → Type 0
ReopenStep told s happened reply t = MatchBool s.broken
    (IsBroken s reply t)
    (IsOutOfMemory s reply t ⊎ Reopens told s happened reply t)
