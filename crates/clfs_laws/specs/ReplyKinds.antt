-- Which replies each call can have: answers of its own kind, and the refusals of its own list.
use Rattle.std.specs.Prelude.{Bool, true, false}
use Rattle.clfs_model.specs.declared.call.Call.{Call}
use Rattle.clfs_model.specs.declared.call.Call.TheVariants as calls
use Rattle.clfs_model.specs.declared.refusal.Refusal.{Refusal}
use Rattle.clfs_model.specs.declared.refusal.Refusal.TheVariants as refusals
use Rattle.clfs_model.specs.declared.reply.Reply.{Reply}
use Rattle.clfs_model.specs.declared.reply.Reply.TheVariants as replies
use Rattle.clfs_model.specs.Step.{takes_memory, reads_disk}

-- ---- each call's own list, by what a refusal of it tells

-- a name that none may have, a stream too many, or a second one
abbrev pub refuses_name : Refusal → Bool
refuses_name (refusals.NameInvalid at) = true
refuses_name refusals.Dedicated = true
refuses_name (refusals.StreamLimit count) = true
refuses_name _ = false

-- no such stream, records too long, or an area too many
abbrev pub refuses_area : Refusal → Bool
refuses_area refusals.NoSuchStream = true
refuses_area (refusals.RecordTooLong len max) = true
refuses_area (refusals.AreaLimit count) = true
refuses_area _ = false

-- no such area
abbrev pub refuses_missing : Refusal → Bool
refuses_missing refusals.NoSuchArea = true
refuses_missing _ = false

-- too few containers, no such area, a length too long, or no room
abbrev pub refuses_reserve : Refusal → Bool
refuses_reserve (refusals.NotEnoughContainers have) = true
refuses_reserve refusals.NoSuchArea = true
refuses_reserve (refusals.RecordTooLong len max) = true
refuses_reserve (refusals.Full free reserved need) = true
refuses_reserve _ = false

-- no such area, or more than it holds
abbrev pub refuses_release : Refusal → Bool
refuses_release refusals.NoSuchArea = true
refuses_release (refusals.ReservationShort held need) = true
refuses_release _ = false

-- no such area, or a length too long
abbrev pub refuses_align : Refusal → Bool
refuses_align refusals.NoSuchArea = true
refuses_align (refusals.RecordTooLong len max) = true
refuses_align _ = false

-- too few containers, no such area, a length too long, a wrong link, more than the area holds, or no room
abbrev pub refuses_append : Refusal → Bool
refuses_append (refusals.NotEnoughContainers have) = true
refuses_append refusals.NoSuchArea = true
refuses_append (refusals.RecordTooLong len max) = true
refuses_append (refusals.LinkInvalid lsn) = true
refuses_append (refusals.ReservationShort held need) = true
refuses_append (refusals.Full free reserved need) = true
refuses_append _ = false

-- no such area, or an LSN that no record has yet
abbrev pub refuses_flush_to : Refusal → Bool
refuses_flush_to refusals.NoSuchArea = true
refuses_flush_to (refusals.RecordNonexistent lsn) = true
refuses_flush_to _ = false

-- no such area, no such record, or a cursor too many
abbrev pub refuses_read : Refusal → Bool
refuses_read refusals.NoSuchArea = true
refuses_read (refusals.RecordNonexistent lsn) = true
refuses_read (refusals.CursorLimit open_now) = true
refuses_read _ = false

-- no such area, no such cursor, or no further record
abbrev pub refuses_next : Refusal → Bool
refuses_next refusals.NoSuchArea = true
refuses_next refusals.NoSuchCursor = true
refuses_next refusals.EndOfLog = true
refuses_next refusals.StartOfLog = true
refuses_next _ = false

-- no such area, or no such cursor
abbrev pub refuses_end : Refusal → Bool
refuses_end refusals.NoSuchArea = true
refuses_end refusals.NoSuchCursor = true
refuses_end _ = false

-- too few containers, no such area, data too long, a wrong base, more than the area holds, or no room
abbrev pub refuses_restart : Refusal → Bool
refuses_restart (refusals.NotEnoughContainers have) = true
refuses_restart refusals.NoSuchArea = true
refuses_restart (refusals.RecordTooLong len max) = true
refuses_restart (refusals.TailInvalid lsn base last) = true
refuses_restart (refusals.ReservationShort held need) = true
refuses_restart (refusals.Full free reserved need) = true
refuses_restart _ = false

-- no such area, no restart area, or a cursor too many
abbrev pub refuses_newest : Refusal → Bool
refuses_newest refusals.NoSuchArea = true
refuses_newest refusals.NoRestart = true
refuses_newest (refusals.CursorLimit open_now) = true
refuses_newest _ = false

-- no such area, no such cursor, or no older restart area
abbrev pub refuses_previous : Refusal → Bool
refuses_previous refusals.NoSuchArea = true
refuses_previous refusals.NoSuchCursor = true
refuses_previous refusals.NoRestart = true
refuses_previous _ = false

-- no such area, or a wrong base
abbrev pub refuses_base : Refusal → Bool
refuses_base refusals.NoSuchArea = true
refuses_base (refusals.TailInvalid lsn base last) = true
refuses_base _ = false

-- no archiving, or a wrong tail
abbrev pub refuses_tail : Refusal → Bool
refuses_tail refusals.Ephemeral = true
refuses_tail (refusals.ArchiveTailInvalid lsn tail flushed) = true
refuses_tail _ = false

-- no archiving
abbrev pub refuses_extents : Refusal → Bool
refuses_extents refusals.Ephemeral = true
refuses_extents _ = false

-- a value outside its range
abbrev pub refuses_policy : Refusal → Bool
refuses_policy (refusals.PolicyConflict min max) = true
refuses_policy _ = false

-- no such policy
abbrev pub refuses_removal : Refusal → Bool
refuses_removal refusals.PolicyNotInstalled = true
refuses_removal _ = false

-- too many containers, or too few
abbrev pub refuses_size : Refusal → Bool
refuses_size (refusals.ContainerLimit limit) = true
refuses_size (refusals.CantShrink active need) = true
refuses_size _ = false

-- no such stream
abbrev pub refuses_stream : Refusal → Bool
refuses_stream refusals.NoSuchStream = true
refuses_stream _ = false

-- no refusal at all
abbrev pub refuses_nothing : Refusal → Bool
refuses_nothing given = false

-- a refusal of the call's own list
abbrev pub is_listed : Call → Refusal → Bool
is_listed (calls.OpenStream name) = refuses_name
is_listed (calls.CreateArea stream largest reads) = refuses_area
is_listed (calls.DeleteArea area) = refuses_missing
is_listed (calls.Reserve area sizes) = refuses_reserve
is_listed (calls.Release area sectors) = refuses_release
is_listed (calls.Align area sizes) = refuses_align
is_listed (calls.Append area draft reserved sizes) = refuses_append
is_listed (calls.Flush area) = refuses_missing
is_listed (calls.FlushTo area lsn) = refuses_flush_to
is_listed (calls.Read area lsn mode) = refuses_read
is_listed (calls.ReadNext area cursor) = refuses_next
is_listed (calls.EndRead area cursor) = refuses_end
is_listed (calls.WriteRestart area bytes base reserved) = refuses_restart
is_listed (calls.ReadRestart area) = refuses_newest
is_listed (calls.PreviousRestart area cursor) = refuses_previous
is_listed (calls.Advance area lsn) = refuses_base
is_listed (calls.SetArchive on) = refuses_nothing
is_listed (calls.SetArchiveTail lsn) = refuses_tail
is_listed calls.ListExtents = refuses_extents
is_listed (calls.InstallPolicy policy) = refuses_policy
is_listed (calls.RemovePolicy kind) = refuses_removal
is_listed (calls.SetSize containers) = refuses_size
is_listed (calls.Info stream) = refuses_stream

-- ---- the others

-- the calls that may call the disk in some state
abbrev pub may_call_disk : Call → Bool
may_call_disk (calls.CreateArea stream largest reads) = false
may_call_disk (calls.DeleteArea area) = false
may_call_disk (calls.Release area sectors) = false
may_call_disk (calls.Align area sizes) = false
may_call_disk (calls.EndRead area cursor) = false
may_call_disk calls.ListExtents = false
may_call_disk (calls.Info stream) = false
may_call_disk _ = true

-- A refusal that the call may be answered: one of its own list; that the log is broken; out of memory where it takes any, a fault where
-- it may call the disk, and damage where it reads. No call is answered that its line is bad.
abbrev pub may_refuse : Call → Refusal → Bool
may_refuse call refusals.NoMemory = takes_memory call
may_refuse call refusals.DiskFault = may_call_disk call
may_refuse call refusals.Broken = true
may_refuse call (refusals.Damaged container offset at) = reads_disk call
may_refuse call (refusals.BadLine at) = false
may_refuse call given = is_listed call given

-- ---- answers

-- an answer of the call's own kind
abbrev pub is_answer_of : Call → Reply → Bool
is_answer_of (calls.OpenStream name) (replies.Stream number) = true
is_answer_of (calls.CreateArea stream largest reads) (replies.Area number) = true
is_answer_of (calls.DeleteArea area) replies.Done = true
is_answer_of (calls.Reserve area sizes) (replies.Held sectors) = true
is_answer_of (calls.Release area released) (replies.Held sectors) = true
is_answer_of (calls.Align area sizes) (replies.Sectors sectors) = true
is_answer_of (calls.Append area draft reserved sizes) (replies.Placed lsn) = true
is_answer_of (calls.Flush area) (replies.Flushed lsn) = true
is_answer_of (calls.FlushTo area to) (replies.Flushed lsn) = true
is_answer_of (calls.Read area lsn mode) (replies.Found cursor entry) = true
is_answer_of (calls.ReadNext area cursor) (replies.Next entry) = true
is_answer_of (calls.EndRead area cursor) replies.Done = true
is_answer_of (calls.WriteRestart area bytes base reserved) (replies.Placed lsn) = true
is_answer_of (calls.ReadRestart area) (replies.Found cursor entry) = true
is_answer_of (calls.PreviousRestart area cursor) (replies.Next entry) = true
is_answer_of (calls.Advance area to) (replies.Base lsn) = true
is_answer_of (calls.SetArchive on) replies.Done = true
is_answer_of (calls.SetArchiveTail to) (replies.Tail lsn) = true
is_answer_of calls.ListExtents (replies.Extents extents) = true
is_answer_of (calls.InstallPolicy policy) replies.Done = true
is_answer_of (calls.RemovePolicy kind) replies.Done = true
is_answer_of (calls.SetSize asked) (replies.Containers containers) = true
is_answer_of (calls.Info stream) (replies.Info info) = true
is_answer_of _ _ = false

-- a reply that the call may have
abbrev pub is_reply_of : Call → Reply → Bool
is_reply_of call (replies.Refused given) = may_refuse call given
is_reply_of call answered = is_answer_of call answered
