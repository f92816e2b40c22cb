-- What a call that isn't refused answers, and the state that it leaves.
use Rattle.std.specs.Prelude.{ℕ, ◌+◌, ◌-◌, Bool, true, false, not, ◌==◌, nat_lt, if◌then◌else◌, List, [], ◌∷◌, ◌++◌, length, filter, Option, Some, None}
use Rattle.std.specs.List.{list_any}
use Rattle.std.specs.Option.{option_map_or, option_and_then}
use Rattle.clfs_lsn.specs.Lsn.{null_lsn}
use Rattle.clfs_lsn.specs.declared.entry.LogEntry.{LogEntry}
use Rattle.clfs_lsn.specs.declared.entry.Kind.TheVariants.{Restart}
use Rattle.clfs_model.specs.declared.call.Call.{Call}
use Rattle.clfs_model.specs.declared.call.Call.TheVariants as calls
use Rattle.clfs_lsn.specs.declared.cursor.Mode.{Mode}
use Rattle.clfs_model.specs.declared.info.LogInfo.{LogInfo}
use Rattle.clfs_model.specs.declared.refusal.Refusal.TheVariants as refusals
use Rattle.clfs_model.specs.declared.reply.Reply.{Reply}
use Rattle.clfs_model.specs.declared.reply.Reply.TheVariants as replies
use Rattle.clfs_model.specs.declared.state.State.{State}
use Rattle.clfs_model.specs.declared.state.Area.{Area}
use Rattle.clfs_lsn.specs.declared.cursor.Cursor.{Cursor}
use Rattle.clfs_lsn.specs.declared.cursor.CursorKind.{CursorKind}
use Rattle.clfs_lsn.specs.declared.cursor.CursorKind.TheVariants.{Records, RestartAreas}
use Rattle.clfs_model.specs.State.{area_of, areas_of, base_of, is_area, change_area}
use Rattle.clfs_lsn.specs.Streams.{set_base}
use Rattle.clfs_lsn.specs.Numbers.{least_unused}
use Rattle.clfs_model.specs.Live.{hold, active, live_at, last_live, lsn_or_null}
use Rattle.clfs_model.specs.Space.{free, reserved, own_sum, with_containers, grown}
use Rattle.clfs_model.specs.Flush.{flush, flushed}
use Rattle.clfs_model.specs.Put.{next_lsn, need_of, put, appended, spend_if, hold_sizes, with_less_held}
use Rattle.clfs_model.specs.Reading.{newest_restart, record_cursor, restart_cursor, next_of_cursor, with_cursor, with_cursor_at, without_cursor}
use Rattle.clfs_lsn.specs.Cursors.{unused_cursor}
use Rattle.clfs_model.specs.Archive.{extents}
use Rattle.clfs_model.specs.Policies.{with_policy, without_policy}
use Rattle.clfs_model.specs.Refusals.{stream_number}

-- a reply, and the state that it leaves
pub record Outcome : Type 0 where
  pub reply : Reply
  pub state : State

-- this reply and this state
abbrev pub outcome : Reply → State → Outcome
outcome reply state = record { reply = reply; state = state }

-- what the client's area of this number gives; without the area the call is refused
abbrev pub over_area : State → ℕ → ℕ → (Area → Outcome) → Outcome
over_area s client number rest = option_map_or rest (area_of s client number) (outcome (replies.Refused refusals.NoSuchArea) s)

-- A stream of a new name goes last, with no base.
abbrev pub opened : State → List ℕ → Outcome
opened s name = option_map_or (λ number. outcome (replies.Stream number) s) (stream_number s name)
    (outcome (replies.Stream (length s.streams + 1)) (record s { streams = s.streams ++ record { name = name; base = null_lsn } ∷ [] }))

-- the number of a client's new area
abbrev pub unused_area : State → ℕ → ℕ
unused_area s client = least_unused (length (areas_of s client)) (λ number. list_any (λ (area : Area). area.number == number) (areas_of s client))

-- a client's new area, which holds nothing
abbrev pub new_area : State → ℕ → ℕ → ℕ → ℕ → Area
new_area s client stream largest reads = record {
  client = client;
  number = unused_area s client;
  stream = stream;
  largest = largest;
  reads = reads;
  held = 0;
  cursors = [];
}

-- the state with one area more
abbrev pub created : State → Area → Outcome
created s area = outcome (replies.Area area.number) (record s { areas = s.areas ++ area ∷ [] })

-- The log grows, and the area holds the sectors for the sizes.
abbrev pub reserved_for : State → Area → List ℕ → Outcome
reserved_for s area sizes = outcome (replies.Held (area.held + own_sum sizes)) (hold_sizes area sizes (grown s (own_sum sizes)))

-- The area holds so many sectors fewer.
abbrev pub released : State → Area → ℕ → Outcome
released s area sectors =
    outcome (replies.Held (area.held - sectors)) (change_area (with_less_held sectors) area.client area.number s)

-- Only an LSN that isn't on the disk yet makes a flush.
abbrev pub flushed_to : State → ℕ → State
flushed_to s lsn = if nat_lt lsn (flushed s) then s else flush s

-- a record that was found, with a new cursor at it
abbrev pub found_with_cursor : State → Area → CursorKind → LogEntry → Outcome
found_with_cursor s area kind entry =
    let number = unused_cursor area.cursors in
    outcome (replies.Found number entry)
    (change_area (with_cursor (record { number = number; kind = kind; last = entry.lsn })) area.client area.number s)

-- A read gives the live record at the LSN, and a cursor in the mode.
abbrev pub read_at : State → Area → ℕ → Mode → Outcome
read_at s area lsn mode = option_map_or (found_with_cursor s area (Records mode)) (live_at s area.stream lsn)
    (outcome (replies.Refused (refusals.RecordNonexistent lsn)) s)

-- the newest restart area, and a cursor that goes on to older ones
abbrev pub read_newest_restart : State → Area → Outcome
read_newest_restart s area = option_map_or (found_with_cursor s area RestartAreas) (newest_restart s area.stream)
    (outcome (replies.Refused refusals.NoRestart) s)

-- A cursor moves to the record that it comes to next.
abbrev pub moved_on : State → Area → ℕ → Option Cursor → Outcome
moved_on s area number found = option_map_or
    (λ (entry : LogEntry). outcome (replies.Next entry) (change_area (with_cursor_at number entry.lsn) area.client area.number s))
    (option_and_then (next_of_cursor s area) found) (outcome (replies.Refused refusals.NoSuchCursor) s)

-- a restart area as a record that has no LSN yet: its previous link is the newest live restart area before it
abbrev pub restart_record : State → Area → List ℕ → ℕ → LogEntry
restart_record s area bytes base = record {
  lsn = null_lsn;
  stream = area.stream;
  kind = Restart;
  previous = lsn_or_null (newest_restart s area.stream);
  undo_next = null_lsn;
  new_base = base;
  bytes = bytes;
}

-- the state with a stream's base moved, where there is a new one
abbrev pub rebased : ℕ → ℕ → State → State
rebased stream base s = if base == null_lsn then s else record s { streams = set_base stream base s.streams }

-- A restart area is appended and flushed, and then the base moves.
abbrev pub restarted : State → Area → List ℕ → ℕ → Bool → State
restarted s area bytes base reserved =
    let n = length bytes in
    let joined = put (grown s (need_of reserved n [])) (restart_record s area bytes base) in
    rebased area.stream base (flush (spend_if reserved area n joined))

-- The log is flushed, and then the base moves.
abbrev pub advanced : State → ℕ → ℕ → State
advanced s stream base = let t = flush s in record t { streams = set_base stream base t.streams }

-- Archiving that is turned on begins at the hold; one that is on already stays as it is.
abbrev pub archiving : State → Bool → State
archiving s true = record s { archive = Some (option_map_or (λ tail. tail) s.archive (hold s)) }
archiving s false = record s { archive = None }

-- what the log and a stream are like
abbrev pub info_of : State → ℕ → LogInfo
info_of s stream = record {
  containers = s.containers;
  free_containers = s.containers - active s;
  container_sectors = s.shape.container_sectors;
  free_sectors = free s;
  reserved = reserved s;
  base = base_of s stream;
  last = last_live s stream;
  flushed = flushed s;
  restart = lsn_or_null (newest_restart s stream);
  archive = s.archive;
}

-- what a call that isn't refused answers, and the state that it leaves
abbrev pub answer : State → ℕ → Call → Outcome
answer s client (calls.OpenStream name) = opened s name
answer s client (calls.CreateArea stream largest reads) = created s (new_area s client stream largest reads)
answer s client (calls.DeleteArea number) =
    outcome replies.Done (record s { areas = filter (λ (area : Area). not (is_area client number area)) s.areas })
answer s client (calls.Reserve number sizes) = over_area s client number (λ (area : Area). reserved_for s area sizes)
answer s client (calls.Release number sectors) = over_area s client number (λ (area : Area). released s area sectors)
answer s client (calls.Align number sizes) = outcome (replies.Sectors (own_sum sizes)) s
answer s client (calls.Append number draft reserved sizes) = over_area s client number (λ (area : Area).
    outcome (replies.Placed (next_lsn s (length draft.bytes))) (appended s area draft reserved sizes))
answer s client (calls.Flush number) = outcome (replies.Flushed (flushed (flush s))) (flush s)
answer s client (calls.FlushTo number lsn) = outcome (replies.Flushed (flushed (flushed_to s lsn))) (flushed_to s lsn)
answer s client (calls.Read number lsn mode) = over_area s client number (λ (area : Area). read_at s area lsn mode)
answer s client (calls.ReadNext number cursor) =
    over_area s client number (λ (area : Area). moved_on s area cursor (record_cursor area cursor))
answer s client (calls.EndRead number cursor) = outcome replies.Done (change_area (without_cursor cursor) client number s)
answer s client (calls.WriteRestart number bytes base reserved) = over_area s client number (λ (area : Area).
    outcome (replies.Placed (next_lsn s (length bytes))) (restarted s area bytes base reserved))
answer s client (calls.ReadRestart number) = over_area s client number (λ (area : Area). read_newest_restart s area)
answer s client (calls.PreviousRestart number cursor) =
    over_area s client number (λ (area : Area). moved_on s area cursor (restart_cursor area cursor))
answer s client (calls.Advance number lsn) = over_area s client number (λ (area : Area).
    outcome (replies.Base lsn) (advanced s area.stream lsn))
answer s client (calls.SetArchive on) = outcome replies.Done (archiving s on)
answer s client (calls.SetArchiveTail lsn) = outcome (replies.Tail lsn) (record s { archive = Some lsn })
answer s client calls.ListExtents = outcome (replies.Extents (extents s)) s
answer s client (calls.InstallPolicy policy) = outcome replies.Done (with_policy s policy)
answer s client (calls.RemovePolicy kind) = outcome replies.Done (without_policy s kind)
answer s client (calls.SetSize containers) = outcome (replies.Containers containers) (with_containers containers s)
answer s client (calls.Info stream) = outcome (replies.Info (info_of s stream)) s
