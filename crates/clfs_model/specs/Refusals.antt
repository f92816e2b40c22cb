-- Which refusal a call meets first. Each call's tests stand in the order in which they are made.
use Rattle.std.specs.Prelude.{ℕ, ◌+◌, Bool, not, ◌&&◌, ◌||◌, ◌==◌, nat_lt, nat_le, if◌then◌else◌, List, [], ◌∷◌, length, find, Option, Some, None, is_some, is_none}
use Rattle.std.specs.List.{position_or_len}
use Rattle.std.specs.Option.{option_map_or}
use Rattle.clfs_lsn.specs.Limits.{most_streams, longest_name, most_areas}
use Rattle.clfs_lsn.specs.Names.{is_name_byte}
use Rattle.clfs_lsn.specs.Lsn.{null_lsn}
use Rattle.clfs_lsn.specs.Size.{longest}
use Rattle.clfs_lsn.specs.Streams.{stream_number_from}
use Rattle.clfs_lsn.specs.Place.{frontier}
use Rattle.clfs_model.specs.declared.call.Call.{Call}
use Rattle.clfs_model.specs.declared.call.Call.TheVariants as calls
use Rattle.clfs_model.specs.declared.call.Draft.{Draft}
use Rattle.clfs_lsn.specs.declared.cursor.Mode.{Mode}
use Rattle.clfs_lsn.specs.declared.cursor.Mode.TheVariants.{Previous, UndoNext, Forward}
use Rattle.clfs_model.specs.declared.refusal.Refusal.{Refusal}
use Rattle.clfs_model.specs.declared.refusal.Refusal.TheVariants as refusals
use Rattle.clfs_model.specs.declared.state.State.{State}
use Rattle.clfs_model.specs.declared.state.Area.{Area}
use Rattle.clfs_lsn.specs.declared.cursor.Cursor.{Cursor}
use Rattle.clfs_lsn.specs.declared.cursor.CursorKind.{CursorKind}
use Rattle.clfs_lsn.specs.declared.cursor.CursorKind.TheVariants.{Records, RestartAreas}
use Rattle.clfs_model.specs.State.{stream_at, base_of, area_of, areas_of}
use Rattle.clfs_model.specs.Live.{live_at, last_live, active}
use Rattle.clfs_model.specs.Space.{free, reserved, own_sum, size_limit, grown, has_room}
use Rattle.clfs_model.specs.Flush.{flushed}
use Rattle.clfs_model.specs.Put.{need_of, spent_of}
use Rattle.clfs_model.specs.Reading.{newest_restart, cursor_of, record_cursor, restart_cursor, next_of_cursor}
use Rattle.clfs_model.specs.Policies.{policy_refusal, is_installed, needed_containers}

-- the refusal where its test holds, else what the other tests give
abbrev pub refused_if : Bool → Refusal → Option Refusal → Option Refusal
refused_if test refusal others = if test then Some refusal else others

-- what the client's area of this number gives, where it is there
abbrev pub in_area : State → ℕ → ℕ → (Area → Option Refusal) → Option Refusal
in_area s client number rest = option_map_or rest (area_of s client number) (Some refusals.NoSuchArea)

-- A log of fewer than two containers takes no record and no reservation.
abbrev pub unless_two_containers : State → Option Refusal → Option Refusal
unless_two_containers s others = refused_if (nat_lt s.containers 2) (refusals.NotEnoughContainers s.containers) others

-- the first length that is above the greatest
abbrev pub too_long : ℕ → List ℕ → Option Refusal → Option Refusal
too_long greatest lengths others =
    option_map_or (λ len. Some (refusals.RecordTooLong len greatest)) (find (λ len. nat_lt greatest len) lengths) others

-- A link is null, or below the stream's base, or the LSN of a live record of the stream.
abbrev pub is_link : State → ℕ → ℕ → Bool
is_link s stream link = (link == null_lsn) || nat_lt link (base_of s stream) || is_some (live_at s stream link)

-- a link that is none
abbrev pub invalid_link : State → ℕ → ℕ → Option Refusal → Option Refusal
invalid_link s stream link others = refused_if (not (is_link s stream link)) (refusals.LinkInvalid link) others

-- an area that holds fewer sectors than are taken from it
abbrev pub short : Area → ℕ → Option Refusal → Option Refusal
short area need others = refused_if (nat_lt area.held need) (refusals.ReservationShort area.held need) others

-- no room for what the call needs, not even after growth
abbrev pub full : State → ℕ → Option Refusal
full s need = refused_if (not (has_room s need)) (refusals.Full (free (grown s need)) (reserved (grown s need)) need) None

-- The first wrong byte of a name, which has 1 to 64 bytes: a byte that none may have, or the one after the longest name. An
-- empty name is wrong at 0.
abbrev pub name_fault : List ℕ → Option ℕ
name_fault name =
    let bad = position_or_len (λ b. not (is_name_byte b)) name in
    if length name == 0 then Some 0
    else if nat_lt bad (length name) && nat_lt bad longest_name then Some bad
    else if nat_lt longest_name (length name) then Some longest_name
    else None

-- the number of the stream of this name
abbrev pub stream_number : State → List ℕ → Option ℕ
stream_number s name = stream_number_from 1 name s.streams

-- Opening: the name; then, if a stream is to be made, that a dedicated log has none yet, and the number of streams.
abbrev pub open_refusal : State → List ℕ → Option Refusal
open_refusal s name =
    option_map_or (λ at. Some (refusals.NameInvalid at)) (name_fault name)
    (refused_if (is_none (stream_number s name) && (s.dedicated && nat_le 1 (length s.streams))) refusals.Dedicated
    (refused_if (is_none (stream_number s name) && nat_le most_streams (length s.streams)) (refusals.StreamLimit (length s.streams)) None))

-- a new area: its stream, its largest record, the number of the client's areas
abbrev pub create_refusal : State → ℕ → ℕ → ℕ → Option Refusal
create_refusal s client stream largest =
    refused_if (is_none (stream_at s stream)) refusals.NoSuchStream
    (too_long (longest s.shape) (largest ∷ [])
    (refused_if (nat_le most_areas (length (areas_of s client))) (refusals.AreaLimit (length (areas_of s client))) None))

-- an append: the data, then the sizes, the previous link, the undo-next link, what the area holds, the room
abbrev pub append_refusal : State → Area → Draft → Bool → List ℕ → Option Refusal
append_refusal s area draft reserved sizes =
    let n = length draft.bytes in
    too_long area.largest (n ∷ sizes)
    (invalid_link s area.stream draft.previous
    (invalid_link s area.stream draft.undo_next
    (short area (spent_of reserved n)
    (full s (need_of reserved n sizes)))))

-- as many cursors as the area was made for
abbrev pub too_many_cursors : Area → Option Refusal
too_many_cursors area = refused_if (nat_le area.reads (length area.cursors)) (refusals.CursorLimit (length area.cursors)) None

-- a read: the record, then the number of cursors
abbrev pub read_refusal : State → Area → ℕ → Option Refusal
read_refusal s area lsn = refused_if (is_none (live_at s area.stream lsn)) (refusals.RecordNonexistent lsn) (too_many_cursors area)

-- what a cursor that comes to no further record has reached
abbrev pub end_of_mode : Mode → Refusal
end_of_mode Forward = refusals.EndOfLog
end_of_mode Previous = refusals.StartOfLog
end_of_mode UndoNext = refusals.StartOfLog

-- the same by the cursor's kind
abbrev pub end_of_kind : CursorKind → Refusal
end_of_kind (Records mode) = end_of_mode mode
end_of_kind RestartAreas = refusals.NoRestart

-- reading on: a cursor of the right kind, then a further record
abbrev pub next_refusal : State → Area → Option Cursor → Option Refusal
next_refusal s area found = option_map_or
    (λ (cursor : Cursor). refused_if (is_none (next_of_cursor s area cursor)) (end_of_kind cursor.kind) None)
    found (Some refusals.NoSuchCursor)

-- A new base is the LSN of a live record of the stream, or the last live LSN plus 1.
abbrev pub is_base : State → ℕ → ℕ → Bool
is_base s stream lsn =
    is_some (live_at s stream lsn) || (nat_lt null_lsn (last_live s stream) && (lsn == last_live s stream + 1))

-- a base that is none
abbrev pub invalid_base : State → ℕ → ℕ → Option Refusal → Option Refusal
invalid_base s stream lsn others =
    refused_if (not (is_base s stream lsn)) (refusals.TailInvalid lsn (base_of s stream) (last_live s stream)) others

-- a restart area: its data, the new base where there is one, what the area holds, the room
abbrev pub restart_refusal : State → Area → List ℕ → ℕ → Bool → Option Refusal
restart_refusal s area bytes base reserved =
    let n = length bytes in
    let others = short area (spent_of reserved n) (full s (need_of reserved n [])) in
    too_long area.largest (n ∷ []) (if base == null_lsn then others else invalid_base s area.stream base others)

-- A new archive tail lies from the old one up to the flushed LSN; there is none where archiving is off.
abbrev pub tail_refusal : State → ℕ → Option Refusal
tail_refusal s lsn = option_map_or
    (λ tail. refused_if (nat_lt lsn tail || nat_lt (flushed s) lsn) (refusals.ArchiveTailInvalid lsn tail (flushed s)) None)
    s.archive (Some refusals.Ephemeral)

-- A log grows up to its limit, and shrinks down to the containers that it needs.
abbrev pub size_refusal : State → ℕ → Option Refusal
size_refusal s asked =
    refused_if (nat_lt s.containers asked && nat_lt (size_limit s) asked) (refusals.ContainerLimit (size_limit s))
    (refused_if (nat_lt asked s.containers && nat_lt asked (needed_containers s)) (refusals.CantShrink (active s) (needed_containers s)) None)

-- the first refusal that a call meets
abbrev pub refusal : State → ℕ → Call → Option Refusal
refusal s client (calls.OpenStream name) = open_refusal s name
refusal s client (calls.CreateArea stream largest reads) = create_refusal s client stream largest
refusal s client (calls.DeleteArea number) = in_area s client number (λ _. None)
refusal s client (calls.Reserve number sizes) =
    unless_two_containers s (in_area s client number (λ (area : Area). too_long area.largest sizes (full s (own_sum sizes))))
refusal s client (calls.Release number sectors) = in_area s client number (λ (area : Area). short area sectors None)
refusal s client (calls.Align number sizes) = in_area s client number (λ (area : Area). too_long area.largest sizes None)
refusal s client (calls.Append number draft reserved sizes) =
    unless_two_containers s (in_area s client number (λ (area : Area). append_refusal s area draft reserved sizes))
refusal s client (calls.Flush number) = in_area s client number (λ _. None)
refusal s client (calls.FlushTo number lsn) =
    in_area s client number (λ _. refused_if (nat_le (frontier s.place) lsn) (refusals.RecordNonexistent lsn) None)
refusal s client (calls.Read number lsn mode) = in_area s client number (λ (area : Area). read_refusal s area lsn)
refusal s client (calls.ReadNext number cursor) = in_area s client number (λ (area : Area). next_refusal s area (record_cursor area cursor))
refusal s client (calls.EndRead number cursor) =
    in_area s client number (λ (area : Area). refused_if (is_none (cursor_of area cursor)) refusals.NoSuchCursor None)
refusal s client (calls.WriteRestart number bytes base reserved) =
    unless_two_containers s (in_area s client number (λ (area : Area). restart_refusal s area bytes base reserved))
refusal s client (calls.ReadRestart number) =
    in_area s client number (λ (area : Area). refused_if (is_none (newest_restart s area.stream)) refusals.NoRestart (too_many_cursors area))
refusal s client (calls.PreviousRestart number cursor) =
    in_area s client number (λ (area : Area). next_refusal s area (restart_cursor area cursor))
refusal s client (calls.Advance number lsn) = in_area s client number (λ (area : Area). invalid_base s area.stream lsn None)
refusal s client (calls.SetArchive on) = None
refusal s client (calls.SetArchiveTail lsn) = tail_refusal s lsn
refusal s client calls.ListExtents = refused_if (is_none s.archive) refusals.Ephemeral None
refusal s client (calls.InstallPolicy policy) = policy_refusal s policy
refusal s client (calls.RemovePolicy kind) = refused_if (not (is_installed s kind)) refusals.PolicyNotInstalled None
refusal s client (calls.SetSize containers) = size_refusal s containers
refusal s client (calls.Info stream) = refused_if (is_none (stream_at s stream)) refusals.NoSuchStream None
