-- Each base copy that follows the newest one stores the log with what is to change, on the same open blocks. So while it is written a crash leaves
-- the log of before or that one, whatever the call answers.
use Rattle.clfs_manager.proofs.Words.{◌≡◌, ℕ, ◌+◌, ◌%◌, ◌<◌, ◌≤◌, ◌^◌, max, Bool, true, sym, ap, subst, List, [], ◌∷◌, ◌++◌, map, length, arith, Option, Some}
use Rattle.clfs_manager.proofs.Words.{None, is_some, unwrap_or, if◌then◌else◌, IsSome, null_lsn, container_of, frontier, LogEntry, Files, DiskState}
use Rattle.clfs_manager.proofs.Words.{IsSettled, Leaves, IsImage, current, older_of, BaseImage, Row, State, IsSame, cut, flushed, hold, Request}
use Rattle.clfs_manager.proofs.Words.{with_containers, base_of, stream_at, set_base, Survives, IsValid, next_copy, Newest, Blocks, Stores, Change, AreAllowed}
use Rattle.clfs_manager.proofs.Words.{Policies, policy_of, IsLogWith, stored_state, records_from_container, from_container, with_row_base, stored_place}
use Rattle.clfs_manager.proofs.Words.{with_base, CrashLeavesSurvivor, StoredMeanwhile, IsStored, archive_change, change_to, with_archive, with_policies}
use Rattle.clfs_manager.proofs.Words.{with_stream, IsIntact, Log, StandByBlocks, HaveByFile}
use Rattle.std.proofs.Common.{◌⊎◌}
use Rattle.clfs_physical.specs.Changes.{with_stream as with_row, with_containers as counting}
use Rattle.clfs_physical.specs.declared.change.Change.TheVariants as changes
use Rattle.clfs_manager.proofs.AddedStream.{added, stream_stored}
use Rattle.clfs_manager.proofs.ArchivedLog.{archived, archived_image, archived_stored, cut_ends, tail_few, tail_fits}
use Rattle.clfs_manager.proofs.CopiedLog.{copy_stored, hold_kept, policies_stored, stored_among, valid_holds}
use Rattle.clfs_manager.proofs.Crashes.{crash_stored, meanwhile_of}
use Rattle.clfs_manager.proofs.MovedBase.{base_stored, moved, moved_below, moved_image}
use Rattle.clfs_manager.proofs.Reached.{number_there}
use Rattle.clfs_manager.proofs.Sized.{sized_stored}
use Rattle.clfs_manager.proofs.TurnedLog.{low_image}

-- ---- the laws

-- containers below the hold's may be listed no more
pub record LeaveOutLow : Type 0 where
  pub log : (image : BaseImage) (blocks : Blocks) (entries : List LogEntry) (first : ℕ) → IsImage image
      → image.first ≤ first → first + 1 ≤ image.first + length image.files → (image.archiving ≡ true → first ≤ container_of image.tail)
      → IsLogWith image (map blocks image.files) entries
      → IsLogWith (from_container first image) (map blocks (from_container first image).files) (records_from_container first entries)
  pub held : (image : BaseImage) (blocks : Blocks) (entries : List LogEntry) (buffers first : ℕ) → IsImage image
      → IsLogWith image (map blocks image.files) entries → first ≤ container_of (hold (stored_state image (map blocks image.files) entries buffers))
      → (first + 1 ≤ image.first + length image.files) × (image.archiving ≡ true → first ≤ container_of image.tail)
  pub same : (image : BaseImage) (blocks : Blocks) (entries : List LogEntry) (buffers first : ℕ) → IsImage image
      → IsLogWith image (map blocks image.files) entries → image.first ≤ first
      → first ≤ container_of (hold (stored_state image (map blocks image.files) entries buffers))
      → IsSame (stored_state image (map blocks image.files) entries buffers)
      (stored_state (from_container first image) (map blocks (from_container first image).files) (records_from_container first entries) buffers)

-- what is set says nothing of the records
pub record SettingsLeave : Type 0 where
  pub log : (image : BaseImage) (blocks : List (List (List ℕ))) (entries : List LogEntry)
      (version turn containers files_made maximum minimum growth : ℕ)
      (automatic : Bool) → IsLogWith image blocks entries
      → IsLogWith (record image {
        version = version;
        turn = turn;
        containers = containers;
        files_made = files_made;
        automatic = automatic;
        maximum = maximum;
        minimum = minimum;
        growth = growth;
      }) blocks entries
  pub state : (image : BaseImage) (blocks : List (List (List ℕ))) (entries : List LogEntry)
      (buffers version turn containers files_made maximum minimum growth : ℕ) (automatic : Bool)
      → stored_state (record image {
        version = version;
        turn = turn;
        containers = containers;
        files_made = files_made;
        automatic = automatic;
        maximum = maximum;
        minimum = minimum;
        growth = growth;
      }) blocks entries buffers
      ≡ record (stored_state image blocks entries buffers) {
        containers = containers;
        automatic = automatic;
        maximum = policy_of maximum;
        minimum = policy_of minimum;
        growth = policy_of growth;
      }
  pub archived : (image : BaseImage) (blocks : List (List (List ℕ))) (entries : List LogEntry) (archiving : Bool) (tail : ℕ)
      → (archiving ≡ true → (tail ≤ frontier (stored_place image blocks)) × (image.first ≤ container_of tail))
      → IsLogWith image blocks entries → IsLogWith (record image { archiving = archiving; tail = tail }) blocks entries
  pub archive : (image : BaseImage) (blocks : List (List (List ℕ))) (entries : List LogEntry) (buffers : ℕ) (archiving : Bool) (tail : ℕ)
      → stored_state (record image { archiving = archiving; tail = tail }) blocks entries buffers
      ≡ record (stored_state image blocks entries buffers) { archive = if archiving then Some tail else None }

-- the base of a row may move up
pub record RowsMove : Type 0 where
  pub log : (image : BaseImage) (blocks : List (List (List ℕ))) (entries : List LogEntry) (stream base : ℕ)
      → 1 ≤ stream → stream ≤ length image.streams → base ≤ frontier (stored_place image blocks)
      → IsLogWith image blocks entries → IsLogWith (with_row_base stream base image) blocks entries
  pub state : (image : BaseImage) (blocks : List (List (List ℕ))) (entries : List LogEntry) (buffers stream base : ℕ)
      → 1 ≤ stream → stream ≤ length image.streams → base_of (stored_state image blocks entries buffers) stream ≤ base
      → stored_state (with_row_base stream base image) blocks entries buffers
      ≡ record (stored_state image blocks entries buffers) { streams = set_base stream base (stored_state image blocks entries buffers).streams }

-- a row may be added after the others
pub record StreamsComeLast : Type 0 where
  pub log : (image : BaseImage) (blocks : List (List (List ℕ))) (entries : List LogEntry) (row : Row) → row.base ≤ frontier (stored_place image blocks)
      → IsLogWith image blocks entries → IsLogWith (record image { streams = image.streams ++ row ∷ [] }) blocks entries
  pub state : (image : BaseImage) (blocks : List (List (List ℕ))) (entries : List LogEntry) (buffers : ℕ) (row : Row) → IsImage image
      → IsLogWith image blocks entries
      → stored_state (record image { streams = image.streams ++ row ∷ [] }) blocks entries buffers
      ≡ record (stored_state image blocks entries buffers) {
        streams = (stored_state image blocks entries buffers).streams ++ record { name = row.name; base = row.base } ∷ [];
      }

-- ---- a copy without low containers

-- Of a state that is stored the containers below the hold's are listed no more.
pub without_low : LeaveOutLow → (t : State) (slot first : ℕ) (before : Newest) (blocks : Blocks) → IsValid t → IsImage before.image
    → first ≡ container_of (hold t) → IsStored t before blocks → IsStored t (record { slot = slot; image = from_container first before.image }) blocks
without_low laws t slot first before blocks valid is_image is_first stored =
    let image : BaseImage = before.image in
    let low : image.first ≤ first = omega (arith, stored.needed, is_first) in
    let kept = hold_kept t stored.entries valid (stored_among t image.first stored.entries stored.records) in
    let under : first ≤ container_of (hold (stored_state image (map blocks image.files) stored.entries t.buffers)) =
    omega (arith, is_first, kept, ap (λ (u : State). container_of (hold u)) stored.state) in
    let held = laws.held image blocks stored.entries t.buffers first is_image stored.log under in
    copy_stored t slot image blocks stored.entries first stored.state stored.records low is_first
    (laws.log image blocks stored.entries first is_image low held.0 held.1 stored.log)
    (laws.same image blocks stored.entries t.buffers first is_image stored.log low under)

-- and it is one that a log can have, in the version that is written
lower_image : LeaveOutLow → (t : State) (first turn : ℕ) (before : Newest) (blocks : Blocks) → IsValid t → IsImage before.image
    → IsImage (current before.image) → turn ≤ 2 → first ≡ container_of (hold t) → IsStored t before blocks
    → IsImage (from_container first (record before.image { version = 2; turn = turn }))
lower_image laws t first turn before blocks valid is_image is_current of_turn is_first stored =
    let image : BaseImage = before.image in
    let kept = hold_kept t stored.entries valid (stored_among t image.first stored.entries stored.records) in
    let held = laws.held image blocks stored.entries t.buffers first is_image stored.log
    (omega (arith, is_first, kept, ap (λ (u : State). container_of (hold u)) stored.state)) in
    low_image (current image) first turn is_current of_turn (omega (arith, stored.needed, is_first)) held.0

-- the same in another slot
abbrev in_slot : (s : State) (slot : ℕ) (before : Newest) (blocks : Blocks) → IsStored s before blocks
    → IsStored s (record { slot = slot; image = before.image }) blocks
in_slot s slot before blocks stored =
    record { entries = stored.entries; log = stored.log; records = stored.records; state = stored.state; needed = stored.needed }

-- and of another version, with another turn
pub with_turn : SettingsLeave → (s : State) (version turn : ℕ) (before : Newest) (blocks : Blocks) → IsStored s before blocks
    → IsStored s (record { slot = before.slot; image = record before.image { version = version; turn = turn } }) blocks
with_turn laws s version turn before blocks stored =
    let image : BaseImage = before.image in
    record {
      entries = stored.entries;
      log = laws.log image (map blocks image.files) stored.entries version turn image.containers image.files_made image.maximum image.minimum image.growth
          image.automatic stored.log;
      records = stored.records;
      state = stored.state;
      needed = stored.needed;
    }

-- ---- the copies of the calls

-- other policies
pub policies_copied : LeaveOutLow → SettingsLeave → (s : State) (policies : Policies) (change : Change) (first : ℕ) (before : Newest) (blocks : Blocks)
    → IsValid s → IsImage before.image → before.image.containers ≡ s.containers → AreAllowed policies → change ≡ change_to policies
    → first ≡ container_of (hold s) → IsStored s before blocks
    → IsStored (with_policies policies s) (record { slot = older_of before.slot; image = next_copy first change before.image }) blocks
policies_copied low settings s policies change first before blocks valid is_image containers allowed is_change is_first stored =
    let slot = older_of before.slot in
    let lower : BaseImage = from_container first before.image in
    let turn = (before.image.turn + 1) % 3 in
    let dropped = without_low low s slot first before blocks valid is_image is_first stored in
    let is = policies_stored s slot lower blocks policies turn containers allowed dropped
    (settings.log lower (map blocks lower.files) dropped.entries 2 turn lower.containers lower.files_made
    (unwrap_or policies.maximum 0) (unwrap_or policies.minimum 0) (unwrap_or policies.growth 0) policies.automatic dropped.log)
    (settings.state lower (map blocks lower.files) dropped.entries s.buffers 2 turn lower.containers lower.files_made
    (unwrap_or policies.maximum 0) (unwrap_or policies.minimum 0) (unwrap_or policies.growth 0) policies.automatic) in
    subst (λ (ch : Change). let n : Newest = record { slot = slot; image = next_copy first ch before.image } in IsStored (with_policies policies s) n blocks)
    (sym is_change) is

-- another size
pub size_copied : LeaveOutLow → SettingsLeave → (s : State) (containers first : ℕ) (before : Newest) (blocks : Blocks) → IsValid s
    → IsImage before.image → first ≡ container_of (hold s) → IsStored s before blocks
    → IsStored (with_containers containers s)
    (record { slot = older_of before.slot; image = counting containers (next_copy first changes.Listing before.image) }) blocks
size_copied low settings s containers first before blocks valid is_image is_first stored =
    let slot = older_of before.slot in
    let lower : BaseImage = from_container first before.image in
    let turn = (before.image.turn + 1) % 3 in
    let dropped = without_low low s slot first before blocks valid is_image is_first stored in
    sized_stored s slot lower blocks containers turn dropped
    (settings.log lower (map blocks lower.files) dropped.entries 2 turn containers (max lower.files_made containers)
    lower.maximum lower.minimum lower.growth lower.automatic dropped.log)
    (settings.state lower (map blocks lower.files) dropped.entries s.buffers 2 turn containers (max lower.files_made containers)
    lower.maximum lower.minimum lower.growth lower.automatic)

-- archiving off, or on with another tail: the containers are listed from the hold's of the new state on
pub archive_copied : LeaveOutLow → SettingsLeave → (s : State) (tail : Option ℕ) (change : Change) (first : ℕ) (before : Newest) (blocks : Blocks)
    → IsValid s → IsValid (with_archive tail s) → flushed s < 2 ^ 64 → container_of (hold s) ≤ container_of (hold (with_archive tail s))
    → IsImage (current before.image) → change ≡ archive_change tail → first ≡ container_of (hold (with_archive tail s)) → IsStored s before blocks
    → IsStored (with_archive tail s) (record { slot = older_of before.slot; image = next_copy first change before.image }) blocks
archive_copied low settings s tail change first before blocks valid after few up is_image is_change is_first stored =
    let t : State = with_archive tail s in
    let slot = older_of before.slot in
    let image : BaseImage = before.image in
    let turn = (image.turn + 1) % 3 in
    let from : image.first ≤ container_of (hold t) = omega (arith, stored.needed, up) in
    let early : BaseImage = record image { version = 2; turn = turn } in
    let again = with_turn settings s 2 turn (record { slot = slot; image = image }) blocks (in_slot s slot before blocks stored) in
    let fits = tail_fits s early (map blocks early.files) tail valid after (ap (λ (u : State). u.place) again.state) from in
    let set : IsStored t (record { slot = slot; image = archived tail turn image }) blocks =
    archived_stored s slot early blocks tail again from
    (settings.archived early (map blocks early.files) again.entries (is_some tail) (unwrap_or tail null_lsn) fits again.log)
    (settings.archive early (map blocks early.files) again.entries s.buffers (is_some tail) (unwrap_or tail null_lsn)) in
    let is = without_low low t slot first (record { slot = slot; image = archived tail turn image }) blocks after
    (archived_image image tail turn is_image (omega arith) (tail_few s tail few after)) is_first set in
    subst (λ (ch : Change). let n : Newest = record { slot = slot; image = next_copy first ch image } in IsStored t n blocks) (sym is_change) is

-- another base of a stream: the containers are listed from the hold's after it on
pub base_copied : LeaveOutLow → SettingsLeave → RowsMove → (s : State) (stream base first : ℕ) (before : Newest) (blocks : Blocks)
    → IsValid s → IsValid (with_base stream base s) → flushed s < 2 ^ 64 → IsSome (stream_at s stream) → base_of s stream ≤ base
    → container_of (hold s) ≤ container_of (hold (with_base stream base s)) → length before.image.streams ≡ length s.streams
    → IsImage (current before.image) → first ≡ container_of (hold (with_base stream base s)) → IsStored s before blocks
    → IsStored (with_base stream base s) (record { slot = older_of before.slot; image = next_copy first (changes.Base stream base) before.image }) blocks
base_copied low settings rows_move s stream base first before blocks valid after few there up held rows is_image is_first stored =
    let t : State = with_base stream base s in
    let slot = older_of before.slot in
    let image : BaseImage = before.image in
    let turn = (image.turn + 1) % 3 in
    let from : image.first ≤ container_of (hold t) = omega (arith, stored.needed, held) in
    let number = number_there s.streams stream there in
    let row : stream ≤ length image.streams = omega (arith, number.1, rows) in
    let below = moved_below (flushed t) stream base s.streams number.0 number.1 after.stable.bases in
    let ends : base ≤ frontier (cut s).place = omega (arith, below, cut_ends s valid) in
    let early : BaseImage = record image { version = 2; turn = turn } in
    let again = with_turn settings s 2 turn (record { slot = slot; image = image }) blocks (in_slot s slot before blocks stored) in
    let set : IsStored t (record { slot = slot; image = moved stream base turn image }) blocks =
    base_stored s slot early blocks stream base again from
    (rows_move.log early (map blocks early.files) again.entries stream base number.0 row
    (subst (λ (u : State). base ≤ frontier u.place) (sym again.state) ends) again.log)
    (rows_move.state early (map blocks early.files) again.entries s.buffers stream base number.0 row
    (subst (λ (u : State). base_of u stream ≤ base) (sym again.state) up)) in
    without_low low t slot first (record { slot = slot; image = moved stream base turn image }) blocks after
    (moved_image image stream base turn is_image (omega arith) (omega (arith, below, few))) is_first set

-- a stream more
pub stream_copied : LeaveOutLow → SettingsLeave → StreamsComeLast → (s : State) (name : List ℕ) (row : Row) (first : ℕ) (before : Newest) (blocks : Blocks) → IsValid s
    → container_of (hold s) ≤ container_of (hold (with_stream name s)) → IsImage before.image → IsImage (current before.image)
    → row ≡ record { name = name; base = null_lsn }
    → first ≡ container_of (hold s) → IsStored s before blocks
    → IsStored (with_stream name s) (record { slot = older_of before.slot; image = with_row row (next_copy first changes.Listing before.image) }) blocks
stream_copied low settings last s name row first before blocks valid held is_image is_current is_row is_first stored =
    let slot = older_of before.slot in
    let lower : BaseImage = from_container first before.image in
    let turn = (before.image.turn + 1) % 3 in
    let dropped = without_low low s slot first before blocks valid is_image is_first stored in
    let new : Row = record { name = name; base = null_lsn } in
    let early : BaseImage = record lower { version = 2; turn = turn } in
    let again = with_turn settings s 2 turn (record { slot = slot; image = lower }) blocks dropped in
    let is : IsStored (with_stream name s) (record { slot = slot; image = added name turn lower }) blocks =
    stream_stored s slot early blocks name again (omega (arith, is_first, held))
    (last.log early (map blocks early.files) again.entries new (omega arith) again.log)
    (last.state early (map blocks early.files) again.entries s.buffers new
    (lower_image low s first turn before blocks valid is_image is_current (omega arith) is_first stored) again.log) in
    subst (λ (r : Row). let n : Newest = record { slot = slot; image = with_row r (next_copy first changes.Listing before.image) } in IsStored (with_stream name s) n blocks)
    (sym is_row) is

-- ---- while a copy is written

-- Whatever is answered: where the copy that follows stores another state on the same open blocks, a crash leaves that or the one of before.
pub copied_meanwhile : (old new : DiskState) (s t : State) (before after : Newest) → ((blocks : Blocks) → IsStored s before blocks → IsStored t after blocks)
    → (IsSettled old → (whole : Bool) (blocks : Blocks) → Stores whole before blocks old.files
    → Leaves (λ (image : Files). Stores whole before blocks image ⊎ Stores whole after blocks image) old new)
    → StoredMeanwhile old new s t before
copied_meanwhile old new s t before after copied leaves = λ blocks stored settled whole stores.
    meanwhile_of old new s t before after blocks blocks whole stored (copied blocks stored) (leaves settled whole blocks stores)

-- So it is with the copy of a log that isn't broken.
pub crash_copied : StandByBlocks → HaveByFile → (old new : DiskState) (t : State) (after : Newest) (log : Log) → IsIntact old log → IsValid t
    → ((blocks : Blocks) → IsStored log.state.value log.physical blocks → IsStored t after blocks)
    → (IsSettled old → (whole : Bool) (blocks : Blocks) → Stores whole log.physical blocks old.files
    → Leaves (λ (image : Files). Stores whole log.physical blocks image ⊎ Stores whole after blocks image) old new)
    → (asked : Request) (s : State) → Survives asked s (cut log.state.value) → Survives asked s (cut t) → CrashLeavesSurvivor asked s old new
crash_copied stands by_file old new t after log intact valid copied leaves =
    crash_stored stands by_file old new log.state.value t log intact.opened (copied_meanwhile old new log.state.value t log.physical after copied leaves)
    (valid_holds log.state.value intact.sound.valid) (valid_holds t valid)
