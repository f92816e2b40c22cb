-- States that look alike, though they differ in records, refuse each call alike, and call the disk in the same calls.
use Rattle.clfs_laws.proofs.Words.{◌≡◌, ℕ, ◌+◌, Bool, true, false, refl, sym, ap, ◌∙◌, inl, inr, List, [], ◌∷◌, length, Option, Some, None, is_some, is_none}
use Rattle.clfs_laws.proofs.Words.{not, nat_lt, nat_le, ◌&&◌, ◌||◌, ◌==◌, if◌then◌else◌, max, unwrap_or, filter, find, reverse, slice_get, last_or}
use Rattle.clfs_laws.proofs.Words.{option_map_or, cases_Bool, null_lsn, joins, begins_here, active_containers, free_sectors, growth, LogEntry, Policy}
use Rattle.clfs_laws.proofs.Words.{PolicyKind, Call, Draft, Mode, Refusal, State, Area, Cursor, CursorKind, Records, RestartAreas, base_of, area_of, hold}
use Rattle.clfs_laws.proofs.Words.{active, live, live_at, last_live, lsn_or_null, free, reserved, own_sum, with_containers, growth_rate, size_limit, grown_if}
use Rattle.clfs_laws.proofs.Words.{grown, has_room, seal, flush, made_ready, need_of, spent_of, next, restart_areas, newest_restart, record_cursor}
use Rattle.clfs_laws.proofs.Words.{restart_cursor, next_of_cursor, is_restart, extents, policy_refusal, is_installed, needed_containers, refusal, refused_if}
use Rattle.clfs_laws.proofs.Words.{in_area, unless_two_containers, too_long, is_link, short, full, append_refusal, too_many_cursors, read_refusal}
use Rattle.clfs_laws.proofs.Words.{end_of_kind, next_refusal, is_base, invalid_base, restart_refusal, size_refusal, calls_disk, grows, making_ready_writes}
use Rattle.clfs_laws.proofs.Words.{fills_buffers}
use Rattle.clfs_lsn.specs.Space.{least_containers}
use Rattle.clfs_lsn.specs.declared.policy.Policy.TheVariants as policies
use Rattle.clfs_lsn.specs.declared.policy.PolicyKind.TheVariants as kinds
use Rattle.clfs_model.specs.declared.call.Call.TheVariants as calls
use Rattle.clfs_model.specs.declared.refusal.Refusal.TheVariants as refusals
use Rattle.clfs_laws.proofs.SameRecords.{with_records}
use Rattle.clfs_laws.proofs.ValidSettings.{grown_is}

-- All that calls see of the records is the same in both: the hold, the live records, where reading goes on, and the extents.
pub record LooksAlike (s u : State) : Type 0 where
  pub same_hold : hold u ≡ hold s
  pub same_live : (stream : ℕ) → live u stream ≡ live s stream
  pub same_next : (stream : ℕ) (mode : Mode) (last : ℕ) → next u stream mode last ≡ next s stream mode last
  pub same_extents : extents u ≡ extents s

-- the live record at an LSN, the last one, and the restart areas
pub live_at_alike : (s u : State) (stream lsn : ℕ) → LooksAlike s u → live_at u stream lsn ≡ live_at s stream lsn
live_at_alike s u stream lsn alike = ap (find (λ (entry : LogEntry). entry.lsn == lsn)) (alike.same_live stream)

pub last_live_alike : (s u : State) (stream : ℕ) → LooksAlike s u → last_live u stream ≡ last_live s stream
last_live_alike s u stream alike = ap (λ (entries : List LogEntry). lsn_or_null (last_or None entries)) (alike.same_live stream)

restart_areas_alike : (s u : State) (stream : ℕ) → LooksAlike s u → restart_areas u stream ≡ restart_areas s stream
restart_areas_alike s u stream alike =
    ap (λ (entries : List LogEntry). reverse (filter (λ (entry : LogEntry). is_restart entry.kind) entries)) (alike.same_live stream)

pub newest_alike : (s u : State) (stream : ℕ) → LooksAlike s u → newest_restart u stream ≡ newest_restart s stream
newest_alike s u stream alike = ap (λ (entries : List LogEntry). slice_get entries 0) (restart_areas_alike s u stream alike)

-- where a cursor comes to next
next_by_kind : (s u : State) (area : Area) (number last : ℕ) (kind : CursorKind) → LooksAlike s u
    → next_of_cursor u area (record { number = number; kind = kind; last = last })
    ≡ next_of_cursor s area (record { number = number; kind = kind; last = last })
next_by_kind s u area number last (Records mode) alike = alike.same_next area.stream mode last
next_by_kind s u area number last RestartAreas alike =
    ap (find (λ (entry : LogEntry). nat_lt entry.lsn last)) (restart_areas_alike s u area.stream alike)

pub next_alike : (s u : State) (area : Area) (cursor : Cursor) → LooksAlike s u → next_of_cursor u area cursor ≡ next_of_cursor s area cursor
next_alike s u area cursor alike = next_by_kind s u area cursor.number cursor.last cursor.kind alike

-- containers in use and free sectors
pub active_alike : (s : State) (records : List LogEntry) → LooksAlike s (with_records records s) → active (with_records records s) ≡ active s
active_alike s records alike = ap (active_containers s.place) alike.same_hold

pub free_alike : (s : State) (records : List LogEntry) → LooksAlike s (with_records records s) → free (with_records records s) ≡ free s
free_alike s records alike = ap (λ (h : ℕ). free_sectors s.shape s.place h s.containers) alike.same_hold

-- growth doesn't depend on the records otherwise
grown_if_alike : (s : State) (records : List LogEntry) (test : Bool) (wanted : ℕ) → LooksAlike s (with_records records s)
    → grown_if test (with_records records s) wanted ≡ with_records records (grown_if test s wanted)
grown_if_alike s records true wanted alike =
    ap (λ (h : ℕ). with_records records (with_containers (unwrap_or (growth s.shape s.place h s.containers (growth_rate s) (size_limit s) wanted) s.containers) s))
    alike.same_hold
grown_if_alike s records false wanted alike = refl

pub grown_alike : (s : State) (records : List LogEntry) (need : ℕ) → LooksAlike s (with_records records s)
    → grown (with_records records s) need ≡ with_records records (grown s need)
unfolding grown
grown_alike s records need alike =
    let w : State = with_records records s in
    let wanted = reserved s + need in
    ap (λ (f : ℕ). grown_if (s.automatic && nat_lt f wanted) w wanted) (free_alike s records alike)
    ∙ grown_if_alike s records (s.automatic && nat_lt (free s) wanted) wanted alike

-- growth gives the same free and reserved sectors, so there is room for the same needs
grown_free : (s : State) (records : List LogEntry) (need : ℕ) → LooksAlike s (with_records records s)
    → free (grown (with_records records s) need) ≡ free (grown s need)
grown_free s records need alike =
    let g : State = grown s need in
    ap free (grown_alike s records need alike) ∙ ap (λ (x : State). free (with_records records x)) (grown_is s need)
    ∙ ap (λ (h : ℕ). free_sectors s.shape s.place h g.containers) alike.same_hold ∙ ap free (sym (grown_is s need))

grown_reserved : (s : State) (records : List LogEntry) (need : ℕ) → LooksAlike s (with_records records s)
    → reserved (grown (with_records records s) need) ≡ reserved (grown s need)
grown_reserved s records need alike = ap reserved (grown_alike s records need alike)

room_alike : (s : State) (records : List LogEntry) (need : ℕ) → LooksAlike s (with_records records s)
    → has_room (with_records records s) need ≡ has_room s need
unfolding has_room
room_alike s records need alike = ap (nat_le (reserved s + need)) (grown_free s records need alike)

full_alike : (s : State) (records : List LogEntry) (need : ℕ) → LooksAlike s (with_records records s) → full (with_records records s) need ≡ full s need
full_alike s records need alike =
    let w : State = with_records records s in
    ap (λ (room : Bool). refused_if (not room) (refusals.Full (free (grown w need)) (reserved (grown w need)) need) None) (room_alike s records need alike)
    ∙ ap (λ (n : ℕ). refused_if (not (has_room s need)) (refusals.Full n (reserved (grown w need)) need) None) (grown_free s records need alike)
    ∙ ap (λ (n : ℕ). refused_if (not (has_room s need)) (refusals.Full (free (grown s need)) n need) None) (grown_reserved s records need alike)

needed_alike : (s : State) (records : List LogEntry) → LooksAlike s (with_records records s)
    → needed_containers (with_records records s) ≡ needed_containers s
needed_alike s records alike = ap (λ (h : ℕ). max (max 2 (unwrap_or s.minimum 0))
    (max (active_containers s.place h) (least_containers s.shape s.place h s.containers (reserved s)))) alike.same_hold

-- links and bases
link_alike : (s : State) (records : List LogEntry) (stream link : ℕ) → LooksAlike s (with_records records s)
    → is_link (with_records records s) stream link ≡ is_link s stream link
link_alike s records stream link alike =
    ap (λ (found : Option LogEntry). (link == null_lsn) || nat_lt link (base_of s stream) || is_some found)
    (live_at_alike s (with_records records s) stream link alike)

base_alike : (s : State) (records : List LogEntry) (stream lsn : ℕ) → LooksAlike s (with_records records s)
    → is_base (with_records records s) stream lsn ≡ is_base s stream lsn
base_alike s records stream lsn alike =
    let w : State = with_records records s in
    ap (λ (found : Option LogEntry). is_some found || (nat_lt null_lsn (last_live w stream) && (lsn == last_live w stream + 1)))
    (live_at_alike s w stream lsn alike)
    ∙ ap (λ (last : ℕ). is_some (live_at s stream lsn) || (nat_lt null_lsn last && (lsn == last + 1))) (last_live_alike s w stream alike)

-- the refusal of a call in an area, which may be missing
in_both : (found : Option Area) (f g : Area → Option Refusal) → ((area : Area) → f area ≡ g area)
    → option_map_or f found (Some refusals.NoSuchArea) ≡ option_map_or g found (Some refusals.NoSuchArea)
in_both None f g each = refl
in_both (Some area) f g each = each area

-- the refusals of appends, new bases, restart areas, reading on, policies and sizes
append_alike : (s : State) (records : List LogEntry) (area : Area) (draft : Draft) (is_reserved : Bool) (sizes : List ℕ)
    → LooksAlike s (with_records records s)
    → append_refusal (with_records records s) area draft is_reserved sizes ≡ append_refusal s area draft is_reserved sizes
append_alike s records area draft is_reserved sizes alike =
    let w : State = with_records records s in
    let n = length draft.bytes in
    let need = need_of is_reserved n sizes in
    let first : Bool → Option Refusal → Option Refusal = λ allowed others.
    too_long area.largest (n ∷ sizes) (refused_if (not allowed) (refusals.LinkInvalid draft.previous) others) in
    let second : Bool → Option Refusal → Option Refusal = λ allowed others. refused_if (not allowed) (refusals.LinkInvalid draft.undo_next) others in
    let third : Option Refusal → Option Refusal = λ others. short area (spent_of is_reserved n) others in
    ap (λ (others : Option Refusal). first (is_link w area.stream draft.previous) (second (is_link w area.stream draft.undo_next) (third others)))
    (full_alike s records need alike)
    ∙ ap (λ (allowed : Bool). first (is_link w area.stream draft.previous) (second allowed (third (full s need))))
    (link_alike s records area.stream draft.undo_next alike)
    ∙ ap (λ (allowed : Bool). first allowed (second (is_link s area.stream draft.undo_next) (third (full s need))))
    (link_alike s records area.stream draft.previous alike)

invalid_base_alike : (s : State) (records : List LogEntry) (stream lsn : ℕ) (others : Option Refusal) → LooksAlike s (with_records records s)
    → invalid_base (with_records records s) stream lsn others ≡ invalid_base s stream lsn others
invalid_base_alike s records stream lsn others alike =
    let w : State = with_records records s in
    ap (λ (allowed : Bool). refused_if (not allowed) (refusals.TailInvalid lsn (base_of s stream) (last_live w stream)) others)
    (base_alike s records stream lsn alike)
    ∙ ap (λ (last : ℕ). refused_if (not (is_base s stream lsn)) (refusals.TailInvalid lsn (base_of s stream) last) others) (last_live_alike s w stream alike)

restart_alike : (s : State) (records : List LogEntry) (area : Area) (bytes : List ℕ) (base : ℕ) (is_reserved : Bool)
    → LooksAlike s (with_records records s)
    → restart_refusal (with_records records s) area bytes base is_reserved ≡ restart_refusal s area bytes base is_reserved
restart_alike s records area bytes base is_reserved alike =
    let w : State = with_records records s in
    let n = length bytes in
    let need = need_of is_reserved n [] in
    let others : Option Refusal → Option Refusal = λ room. short area (spent_of is_reserved n) room in
    ap (λ (room : Option Refusal). too_long area.largest (n ∷ []) (if base == null_lsn then others room else invalid_base w area.stream base (others room)))
    (full_alike s records need alike)
    ∙ ap (λ (rest : Option Refusal). too_long area.largest (n ∷ []) (if base == null_lsn then others (full s need) else rest))
    (invalid_base_alike s records area.stream base (others (full s need)) alike)

next_refusal_alike : (s : State) (records : List LogEntry) (area : Area) (found : Option Cursor) → LooksAlike s (with_records records s)
    → next_refusal (with_records records s) area found ≡ next_refusal s area found
next_refusal_alike s records area None alike = refl
next_refusal_alike s records area (Some cursor) alike =
    ap (λ (entry : Option LogEntry). refused_if (is_none entry) (end_of_kind cursor.kind) None) (next_alike s (with_records records s) area cursor alike)

policy_alike : (s : State) (records : List LogEntry) (policy : Policy) → policy_refusal (with_records records s) policy ≡ policy_refusal s policy
policy_alike s records (policies.Maximum value) = refl
policy_alike s records (policies.Minimum value) = refl
policy_alike s records (policies.Growth value) = refl
policy_alike s records policies.Automatic = refl

installed_alike : (s : State) (records : List LogEntry) (kind : PolicyKind) → is_installed (with_records records s) kind ≡ is_installed s kind
installed_alike s records kinds.Maximum = refl
installed_alike s records kinds.Minimum = refl
installed_alike s records kinds.Growth = refl
installed_alike s records kinds.Automatic = refl

size_alike : (s : State) (records : List LogEntry) (asked : ℕ) → LooksAlike s (with_records records s)
    → size_refusal (with_records records s) asked ≡ size_refusal s asked
size_alike s records asked alike =
    let w : State = with_records records s in
    let by : ℕ → ℕ → Option Refusal = λ used needed.
    refused_if (nat_lt s.containers asked && nat_lt (size_limit s) asked) (refusals.ContainerLimit (size_limit s))
    (refused_if (nat_lt asked s.containers && nat_lt asked needed) (refusals.CantShrink used needed) None) in
    ap (λ (used : ℕ). by used (needed_containers w)) (active_alike s records alike) ∙ ap (by (active s)) (needed_alike s records alike)

-- each call meets the same first refusal
pub refusal_alike : (s : State) (records : List LogEntry) (client : ℕ) (call : Call) → LooksAlike s (with_records records s)
    → refusal (with_records records s) client call ≡ refusal s client call
refusal_alike s records client (calls.OpenStream name) alike = refl
refusal_alike s records client (calls.CreateArea stream largest reads) alike = refl
refusal_alike s records client (calls.DeleteArea number) alike = refl
refusal_alike s records client (calls.Reserve number sizes) alike =
    ap (λ (room : Option Refusal). unless_two_containers s (in_area s client number (λ (area : Area). too_long area.largest sizes room)))
    (full_alike s records (own_sum sizes) alike)
refusal_alike s records client (calls.Release number sectors) alike = refl
refusal_alike s records client (calls.Align number sizes) alike = refl
refusal_alike s records client (calls.Append number draft is_reserved sizes) alike =
    ap (unless_two_containers s) (in_both (area_of s client number) (λ area. append_refusal (with_records records s) area draft is_reserved sizes)
    (λ area. append_refusal s area draft is_reserved sizes) (λ area. append_alike s records area draft is_reserved sizes alike))
refusal_alike s records client (calls.Flush number) alike = refl
refusal_alike s records client (calls.FlushTo number lsn) alike = refl
refusal_alike s records client (calls.Read number lsn mode) alike =
    in_both (area_of s client number) (λ area. read_refusal (with_records records s) area lsn) (λ area. read_refusal s area lsn) (λ area.
    ap (λ (found : Option LogEntry). refused_if (is_none found) (refusals.RecordNonexistent lsn) (too_many_cursors area))
    (live_at_alike s (with_records records s) area.stream lsn alike))
refusal_alike s records client (calls.ReadNext number cursor) alike =
    in_both (area_of s client number) (λ area. next_refusal (with_records records s) area (record_cursor area cursor))
    (λ area. next_refusal s area (record_cursor area cursor)) (λ area. next_refusal_alike s records area (record_cursor area cursor) alike)
refusal_alike s records client (calls.EndRead number cursor) alike = refl
refusal_alike s records client (calls.WriteRestart number bytes base is_reserved) alike =
    ap (unless_two_containers s) (in_both (area_of s client number) (λ area. restart_refusal (with_records records s) area bytes base is_reserved)
    (λ area. restart_refusal s area bytes base is_reserved) (λ area. restart_alike s records area bytes base is_reserved alike))
refusal_alike s records client (calls.ReadRestart number) alike =
    in_both (area_of s client number)
    (λ area. refused_if (is_none (newest_restart (with_records records s) area.stream)) refusals.NoRestart (too_many_cursors area))
    (λ area. refused_if (is_none (newest_restart s area.stream)) refusals.NoRestart (too_many_cursors area))
    (λ area. ap (λ (found : Option LogEntry). refused_if (is_none found) refusals.NoRestart (too_many_cursors area))
    (newest_alike s (with_records records s) area.stream alike))
refusal_alike s records client (calls.PreviousRestart number cursor) alike =
    in_both (area_of s client number) (λ area. next_refusal (with_records records s) area (restart_cursor area cursor))
    (λ area. next_refusal s area (restart_cursor area cursor)) (λ area. next_refusal_alike s records area (restart_cursor area cursor) alike)
refusal_alike s records client (calls.Advance number lsn) alike =
    in_both (area_of s client number) (λ area. invalid_base (with_records records s) area.stream lsn None) (λ area. invalid_base s area.stream lsn None)
    (λ area. invalid_base_alike s records area.stream lsn None alike)
refusal_alike s records client (calls.SetArchive on) alike = refl
refusal_alike s records client (calls.SetArchiveTail lsn) alike = refl
refusal_alike s records client calls.ListExtents alike = refl
refusal_alike s records client (calls.InstallPolicy policy) alike = policy_alike s records policy
refusal_alike s records client (calls.RemovePolicy kind) alike =
    ap (λ (installed : Bool). refused_if (not installed) refusals.PolicyNotInstalled None) (installed_alike s records kind)
refusal_alike s records client (calls.SetSize containers) alike = size_alike s records containers alike
refusal_alike s records client (calls.Info stream) alike = refl

-- sealing, flushing and making ready leave records alone
pub seal_with : (s : State) (records : List LogEntry) → seal (with_records records s) ≡ with_records records (seal s)
seal_with s records = elim (cases_Bool (nat_lt 0 s.place.records)) [ inl some ↦ rw some refl | inr none ↦ rw none refl ]

pub flush_with : (s : State) (records : List LogEntry) → flush (with_records records s) ≡ with_records records (flush s)
flush_with s records = ap (λ (t : State). record t { waiting = [] }) (seal_with s records)

abbrev ready_by : Bool → Bool → State → State
ready_by joining beginning s = if joining then s else if beginning then seal s else flush s

ready_by_with : (joining beginning : Bool) (s : State) (records : List LogEntry)
    → ready_by joining beginning (with_records records s) ≡ with_records records (ready_by joining beginning s)
ready_by_with true beginning s records = refl
ready_by_with false true s records = seal_with s records
ready_by_with false false s records = flush_with s records

pub ready_with : (s : State) (records : List LogEntry) (n : ℕ) → made_ready (with_records records s) n ≡ with_records records (made_ready s n)
ready_with s records n = ready_by_with (joins s.shape s.place n) (begins_here s.shape s.place n) s records

grows_alike : (s : State) (records : List LogEntry) (need : ℕ) → LooksAlike s (with_records records s)
    → grows (with_records records s) need ≡ grows s need
grows_alike s records need alike = ap (λ (g : State). nat_lt s.containers g.containers) (grown_alike s records need alike)

-- and it calls the disk alike
pub disk_alike : (s : State) (records : List LogEntry) (call : Call) → LooksAlike s (with_records records s)
    → calls_disk (with_records records s) call ≡ calls_disk s call
disk_alike s records (calls.OpenStream name) alike = refl
disk_alike s records (calls.CreateArea stream largest reads) alike = refl
disk_alike s records (calls.DeleteArea number) alike = refl
disk_alike s records (calls.Reserve number sizes) alike = grows_alike s records (own_sum sizes) alike
disk_alike s records (calls.Release number sectors) alike = refl
disk_alike s records (calls.Align number sizes) alike = refl
disk_alike s records (calls.Append number draft is_reserved sizes) alike =
    let w : State = with_records records s in
    let n = length draft.bytes in
    let by : Bool → Bool → Bool = λ grown_first filled. grown_first || making_ready_writes s n || (draft.seal && filled) || draft.flush in
    ap (λ (grown_first : Bool). by grown_first (fills_buffers (made_ready w n))) (grows_alike s records (need_of is_reserved n sizes) alike)
    ∙ ap (λ (m : State). by (grows s (need_of is_reserved n sizes)) (fills_buffers m)) (ready_with s records n)
disk_alike s records (calls.Flush number) alike = refl
disk_alike s records (calls.FlushTo number lsn) alike = refl
disk_alike s records (calls.Read number lsn mode) alike = refl
disk_alike s records (calls.ReadNext number cursor) alike = refl
disk_alike s records (calls.EndRead number cursor) alike = refl
disk_alike s records (calls.WriteRestart number bytes base is_reserved) alike = refl
disk_alike s records (calls.ReadRestart number) alike = refl
disk_alike s records (calls.PreviousRestart number cursor) alike = refl
disk_alike s records (calls.Advance number lsn) alike = refl
disk_alike s records (calls.SetArchive on) alike = refl
disk_alike s records (calls.SetArchiveTail lsn) alike = refl
disk_alike s records calls.ListExtents alike = refl
disk_alike s records (calls.InstallPolicy policy) alike = refl
disk_alike s records (calls.RemovePolicy kind) alike = refl
disk_alike s records (calls.SetSize containers) alike = refl
disk_alike s records (calls.Info stream) alike = refl
