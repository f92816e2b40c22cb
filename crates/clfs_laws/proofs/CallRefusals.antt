-- What it tells that a call is refused, or that it isn't.
use Rattle.clfs_laws.proofs.Words.{◌≡◌, ℕ, Bool, true, false, refl, sym, ap, subst, List, [], ◌∷◌, Option, Some, None, if◌then◌else◌, not, ◌==◌, ◌||◌, ◌&&◌}
use Rattle.clfs_laws.proofs.Words.{nat_lt, nat_le, find, is_none, unwrap_or, option_map_or, most_streams, null_lsn, longest, frontier, Policy, Call, Draft}
use Rattle.clfs_laws.proofs.Words.{Previous, UndoNext, Forward, Refusal, State, Area, Cursor, CursorKind, Records, RestartAreas, area_of, areas_of, base_of}
use Rattle.clfs_laws.proofs.Words.{stream_at, live_at, last_live, active, own_sum, free, reserved, grown, has_room, size_limit, flushed, need_of, spent_of}
use Rattle.clfs_laws.proofs.Words.{newest_restart, next_of_cursor, record_cursor, restart_cursor, cursor_of, outside, policy_refusal, is_installed}
use Rattle.clfs_laws.proofs.Words.{needed_containers, refused_if, in_area, unless_two_containers, too_long, short, full, name_fault, stream_number}
use Rattle.clfs_laws.proofs.Words.{append_refusal, restart_refusal, invalid_base, invalid_link, too_many_cursors, read_refusal, next_refusal, end_of_kind}
use Rattle.clfs_laws.proofs.Words.{is_link, is_base, create_refusal, size_refusal, refusal, is_of_call, needed_sectors, taken_sectors, area_number}
use Rattle.clfs_laws.proofs.Words.{held_if_there}
use Rattle.std.specs.Prelude.{length}
use Rattle.clfs_lsn.specs.declared.policy.Policy.TheVariants as policies
use Rattle.clfs_model.specs.declared.call.Call.TheVariants as calls
use Rattle.clfs_model.specs.declared.refusal.Refusal.TheVariants as refusals

-- what a call needs, and what its area has for it
pub record Terms : Type 0 where
  pub state : State
  pub held : ℕ
  pub taken : ℕ
  pub need : Option ℕ

-- there is room for what the call needs
abbrev pub HasRoom : State → Option ℕ → Type 0
HasRoom s None = Unit {0}
HasRoom s (Some need) = has_room s need ≡ true

-- What a refusal tells: each stands in the call's list; one for space tells that there is no room, one for what the area holds that
-- this is too little, and one for the number of containers that there are fewer than two.
abbrev pub Tells : Terms → Refusal → Type 0
Tells t (refusals.Full of_free of_reserved of_need) =
    (t.need ≡ Some of_need) × ((has_room t.state of_need ≡ false)
    × ((of_free ≡ free (grown t.state of_need)) × (of_reserved ≡ reserved (grown t.state of_need))))
Tells t (refusals.ReservationShort of_held of_need) = (of_held ≡ t.held) × ((of_need ≡ t.taken) × (nat_lt t.held t.taken ≡ true))
Tells t (refusals.NotEnoughContainers have) = (have ≡ t.state.containers) × (nat_lt t.state.containers 2 ≡ true)
Tells t given = is_of_call given ≡ true

-- what it tells that there is no refusal, or this one
abbrev pub Told : Terms → Option Refusal → Type 0
Told t None = HasRoom t.state t.need
Told t (Some given) = Tells t given

-- whatever a refusal tells, it stands in a call's list
pub own_of : (t : Terms) (given : Refusal) → Tells t given → is_of_call given ≡ true
own_of t (refusals.Full of_free of_reserved of_need) tells = refl
own_of t (refusals.ReservationShort of_held of_need) tells = refl
own_of t (refusals.NotEnoughContainers have) tells = refl
own_of t given tells = tells

told_if : (t : Terms) (test : Bool) (given : Refusal) (others : Option Refusal) → (test ≡ true → Tells t given) → Told t others → Told t (refused_if test given others)
told_if t true given others tells rest = tells refl
told_if t false given others tells rest = rest

told_option : {A : Type 0} (t : Terms) (found : Option A) (f : A → Option Refusal) (other : Option Refusal)
    → ((x : A) → Told t (f x)) → Told t other → Told t (option_map_or f found other)
told_option t None f other each none = none
told_option t (Some x) f other each none = each x

told_in_area : (t : Terms) (s : State) (client number : ℕ) (rest : Area → Option Refusal) (found : Option Area)
    → ((area : Area) → found ≡ Some area → Told t (rest area)) → Told t (option_map_or rest found (Some refusals.NoSuchArea))
told_in_area t s client number rest None each = refl
told_in_area t s client number rest (Some area) each = each area refl

told_two : (t : Terms) (others : Option Refusal) → Told t others → Told t (unless_two_containers t.state others)
told_two t others rest = told_if t (nat_lt t.state.containers 2) (refusals.NotEnoughContainers t.state.containers) others (λ few. (refl, few)) rest

told_long : (t : Terms) (greatest : ℕ) (lengths : List ℕ) (others : Option Refusal) → Told t others → Told t (too_long greatest lengths others)
told_long t greatest lengths others rest =
    told_option t (find (λ len. nat_lt greatest len) lengths) (λ len. Some (refusals.RecordTooLong len greatest)) others (λ (len : ℕ). refl) rest

told_link : (t : Terms) (s : State) (stream link : ℕ) (others : Option Refusal) → Told t others → Told t (invalid_link s stream link others)
told_link t s stream link others rest = told_if t (not (is_link s stream link)) (refusals.LinkInvalid link) others (λ _. refl) rest

told_base : (t : Terms) (s : State) (stream lsn : ℕ) (others : Option Refusal) → Told t others → Told t (invalid_base s stream lsn others)
told_base t s stream lsn others rest =
    told_if t (not (is_base s stream lsn)) (refusals.TailInvalid lsn (base_of s stream) (last_live s stream)) others (λ _. refl) rest

told_short : (t : Terms) (area : Area) (need : ℕ) (others : Option Refusal) → area.held ≡ t.held → need ≡ t.taken → Told t others → Told t (short area need others)
told_short t area need others held taken rest =
    told_if t (nat_lt area.held need) (refusals.ReservationShort area.held need) others (λ few. (held, (taken, rw (held, taken) at few))) rest

full_by : (t : Terms) (need : ℕ) (room : Bool) → t.need ≡ Some need → has_room t.state need ≡ room
    → Told t (refused_if (not room) (refusals.Full (free (grown t.state need)) (reserved (grown t.state need)) need) None)
full_by t need true needs is = let F : Option ℕ → Type 0 = HasRoom t.state in subst F (sym needs) is
full_by t need false needs is = (needs, (is, (refl, refl)))

told_full : (t : Terms) (need : ℕ) → t.need ≡ Some need → Told t (full t.state need)
told_full t need needs = full_by t need (has_room t.state need) needs refl

-- a test with no other after it, of a call that needs no room
told_last : (s : State) (held taken : ℕ) (test : Bool) (given : Refusal) → Tells (record { state = s; held = held; taken = taken; need = None }) given
    → Told (record { state = s; held = held; taken = taken; need = None }) (refused_if test given None)
told_last s held taken test given tells = told_if (record { state = s; held = held; taken = taken; need = None }) test given None (λ _. tells) tt

-- what a call of a client needs, and what its area has for it
abbrev pub terms_of : State → ℕ → Call → Terms
terms_of s client call = record {
  state = s;
  held = held_if_there (area_of s client (area_number call));
  taken = taken_sectors call;
  need = needed_sectors call;
}

told_append : (t : Terms) (area : Area) (draft : Draft) (is_reserved : Bool) (sizes : List ℕ) → area.held ≡ t.held
    → spent_of is_reserved (length draft.bytes) ≡ t.taken → t.need ≡ Some (need_of is_reserved (length draft.bytes) sizes)
    → Told t (append_refusal t.state area draft is_reserved sizes)
told_append t area draft is_reserved sizes held taken needs =
    let n = length draft.bytes in
    let room = full t.state (need_of is_reserved n sizes) in
    let holds = short area (spent_of is_reserved n) room in
    let undo_next = invalid_link t.state area.stream draft.undo_next holds in
    told_long t area.largest (n ∷ sizes) (invalid_link t.state area.stream draft.previous undo_next)
    (told_link t t.state area.stream draft.previous undo_next (told_link t t.state area.stream draft.undo_next holds
    (told_short t area (spent_of is_reserved n) room held taken (told_full t (need_of is_reserved n sizes) needs))))

-- a choice between two
told_choice : (t : Terms) (test : Bool) (a b : Option Refusal) → Told t a → Told t b → Told t (if test then a else b)
told_choice t true a b first second = first
told_choice t false a b first second = second

told_restart : (t : Terms) (area : Area) (bytes : List ℕ) (base : ℕ) (is_reserved : Bool) → area.held ≡ t.held
    → spent_of is_reserved (length bytes) ≡ t.taken → t.need ≡ Some (need_of is_reserved (length bytes) [])
    → Told t (restart_refusal t.state area bytes base is_reserved)
told_restart t area bytes base is_reserved held taken needs =
    let n = length bytes in
    let room = full t.state (need_of is_reserved n []) in
    let others = short area (spent_of is_reserved n) room in
    let rest : Told t others = told_short t area (spent_of is_reserved n) room held taken (told_full t (need_of is_reserved n []) needs) in
    let based = invalid_base t.state area.stream base others in
    told_long t area.largest (n ∷ []) (if base == null_lsn then others else based)
    (told_choice t (base == null_lsn) others based rest (told_base t t.state area.stream base others rest))

tells_end : (t : Terms) (kind : CursorKind) → Tells t (end_of_kind kind)
tells_end t (Records Previous) = refl
tells_end t (Records UndoNext) = refl
tells_end t (Records Forward) = refl
tells_end t RestartAreas = refl

-- the terms of a call that needs no room
abbrev quiet : State → ℕ → ℕ → Terms
quiet s held taken = record { state = s; held = held; taken = taken; need = None }

told_next : (s : State) (held taken : ℕ) (area : Area) (found : Option Cursor) → Told (quiet s held taken) (next_refusal s area found)
told_next s held taken area None = refl
told_next s held taken area (Some cursor) =
    told_last s held taken (is_none (next_of_cursor s area cursor)) (end_of_kind cursor.kind) (tells_end (quiet s held taken) cursor.kind)

told_cursors : (s : State) (held taken : ℕ) (area : Area) → Told (quiet s held taken) (too_many_cursors area)
told_cursors s held taken area = told_last s held taken (nat_le area.reads (length area.cursors)) (refusals.CursorLimit (length area.cursors)) refl

told_outside : (s : State) (held taken value least greatest : ℕ) → Told (quiet s held taken) (outside value least greatest)
told_outside s held taken value least greatest =
    told_last s held taken (nat_lt value least || nat_lt greatest value) (refusals.PolicyConflict least greatest) refl

told_policy : (s : State) (held taken : ℕ) (policy : Policy) → Told (quiet s held taken) (policy_refusal s policy)
told_policy s held taken (policies.Maximum value) = told_outside s held taken value (unwrap_or s.minimum 2) 256
told_policy s held taken (policies.Minimum value) = told_outside s held taken value 2 (unwrap_or s.maximum 256)
told_policy s held taken (policies.Growth value) = told_outside s held taken value 1 254
told_policy s held taken policies.Automatic = tt

told_tail : (s : State) (held taken lsn : ℕ) (archive : Option ℕ) → Told (quiet s held taken) (option_map_or
    (λ tail. refused_if (nat_lt lsn tail || nat_lt (flushed s) lsn) (refusals.ArchiveTailInvalid lsn tail (flushed s)) None) archive (Some refusals.Ephemeral))
told_tail s held taken lsn None = refl
told_tail s held taken lsn (Some tail) =
    told_last s held taken (nat_lt lsn tail || nat_lt (flushed s) lsn) (refusals.ArchiveTailInvalid lsn tail (flushed s)) refl

told_size : (s : State) (held taken asked : ℕ) → Told (quiet s held taken) (size_refusal s asked)
told_size s held taken asked =
    let test = nat_lt asked s.containers && nat_lt asked (needed_containers s) in
    let shrink = refused_if test (refusals.CantShrink (active s) (needed_containers s)) None in
    told_if (quiet s held taken) (nat_lt s.containers asked && nat_lt (size_limit s) asked) (refusals.ContainerLimit (size_limit s)) shrink (λ _. refl)
    (told_last s held taken test (refusals.CantShrink (active s) (needed_containers s)) refl)

told_create : (s : State) (held taken client stream largest : ℕ) → Told (quiet s held taken) (create_refusal s client stream largest)
told_create s held taken client stream largest =
    let limit = refused_if (nat_le 16 (length (areas_of s client))) (refusals.AreaLimit (length (areas_of s client))) None in
    told_if (quiet s held taken) (is_none (stream_at s stream)) refusals.NoSuchStream (too_long (longest s.shape) (largest ∷ []) limit) (λ _. refl)
    (told_long (quiet s held taken) (longest s.shape) (largest ∷ []) limit
    (told_last s held taken (nat_le 16 (length (areas_of s client))) (refusals.AreaLimit (length (areas_of s client))) refl))

told_open : (s : State) (held taken : ℕ) (name : List ℕ) → Told (quiet s held taken) (refusal s 0 (calls.OpenStream name))
told_open s held taken name =
    let test = is_none (stream_number s name) && nat_le most_streams (length s.streams) in
    let limit = refused_if test (refusals.StreamLimit (length s.streams)) None in
    let single = is_none (stream_number s name) && (s.dedicated && nat_le 1 (length s.streams)) in
    told_option (quiet s held taken) (name_fault name) (λ at. Some (refusals.NameInvalid at)) (refused_if single refusals.Dedicated limit)
    (λ (at : ℕ). refl)
    (told_if (quiet s held taken) single refusals.Dedicated limit (λ _. refl) (told_last s held taken test (refusals.StreamLimit (length s.streams)) refl))

-- a call in an area whose other refusals need no room
told_quiet_area : (s : State) (client number taken : ℕ) (rest : Area → Option Refusal)
    → ((area : Area) → area_of s client number ≡ Some area → Told (quiet s (held_if_there (area_of s client number)) taken) (rest area))
    → Told (quiet s (held_if_there (area_of s client number)) taken) (in_area s client number rest)
told_quiet_area s client number taken rest each =
    told_in_area (quiet s (held_if_there (area_of s client number)) taken) s client number rest (area_of s client number) each

-- what a call's refusal tells, or that there is none
pub refusal_told : (s : State) (client : ℕ) (call : Call) → Told (terms_of s client call) (refusal s client call)
refusal_told s client (calls.OpenStream name) = told_open s (held_if_there (area_of s client 0)) 0 name
refusal_told s client (calls.CreateArea stream largest reads) = told_create s (held_if_there (area_of s client 0)) 0 client stream largest
refusal_told s client (calls.DeleteArea number) = told_quiet_area s client number 0 (λ _. None) (λ (area : Area) _. tt)
refusal_told s client (calls.Reserve number sizes) =
    let t = terms_of s client (calls.Reserve number sizes) in
    let rest : Area → Option Refusal = λ area. too_long area.largest sizes (full s (own_sum sizes)) in
    told_two t (in_area s client number rest) (told_in_area t s client number rest (area_of s client number)
    (λ (area : Area) _. told_long t area.largest sizes (full s (own_sum sizes)) (told_full t (own_sum sizes) refl)))
refusal_told s client (calls.Release number sectors) =
    let t = terms_of s client (calls.Release number sectors) in
    told_quiet_area s client number sectors (λ area. short area sectors None)
    (λ (area : Area) is. told_short t area sectors None (ap held_if_there (sym is)) refl tt)
refusal_told s client (calls.Align number sizes) =
    told_quiet_area s client number 0 (λ area. too_long area.largest sizes None)
    (λ (area : Area) _. told_long (terms_of s client (calls.Align number sizes)) area.largest sizes None tt)
refusal_told s client (calls.Append number draft is_reserved sizes) =
    let t = terms_of s client (calls.Append number draft is_reserved sizes) in
    let rest : Area → Option Refusal = λ area. append_refusal s area draft is_reserved sizes in
    told_two t (in_area s client number rest) (told_in_area t s client number rest (area_of s client number)
    (λ (area : Area) is. told_append t area draft is_reserved sizes (ap held_if_there (sym is)) refl refl))
refusal_told s client (calls.Flush number) = told_quiet_area s client number 0 (λ _. None) (λ (area : Area) _. tt)
refusal_told s client (calls.FlushTo number lsn) =
    told_quiet_area s client number 0 (λ _. refused_if (nat_le (frontier s.place) lsn) (refusals.RecordNonexistent lsn) None)
    (λ (area : Area) _. told_last s (held_if_there (area_of s client number)) 0 (nat_le (frontier s.place) lsn) (refusals.RecordNonexistent lsn) refl)
refusal_told s client (calls.Read number lsn mode) =
    let held = held_if_there (area_of s client number) in
    told_quiet_area s client number 0 (λ area. read_refusal s area lsn)
    (λ (area : Area) _. told_if (quiet s held 0) (is_none (live_at s area.stream lsn)) (refusals.RecordNonexistent lsn) (too_many_cursors area) (λ _. refl)
    (told_cursors s held 0 area))
refusal_told s client (calls.ReadNext number cursor) =
    told_quiet_area s client number 0 (λ area. next_refusal s area (record_cursor area cursor))
    (λ (area : Area) _. told_next s (held_if_there (area_of s client number)) 0 area (record_cursor area cursor))
refusal_told s client (calls.EndRead number cursor) =
    told_quiet_area s client number 0 (λ area. refused_if (is_none (cursor_of area cursor)) refusals.NoSuchCursor None)
    (λ (area : Area) _. told_last s (held_if_there (area_of s client number)) 0 (is_none (cursor_of area cursor)) refusals.NoSuchCursor refl)
refusal_told s client (calls.WriteRestart number bytes base is_reserved) =
    let t = terms_of s client (calls.WriteRestart number bytes base is_reserved) in
    let rest : Area → Option Refusal = λ area. restart_refusal s area bytes base is_reserved in
    told_two t (in_area s client number rest) (told_in_area t s client number rest (area_of s client number)
    (λ (area : Area) is. told_restart t area bytes base is_reserved (ap held_if_there (sym is)) refl refl))
refusal_told s client (calls.ReadRestart number) =
    let held = held_if_there (area_of s client number) in
    told_quiet_area s client number 0 (λ area. refused_if (is_none (newest_restart s area.stream)) refusals.NoRestart (too_many_cursors area))
    (λ (area : Area) _. told_if (quiet s held 0) (is_none (newest_restart s area.stream)) refusals.NoRestart (too_many_cursors area) (λ _. refl)
    (told_cursors s held 0 area))
refusal_told s client (calls.PreviousRestart number cursor) =
    told_quiet_area s client number 0 (λ area. next_refusal s area (restart_cursor area cursor))
    (λ (area : Area) _. told_next s (held_if_there (area_of s client number)) 0 area (restart_cursor area cursor))
refusal_told s client (calls.Advance number lsn) =
    told_quiet_area s client number 0 (λ area. invalid_base s area.stream lsn None)
    (λ (area : Area) _. told_base (terms_of s client (calls.Advance number lsn)) s area.stream lsn None tt)
refusal_told s client (calls.SetArchive on) = tt
refusal_told s client (calls.SetArchiveTail lsn) = told_tail s (held_if_there (area_of s client 0)) 0 lsn s.archive
refusal_told s client calls.ListExtents = told_last s (held_if_there (area_of s client 0)) 0 (is_none s.archive) refusals.Ephemeral refl
refusal_told s client (calls.InstallPolicy policy) = told_policy s (held_if_there (area_of s client 0)) 0 policy
refusal_told s client (calls.RemovePolicy kind) =
    told_last s (held_if_there (area_of s client 0)) 0 (not (is_installed s kind)) refusals.PolicyNotInstalled refl
refusal_told s client (calls.SetSize containers) = told_size s (held_if_there (area_of s client 0)) 0 containers
refusal_told s client (calls.Info stream) =
    told_last s (held_if_there (area_of s client 0)) 0 (is_none (stream_at s stream)) refusals.NoSuchStream refl
