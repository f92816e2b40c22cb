-- Each call is answered by a reply of its own kind, or refused by a refusal that it may meet.
use Rattle.clfs_laws.proofs.Words.{◌≡◌, ℕ, Bool, true, false, refl, ap, ◌∙◌, subst, inl, inr, List, [], ◌∷◌, length, Option, Some, None, MatchOption, IsTrue}
use Rattle.clfs_laws.proofs.Words.{if◌then◌else◌, not, ◌==◌, ◌||◌, ◌&&◌, nat_lt, nat_le, find, is_none, option_map_or, most_streams, null_lsn, longest}
use Rattle.clfs_laws.proofs.Words.{LogEntry, Policy, Call, Draft, Mode, Previous, UndoNext, Forward, Refusal, Happened, Fine, Fault, Damage, Reply, State}
use Rattle.clfs_laws.proofs.Words.{Area, Cursor, CursorKind, Records, RestartAreas, area_of, base_of, stream_at, live_at, last_live, active, own_sum, free}
use Rattle.clfs_laws.proofs.Words.{reserved, grown, has_room, size_limit, flushed, need_of, spent_of, newest_restart, next_of_cursor, record_cursor}
use Rattle.clfs_laws.proofs.Words.{restart_cursor, is_over_restarts, policy_refusal, needed_containers, refused_if, too_long, short, full, name_fault}
use Rattle.clfs_laws.proofs.Words.{stream_number, append_refusal, restart_refusal, invalid_base, invalid_link, too_many_cursors, next_refusal, end_of_kind}
use Rattle.clfs_laws.proofs.Words.{is_link, is_base, refusal, Outcome, answer, Step, Goes, Comes, IsReply, IsReplyRead, IsDamaged, calls_disk, is_of_call}
use Rattle.clfs_laws.proofs.Words.{area_number, is_reply_of}
use Rattle.clfs_lsn.specs.declared.policy.Policy.TheVariants as policies
use Rattle.clfs_model.specs.declared.call.Call.TheVariants as calls
use Rattle.clfs_model.specs.declared.refusal.Refusal.TheVariants as refusals
use Rattle.clfs_model.specs.declared.reply.Reply.TheVariants as replies
use Rattle.clfs_model.specs.Step.{reads_disk}
use Rattle.clfs_laws.specs.ReplyKinds.{refuses_name, refuses_area, refuses_missing, refuses_reserve, refuses_release, refuses_align, refuses_append}
use Rattle.clfs_laws.specs.ReplyKinds.{refuses_flush_to, refuses_read, refuses_next, refuses_end, refuses_restart, refuses_newest, refuses_previous}
use Rattle.clfs_laws.specs.ReplyKinds.{refuses_base, refuses_tail, refuses_extents, refuses_policy, refuses_removal, refuses_size, refuses_stream, is_listed}
use Rattle.clfs_laws.specs.ReplyKinds.{may_call_disk, may_refuse}
use Rattle.clfs_laws.proofs.Among.{found}
use Rattle.clfs_laws.proofs.CallRefusals.{Told, own_of, terms_of, refusal_told}
use Rattle.clfs_laws.proofs.LsnOrder.{both_true}
use Rattle.clfs_laws.proofs.OutcomeCases.{of_option, of_area, of_cursor}
use Rattle.clfs_laws.proofs.StepCases.{broken_step, whole_step}

-- ---- which refusal a call meets

-- one that passes a test, or none
abbrev Lists : (Refusal → Bool) → Option Refusal → Type 0
Lists p None = Unit {0}
Lists p (Some given) = p given ≡ true

-- a refusal of a list, and that the area is missing only where it is
abbrev tells_missing : Refusal → Bool
tells_missing refusals.NoSuchArea = true
tells_missing _ = false

abbrev among : (Refusal → Bool) → Bool → Refusal → Bool
among list missing given = list given && (not (tells_missing given) || missing)

lists_if : (p : Refusal → Bool) (test : Bool) (given : Refusal) (others : Option Refusal) → p given ≡ true → Lists p others → Lists p (refused_if test given others)
lists_if p true given others is rest = is
lists_if p false given others is rest = rest

lists_option : {A : Type 0} (p : Refusal → Bool) (sought : Option A) (f : A → Option Refusal) (other : Option Refusal)
    → ((x : A) → Lists p (f x)) → Lists p other → Lists p (option_map_or f sought other)
lists_option p None f other each none = none
lists_option p (Some x) f other each none = each x

-- a test with no other after it
lists_last : (p : Refusal → Bool) (test : Bool) (given : Refusal) → p given ≡ true → Lists p (refused_if test given None)
lists_last p test given is = lists_if p test given None is tt

lists_long : (p : Refusal → Bool) (greatest : ℕ) (lengths : List ℕ) (others : Option Refusal) → ((len : ℕ) → p (refusals.RecordTooLong len greatest) ≡ true)
    → Lists p others → Lists p (too_long greatest lengths others)
lists_long p greatest lengths others is rest =
    lists_option p (find (λ len. nat_lt greatest len) lengths) (λ len. Some (refusals.RecordTooLong len greatest)) others is rest

lists_choice : (p : Refusal → Bool) (test : Bool) (a b : Option Refusal) → Lists p a → Lists p b → Lists p (if test then a else b)
lists_choice p true a b first second = first
lists_choice p false a b first second = second

lists_full : (p : Refusal → Bool) (s : State) (need : ℕ) → p (refusals.Full (free (grown s need)) (reserved (grown s need)) need) ≡ true → Lists p (full s need)
lists_full p s need is = lists_last p (not (has_room s need)) (refusals.Full (free (grown s need)) (reserved (grown s need)) need) is

lists_cursors : (p : Refusal → Bool) (area : Area) → p (refusals.CursorLimit (length area.cursors)) ≡ true → Lists p (too_many_cursors area)
lists_cursors p area is = lists_last p (nat_le area.reads (length area.cursors)) (refusals.CursorLimit (length area.cursors)) is

-- a call in an area, which is missing or has the other tests
lists_in : (list : Refusal → Bool) (sought : Option Area) (rest : Area → Option Refusal) → list refusals.NoSuchArea ≡ true
    → ((area : Area) → Lists (among list (is_none sought)) (rest area)) → Lists (among list (is_none sought)) (option_map_or rest sought (Some refusals.NoSuchArea))
lists_in list None rest is each = rw is refl
lists_in list (Some area) rest is each = each area

lists_append : (missing : Bool) (s : State) (area : Area) (draft : Draft) (spends : Bool) (sizes : List ℕ)
    → Lists (among refuses_append missing) (append_refusal s area draft spends sizes)
lists_append missing s area draft spends sizes =
    let p = among refuses_append missing in
    let n = length draft.bytes in
    let room = full s (need_of spends n sizes) in
    let holds = short area (spent_of spends n) room in
    let undo_next = invalid_link s area.stream draft.undo_next holds in
    lists_long p area.largest (n ∷ sizes) (invalid_link s area.stream draft.previous undo_next) (λ len. refl)
    (lists_if p (not (is_link s area.stream draft.previous)) (refusals.LinkInvalid draft.previous) undo_next refl
    (lists_if p (not (is_link s area.stream draft.undo_next)) (refusals.LinkInvalid draft.undo_next) holds refl
    (lists_if p (nat_lt area.held (spent_of spends n)) (refusals.ReservationShort area.held (spent_of spends n)) room refl
    (lists_full p s (need_of spends n sizes) refl))))

lists_restart : (missing : Bool) (s : State) (area : Area) (bytes : List ℕ) (base : ℕ) (spends : Bool)
    → Lists (among refuses_restart missing) (restart_refusal s area bytes base spends)
lists_restart missing s area bytes base spends =
    let p = among refuses_restart missing in
    let n = length bytes in
    let room = full s (need_of spends n []) in
    let others = short area (spent_of spends n) room in
    let based = invalid_base s area.stream base others in
    let rest : Lists (among refuses_restart missing) others =
    lists_if p (nat_lt area.held (spent_of spends n)) (refusals.ReservationShort area.held (spent_of spends n)) room refl
    (lists_full p s (need_of spends n []) refl) in
    lists_long p area.largest (n ∷ []) (if base == null_lsn then others else based) (λ len. refl)
    (lists_choice p (base == null_lsn) others based rest
    (lists_if p (not (is_base s area.stream base)) (refusals.TailInvalid base (base_of s area.stream) (last_live s area.stream)) others refl rest))

-- what a cursor of the kind that the call reads on with has reached
lists_next : (p : Refusal → Bool) (s : State) (area : Area) (at : Option Cursor) → p refusals.NoSuchCursor ≡ true
    → ((cursor : Cursor) → at ≡ Some cursor → p (end_of_kind cursor.kind) ≡ true) → Lists p (next_refusal s area at)
lists_next p s area None is ends = is
lists_next p s area (Some cursor) is ends = lists_last p (is_none (next_of_cursor s area cursor)) (end_of_kind cursor.kind) (ends cursor refl)

ends_records : (missing : Bool) (mode : Mode) → among refuses_next missing (end_of_kind (Records mode)) ≡ true
ends_records missing Previous = refl
ends_records missing UndoNext = refl
ends_records missing Forward = refl

ends_by_kind : (missing : Bool) (number : ℕ) (cursor : Cursor) (kind : CursorKind) → ((cursor.number == number) && not (is_over_restarts kind)) ≡ true
    → among refuses_next missing (end_of_kind kind) ≡ true
ends_by_kind missing number cursor (Records mode) is = ends_records missing mode
ends_by_kind missing number cursor RestartAreas is = absurd (let off : false ≡ true = (both_true (cursor.number == number) false is).1 in cc)

ends_by_restart : (missing : Bool) (number : ℕ) (cursor : Cursor) (kind : CursorKind) → ((cursor.number == number) && is_over_restarts kind) ≡ true
    → among refuses_previous missing (end_of_kind kind) ≡ true
ends_by_restart missing number cursor (Records mode) is = absurd (let off : false ≡ true = (both_true (cursor.number == number) false is).1 in cc)
ends_by_restart missing number cursor RestartAreas is = refl

lists_policy : (missing : Bool) (s : State) (policy : Policy) → Lists (among refuses_policy missing) (policy_refusal s policy)
lists_policy missing s (policies.Maximum value) = lists_last (among refuses_policy missing) _ _ refl
lists_policy missing s (policies.Minimum value) = lists_last (among refuses_policy missing) _ _ refl
lists_policy missing s (policies.Growth value) = lists_last (among refuses_policy missing) _ _ refl
lists_policy missing s policies.Automatic = tt

-- the call's area isn't there
abbrev is_missing : State → ℕ → Call → Bool
is_missing s client call = is_none (area_of s client (area_number call))

-- each call's refusal is one of its list
refusal_listed : (s : State) (client : ℕ) (call : Call) → Lists (among (is_listed call) (is_missing s client call)) (refusal s client call)
refusal_listed s client (calls.OpenStream name) =
    let p = among refuses_name (is_missing s client (calls.OpenStream name)) in
    let single = is_none (stream_number s name) && (s.dedicated && nat_le 1 (length s.streams)) in
    let none = is_none (stream_number s name) && nat_le most_streams (length s.streams) in
    lists_option p (name_fault name) _ _ (λ at. refl)
    (lists_if p single refusals.Dedicated (refused_if none (refusals.StreamLimit (length s.streams)) None) refl
    (lists_last p none (refusals.StreamLimit (length s.streams)) refl))
refusal_listed s client (calls.CreateArea stream largest reads) =
    let p = among refuses_area (is_missing s client (calls.CreateArea stream largest reads)) in
    lists_if p (is_none (stream_at s stream)) refusals.NoSuchStream _ refl
    (lists_long p (longest s.shape) (largest ∷ []) _ (λ len. refl) (lists_last p _ _ refl))
refusal_listed s client (calls.DeleteArea number) = lists_in refuses_missing (area_of s client number) _ refl (λ area. tt)
refusal_listed s client (calls.Reserve number sizes) =
    let p = among refuses_reserve (is_missing s client (calls.Reserve number sizes)) in
    lists_if p (nat_lt s.containers 2) _ _ refl
    (lists_in refuses_reserve (area_of s client number) _ refl
    (λ area. lists_long p area.largest sizes _ (λ len. refl) (lists_full p s (own_sum sizes) refl)))
refusal_listed s client (calls.Release number sectors) =
    lists_in refuses_release (area_of s client number) _ refl (λ area. lists_last (among refuses_release (is_missing s client (calls.Release number sectors))) _ _ refl)
refusal_listed s client (calls.Align number sizes) =
    lists_in refuses_align (area_of s client number) _ refl
    (λ area. lists_long (among refuses_align (is_missing s client (calls.Align number sizes))) area.largest sizes None (λ len. refl) tt)
refusal_listed s client (calls.Append number draft spends sizes) =
    let p = among refuses_append (is_missing s client (calls.Append number draft spends sizes)) in
    lists_if p (nat_lt s.containers 2) _ _ refl
    (lists_in refuses_append (area_of s client number) _ refl (λ area. lists_append (is_none (area_of s client number)) s area draft spends sizes))
refusal_listed s client (calls.Flush number) = lists_in refuses_missing (area_of s client number) _ refl (λ area. tt)
refusal_listed s client (calls.FlushTo number lsn) =
    lists_in refuses_flush_to (area_of s client number) _ refl (λ area. lists_last (among refuses_flush_to (is_missing s client (calls.FlushTo number lsn))) _ _ refl)
refusal_listed s client (calls.Read number lsn mode) =
    let p = among refuses_read (is_missing s client (calls.Read number lsn mode)) in
    lists_in refuses_read (area_of s client number) _ refl
    (λ area. lists_if p (is_none (live_at s area.stream lsn)) (refusals.RecordNonexistent lsn) (too_many_cursors area) refl (lists_cursors p area refl))
refusal_listed s client (calls.ReadNext number cursor) =
    let missing = is_none (area_of s client number) in
    lists_in refuses_next (area_of s client number) _ refl (λ area. lists_next (among refuses_next missing) s area (record_cursor area cursor) refl
    (λ at is. ends_by_kind missing cursor at at.kind (found _ area.cursors at is).passes))
refusal_listed s client (calls.EndRead number cursor) =
    lists_in refuses_end (area_of s client number) _ refl (λ area. lists_last (among refuses_end (is_missing s client (calls.EndRead number cursor))) _ _ refl)
refusal_listed s client (calls.WriteRestart number bytes base spends) =
    let p = among refuses_restart (is_missing s client (calls.WriteRestart number bytes base spends)) in
    lists_if p (nat_lt s.containers 2) _ _ refl
    (lists_in refuses_restart (area_of s client number) _ refl (λ area. lists_restart (is_none (area_of s client number)) s area bytes base spends))
refusal_listed s client (calls.ReadRestart number) =
    let p = among refuses_newest (is_missing s client (calls.ReadRestart number)) in
    lists_in refuses_newest (area_of s client number) _ refl
    (λ area. lists_if p (is_none (newest_restart s area.stream)) refusals.NoRestart (too_many_cursors area) refl (lists_cursors p area refl))
refusal_listed s client (calls.PreviousRestart number cursor) =
    let missing = is_none (area_of s client number) in
    lists_in refuses_previous (area_of s client number) _ refl (λ area. lists_next (among refuses_previous missing) s area (restart_cursor area cursor) refl
    (λ at is. ends_by_restart missing cursor at at.kind (found _ area.cursors at is).passes))
refusal_listed s client (calls.Advance number lsn) =
    lists_in refuses_base (area_of s client number) _ refl (λ area. lists_last (among refuses_base (is_missing s client (calls.Advance number lsn))) _ _ refl)
refusal_listed s client (calls.SetArchive on) = tt
refusal_listed s client (calls.SetArchiveTail lsn) =
    let p = among refuses_tail (is_missing s client (calls.SetArchiveTail lsn)) in
    lists_option p s.archive _ _ (λ tail. lists_last p _ _ refl) refl
refusal_listed s client calls.ListExtents = lists_last (among refuses_extents (is_missing s client calls.ListExtents)) _ _ refl
refusal_listed s client (calls.InstallPolicy policy) = lists_policy (is_missing s client (calls.InstallPolicy policy)) s policy
refusal_listed s client (calls.RemovePolicy kind) = lists_last (among refuses_removal (is_missing s client (calls.RemovePolicy kind))) _ _ refl
refusal_listed s client (calls.SetSize containers) =
    let p = among refuses_size (is_missing s client (calls.SetSize containers)) in
    let shrinks = nat_lt containers s.containers && nat_lt containers (needed_containers s) in
    lists_if p (nat_lt s.containers containers && nat_lt (size_limit s) containers) (refusals.ContainerLimit (size_limit s))
    (refused_if shrinks (refusals.CantShrink (active s) (needed_containers s)) None) refl (lists_last p shrinks (refusals.CantShrink (active s) (needed_containers s)) refl)
refusal_listed s client (calls.Info stream) = lists_last (among refuses_stream (is_missing s client (calls.Info stream))) _ _ refl

-- what a refusal that is met tells
met : (s : State) (client : ℕ) (call : Call) (given : Refusal) → refusal s client call ≡ Some given → among (is_listed call) (is_missing s client call) given ≡ true
met s client call given is = let F : Option Refusal → Type 0 = Lists (among (is_listed call) (is_missing s client call)) in subst F is (refusal_listed s client call)

none_by : {A : Type 0} (sought : Option A) → is_none sought ≡ true → sought ≡ None
none_by None is = refl
none_by (Some x) is = absurd (cc is)

-- a call meets no refusal for a missing area where the area is there
pub missing_area : (s : State) (client : ℕ) (call : Call) → refusal s client call ≡ Some refusals.NoSuchArea → area_of s client (area_number call) ≡ None
missing_area s client call is = none_by (area_of s client (area_number call)) (both_true _ _ (met s client call refusals.NoSuchArea is)).1

-- a refusal that is one of a call's list may be answered
listed_may : (call : Call) (given : Refusal) → is_of_call given ≡ true → is_listed call given ≡ true → may_refuse call given ≡ true
listed_may call refusals.NoMemory own is = absurd (cc own)
listed_may call refusals.DiskFault own is = absurd (cc own)
listed_may call refusals.Broken own is = absurd (cc own)
listed_may call (refusals.Damaged container offset at) own is = absurd (cc own)
listed_may call (refusals.BadLine at) own is = absurd (cc own)
listed_may call _ own is = is

met_may : (s : State) (client : ℕ) (call : Call) (given : Refusal) → refusal s client call ≡ Some given → may_refuse call given ≡ true
met_may s client call given is =
    let F : Option Refusal → Type 0 = Told (terms_of s client call) in
    listed_may call given (own_of (terms_of s client call) given (subst F is (refusal_told s client call))) (both_true _ _ (met s client call given is)).0

-- ---- which answer a call has

abbrev IsOf : Call → Outcome → Type 0
IsOf call o = is_reply_of call o.reply ≡ true

pub answer_kind : (s : State) (client : ℕ) (call : Call) → IsOf call (answer s client call)
answer_kind s client (calls.OpenStream name) = of_option (IsOf (calls.OpenStream name)) (stream_number s name) _ _ (λ (number : ℕ). refl) refl
answer_kind s client (calls.CreateArea stream largest reads) = refl
answer_kind s client (calls.DeleteArea number) = refl
answer_kind s client (calls.Reserve number sizes) = of_area (IsOf (calls.Reserve number sizes)) s client number _ (λ (area : Area). refl) refl
answer_kind s client (calls.Release number sectors) = of_area (IsOf (calls.Release number sectors)) s client number _ (λ (area : Area). refl) refl
answer_kind s client (calls.Align number sizes) = refl
answer_kind s client (calls.Append number draft spends sizes) = of_area (IsOf (calls.Append number draft spends sizes)) s client number _ (λ (area : Area). refl) refl
answer_kind s client (calls.Flush number) = refl
answer_kind s client (calls.FlushTo number lsn) = refl
answer_kind s client (calls.Read number lsn mode) =
    of_area (IsOf (calls.Read number lsn mode)) s client number _
    (λ (area : Area). of_option (IsOf (calls.Read number lsn mode)) (live_at s area.stream lsn) _ _ (λ (entry : LogEntry). refl) refl) refl
answer_kind s client (calls.ReadNext number cursor) =
    of_area (IsOf (calls.ReadNext number cursor)) s client number _
    (λ (area : Area). of_cursor (IsOf (calls.ReadNext number cursor)) s area cursor (record_cursor area cursor) (λ (entry : LogEntry). refl) refl) refl
answer_kind s client (calls.EndRead number cursor) = refl
answer_kind s client (calls.WriteRestart number bytes base spends) =
    of_area (IsOf (calls.WriteRestart number bytes base spends)) s client number _ (λ (area : Area). refl) refl
answer_kind s client (calls.ReadRestart number) =
    of_area (IsOf (calls.ReadRestart number)) s client number _
    (λ (area : Area). of_option (IsOf (calls.ReadRestart number)) (newest_restart s area.stream) _ _ (λ (entry : LogEntry). refl) refl) refl
answer_kind s client (calls.PreviousRestart number cursor) =
    of_area (IsOf (calls.PreviousRestart number cursor)) s client number _
    (λ (area : Area). of_cursor (IsOf (calls.PreviousRestart number cursor)) s area cursor (restart_cursor area cursor) (λ (entry : LogEntry). refl) refl) refl
answer_kind s client (calls.Advance number lsn) = of_area (IsOf (calls.Advance number lsn)) s client number _ (λ (area : Area). refl) refl
answer_kind s client (calls.SetArchive on) = refl
answer_kind s client (calls.SetArchiveTail lsn) = refl
answer_kind s client calls.ListExtents = refl
answer_kind s client (calls.InstallPolicy policy) = refl
answer_kind s client (calls.RemovePolicy kind) = refl
answer_kind s client (calls.SetSize containers) = refl
answer_kind s client (calls.Info stream) = refl

-- whichever record is read
found_kind : (call : Call) (cursor : ℕ) (entry read : LogEntry) → is_reply_of call (replies.Found cursor read) ≡ is_reply_of call (replies.Found cursor entry)
found_kind (calls.Read number lsn mode) cursor entry read = refl
found_kind (calls.ReadRestart number) cursor entry read = refl
found_kind _ cursor entry read = refl

next_kind : (call : Call) (entry read : LogEntry) → is_reply_of call (replies.Next read) ≡ is_reply_of call (replies.Next entry)
next_kind (calls.ReadNext number cursor) entry read = refl
next_kind (calls.PreviousRestart number cursor) entry read = refl
next_kind _ entry read = refl

read_kind : (stable : ℕ) (call : Call) (answered reply : Reply) → IsReplyRead stable answered reply → is_reply_of call reply ≡ is_reply_of call answered
read_kind stable call (replies.Found cursor entry) reply is = ap (is_reply_of call) is.1.1 ∙ found_kind call cursor entry is.0
read_kind stable call (replies.Next entry) reply is = ap (is_reply_of call) is.1.1 ∙ next_kind call entry is.0
read_kind stable call (replies.Stream number) reply is = ap (is_reply_of call) is
read_kind stable call (replies.Area number) reply is = ap (is_reply_of call) is
read_kind stable call replies.Done reply is = ap (is_reply_of call) is
read_kind stable call (replies.Held sectors) reply is = ap (is_reply_of call) is
read_kind stable call (replies.Sectors sectors) reply is = ap (is_reply_of call) is
read_kind stable call (replies.Placed lsn) reply is = ap (is_reply_of call) is
read_kind stable call (replies.Flushed lsn) reply is = ap (is_reply_of call) is
read_kind stable call (replies.Base lsn) reply is = ap (is_reply_of call) is
read_kind stable call (replies.Tail lsn) reply is = ap (is_reply_of call) is
read_kind stable call (replies.Extents extents) reply is = ap (is_reply_of call) is
read_kind stable call (replies.Containers containers) reply is = ap (is_reply_of call) is
read_kind stable call (replies.Info info) reply is = ap (is_reply_of call) is
read_kind stable call (replies.Refused given) reply is = ap (is_reply_of call) is

reply_kind : (told : Bool) (stable : ℕ) (call : Call) (answered reply : Reply) → IsReply told stable answered reply → is_reply_of call reply ≡ is_reply_of call answered
reply_kind true stable call answered reply is = ap (is_reply_of call) is
reply_kind false stable call answered reply is = read_kind stable call answered reply is

-- ---- whatever the step

-- a call that calls the disk may do so
disk_may : (s : State) (call : Call) → IsTrue (calls_disk s call) → may_call_disk call ≡ true
disk_may s (calls.CreateArea stream largest reads) is = absurd (cc is)
disk_may s (calls.DeleteArea area) is = absurd (cc is)
disk_may s (calls.Release area sectors) is = absurd (cc is)
disk_may s (calls.Align area sizes) is = absurd (cc is)
disk_may s (calls.EndRead area cursor) is = absurd (cc is)
disk_may s calls.ListExtents is = absurd (cc is)
disk_may s (calls.Info stream) is = absurd (cc is)
disk_may s _ is = refl

damage_kind : (call : Call) (reply : Reply) → IsTrue (reads_disk call) → IsDamaged reply → is_reply_of call reply ≡ true
damage_kind call (replies.Refused (refusals.Damaged container offset at)) reads is = cc reads
damage_kind call _ reads is = absurd is

fine_kind : (told : Bool) (s : State) (client : ℕ) (call : Call) (reply : Reply) (t : State) (first : Option Refusal) → refusal s client call ≡ first
    → MatchOption first (Comes told (flushed s) (answer s client call) reply t) (λ given. (reply ≡ replies.Refused given) × (t ≡ s)) → is_reply_of call reply ≡ true
fine_kind told s client call reply t None is comes = reply_kind told (flushed s) call (answer s client call).reply reply comes.0 ∙ answer_kind s client call
fine_kind told s client call reply t (Some given) is comes = ap (is_reply_of call) comes.0 ∙ met_may s client call given is

goes_kind : (told : Bool) (s : State) (client : ℕ) (call : Call) (happened : Happened) (reply : Reply) (t : State) → Goes told s client call happened reply t
    → is_reply_of call reply ≡ true
goes_kind told s client call Fine reply t goes = fine_kind told s client call reply t (refusal s client call) refl goes
goes_kind told s client call Fault reply t goes = ap (is_reply_of call) goes.1.1.0 ∙ disk_may s call goes.1.0
goes_kind told s client call Damage reply t goes = damage_kind call reply goes.1.0 goes.1.1.0

kind_by : (told : Bool) (s : State) (client : ℕ) (call : Call) (happened : Happened) (reply : Reply) (t : State) (broken : Bool) → s.broken ≡ broken
    → Step told s client call happened reply t → is_reply_of call reply ≡ true
kind_by told s client call happened reply t true is step = ap (is_reply_of call) (broken_step told s client call happened reply t is step).0
kind_by told s client call happened reply t false is step = elim (whole_step told s client call happened reply t is step) [
  | inl want ↦ ap (is_reply_of call) want.1.0 ∙ (let takes = want.0 in cc takes)
  | inr goes ↦ goes_kind told s client call happened reply t goes
]

pub step_kind : (told : Bool) (s : State) (client : ℕ) (call : Call) (happened : Happened) (reply : Reply) (t : State)
    → Step told s client call happened reply t → is_reply_of call reply ≡ true
step_kind told s client call happened reply t step = kind_by told s client call happened reply t s.broken refl step
