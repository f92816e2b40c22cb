-- A call that isn't refused isn't answered by a refusal, and one that is answers the first of its list.
use Rattle.clfs_laws.proofs.Words.{◌≡◌, ℕ, Bool, true, false, refl, ap, ◌∙◌, subst, inl, inr, Option, Some, None, MatchOption, is_none, option_map_or}
use Rattle.clfs_laws.proofs.Words.{LogEntry, Call, Refusal, Happened, Fine, Fault, Damage, Reply, State, Area, Cursor, CursorKind, Records, RestartAreas}
use Rattle.clfs_laws.proofs.Words.{area_of, change_area, live_at, own_sum, flushed, next_lsn, newest_restart, record_cursor, restart_cursor, next_of_cursor}
use Rattle.clfs_laws.proofs.Words.{with_cursor_at, refusal, refused_if, in_area, append_refusal, restart_refusal, invalid_base, read_refusal, next_refusal}
use Rattle.clfs_laws.proofs.Words.{too_many_cursors, too_long, full, short, end_of_kind, stream_number, Outcome, outcome, answer, found_with_cursor, read_at}
use Rattle.clfs_laws.proofs.Words.{read_newest_restart, moved_on, reserved_for, released, restarted, advanced, appended, Step, Goes, Comes, IsReply}
use Rattle.clfs_laws.proofs.Words.{IsDamaged, is_of_call}
use Rattle.clfs_model.specs.declared.call.Call.TheVariants as calls
use Rattle.clfs_model.specs.declared.refusal.Refusal.TheVariants as refusals
use Rattle.clfs_model.specs.declared.reply.Reply.TheVariants as replies
use Rattle.clfs_laws.proofs.CallRefusals.{Told, own_of, terms_of, refusal_told}
use Rattle.clfs_laws.proofs.FineSteps.{IsNoRefusal}
use Rattle.clfs_laws.proofs.NotRefused.{passed}
use Rattle.clfs_laws.proofs.OutcomeCases.{of_option}
use Rattle.clfs_laws.proofs.StepCases.{broken_step, whole_step, given_refusal}
use Rattle.clfs_laws.proofs.ValidSteps.{two_of}

-- an outcome that is no refusal
abbrev Answers : Outcome → Type 0
Answers o = IsNoRefusal o.reply

-- a call in an area that is there
in_it : (s : State) (refuses : Area → Option Refusal) (answers : Area → Outcome) (found : Option Area)
    → option_map_or refuses found (Some refusals.NoSuchArea) ≡ None → ((area : Area) → refuses area ≡ None → Answers (answers area))
    → Answers (option_map_or answers found (outcome (replies.Refused refusals.NoSuchArea) s))
in_it s refuses answers None none each = absurd (cc)
in_it s refuses answers (Some area) none each = each area none

-- a record that is there is found
found_it : (s : State) (area : Area) (kind : CursorKind) (found : Option LogEntry) (otherwise : Refusal) → is_none found ≡ false
    → Answers (option_map_or (found_with_cursor s area kind) found (outcome (replies.Refused otherwise) s))
found_it s area kind None otherwise there = absurd (cc)
found_it s area kind (Some entry) otherwise there = λ given e. absurd (cc)

-- a cursor that comes to a record moves there
came_to : (s : State) (area : Area) (number : ℕ) (found : Option LogEntry) → is_none found ≡ false
    → Answers (option_map_or (λ (entry : LogEntry). outcome (replies.Next entry) (change_area (with_cursor_at number entry.lsn) area.client area.number s)) found
    (outcome (replies.Refused refusals.NoSuchCursor) s))
came_to s area number None there = absurd (cc)
came_to s area number (Some entry) there = λ given e. absurd (cc)

moved_there : (s : State) (area : Area) (number : ℕ) (found : Option Cursor) → next_refusal s area found ≡ None → Answers (moved_on s area number found)
moved_there s area number None none = absurd (cc)
moved_there s area number (Some cursor) none =
    came_to s area number (next_of_cursor s area cursor) (passed (is_none (next_of_cursor s area cursor)) (end_of_kind cursor.kind) None none).0

-- whatever the call
pub answers_it : (s : State) (client : ℕ) (call : Call) → refusal s client call ≡ None → Answers (answer s client call)
answers_it s client (calls.OpenStream name) none =
    of_option Answers (stream_number s name) _ _ (λ (number : ℕ) (given : Refusal) e. absurd (cc)) (λ (given : Refusal) e. absurd (cc))
answers_it s client (calls.CreateArea stream largest reads) none = λ given e. absurd (cc)
answers_it s client (calls.DeleteArea number) none = λ given e. absurd (cc)
answers_it s client (calls.Reserve number sizes) none =
    let two = two_of s (in_area s client number (λ (area : Area). too_long area.largest sizes (full s (own_sum sizes)))) none in
    in_it s (λ area. too_long area.largest sizes (full s (own_sum sizes))) (λ area. reserved_for s area sizes) (area_of s client number) two.1
    (λ area passes given e. absurd (cc))
answers_it s client (calls.Release number sectors) none =
    in_it s (λ area. short area sectors None) (λ area. released s area sectors) (area_of s client number) none (λ area passes given e. absurd (cc))
answers_it s client (calls.Align number sizes) none = λ given e. absurd (cc)
answers_it s client (calls.Append number draft is_reserved sizes) none =
    let two = two_of s (in_area s client number (λ (area : Area). append_refusal s area draft is_reserved sizes)) none in
    in_it s (λ area. append_refusal s area draft is_reserved sizes)
    (λ area. outcome (replies.Placed (next_lsn s _)) (appended s area draft is_reserved sizes)) (area_of s client number) two.1
    (λ area passes given e. absurd (cc))
answers_it s client (calls.Flush number) none = λ given e. absurd (cc)
answers_it s client (calls.FlushTo number lsn) none = λ given e. absurd (cc)
answers_it s client (calls.Read number lsn mode) none =
    in_it s (λ area. read_refusal s area lsn) (λ area. read_at s area lsn mode) (area_of s client number) none
    (λ area passes. found_it s area (Records mode) (live_at s area.stream lsn) (refusals.RecordNonexistent lsn)
    (passed (is_none (live_at s area.stream lsn)) (refusals.RecordNonexistent lsn) (too_many_cursors area) passes).0)
answers_it s client (calls.ReadNext number cursor) none =
    in_it s (λ area. next_refusal s area (record_cursor area cursor)) (λ area. moved_on s area cursor (record_cursor area cursor)) (area_of s client number) none
    (λ area passes. moved_there s area cursor (record_cursor area cursor) passes)
answers_it s client (calls.EndRead number cursor) none = λ given e. absurd (cc)
answers_it s client (calls.WriteRestart number bytes base is_reserved) none =
    let two = two_of s (in_area s client number (λ (area : Area). restart_refusal s area bytes base is_reserved)) none in
    in_it s (λ area. restart_refusal s area bytes base is_reserved)
    (λ area. outcome (replies.Placed (next_lsn s _)) (restarted s area bytes base is_reserved)) (area_of s client number) two.1
    (λ area passes given e. absurd (cc))
answers_it s client (calls.ReadRestart number) none =
    in_it s (λ area. refused_if (is_none (newest_restart s area.stream)) refusals.NoRestart (too_many_cursors area)) (λ area. read_newest_restart s area)
    (area_of s client number) none
    (λ area passes. found_it s area RestartAreas (newest_restart s area.stream) refusals.NoRestart
    (passed (is_none (newest_restart s area.stream)) refusals.NoRestart (too_many_cursors area) passes).0)
answers_it s client (calls.PreviousRestart number cursor) none =
    in_it s (λ area. next_refusal s area (restart_cursor area cursor)) (λ area. moved_on s area cursor (restart_cursor area cursor)) (area_of s client number) none
    (λ area passes. moved_there s area cursor (restart_cursor area cursor) passes)
answers_it s client (calls.Advance number lsn) none =
    in_it s (λ area. invalid_base s area.stream lsn None) (λ area. outcome (replies.Base lsn) (advanced s area.stream lsn)) (area_of s client number) none
    (λ area passes given e. absurd (cc))
answers_it s client (calls.SetArchive on) none = λ given e. absurd (cc)
answers_it s client (calls.SetArchiveTail lsn) none = λ given e. absurd (cc)
answers_it s client calls.ListExtents none = λ given e. absurd (cc)
answers_it s client (calls.InstallPolicy policy) none = λ given e. absurd (cc)
answers_it s client (calls.RemovePolicy kind) none = λ given e. absurd (cc)
answers_it s client (calls.SetSize containers) none = λ given e. absurd (cc)
answers_it s client (calls.Info stream) none = λ given e. absurd (cc)

-- what is read of a record doesn't turn an answer into a refusal
pub no_refusal_read : (told : Bool) (stable : ℕ) (answered : Reply) (given : Refusal) → IsNoRefusal answered → IsReply told stable answered (replies.Refused given) → ⊥
no_refusal_read told stable answered given none is = none given (given_refusal told stable answered given is)

-- A call that isn't refused answers none; one that is answers the first of its list.
fine_by : (told : Bool) (s : State) (client : ℕ) (call : Call) (given : Refusal) (t : State) (first : Option Refusal) → refusal s client call ≡ first
    → MatchOption first (Comes told (flushed s) (answer s client call) (replies.Refused given) t) (λ r. (replies.Refused given ≡ replies.Refused r) × (t ≡ s))
    → refusal s client call ≡ Some given
fine_by told s client call given t None is comes =
    absurd (no_refusal_read told (flushed s) (answer s client call).reply given (answers_it s client call is) comes.0)
fine_by told s client call given t (Some first) is comes = let same : first ≡ given = cc (comes.0) in is ∙ ap (λ r. Some r) same

-- damage isn't told by a refusal of a call's list
not_damaged : (given : Refusal) → is_of_call given ≡ true → IsDamaged (replies.Refused given) → ⊥
not_damaged (refusals.Damaged container offset at) own is = absurd (cc)
not_damaged _ own is = is

goes_by : (told : Bool) (s : State) (client : ℕ) (call : Call) (happened : Happened) (given : Refusal) (t : State) → is_of_call given ≡ true
    → Goes told s client call happened (replies.Refused given) t → refusal s client call ≡ Some given
goes_by told s client call Fine given t own goes = fine_by told s client call given t (refusal s client call) refl goes
goes_by told s client call Fault given t own goes =
    let is : replies.Refused given ≡ replies.Refused refusals.DiskFault = goes.1.1.0 in
    absurd (let same : given ≡ refusals.DiskFault = cc in let F : Refusal → Type 0 = λ r. is_of_call r ≡ true in let wrong : F refusals.DiskFault = subst F same own in cc)
goes_by told s client call Damage given t own goes = absurd (not_damaged given own goes.1.1.0)

first_by : (told : Bool) (s : State) (client : ℕ) (call : Call) (happened : Happened) (given : Refusal) (t : State) (broken : Bool) → s.broken ≡ broken
    → is_of_call given ≡ true → Step told s client call happened (replies.Refused given) t → refusal s client call ≡ Some given
first_by told s client call happened given t true is own step =
    let told_so : replies.Refused given ≡ replies.Refused refusals.Broken = (broken_step told s client call happened _ t is step).0 in
    absurd (let same : given ≡ refusals.Broken = cc in let F : Refusal → Type 0 = λ r. is_of_call r ≡ true in let wrong : F refusals.Broken = subst F same own in cc)
first_by told s client call happened given t false is own step = elim (whole_step told s client call happened _ t is step) [
  | inl want ↦
      let told_so : replies.Refused given ≡ replies.Refused refusals.NoMemory = want.1.0 in
      absurd (let same : given ≡ refusals.NoMemory = cc in let F : Refusal → Type 0 = λ r. is_of_call r ≡ true in let wrong : F refusals.NoMemory = subst F same own in cc)
  | inr goes ↦ goes_by told s client call happened given t own goes
]

-- a refusal that stands in the call's list is the first that the call meets
pub first_refusal : (told : Bool) (s : State) (client : ℕ) (call : Call) (happened : Happened) (given : Refusal) (t : State)
    → is_of_call given ≡ true → Step told s client call happened (replies.Refused given) t → refusal s client call ≡ Some given
first_refusal told s client call happened given t own step = first_by told s client call happened given t s.broken refl own step

-- a refusal that a call meets stands in its list
pub own_refusal : (s : State) (client : ℕ) (call : Call) (given : Refusal) → refusal s client call ≡ Some given → is_of_call given ≡ true
own_refusal s client call given is =
    let F : Option Refusal → Type 0 = Told (terms_of s client call) in
    own_of (terms_of s client call) given (subst F is (refusal_told s client call))

-- no step answers a bad line
bad_line_by : (told : Bool) (s : State) (client : ℕ) (call : Call) (at : ℕ) (t : State) (first : Option Refusal) → refusal s client call ≡ first
    → MatchOption first (Comes told (flushed s) (answer s client call) (replies.Refused (refusals.BadLine at)) t)
    (λ r. (replies.Refused (refusals.BadLine at) ≡ replies.Refused r) × (t ≡ s)) → ⊥
bad_line_by told s client call at t None is comes =
    no_refusal_read told (flushed s) (answer s client call).reply (refusals.BadLine at) (answers_it s client call is) comes.0
bad_line_by told s client call at t (Some first) is comes =
    let same : first ≡ refusals.BadLine at = cc (comes.0) in
    let F : Refusal → Type 0 = λ r. is_of_call r ≡ true in
    let wrong : F (refusals.BadLine at) = subst F same (own_refusal s client call first is) in
    cc (wrong)

goes_no_bad_line : (told : Bool) (s : State) (client : ℕ) (call : Call) (happened : Happened) (at : ℕ) (t : State)
    → Goes told s client call happened (replies.Refused (refusals.BadLine at)) t → ⊥
goes_no_bad_line told s client call Fine at t goes = bad_line_by told s client call at t (refusal s client call) refl goes
goes_no_bad_line told s client call Fault at t goes =
    let is : replies.Refused (refusals.BadLine at) ≡ replies.Refused refusals.DiskFault = goes.1.1.0 in absurd (cc)
goes_no_bad_line told s client call Damage at t goes = goes.1.1.0

no_bad_line_by : (told : Bool) (s : State) (client : ℕ) (call : Call) (happened : Happened) (at : ℕ) (t : State) (broken : Bool) → s.broken ≡ broken
    → Step told s client call happened (replies.Refused (refusals.BadLine at)) t → ⊥
no_bad_line_by told s client call happened at t true is step =
    let told_so : replies.Refused (refusals.BadLine at) ≡ replies.Refused refusals.Broken = (broken_step told s client call happened _ t is step).0 in absurd (cc)
no_bad_line_by told s client call happened at t false is step = elim (whole_step told s client call happened _ t is step) [
  | inl want ↦ let told_so : replies.Refused (refusals.BadLine at) ≡ replies.Refused refusals.NoMemory = want.1.0 in absurd (cc)
  | inr goes ↦ goes_no_bad_line told s client call happened at t goes
]

pub no_bad_line : (told : Bool) (s : State) (client : ℕ) (call : Call) (happened : Happened) (at : ℕ) (t : State)
    → Step told s client call happened (replies.Refused (refusals.BadLine at)) t → ⊥
no_bad_line told s client call happened at t step = no_bad_line_by told s client call happened at t s.broken refl step
