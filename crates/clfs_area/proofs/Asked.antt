-- What the calls of a shared area are answered: how much the area holds then, and why they are refused.
use Rattle.std.proofs.Common.{◌≡◌, ◌≢◌, ℕ, ◌+◌, ◌-◌, ◌≤◌, ◌<◌, Bool, true, false, refl, sym, ap, subst, ◌∙◌, List, arith}
use Rattle.std.specs.Prelude.{Option, Some, None, Result, Ok, Err, IfOk, IfErr}
use Rattle.clfs_model.specs.declared.call.Call.{Call}
use Rattle.clfs_model.specs.declared.call.Call.TheVariants as calls
use Rattle.clfs_model.specs.declared.call.Draft.{Draft}
use Rattle.clfs_model.specs.declared.refusal.Refusal.{Refusal}
use Rattle.clfs_model.specs.declared.refusal.Refusal.TheVariants as refusals
use Rattle.clfs_model.specs.declared.reply.Happened.{Happened}
use Rattle.clfs_model.specs.declared.reply.Reply.{Reply}
use Rattle.clfs_model.specs.declared.reply.Reply.TheVariants as replies
use Rattle.clfs_model.specs.declared.state.Area.{Area}
use Rattle.clfs_model.specs.declared.state.State.{State}
use Rattle.clfs_model.specs.State.{area_of}
use Rattle.clfs_model.specs.Happened.{happened_of}
use Rattle.clfs_model.specs.Refusals.{refusal}
use Rattle.clfs_model.specs.Space.{own_sum}
use Rattle.clfs_model.specs.Step.{Step}
use Rattle.clfs_laws.specs.Needs.{area_number, held_if_there, is_for_room, taken_sectors}
use Rattle.clfs_laws.specs.Refused.{is_of_call}
use Rattle.clfs_laws.specs.ReplyKinds.{is_reply_of}
use Rattle.clfs_laws.specs.Rows.{AreaRow}
use Rattle.clfs_shared.specs.Journal.{is_out_of_memory}
use Rattle.clfs_shared.specs.Sessions.{SessionState}
use Rattle.clfs_area.specs.Areas.{row_by_own}
use Rattle.clfs_area.specs.Calls.{HasAsked, held_append, placed_reply, sectors_reply}
use Rattle.clfs_area.specs.Causes.{may_refuse_append, may_refuse_reserve, may_refuse_give_back, TellsAppend, TellsReserve}
use Rattle.clfs_area.proofs.Found.{RowsAreOwn, found_there}
use Rattle.clfs_area.proofs.Replies.{by_memory, append_causes, reserve_causes, release_causes}
use Rattle.clfs_area.proofs.Told.{reserved_held, released_held, reserve_tells, append_tells}

-- ---- what the laws say

-- a reply is of its call's kind
abbrev pub AreOfKind : Type 0
AreOfKind = (told : Bool) (s : State) (client : ℕ) (call : Call) (happened : Happened) (reply : Reply) (t : State)
    → Step told s client call happened reply t → is_reply_of call reply ≡ true

-- an area is told to be missing only if it is
abbrev pub MissingIsTrue : Type 0
MissingIsTrue = (told : Bool) (s : State) (client : ℕ) (call : Call) (happened : Happened) (t : State)
    → Step told s client call happened (replies.Refused refusals.NoSuchArea) t → area_of s client (area_number call) ≡ None

-- an area is told to hold too little only if it does
abbrev pub ShortIsTrue : Type 0
ShortIsTrue = (told : Bool) (s : State) (client : ℕ) (call : Call) (happened : Happened) (held need : ℕ) (t : State)
    → Step told s client call happened (replies.Refused (refusals.ReservationShort held need)) t
    → (held ≡ held_if_there (area_of s client (area_number call))) × ((need ≡ taken_sectors call) × (held < need))

-- a refusal of the call's own list is the one that the call meets
abbrev pub FirstIsGiven : Type 0
FirstIsGiven = (told : Bool) (s : State) (client : ℕ) (call : Call) (happened : Happened) (given : Refusal) (t : State)
    → is_of_call given ≡ true → Step told s client call happened (replies.Refused given) t → refusal s client call ≡ Some given

-- ---- out of memory

by_given : (P : Refusal → Type 0) → P refusals.NoMemory → (given : Refusal) → is_out_of_memory (replies.Refused given) ≡ true → P given
by_given P is refusals.NoMemory e = is
by_given P is _ e = absurd (cc e)

-- ---- what the area holds then

pub reserved : RowsAreOwn → (s t : SessionState) (number : ℕ) (sizes : List ℕ) (result : Result ℕ Refusal) → HasAsked s t (calls.Reserve number sizes) (sectors_reply result)
    → (row : AreaRow) → row_by_own s number ≡ Some row → IfOk result (λ held. held ≡ row.held + own_sum sizes)
reserved rows s t number sizes (Ok held) asked row is =
    let z = asked.step refl in
    let there = found_there rows s t (calls.Reserve number sizes) (replies.Held held) number row z is in
    reserved_held s.opening.tells_contents z.found z.left s.client number sizes there.area (happened_of (replies.Held held)) held there.there z.step
    ∙ ap (λ (h : ℕ). h + own_sum sizes) there.held
reserved rows s t number sizes (Err given) asked row is = tt

pub released_to : RowsAreOwn → (s t : SessionState) (number sectors : ℕ) (result : Result ℕ Refusal) → HasAsked s t (calls.Release number sectors) (sectors_reply result)
    → (row : AreaRow) → row_by_own s number ≡ Some row → IfOk result (λ held. held ≡ row.held - sectors)
released_to rows s t number sectors (Ok held) asked row is =
    let z = asked.step refl in
    let there = found_there rows s t (calls.Release number sectors) (replies.Held held) number row z is in
    released_held s.opening.tells_contents z.found z.left s.client number sectors there.area (happened_of (replies.Held held)) held there.there z.step
    ∙ ap (λ (h : ℕ). h - sectors) there.held
released_to rows s t number sectors (Err given) asked row is = tt

-- ---- why a call is refused

-- an area that is there isn't told to be missing
there_is : MissingIsTrue → (told : Bool) (s t : State) (client : ℕ) (call : Call) (given : Refusal) (area : Area) → area_of s client (area_number call) ≡ Some area
    → Step told s client call (happened_of (replies.Refused given)) (replies.Refused given) t → given ≢ refusals.NoSuchArea
there_is missing told s t client call given area there step told_missing =
    let F : Refusal → Type 0 = λ g. Step told s client call (happened_of (replies.Refused g)) (replies.Refused g) t in
    let none = missing told s client call (happened_of (replies.Refused refusals.NoSuchArea)) t (subst F told_missing step) in
    absurd (let e : Some area ≡ None = sym there ∙ none in cc)

pub reserve_refused : RowsAreOwn → AreOfKind → MissingIsTrue → (s t : SessionState) (number : ℕ) (sizes : List ℕ) (result : Result ℕ Refusal)
    → HasAsked s t (calls.Reserve number sizes) (sectors_reply result)
    → (row : AreaRow) → row_by_own s number ≡ Some row → IfErr result (λ given. may_refuse_reserve given ≡ true)
reserve_refused rows kind missing s t number sizes (Ok held) asked row is = tt
reserve_refused rows kind missing s t number sizes (Err given) asked row is = by_memory (is_out_of_memory (replies.Refused given)) (may_refuse_reserve given ≡ true)
    (by_given (λ g. may_refuse_reserve g ≡ true) refl given)
    (λ off. let z = asked.step off in
    let there = found_there rows s t (calls.Reserve number sizes) (replies.Refused given) number row z is in
    reserve_causes number sizes given
    (kind s.opening.tells_contents z.found s.client (calls.Reserve number sizes) (happened_of (replies.Refused given)) (replies.Refused given) z.left z.step)
    (there_is missing s.opening.tells_contents z.found z.left s.client (calls.Reserve number sizes) given there.area there.there z.step))

-- an area that holds the sectors isn't told to hold too few
short_not : ShortIsTrue → (told : Bool) (s t : State) (client number sectors : ℕ) (given : Refusal) (area : Area) → area_of s client number ≡ Some area → sectors ≤ area.held
    → Step told s client (calls.Release number sectors) (happened_of (replies.Refused given)) (replies.Refused given) t → (held need : ℕ) → given ≢ refusals.ReservationShort held need
short_not short told s t client number sectors given area there enough step held need told_short =
    let F : Refusal → Type 0 = λ g. Step told s client (calls.Release number sectors) (happened_of (replies.Refused g)) (replies.Refused g) t in
    let tells = short told s client (calls.Release number sectors) (happened_of (replies.Refused (refusals.ReservationShort held need))) held need t (subst F told_short step) in
    let H : Option Area → Type 0 = λ found. held ≡ held_if_there found in
    let is_held : held ≡ area.held = subst H there tells.0 in
    let is_need : need ≡ sectors = tells.1.0 in
    let less : held < need = tells.1.1 in
    absurd (omega arith)

pub release_refused : RowsAreOwn → AreOfKind → MissingIsTrue → ShortIsTrue → (s t : SessionState) (number sectors : ℕ) (result : Result ℕ Refusal)
    → HasAsked s t (calls.Release number sectors) (sectors_reply result)
    → (row : AreaRow) → row_by_own s number ≡ Some row → sectors ≤ row.held → IfErr result (λ given. may_refuse_give_back given ≡ true)
release_refused rows kind missing short s t number sectors (Ok held) asked row is enough = tt
release_refused rows kind missing short s t number sectors (Err given) asked row is enough = by_memory (is_out_of_memory (replies.Refused given)) (may_refuse_give_back given ≡ true)
    (by_given (λ g. may_refuse_give_back g ≡ true) refl given)
    (λ off. let z = asked.step off in
    let there = found_there rows s t (calls.Release number sectors) (replies.Refused given) number row z is in
    let has = there.held in
    let held_enough : sectors ≤ there.area.held = omega arith in
    release_causes number sectors given
    (kind s.opening.tells_contents z.found s.client (calls.Release number sectors) (happened_of (replies.Refused given)) (replies.Refused given) z.left z.step)
    (there_is missing s.opening.tells_contents z.found z.left s.client (calls.Release number sectors) given there.area there.there z.step)
    (short_not short s.opening.tells_contents z.found z.left s.client number sectors given there.area there.there held_enough z.step))

pub append_refused : AreOfKind → (s t : SessionState) (number : ℕ) (draft : Draft) (result : Result ℕ Refusal) → HasAsked s t (held_append number draft) (placed_reply result)
    → ((given : Refusal) → placed_reply result ≡ replies.Refused given → (is_for_room given ≡ false) × (given ≢ refusals.NoSuchArea))
    → IfErr result (λ given. may_refuse_append given ≡ true)
append_refused kind s t number draft (Ok lsn) asked covered = tt
append_refused kind s t number draft (Err given) asked covered = by_memory (is_out_of_memory (replies.Refused given)) (may_refuse_append given ≡ true)
    (by_given (λ g. may_refuse_append g ≡ true) refl given)
    (λ off. let z = asked.step off in let never = covered given refl in
    append_causes number draft given
    (kind s.opening.tells_contents z.found s.client (held_append number draft) (happened_of (replies.Refused given)) (replies.Refused given) z.left z.step)
    never.0 never.1)

-- ---- what a refusal tells

-- a refusal that isn't of the call's own list has nothing to tell
other_append : (largest : ℕ) (draft : Draft) (given : Refusal) → is_of_call given ≡ false → TellsAppend largest draft given
other_append largest draft refusals.NoMemory e = tt
other_append largest draft refusals.DiskFault e = tt
other_append largest draft refusals.Broken e = tt
other_append largest draft (refusals.Damaged container offset at) e = tt
other_append largest draft (refusals.BadLine at) e = tt
other_append largest draft _ e = absurd (cc e)

other_reserve : (largest : ℕ) (sizes : List ℕ) (given : Refusal) → is_of_call given ≡ false → TellsReserve largest sizes given
other_reserve largest sizes refusals.NoMemory e = tt
other_reserve largest sizes refusals.DiskFault e = tt
other_reserve largest sizes refusals.Broken e = tt
other_reserve largest sizes (refusals.Damaged container offset at) e = tt
other_reserve largest sizes (refusals.BadLine at) e = tt
other_reserve largest sizes _ e = absurd (cc e)

pub append_told : RowsAreOwn → FirstIsGiven → (s t : SessionState) (number : ℕ) (draft : Draft) (result : Result ℕ Refusal) → HasAsked s t (held_append number draft) (placed_reply result)
    → (row : AreaRow) → row_by_own s number ≡ Some row → IfErr result (λ given. TellsAppend row.largest draft given)
append_told rows first s t number draft (Ok lsn) asked row is = tt
append_told rows first s t number draft (Err given) asked row is = by_memory (is_out_of_memory (replies.Refused given)) (TellsAppend row.largest draft given)
    (by_given (λ g. TellsAppend row.largest draft g) tt given)
    (λ off. let z = asked.step off in
    by_memory (is_of_call given) (TellsAppend row.largest draft given)
    (λ of_call.
    let there = found_there rows s t (held_append number draft) (replies.Refused given) number row z is in
    let F : ℕ → Type 0 = λ largest. TellsAppend largest draft given in
    subst F there.largest (append_tells z.found s.client number draft there.area given there.there
    (first s.opening.tells_contents z.found s.client (held_append number draft) (happened_of (replies.Refused given)) given z.left of_call z.step)))
    (other_append row.largest draft given))

pub reserve_told : RowsAreOwn → FirstIsGiven → (s t : SessionState) (number : ℕ) (sizes : List ℕ) (result : Result ℕ Refusal) → HasAsked s t (calls.Reserve number sizes) (sectors_reply result)
    → (row : AreaRow) → row_by_own s number ≡ Some row → IfErr result (λ given. TellsReserve row.largest sizes given)
reserve_told rows first s t number sizes (Ok held) asked row is = tt
reserve_told rows first s t number sizes (Err given) asked row is = by_memory (is_out_of_memory (replies.Refused given)) (TellsReserve row.largest sizes given)
    (by_given (λ g. TellsReserve row.largest sizes g) tt given)
    (λ off. let z = asked.step off in
    by_memory (is_of_call given) (TellsReserve row.largest sizes given)
    (λ of_call.
    let there = found_there rows s t (calls.Reserve number sizes) (replies.Refused given) number row z is in
    let F : ℕ → Type 0 = λ largest. TellsReserve largest sizes given in
    subst F there.largest (reserve_tells z.found s.client number sizes there.area given there.there
    (first s.opening.tells_contents z.found s.client (calls.Reserve number sizes) (happened_of (replies.Refused given)) given z.left of_call z.step)))
    (other_reserve row.largest sizes given))
