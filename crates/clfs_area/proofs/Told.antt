-- What the machine's answers tell of an area that is there.
use Rattle.std.proofs.Common.{◌≡◌, ◌≢◌, ℕ, ◌+◌, ◌-◌, ◌<◌, Bool, true, false, refl, sym, ap, subst, ◌∙◌, inl, inr, List, [], ◌∷◌, length, arith, zero, suc, eq-eqb}
use Rattle.std.specs.Prelude.{◌⊎◌, Option, Some, None, MatchBool, MatchOption, IsTrue, nat_lt, not, find, Contains}
use Rattle.std.specs.Prelude.{◌==◌}
use Rattle.std.specs.Option.{option_map_or}
use Rattle.std.proofs.lemmas.Bool.{cases_Bool, ltb-true}
use Rattle.clfs_lsn.specs.Lsn.{null_lsn}
use Rattle.clfs_model.specs.declared.call.Call.{Call}
use Rattle.clfs_model.specs.declared.call.Call.TheVariants as calls
use Rattle.clfs_model.specs.declared.call.Draft.{Draft}
use Rattle.clfs_model.specs.declared.refusal.Refusal.{Refusal}
use Rattle.clfs_model.specs.declared.refusal.Refusal.TheVariants as refusals
use Rattle.clfs_model.specs.declared.reply.Happened.{Happened}
use Rattle.clfs_model.specs.declared.reply.Happened.TheVariants.{Fine, Fault, Damage}
use Rattle.clfs_model.specs.declared.reply.Reply.TheVariants as replies
use Rattle.clfs_model.specs.declared.state.Area.{Area}
use Rattle.clfs_model.specs.declared.state.State.{State}
use Rattle.clfs_model.specs.State.{area_of}
use Rattle.clfs_model.specs.Answers.{outcome, answer, reserved_for, released}
use Rattle.clfs_model.specs.Flush.{flushed}
use Rattle.clfs_model.specs.Put.{need_of, spent_of}
use Rattle.clfs_model.specs.Refusals.{refusal, refused_if, too_long, append_refusal, full, is_link}
use Rattle.clfs_model.specs.Space.{free, reserved, grown, has_room, own_sum}
use Rattle.clfs_model.specs.Step.{Step, Goes, Comes, IsReply, IsOutOfMemory, IsBroken, takes_memory}
use Rattle.clfs_area.specs.Calls.{held_append}
use Rattle.clfs_area.specs.Causes.{TellsReserve, TellsAppend}

-- ---- what the area holds then

-- a step that answers held sectors gives the machine's answer
held_by_goes : (told : Bool) (s t : State) (client : ℕ) (call : Call) (happened : Happened) (held : ℕ) (found : Option Refusal) → refusal s client call ≡ found
    → Goes told s client call happened (replies.Held held) t → IsReply told (flushed s) (answer s client call).reply (replies.Held held)
held_by_goes told s t client call Fine held None none goes =
    let F : Option Refusal → Type 0 = λ first. MatchOption first (Comes told (flushed s) (answer s client call) (replies.Held held) t) (λ given. (replies.Held held ≡ replies.Refused given) × (t ≡ s)) in
    (subst F none goes).0
held_by_goes told s t client call Fine held (Some first) none goes =
    let F : Option Refusal → Type 0 = λ first. MatchOption first (Comes told (flushed s) (answer s client call) (replies.Held held) t) (λ given. (replies.Held held ≡ replies.Refused given) × (t ≡ s)) in
    absurd (let e : replies.Held held ≡ replies.Refused first = (subst F none goes).0 in cc)
held_by_goes told s t client call Fault held found none goes = absurd (let e : replies.Held held ≡ replies.Refused refusals.DiskFault = goes.1.1.0 in cc)
held_by_goes told s t client call Damage held found none goes = absurd goes.1.1.0

held_by_broken : (told : Bool) (s t : State) (client : ℕ) (call : Call) (happened : Happened) (held : ℕ) (broken : Bool)
    → MatchBool broken (IsBroken s (replies.Held held) t) ((IsTrue (takes_memory call) × IsOutOfMemory s (replies.Held held) t) ⊎ Goes told s client call happened (replies.Held held) t)
    → IsReply told (flushed s) (answer s client call).reply (replies.Held held)
held_by_broken told s t client call happened held true step = absurd (let e : replies.Held held ≡ replies.Refused refusals.Broken = step.0 in cc)
held_by_broken told s t client call happened held false step = elim step [
  | inl want ↦ absurd (let e : replies.Held held ≡ replies.Refused refusals.NoMemory = want.1.0 in cc)
  | inr goes ↦ held_by_goes told s t client call happened held (refusal s client call) refl goes
]

held_by_step : (told : Bool) (s t : State) (client : ℕ) (call : Call) (happened : Happened) (held : ℕ) → Step told s client call happened (replies.Held held) t
    → IsReply told (flushed s) (answer s client call).reply (replies.Held held)
unfolding Step
held_by_step told s t client call happened held step = held_by_broken told s t client call happened held s.broken step

held_is : (told : Bool) (stable held answered : ℕ) → IsReply told stable (replies.Held answered) (replies.Held held) → held ≡ answered
held_is true stable held answered is = cc is
held_is false stable held answered is = cc is

-- a reservation answers what the area held and the sectors of its sizes
pub reserved_held : (told : Bool) (s t : State) (client number : ℕ) (sizes : List ℕ) (area : Area) (happened : Happened) (held : ℕ) → area_of s client number ≡ Some area
    → Step told s client (calls.Reserve number sizes) happened (replies.Held held) t → held ≡ area.held + own_sum sizes
reserved_held told s t client number sizes area happened held there step =
    let F : Option Area → Type 0 = λ found. IsReply told (flushed s)
    (option_map_or (λ (a : Area). reserved_for s a sizes) found (outcome (replies.Refused refusals.NoSuchArea) s)).reply (replies.Held held) in
    held_is told (flushed s) held (area.held + own_sum sizes)
    (subst F there (held_by_step told s t client (calls.Reserve number sizes) happened held step))

-- a release answers what the area held without the sectors
pub released_held : (told : Bool) (s t : State) (client number sectors : ℕ) (area : Area) (happened : Happened) (held : ℕ) → area_of s client number ≡ Some area
    → Step told s client (calls.Release number sectors) happened (replies.Held held) t → held ≡ area.held - sectors
released_held told s t client number sectors area happened held there step =
    let F : Option Area → Type 0 = λ found. IsReply told (flushed s)
    (option_map_or (λ (a : Area). released s a sectors) found (outcome (replies.Refused refusals.NoSuchArea) s)).reply (replies.Held held) in
    held_is told (flushed s) held (area.held - sectors)
    (subst F there (held_by_step told s t client (calls.Release number sectors) happened held step))

-- ---- what a refusal tells

-- a refusal, if there is one, tells this
abbrev Tells : (Refusal → Type 0) → Option Refusal → Type 0
Tells P found = (first : Refusal) → found ≡ Some first → P first

tells_none : (P : Refusal → Type 0) → Tells P None
tells_none P first e = absurd (cc e)

tells_some : (P : Refusal → Type 0) (given : Refusal) → P given → Tells P (Some given)
tells_some P given is first e = let same : given ≡ first = cc e in subst P same is

tells_if : (P : Refusal → Type 0) (test : Bool) (given : Refusal) (others : Option Refusal) → (test ≡ true → P given) → Tells P others → Tells P (refused_if test given others)
tells_if P true given others is rest = tells_some P given (is refl)
tells_if P false given others is rest = rest

-- what is found in a list passes the test and stands there
found_in : (q : ℕ → Bool) (xs : List ℕ) (x : ℕ) → find q xs ≡ Some x → (q x ≡ true) × Contains xs x
found_in q [] x e = absurd (cc e)
found_in q (y ∷ ys) x e = elim (cases_Bool (q y)) [
  | inl here ↦
      let at : Some y ≡ Some x = rw here at e in
      let same : y ≡ x = cc in
      (ap q (sym same) ∙ here, (0, omega arith, same))
  | inr there ↦ let rest = found_in q ys x (rw there at e) in
      (rest.0, (suc rest.1.0, (let less = rest.1.1 in omega arith), rest.1.2))
]

-- a length above the greatest is one of the lengths
tells_long : (P : Refusal → Type 0) (greatest : ℕ) (lengths : List ℕ) (others : Option Refusal)
    → ((len : ℕ) → greatest < len → Contains lengths len → P (refusals.RecordTooLong len greatest)) → Tells P others → Tells P (too_long greatest lengths others)
tells_long P greatest lengths others is rest = by_found (find (λ len. nat_lt greatest len) lengths) refl
  where
    by_found : (found : Option ℕ) → find (λ len. nat_lt greatest len) lengths ≡ found
        → Tells P (option_map_or (λ len. Some (refusals.RecordTooLong len greatest)) found others)
    by_found (Some len) e =
        let in_list = found_in (λ l. nat_lt greatest l) lengths len e in
        tells_some P (refusals.RecordTooLong len greatest) (is len (ltb-true greatest len in_list.0) in_list.1)
    by_found None e = rest

tells_full : (P : Refusal → Type 0) (s : State) (need : ℕ) → ((free reserved : ℕ) → P (refusals.Full free reserved need)) → Tells P (full s need)
tells_full P s need is = tells_if P (not (has_room s need)) (refusals.Full (free (grown s need)) (reserved (grown s need)) need) None
    (λ _. is (free (grown s need)) (reserved (grown s need))) (tells_none P)

-- a call in an area that is there
tells_there : (P : Refusal → Type 0) (s : State) (found : Option Area) (area : Area) (rest : Area → Option Refusal) → found ≡ Some area
    → (s.containers < 2 → P (refusals.NotEnoughContainers s.containers)) → Tells P (rest area)
    → Tells P (refused_if (nat_lt s.containers 2) (refusals.NotEnoughContainers s.containers) (option_map_or rest found (Some refusals.NoSuchArea)))
tells_there P s found area rest there few is =
    tells_if P (nat_lt s.containers 2) (refusals.NotEnoughContainers s.containers) (option_map_or rest found (Some refusals.NoSuchArea))
    (λ less. few (ltb-true s.containers 2 less))
    (let F : Option Area → Type 0 = λ o. Tells P (option_map_or rest o (Some refusals.NoSuchArea)) in subst F (sym there) is)

-- a refused reservation
pub reserve_tells : (s : State) (client number : ℕ) (sizes : List ℕ) (area : Area) (given : Refusal) → area_of s client number ≡ Some area
    → refusal s client (calls.Reserve number sizes) ≡ Some given → TellsReserve area.largest sizes given
reserve_tells s client number sizes area given there is =
    tells_there (TellsReserve area.largest sizes) s (area_of s client number) area (λ a. too_long a.largest sizes (full s (own_sum sizes))) there (λ few. few)
    (tells_long (TellsReserve area.largest sizes) area.largest sizes (full s (own_sum sizes)) (λ len above among. (refl, (above, among)))
    (tells_full (TellsReserve area.largest sizes) s (own_sum sizes) (λ free reserved. refl)))
    given is

-- a link that is refused isn't null
not_null : (s : State) (stream link : ℕ) → not (is_link s stream link) ≡ true → link ≢ null_lsn
not_null s stream link wrong null =
    let test : (link == null_lsn) ≡ true = eq-eqb link null_lsn null in
    absurd (let off : false ≡ true = rw test at wrong in cc)

-- the one length of a list of one
only_one : (n len : ℕ) → Contains (n ∷ []) len → len ≡ n
only_one n len (zero, less, is) = sym is
only_one n len (suc k, less, is) = absurd (omega arith)

-- a refused append
pub append_tells : (s : State) (client number : ℕ) (draft : Draft) (area : Area) (given : Refusal) → area_of s client number ≡ Some area
    → refusal s client (held_append number draft) ≡ Some given → TellsAppend area.largest draft given
append_tells s client number draft area given there is =
    let P : Refusal → Type 0 = TellsAppend area.largest draft in
    let n = length draft.bytes in
    let room = full s (need_of true n []) in
    let held = refused_if (nat_lt area.held (spent_of true n)) (refusals.ReservationShort area.held (spent_of true n)) room in
    let undo = refused_if (not (is_link s area.stream draft.undo_next)) (refusals.LinkInvalid draft.undo_next) held in
    let previous = refused_if (not (is_link s area.stream draft.previous)) (refusals.LinkInvalid draft.previous) undo in
    tells_there P s (area_of s client number) area (λ a. append_refusal s a draft true []) there (λ few. tt)
    (tells_long P area.largest (n ∷ []) previous (λ len above among. (refl, (above, only_one n len among)))
    (tells_if P (not (is_link s area.stream draft.previous)) (refusals.LinkInvalid draft.previous) undo
    (λ wrong. (not_null s area.stream draft.previous wrong, inl refl))
    (tells_if P (not (is_link s area.stream draft.undo_next)) (refusals.LinkInvalid draft.undo_next) held
    (λ wrong. (not_null s area.stream draft.undo_next wrong, inr refl))
    (tells_if P (nat_lt area.held (spent_of true n)) (refusals.ReservationShort area.held (spent_of true n)) room (λ less. tt)
    (tells_full P s (need_of true n []) (λ free reserved. tt))))))
    given is
