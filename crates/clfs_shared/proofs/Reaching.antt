-- One call more of a journal that leads from the opening to a log.
use Rattle.std.proofs.Common.{◌≡◌, ℕ, ◌+◌, ◌≤◌, Bool, true, false, refl, sym, ap, subst, ◌∙◌, inl, inr, List, [], ◌∷◌, ◌++◌, length, arith}
use Rattle.std.specs.Prelude.{◌⊎◌, ◌≢◌, ◌||◌, ◌&&◌}
use Rattle.std.specs.List.{list_any}
use Rattle.std.proofs.lemmas.Bool.{cases_Bool}
use Rattle.std.proofs.lemmas.List.Folds.{list_any-append}
use Rattle.clfs_disk.specs.Files.{Files}
use Rattle.clfs_disk.specs.State.{DiskState, Nature, TellsContents, Rises}
use Rattle.clfs_lsn.specs.Limits.{most_containers}
use Rattle.clfs_model.specs.declared.call.Call.{Call}
use Rattle.clfs_model.specs.declared.info.Extent.{Extent}
use Rattle.clfs_model.specs.declared.journal.Entry.{Entry}
use Rattle.clfs_model.specs.declared.refusal.Refusal.{Refusal}
use Rattle.clfs_model.specs.declared.refusal.Refusal.TheVariants as refusals
use Rattle.clfs_model.specs.declared.reply.Happened.{Happened}
use Rattle.clfs_model.specs.declared.reply.Happened.TheVariants.{Fine, Fault}
use Rattle.clfs_model.specs.declared.reply.Reply.{Reply}
use Rattle.clfs_model.specs.declared.reply.Reply.TheVariants as replies
use Rattle.clfs_model.specs.declared.state.State.{State}
use Rattle.clfs_model.specs.Happened.{happened_of, happened_of_refusal}
use Rattle.clfs_model.specs.Journals.{GoesOn, IsLegal, mine}
use Rattle.clfs_model.specs.Run.{asks, bad_line}
use Rattle.clfs_model.specs.Step.{Step, IsBroken, IsDamaged, takes_memory}
use Rattle.clfs_model.specs.Valid.{IsValid}
use Rattle.clfs_laws.specs.ReplyKinds.{is_reply_of}
use Rattle.clfs_recover.specs.Files.{AreWholeFiles}
use Rattle.clfs_recover.specs.Whole.{are_whole}
use Rattle.clfs_manager.specs.Crashes.{CrashSurvives}
use Rattle.clfs_manager.specs.Written.{WritesDisk}
use Rattle.clfs_manager.specs.Calls.{IsSmall}
use Rattle.clfs_manager.specs.Reading.{TellsBlock}
use Rattle.clfs_shared.specs.declared.opening.Opening.{Opening}
use Rattle.clfs_shared.specs.Crashes.{IsLeftByEntries, MakesCall, StaysFlushed, since}
use Rattle.clfs_shared.specs.Journal.{entry_of, is_fault, is_damage, has_fault, is_out_of_memory, EntriesTellPlaces, TellsItsBlock}
use Rattle.clfs_shared.specs.Reached.{IsReached, is_calm}
use Rattle.clfs_shared.specs.Rooms.{FitsSpare}
use Rattle.clfs_shared.specs.Sessions.{HasRun}
use Rattle.clfs_shared.proofs.Crashing.{Spends, at_rest, left_before, left_longer, left_more, while_made}

-- ---- what replies tell

fault_is : (reply : Reply) → is_fault (happened_of reply) ≡ true → reply ≡ replies.Refused refusals.DiskFault
fault_is (replies.Refused refusals.DiskFault) e = refl
fault_is (replies.Refused (refusals.Damaged container offset at)) e = absurd (cc e)
fault_is (replies.Refused other) e = absurd (cc e)
fault_is _ e = absurd (cc e)

no_fault : (reply : Reply) → (reply ≡ replies.Refused refusals.DiskFault → ⊥) → is_fault (happened_of reply) ≡ false
no_fault (replies.Refused refusals.DiskFault) never = absurd (never refl)
no_fault (replies.Refused (refusals.Damaged container offset at)) never = refl
no_fault (replies.Refused other) never = refl
no_fault _ never = refl

no_damage : (reply : Reply) → (IsDamaged reply → ⊥) → is_damage (happened_of reply) ≡ false
no_damage (replies.Refused refusals.DiskFault) never = refl
no_damage (replies.Refused (refusals.Damaged container offset at)) never = absurd (never tt)
no_damage (replies.Refused other) never = refl
no_damage _ never = refl

not_memory : (reply : Reply) → is_out_of_memory reply ≡ false → reply ≢ replies.Refused refusals.NoMemory
not_memory reply is same = let F : Reply → Type 0 = λ r. is_out_of_memory r ≡ false in let wrong : true ≡ false = subst F same is in absurd (cc wrong)

memory_is : (reply : Reply) → is_out_of_memory reply ≡ true → reply ≡ replies.Refused refusals.NoMemory
memory_is (replies.Refused refusals.NoMemory) e = refl
memory_is (replies.Refused other) e = absurd (cc e)
memory_is _ e = absurd (cc e)

one_of : (a b : Bool) → (a || (b || false)) ≡ true → (a ≡ true) ⊎ (b ≡ true)
one_of true b e = inl refl
one_of false true e = inr refl
one_of false false e = absurd (cc e)

none_more : (p : Entry → Bool) (es : List Entry) (e : Entry) → list_any p es ≡ false → p e ≡ false → list_any p (es ++ e ∷ []) ≡ false
none_more p es e none not = list_any-append p es (e ∷ []) ∙ rw (none, not) refl

and_parts : (a b c : Bool) → (a && b && c) ≡ true → (a ≡ true) × (b ≡ true) × (c ≡ true)
and_parts true true true e = (refl, refl, refl)
and_parts true true false e = absurd (cc e)
and_parts true false c e = absurd (cc e)
and_parts false b c e = absurd (cc e)

-- one entry more that tells its place
tell_more : (told : Bool) (s : State) (entries : List Entry) (mid : State) (entry : Entry) (t : State) → EntriesTellPlaces told s entries mid
    → Step told mid entry.client entry.call entry.happened entry.reply t → TellsItsBlock mid entry → EntriesTellPlaces told s (entries ++ entry ∷ []) t
tell_more told s [] mid entry t all step place =
    (t, (subst (λ (u : State). Step told u entry.client entry.call entry.happened entry.reply t) all step, (subst (λ (u : State). TellsItsBlock u entry) all place, refl)))
tell_more told s (first ∷ entries) mid entry t all step place =
    (all.0, (all.1.0, (all.1.1.0, tell_more told all.0 entries mid entry t all.1.1.1 step place)))

-- ---- what a call does

-- the laws that are cited
pub record Laws : Type 0 where
  pub joins : (told : Bool) (s mid t : State) (front rest : List Entry) → IsLegal told front s mid → GoesOn told front mid rest t → IsLegal told (front ++ rest) s t
  pub passes : (files : Files) → AreWholeFiles files → are_whole files ≡ true
  pub tells : (files : Files) → are_whole files ≡ true → AreWholeFiles files
  pub breaks : (told : Bool) (s : State) (client : ℕ) (call : Call) (happened : Happened) (reply : Reply) (t : State)
      → Step told s client call happened reply t → happened_of reply ≡ Fault → t.broken ≡ true
  pub stays : (told : Bool) (s : State) (client : ℕ) (call : Call) (happened : Happened) (reply : Reply) (t : State)
      → s.broken ≡ true → Step told s client call happened reply t → IsBroken s reply t
  pub keeps : (told : Bool) (s : State) (client : ℕ) (call : Call) (happened : Happened) (refusal : Refusal) (t : State)
      → Step told s client call happened (replies.Refused refusal) t → happened_of_refusal refusal ≡ Fine → t ≡ s

-- a call of the manager: its step, and what it does to the disk
pub record Calls (old new : DiskState) (s t : State) (client : ℕ) (call : Call) (reply : Reply) : Type 0 where
  pub step : Step old.nature.tells_contents s client call (happened_of reply) reply t
  pub writes : WritesDisk (reply ≡ replies.Refused refusals.DiskFault) old new
  pub damage : TellsContents old → IsDamaged reply → ⊥
  pub place : (refusal : Refusal) → reply ≡ replies.Refused refusal → TellsBlock s client call refusal
  pub spends : Spends (asks client call) s old new
  -- what it does where memory ran out
  pub starved : reply ≡ replies.Refused refusals.NoMemory → Spends (bad_line 0) s old new
  -- and what a crash leaves after it
  pub rests : CrashSurvives (bad_line 0) t new new

pub calls_by : (old new : DiskState) (s t : State) (client : ℕ) (call : Call) (reply : Reply) → Step old.nature.tells_contents s client call (happened_of reply) reply t
    → WritesDisk (reply ≡ replies.Refused refusals.DiskFault) old new → (TellsContents old → IsDamaged reply → ⊥)
    → ((refusal : Refusal) → reply ≡ replies.Refused refusal → TellsBlock s client call refusal) → CrashSurvives (asks client call) s old new
    → (reply ≡ replies.Refused refusals.NoMemory → CrashSurvives (bad_line 0) s old new)
    → (s.broken ≡ true → new.clock ≡ old.clock) → CrashSurvives (bad_line 0) t new new → Calls old new s t client call reply
calls_by old new s t client call reply step writes damage place survives starved stopped rests = record {
  step = step;
  writes = writes;
  damage = damage;
  place = place;
  spends = record { later = writes.time.later; past = writes.time.past; stopped = stopped; survives = survives };
  starved = λ wanting. record { later = writes.time.later; past = writes.time.past; stopped = stopped; survives = starved wanting };
  rests = rests;
}

-- one disk has one time
pub same_clock : {X : Type 0} (disk : X → DiskState) (a b : X) → a ≡ b → (disk a).clock ≡ (disk b).clock
same_clock {X} disk a b same = ap (λ (x : X). (disk x).clock) same

-- a reply to a call from a valid state fits the memory that serves any
pub fits_spare : ((told : Bool) (s : State) (client : ℕ) (call : Call) (happened : Happened) (found : List Extent) (t : State)
    → IsValid s → Step told s client call happened (replies.Extents found) t → length found ≤ most_containers)
    → (told : Bool) (s : State) (client : ℕ) (call : Call) (happened : Happened) (reply : Reply) (t : State)
    → IsValid s → IsSmall reply → Step told s client call happened reply t → FitsSpare reply
fits_spare few told s client call happened (replies.Extents found) t valid small step = few told s client call happened found t valid step
fits_spare few told s client call happened (replies.Found cursor entry) t valid small step = small
fits_spare few told s client call happened (replies.Next entry) t valid small step = small
fits_spare few told s client call happened _ t valid small step = tt

-- a call that ran out of memory did nothing
pub ran_out : (may_lack : List Entry → Type 0) (told : Bool) (s t : State) (before now : List Entry) (client : ℕ) (call : Call) (reply : Reply) → is_out_of_memory reply ≡ true
    → now ≡ before → t ≡ s → (takes_memory call ≡ true) ⊎ may_lack (mine before client) → HasRun may_lack told s before client call reply t now
ran_out may_lack told s t before now client call reply wanting same state wants = record {
  none = λ _. (same, state);
  wanted = λ _. wants;
  step = λ answered. absurd (cc (wanting, answered));
  place = λ answered. absurd (cc (wanting, answered));
  entry = λ answered. absurd (cc (wanting, answered));
}

-- the entry of the copies is that of the call
pub copied : (client number : ℕ) (kept call : Call) (happened : Happened) (copy reply : Reply) (before after : List Entry)
    → after ≡ before ++ record { client = client; number = number; call = kept; happened = happened; reply = copy } ∷ []
    → number ≡ length (mine before client) + 1 → kept ≡ call → happened ≡ happened_of reply → copy ≡ reply
    → after ≡ before ++ entry_of client (length (mine before client) + 1) call reply ∷ []
copied client number kept call happened copy reply before after is counted of_call of_reply of_copy =
    let with_copies : Entry = record { client = client; number = number; call = kept; happened = happened; reply = copy } in
    let of_call_itself : with_copies ≡ entry_of client (length (mine before client) + 1) call reply =
    first_of (cc, simp (counted, of_call, of_reply, of_copy)) in
    is ∙ ap (λ (e : Entry). before ++ e ∷ []) of_call_itself

-- and it stands after the entries of before
pub behind : (client : ℕ) (call : Call) (reply : Reply) (before now after : List Entry)
    → after ≡ now ++ entry_of client (length (mine now client) + 1) call reply ∷ [] → now ≡ before
    → after ≡ before ++ entry_of client (length (mine before client) + 1) call reply ∷ []
behind client call reply before now after is same =
    subst (λ (es : List Entry). after ≡ es ++ entry_of client (length (mine es client) + 1) call reply ∷ []) same is

-- a log that isn't broken after a call wasn't before it, and the call met no fault
record IsIntact (s : State) (reply : Reply) : Type 0 where
  before : s.broken ≡ false
  no_fault : reply ≡ replies.Refused refusals.DiskFault → ⊥

intact : Laws → (told : Bool) (s t : State) (client : ℕ) (call : Call) (reply : Reply) → Step told s client call (happened_of reply) reply t → t.broken ≡ false → IsIntact s reply
intact laws told s t client call reply step whole = record {
  before = elim (cases_Bool s.broken) [
    | inl broken ↦ let same = (laws.stays told s client call (happened_of reply) reply t broken step).1 in
        absurd (let F : State → Type 0 = λ x. x.broken ≡ false in let wrong : s.broken ≡ false = subst F same whole in cc (broken, wrong))
    | inr not ↦ not
  ];
  no_fault = λ is. let fault : happened_of reply ≡ Fault = ap happened_of is in
      let broken = laws.breaks told s client call (happened_of reply) reply t step fault in cc (broken, whole);
}

-- out of memory leaves the state
pub memory_leaves : Laws → (told : Bool) (s t : State) (client : ℕ) (call : Call) (reply : Reply) → Step told s client call (happened_of reply) reply t
    → is_out_of_memory reply ≡ true → t ≡ s
memory_leaves laws told s t client call reply step wanting =
    let F : Reply → Type 0 = λ r. Step told s client call (happened_of reply) r t in
    laws.keeps told s client call (happened_of reply) refusals.NoMemory t (subst F (memory_is reply wanting) step) refl

-- a call that ran out of memory takes some, as a reply is one to its call
pub takes_some : ((told : Bool) (s : State) (client : ℕ) (call : Call) (happened : Happened) (reply : Reply) (t : State)
    → Step told s client call happened reply t → is_reply_of call reply ≡ true)
    → (told : Bool) (s t : State) (client : ℕ) (call : Call) (reply : Reply) → Step told s client call (happened_of reply) reply t
    → is_out_of_memory reply ≡ true → takes_memory call ≡ true
takes_some own told s t client call reply step wanting =
    subst (λ (r : Reply). is_reply_of call r ≡ true) (memory_is reply wanting) (own told s client call (happened_of reply) reply t step)

module _ (laws : Laws) (o : Opening) (old new : DiskState) (s t : State) (before : List Entry) (client : ℕ) (call : Call) (reply : Reply)
    (calls : Calls old new s t client call reply) (r : IsReached o old s before) where
  nature : new.nature ≡ old.nature
  nature = calls.writes.time.nature

  -- the files are still at full length
  full : o.tells_contents ≡ true → o.is_whole ≡ true → t.broken ≡ false → are_whole new.files ≡ true
  full tells whole whole_log =
      let is = intact laws old.nature.tells_contents s t client call reply calls.step whole_log in
      laws.passes new.files (calls.writes.whole is.no_fault (r.contents ∙ tells) (laws.tells old.files (r.whole tells whole is.before)))

  -- what a crash left up to the call
  before_call : o.tells_contents ≡ true → o.tells_images ≡ true → (whole : Bool) → (whole ≡ true → o.is_whole ≡ true)
      → IsLeftByEntries o.tells_contents whole (since o.moment new.image_at) o.moment old.clock o.state before s
  before_call tells images whole has =
      left_before o.tells_contents whole o.moment (asks client call) o.state s old new before calls.spends (r.crash tells images whole has)

  -- what it left during the call
  in_call : o.tells_contents ≡ true → o.tells_images ≡ true → (whole : Bool) → (whole ≡ true → o.is_whole ≡ true)
      → MakesCall whole (since o.moment new.image_at) old.clock new.clock s client call
  in_call tells images whole has =
      while_made whole o.moment (asks client call) s old new calls.spends (r.contents ∙ tells, r.images ∙ images)
      (λ intact_log is. laws.tells old.files (r.whole tells (has is) intact_log))

  -- what it left where memory ran out
  while_starved : reply ≡ replies.Refused refusals.NoMemory → o.tells_contents ≡ true → o.tells_images ≡ true → (whole : Bool) → (whole ≡ true → o.is_whole ≡ true)
      → StaysFlushed whole (since o.moment new.image_at) old.clock new.clock s
  while_starved wanting tells images whole has =
      while_made whole o.moment (bad_line 0) s old new (calls.starved wanting) (r.contents ∙ tells, r.images ∙ images)
      (λ intact_log is. laws.tells old.files (r.whole tells (has is) intact_log))

  -- and what it leaves after it
  after_call : o.tells_contents ≡ true → o.tells_images ≡ true → (whole : Bool) → (whole ≡ true → o.is_whole ≡ true)
      → StaysFlushed whole (since o.moment new.image_at) new.clock new.clock t
  after_call tells images whole has =
      at_rest whole o.moment t new calls.rests
      (ap (λ (n : Nature). n.tells_contents) nature ∙ r.contents ∙ tells, ap (λ (n : Nature). n.tells_images) nature ∙ r.images ∙ images)
      (λ intact_log is. laws.tells new.files (full tells (has is) intact_log))

  -- a call that ran out of memory added no entry and left the state as it was
  pub reached_still : reply ≡ replies.Refused refusals.NoMemory → t ≡ s → IsReached o new t before
  reached_still wanting same = let F : State → Type 0 = λ u. IsReached o new u before in subst F (sym same) (record {
    legal = r.legal;
    contents = ap (λ (n : Nature). n.tells_contents) nature ∙ r.contents;
    images = ap (λ (n : Nature). n.tells_images) nature ∙ r.images;
    steady = ap (λ (n : Nature). n.steady) nature ∙ r.steady;
    later = let a = r.later in let b = calls.writes.time.faults in omega (arith, a, b);
    fault = λ bad. let a = r.fault bad in let b = calls.writes.time.faults in omega (arith, a, b);
    damage = r.damage;
    places = r.places;
    calm = r.calm;
    whole = λ tells whole whole_log. full tells whole (ap (λ (x : State). x.broken) same ∙ whole_log);
    crash = λ tells images whole has.
        left_longer o.tells_contents whole (since o.moment new.image_at) o.moment old.clock new.clock o.state s before (before_call tells images whole has)
        (while_starved wanting tells images whole has);
  })

  -- the entry of the call
  abbrev entry : Entry
  entry = entry_of client (length (mine before client) + 1) call reply

  step_told : Step o.tells_contents s client call (happened_of reply) reply t
  step_told = let F : Bool → Type 0 = λ told. Step told s client call (happened_of reply) reply t in subst F r.contents calls.step

  risen : (has_fault before ≡ true) ⊎ (is_fault (happened_of reply) ≡ true) → Rises o.faults new.faults
  risen (inl bad) = let a = r.fault bad in let b = calls.writes.time.faults in omega (arith, a, b)
  risen (inr bad) = let a = calls.writes.cause (fault_is reply bad) in let b = r.later in omega (arith, a, b)

  -- over a calm disk the reply is no fault
  calm_reply : is_calm o ≡ true → is_fault (happened_of reply) ≡ false
  calm_reply calm =
      let parts = and_parts o.is_steady o.tells_contents o.is_whole calm in
      elim (cases_Bool s.broken) [
        | inl broken ↦ ap (λ (x : Reply). is_fault (happened_of x)) (laws.stays old.nature.tells_contents s client call (happened_of reply) reply t broken calls.step).0
        | inr not ↦ no_fault reply (calls.writes.steady (r.steady ∙ parts.0) (r.contents ∙ parts.1) (laws.tells old.files (r.whole parts.1 parts.2 not))).0
      ]

  -- any other call added its entry
  pub reached_more : (after : List Entry) → is_out_of_memory reply ≡ false → after ≡ before ++ entry_of client (length (mine before client) + 1) call reply ∷ []
      → IsReached o new t after
  reached_more after answered is = let F : List Entry → Type 0 = λ j. IsReached o new t j in subst F (sym is) (record {
    legal = laws.joins o.tells_contents o.state s t before (entry ∷ []) r.legal (t, (record { step = step_told; no_want = not_memory reply answered; number = refl }, refl));
    contents = ap (λ (n : Nature). n.tells_contents) nature ∙ r.contents;
    images = ap (λ (n : Nature). n.tells_images) nature ∙ r.images;
    steady = ap (λ (n : Nature). n.steady) nature ∙ r.steady;
    later = let a = r.later in let b = calls.writes.time.faults in omega (arith, a, b);
    fault = λ bad. risen (one_of (has_fault before) (is_fault (happened_of reply)) (sym (list_any-append (λ (e : Entry). is_fault e.happened) before (entry ∷ [])) ∙ bad));
    damage = λ told. none_more (λ (e : Entry). is_damage e.happened) before entry (r.damage told) (no_damage reply (calls.damage (r.contents ∙ told)));
    places = tell_more o.tells_contents o.state before s entry t r.places step_told calls.place;
    calm = λ calm. none_more (λ (e : Entry). is_fault e.happened) before entry (r.calm calm) (calm_reply calm);
    whole = full;
    crash = λ tells images whole has.
        left_more o.tells_contents whole (since o.moment new.image_at) o.moment old.clock new.clock o.state s t before entry
        (before_call tells images whole has) (in_call tells images whole has) step_told (after_call tells images whole has);
  })

-- the same where the list has another name
pub still_at : (laws : Laws) (o : Opening) (old new : DiskState) (s t : State) (before now : List Entry) (client : ℕ) (call : Call) (reply : Reply)
    → Calls old new s t client call reply → IsReached o old s before → is_out_of_memory reply ≡ true → now ≡ before → IsReached o new t now
still_at laws o old new s t before now client call reply calls r wanting same =
    let F : List Entry → Type 0 = λ j. IsReached o new t j in
    subst F (sym same) (reached_still laws o old new s t before client call reply calls r
    (memory_is reply wanting)
    (memory_leaves laws old.nature.tells_contents s t client call reply calls.step wanting))
