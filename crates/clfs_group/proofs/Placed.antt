-- A record that was placed is there in each later state, so its LSN lies below the frontier.
use Rattle.std.proofs.Common.{◌≡◌, ℕ, ◌+◌, ◌≤◌, ◌<◌, Bool, true, false, refl, sym, ap, subst, ◌∙◌, List, [], ◌∷◌, ◌++◌, length, map, inl, inr, arith}
use Rattle.std.specs.Prelude.{◌&&◌, ◌⊎◌, ◌==◌, nat_lt, Option, Some, None, MatchBool, MatchOption, IsTrue, All, Contains}
use Rattle.std.specs.Option.{option_map_or}
use Rattle.std.proofs.lemmas.List.{map-append, map_push}
use Rattle.std.proofs.lemmas.Bool.{cases_Bool}
use Rattle.std.proofs.lemmas.List.Elements.{All-contains, All-map, All-weaker, Contains-append_cases, Contains-append_left, Contains-push, Contains-push_cases}
use Rattle.clfs_lsn.specs.Lsn.{null_lsn}
use Rattle.clfs_lsn.specs.Place.{frontier}
use Rattle.clfs_lsn.specs.declared.entry.LogEntry.{LogEntry}
use Rattle.clfs_model.specs.declared.call.Call.{Call}
use Rattle.clfs_model.specs.declared.call.Call.TheVariants as calls
use Rattle.clfs_model.specs.declared.call.Draft.{Draft}
use Rattle.clfs_model.specs.declared.journal.Entry.{Entry}
use Rattle.clfs_model.specs.declared.refusal.Refusal.{Refusal}
use Rattle.clfs_model.specs.declared.refusal.Refusal.TheVariants as refusals
use Rattle.clfs_model.specs.declared.reply.Happened.{Happened}
use Rattle.clfs_model.specs.declared.reply.Happened.TheVariants.{Fine, Fault, Damage}
use Rattle.clfs_model.specs.declared.reply.Reply.{Reply}
use Rattle.clfs_model.specs.declared.reply.Reply.TheVariants as replies
use Rattle.clfs_model.specs.declared.state.State.{State}
use Rattle.clfs_model.specs.declared.state.Area.{Area}
use Rattle.clfs_model.specs.State.{area_of}
use Rattle.clfs_model.specs.Space.{free, reserved, grown, grown_if}
use Rattle.clfs_model.specs.Flush.{seal, flush, flushed}
use Rattle.clfs_model.specs.Journals.{GoesOn}
use Rattle.clfs_model.specs.Put.{next_lsn, need_of, put, plain_record, spend_if, hold_sizes, seal_if, flush_if, appended}
use Rattle.clfs_model.specs.Refusals.{refusal}
use Rattle.clfs_model.specs.Answers.{outcome, answer, restart_record, rebased, restarted}
use Rattle.clfs_model.specs.Step.{Step, Goes, Comes, IsReply, IsBroken, IsOutOfMemory, takes_memory}
use Rattle.clfs_model.specs.Valid.{IsValid, IsRecord}
use Rattle.clfs_laws.specs.ReplyKinds.{is_reply_of}
use Rattle.clfs_group.specs.Answers.{placed_by, placed_lsns}

-- the LSNs of a log's records
abbrev lsns : State → List ℕ
lsns s = map (λ (entry : LogEntry). entry.lsn) s.records

-- an empty list has nothing
nothing : (lsn : ℕ) → Contains [] lsn → ⊥
nothing lsn here = let short = here.1 in omega (arith, short)

-- ---- one append

grown_by : (b : Bool) (s : State) (wanted n : ℕ) → next_lsn (grown_if b s wanted) n ≡ next_lsn s n
grown_by true s wanted n = refl
grown_by false s wanted n = refl

grown_next : (s : State) (need n : ℕ) → next_lsn (grown s need) n ≡ next_lsn s n
unfolding grown
grown_next s need n = grown_by (s.automatic && nat_lt (free s) (reserved s + need)) s (reserved s + need) n

put_has : (s : State) (entry : LogEntry) → Contains (lsns (put s entry)) (next_lsn s (length entry.bytes))
put_has s entry =
    let there : LogEntry = record entry { lsn = next_lsn s (length entry.bytes) } in
    subst (λ (ns : List ℕ). Contains ns (next_lsn s (length entry.bytes))) (sym (map_push (λ (x : LogEntry). x.lsn) s.records there))
    (Contains-push (lsns s) (next_lsn s (length entry.bytes)))

-- sealing, flushing, what areas hold and bases leave the records
seal_keeps : (s : State) → lsns (seal s) ≡ lsns s
seal_keeps s = elim (cases_Bool (nat_lt 0 s.place.records)) [ inl some ↦ rw some refl | inr none ↦ rw none refl ]

seal_if_keeps : (asked : Bool) (s : State) → lsns (seal_if asked s) ≡ lsns s
seal_if_keeps true s = seal_keeps s
seal_if_keeps false s = refl

flush_if_keeps : (asked : Bool) (s : State) → lsns (flush_if asked s) ≡ lsns s
flush_if_keeps true s = seal_keeps s
flush_if_keeps false s = refl

spend_keeps : (is_reserved : Bool) (area : Area) (n : ℕ) (s : State) → lsns (spend_if is_reserved area n s) ≡ lsns s
spend_keeps true area n s = refl
spend_keeps false area n s = refl

hold_keeps : (area : Area) (sizes : List ℕ) (s : State) → lsns (hold_sizes area sizes s) ≡ lsns s
hold_keeps area [] s = refl
hold_keeps area (size ∷ sizes) s = refl

rebased_keeps : (stream base : ℕ) (s : State) → lsns (rebased stream base s) ≡ lsns s
rebased_keeps stream base s = elim (cases_Bool (base == null_lsn)) [ inl none ↦ rw none refl | inr some ↦ rw some refl ]

appended_has : (s : State) (area : Area) (draft : Draft) (is_reserved : Bool) (sizes : List ℕ)
    → Contains (lsns (appended s area draft is_reserved sizes)) (next_lsn s (length draft.bytes))
appended_has s area draft is_reserved sizes =
    let n = length draft.bytes in
    let need = need_of is_reserved n sizes in
    let joined : State = put (grown s need) (plain_record area draft) in
    let spent : State = spend_if is_reserved area n joined in
    let held : State = hold_sizes area sizes spent in
    let kept : lsns (appended s area draft is_reserved sizes) ≡ lsns joined =
    flush_if_keeps draft.flush (seal_if draft.seal held) ∙ (seal_if_keeps draft.seal held ∙ (hold_keeps area sizes spent ∙ spend_keeps is_reserved area n joined)) in
    subst (λ (ns : List ℕ). Contains ns (next_lsn s n)) (sym kept)
    (subst (Contains (lsns joined)) (grown_next s need n) (put_has (grown s need) (plain_record area draft)))

restarted_has : (s : State) (area : Area) (bytes : List ℕ) (base : ℕ) (is_reserved : Bool)
    → Contains (lsns (restarted s area bytes base is_reserved)) (next_lsn s (length bytes))
restarted_has s area bytes base is_reserved =
    let n = length bytes in
    let need = need_of is_reserved n [] in
    let joined : State = put (grown s need) (restart_record s area bytes base) in
    let spent : State = spend_if is_reserved area n joined in
    let kept : lsns (restarted s area bytes base is_reserved) ≡ lsns joined =
    rebased_keeps area.stream base (flush spent) ∙ (seal_keeps spent ∙ spend_keeps is_reserved area n joined) in
    subst (λ (ns : List ℕ). Contains ns (next_lsn s n)) (sym kept)
    (subst (Contains (lsns joined)) (grown_next s need n) (put_has (grown s need) (restart_record s area bytes base)))

-- ---- one step

placed_is : (told : Bool) (stable at lsn : ℕ) → IsReply told stable (replies.Placed at) (replies.Placed lsn) → at ≡ lsn
placed_is true stable at lsn is = cc (sym is)
placed_is false stable at lsn is = cc (sym is)

not_placed : (told : Bool) (stable lsn : ℕ) (given : Refusal) → IsReply told stable (replies.Refused given) (replies.Placed lsn) → ⊥
not_placed true stable lsn given is = cc is
not_placed false stable lsn given is = cc is

-- what a call that places a record leaves, by the area that it finds
over_has : (told : Bool) (stable lsn at : ℕ) (s t : State) (left : Area → State) (found : Option Area) → ((area : Area) → Contains (lsns (left area)) at)
    → Comes told stable (option_map_or (λ (area : Area). outcome (replies.Placed at) (left area)) found (outcome (replies.Refused refusals.NoSuchArea) s)) (replies.Placed lsn) t
    → Contains (lsns t) lsn
over_has told stable lsn at s t left None has comes = absurd (not_placed told stable lsn refusals.NoSuchArea comes.0)
over_has told stable lsn at s t left (Some area) has comes =
    subst (λ (u : State). Contains (lsns u) lsn) (sym comes.1) (subst (Contains (lsns (left area))) (placed_is told stable at lsn comes.0) (has area))

answer_has : (told : Bool) (s : State) (client : ℕ) (call : Call) (lsn : ℕ) (t : State) → is_reply_of call (replies.Placed lsn) ≡ true
    → Comes told (flushed s) (answer s client call) (replies.Placed lsn) t → Contains (lsns t) lsn
answer_has told s client (calls.Append number draft is_reserved sizes) lsn t kind comes =
    over_has told (flushed s) lsn (next_lsn s (length draft.bytes)) s t (λ area. appended s area draft is_reserved sizes) (area_of s client number)
    (λ area. appended_has s area draft is_reserved sizes) comes
answer_has told s client (calls.WriteRestart number bytes base is_reserved) lsn t kind comes =
    over_has told (flushed s) lsn (next_lsn s (length bytes)) s t (λ area. restarted s area bytes base is_reserved) (area_of s client number)
    (λ area. restarted_has s area bytes base is_reserved) comes
answer_has told s client _ lsn t kind comes = absurd (cc kind)

fine_has : (told : Bool) (s : State) (client : ℕ) (call : Call) (lsn : ℕ) (t : State) (first : Option Refusal) → is_reply_of call (replies.Placed lsn) ≡ true
    → MatchOption first (Comes told (flushed s) (answer s client call) (replies.Placed lsn) t) (λ given. (replies.Placed lsn ≡ replies.Refused given) × (t ≡ s))
    → Contains (lsns t) lsn
fine_has told s client call lsn t None kind comes = answer_has told s client call lsn t kind comes
fine_has told s client call lsn t (Some given) kind comes = absurd (cc comes.0)

goes_has : (told : Bool) (s : State) (client : ℕ) (call : Call) (happened : Happened) (lsn : ℕ) (t : State) → is_reply_of call (replies.Placed lsn) ≡ true
    → Goes told s client call happened (replies.Placed lsn) t → Contains (lsns t) lsn
goes_has told s client call Fine lsn t kind goes = fine_has told s client call lsn t (refusal s client call) kind goes
goes_has told s client call Fault lsn t kind goes = absurd (cc goes.1.1.0)
goes_has told s client call Damage lsn t kind goes = absurd goes.1.1.0

step_by : (told : Bool) (s : State) (client : ℕ) (call : Call) (happened : Happened) (lsn : ℕ) (t : State) (broken : Bool) → is_reply_of call (replies.Placed lsn) ≡ true
    → MatchBool broken (IsBroken s (replies.Placed lsn) t)
    ((IsTrue (takes_memory call) × IsOutOfMemory s (replies.Placed lsn) t) ⊎ Goes told s client call happened (replies.Placed lsn) t)
    → Contains (lsns t) lsn
step_by told s client call happened lsn t true kind step = absurd (cc step.0)
step_by told s client call happened lsn t false kind (inl want) = absurd (cc want.1.0)
step_by told s client call happened lsn t false kind (inr goes) = goes_has told s client call happened lsn t kind goes

step_has : (told : Bool) (s : State) (client : ℕ) (call : Call) (happened : Happened) (lsn : ℕ) (t : State) → is_reply_of call (replies.Placed lsn) ≡ true
    → Step told s client call happened (replies.Placed lsn) t → Contains (lsns t) lsn
unfolding Step
step_has told s client call happened lsn t kind step = step_by told s client call happened lsn t s.broken kind step

-- ---- a journal

-- a step keeps all records
abbrev pub OnlyAdds : Type 0
OnlyAdds = (told : Bool) (s : State) (client : ℕ) (call : Call) (happened : Happened) (reply : Reply) (t : State) → IsValid s → Step told s client call happened reply t
    → (more : List LogEntry) × (t.records ≡ s.records ++ more) × All (λ (entry : LogEntry). frontier s.place ≤ entry.lsn) more

-- a reply is of its call's kind
abbrev pub AreOfKind : Type 0
AreOfKind = (told : Bool) (s : State) (client : ℕ) (call : Call) (happened : Happened) (reply : Reply) (t : State)
    → Step told s client call happened reply t → is_reply_of call reply ≡ true

-- a step keeps a state valid
abbrev pub StepsStayValid : Type 0
StepsStayValid = (told : Bool) (s : State) (client : ℕ) (call : Call) (happened : Happened) (reply : Reply) (t : State)
    → IsValid s → Step told s client call happened reply t → IsValid t

reply_has : AreOfKind → (told : Bool) (s : State) (client : ℕ) (call : Call) (happened : Happened) (reply : Reply) (t : State) (lsn : ℕ)
    → Step told s client call happened reply t → Contains (placed_by reply) lsn → Contains (lsns t) lsn
reply_has kind told s client call happened (replies.Placed at) t lsn step here =
    let is : at ≡ lsn = elim (Contains-push_cases [] at lsn here) [ inl none ↦ absurd (nothing lsn none) | inr is ↦ is ] in
    subst (Contains (lsns t)) is (step_has told s client call happened at t (kind told s client call happened (replies.Placed at) t step) step)
reply_has kind told s client call happened _ t lsn step here = absurd (nothing lsn here)

-- a record that is there stays there
keeps_has : OnlyAdds → StepsStayValid → (told : Bool) (before : List Entry) (s t : State) (entries : List Entry) (lsn : ℕ) → IsValid s → GoesOn told before s entries t
    → Contains (lsns s) lsn → Contains (lsns t) lsn
keeps_has adds valid told before s t [] lsn ok goes here = subst (λ (u : State). Contains (lsns u) lsn) (sym goes) here
keeps_has adds valid told before s t (e ∷ es) lsn ok goes here =
    let mid : State = goes.0 in
    let step = goes.1.0.step in
    let more = adds told s e.client e.call e.happened e.reply mid ok step in
    let f : LogEntry → ℕ = λ (entry : LogEntry). entry.lsn in
    let is : lsns mid ≡ lsns s ++ map f more.0 = ap (map f) more.1 ∙ map-append f s.records more.0 in
    let there : Contains (lsns mid) lsn = subst (λ (ns : List ℕ). Contains ns lsn) (sym is) (Contains-append_left (lsns s) (map f more.0) lsn here) in
    keeps_has adds valid told (before ++ e ∷ []) mid t es lsn (valid told s e.client e.call e.happened e.reply mid ok step) goes.1.1 there

pub journal_has : OnlyAdds → StepsStayValid → AreOfKind → (told : Bool) (before : List Entry) (s t : State) (entries : List Entry) (lsn : ℕ) → IsValid s
    → GoesOn told before s entries t → Contains (placed_lsns entries) lsn → Contains (lsns t) lsn
journal_has adds valid kind told before s t [] lsn ok goes here = absurd (nothing lsn here)
journal_has adds valid kind told before s t (e ∷ es) lsn ok goes here =
    let mid : State = goes.0 in
    let step = goes.1.0.step in
    let ok_mid = valid told s e.client e.call e.happened e.reply mid ok step in
    elim (Contains-append_cases (placed_by e.reply) (placed_lsns es) lsn here) [
      | inl now ↦ keeps_has adds valid told (before ++ e ∷ []) mid t es lsn ok_mid goes.1.1 (reply_has kind told s e.client e.call e.happened e.reply mid lsn step now)
      | inr later ↦ journal_has adds valid kind told (before ++ e ∷ []) mid t es lsn ok_mid goes.1.1 later
    ]

-- so it lies below the frontier
pub placed_below : OnlyAdds → StepsStayValid → AreOfKind → (told : Bool) (s t : State) (entries : List Entry) (lsn : ℕ) → IsValid s → GoesOn told [] s entries t → IsValid t
    → Contains (placed_lsns entries) lsn → lsn < frontier t.place
placed_below adds valid kind told s t entries lsn ok goes ok_last here =
    let below : All (λ (entry : LogEntry). entry.lsn < frontier t.place) t.records =
    All-weaker (IsRecord t) (λ (entry : LogEntry). entry.lsn < frontier t.place) (λ entry is. is.below) t.records ok_last.records.records in
    All-contains (λ (n : ℕ). n < frontier t.place) (lsns t) lsn
    (All-map (λ (n : ℕ). n < frontier t.place) (λ (entry : LogEntry). entry.lsn) t.records below) (journal_has adds valid kind told [] s t entries lsn ok goes here)
