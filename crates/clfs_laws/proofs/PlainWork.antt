-- Plain work takes no more of the free sectors than its own records need, and leaves the number of containers.
use Rattle.clfs_laws.proofs.Words.{◌≡◌, ℕ, ◌+◌, ◌≤◌, Bool, true, false, refl, sym, ◌∙◌, subst, inl, inr, arith, List, [], ◌∷◌, ◌++◌, length, Option, Some}
use Rattle.clfs_laws.proofs.Words.{None, All, MatchOption, nat_lt, AllByRecursion, option_map_or, cases_Bool, recursion_from_All, own, null_lsn, joins}
use Rattle.clfs_laws.proofs.Words.{begins_here, LogEntry, Call, Draft, Entry, Refusal, Happened, Fine, Fault, Damage, Reply, State, Area, area_of, hold, free}
use Rattle.clfs_laws.proofs.Words.{reserved, grown, seal, flush, flushed, GoesOn, next_lsn, need_of, put, plain_record, seal_if, flush_if, appended, refusal}
use Rattle.clfs_laws.proofs.Words.{in_area, append_refusal, stream_number, Outcome, outcome, answer, flushed_to, Step, Goes, Comes, IsReply, with_broken}
use Rattle.clfs_laws.proofs.Words.{IsValid, HasSpaceLaws}
use Rattle.clfs_model.specs.declared.call.Call.TheVariants as calls
use Rattle.clfs_model.specs.declared.refusal.Refusal.TheVariants as refusals
use Rattle.clfs_model.specs.declared.reply.Reply.TheVariants as replies
use Rattle.clfs_laws.specs.PlainWork.{is_plain_work, sectors_of_record, sectors_of_records}
use Rattle.clfs_laws.proofs.HoldOrder.{free_later}
use Rattle.clfs_laws.proofs.HoldRises.{hold_rises}
use Rattle.clfs_laws.proofs.NotRefused.{passed_area}
use Rattle.clfs_laws.proofs.ReadiedLogs.{free_seal}
use Rattle.clfs_laws.proofs.StepCases.{broken_step, whole_step}
use Rattle.clfs_laws.proofs.ValidAppends.{allowed, may_append, put_containers}
use Rattle.clfs_laws.proofs.ValidPlaces.{IsSound, sound_of, sound_seal}
use Rattle.clfs_laws.proofs.ValidPuts.{TakesRecord, sound_put, put_by}
use Rattle.clfs_laws.proofs.ValidSteps.{two_of, valid_step}

-- what a step of plain work leaves
record Takes (s : State) (sectors : ℕ) (t : State) : Type 0 where
  containers : t.containers ≡ s.containers
  automatic : t.automatic ≡ s.automatic
  free : free s ≤ free t + sectors

takes_none : (s : State) (sectors : ℕ) → Takes s sectors s
takes_none s sectors = record { containers = refl; automatic = refl; free = omega arith }

takes_as : (s t : State) (sectors : ℕ) → t ≡ s → Takes s sectors t
takes_as s t sectors same = let F : State → Type 0 = Takes s sectors in subst F (sym same) (takes_none s sectors)

-- sealing and flushing take nothing
takes_seal : (s : State) → IsSound s → Takes s 0 (seal s)
takes_seal s sound = elim (cases_Bool (nat_lt 0 s.place.records)) [
  | inl some ↦ let same = free_seal s sound in record { containers = rw some refl; automatic = rw some refl; free = omega (arith, same) }
  | inr none ↦ let same = free_seal s sound in record { containers = rw none refl; automatic = rw none refl; free = omega (arith, same) }
]

takes_flush : (s : State) → IsSound s → Takes s 0 (flush s)
takes_flush s sound = let is = takes_seal s sound in record { containers = is.containers; automatic = is.automatic; free = is.free }

takes_seal_if : (asked : Bool) (s : State) → IsSound s → Takes s 0 (seal_if asked s) × IsSound (seal_if asked s)
takes_seal_if true s sound = (takes_seal s sound, sound_seal s sound)
takes_seal_if false s sound = (takes_none s 0, sound)

takes_flush_if : (asked : Bool) (s : State) → IsSound s → Takes s 0 (flush_if asked s)
takes_flush_if true s sound = takes_flush s sound
takes_flush_if false s sound = takes_none s 0

takes_on : (s t u : State) (a b : ℕ) → Takes s a t → Takes t b u → Takes s (a + b) u
takes_on s t u a b first second = record {
  containers = second.containers ∙ first.containers;
  automatic = second.automatic ∙ first.automatic;
  free = omega (arith, first.free, second.free);
}

-- a log without automatic growth doesn't grow
not_grown : (s : State) (need : ℕ) → s.automatic ≡ false → grown s need ≡ s
unfolding grown
not_grown s need off = rw off refl

-- a record that is put keeps the settings
put_automatic : (s : State) (entry : LogEntry) → (put s entry).automatic ≡ s.automatic
put_automatic s entry = by_case (joins s.shape s.place (length entry.bytes)) (begins_here s.shape s.place (length entry.bytes))
  where
    sealed : (seal s).automatic ≡ s.automatic
    sealed = elim (cases_Bool (nat_lt 0 s.place.records)) [ inl some ↦ rw some refl | inr none ↦ rw none refl ]

    by_case : (joining beginning : Bool) → (put_by joining beginning s entry).automatic ≡ s.automatic
    by_case true beginning = refl
    by_case false true = sealed
    by_case false false = sealed

-- an append that isn't refused
takes_append : HasSpaceLaws → (s : State) (client number : ℕ) (area : Area) (draft : Draft) → s.automatic ≡ false → IsValid s → area_of s client number ≡ Some area
    → append_refusal s area draft false [] ≡ None → Takes s (own (length draft.bytes)) (appended s area draft false [])
takes_append space s client number area draft off valid there none =
    let n = length draft.bytes in
    let need = need_of false n [] in
    let entry = plain_record area draft in
    let stays : s ≡ grown s need = sym (not_grown s need off) in
    let may = may_append s client number area draft false [] s stays refl valid valid there (allowed s area draft false [] none) in
    let takes : TakesRecord s n = record { short = may.short; room = omega (arith, may.room) } in
    let is = sound_put space s entry (sound_of s valid) takes may.joining in
    let joined : Takes s (own n) (put s entry) = record { containers = put_containers s entry; automatic = put_automatic s entry; free = is.free } in
    let closed = takes_seal_if draft.seal (put s entry) is.sound in
    let written = takes_flush_if draft.flush (seal_if draft.seal (put s entry)) closed.1 in
    let all = takes_on s (put s entry) _ (own n) 0 joined (takes_on (put s entry) _ _ 0 0 closed.0 written) in
    let F : State → Type 0 = λ u. Takes s (own n) (flush_if draft.flush (seal_if draft.seal (put u entry))) in
    let fewer : Takes s (own n) (flush_if draft.flush (seal_if draft.seal (put s entry))) = record { containers = all.containers; automatic = all.automatic; free = omega (arith, all.free) } in
    subst F stays fewer

-- an opening, by the number of the stream of this name
abbrev opened_by : State → List ℕ → Option ℕ → Outcome
opened_by s name found = option_map_or (λ number. outcome (replies.Stream number) s) found
    (outcome (replies.Stream (length s.streams + 1)) (record s { streams = s.streams ++ record { name = name; base = null_lsn } ∷ [] }))

-- a log with one stream more, or with none more
takes_opened : (s : State) (name : List ℕ) (found : Option ℕ) → hold s ≤ hold (opened_by s name found).state → Takes s 0 (opened_by s name found).state
takes_opened s name None later = record { containers = refl; automatic = refl; free = omega (arith, free_later s.shape s.place s.containers (hold s) _ later) }
takes_opened s name (Some number) later = takes_none s 0

takes_flushed_to : (s : State) (lsn : ℕ) → IsSound s → Takes s 0 (flushed_to s lsn)
takes_flushed_to s lsn sound = elim (cases_Bool (nat_lt lsn (flushed s))) [
  | inl there ↦ rw there (takes_none s 0)
  | inr missing ↦ rw missing (takes_flush s sound)
]

-- a machine's reply to an append is that of the log
placed_read : (told : Bool) (stable lsn : ℕ) (reply : Reply) → IsReply told stable (replies.Placed lsn) reply → reply ≡ replies.Placed lsn
placed_read true stable lsn reply is = is
placed_read false stable lsn reply is = is

sectors_none : (call : Call) (given : Refusal) → sectors_of_record call (replies.Refused given) ≡ 0
sectors_none (calls.Append area draft reserved sizes) given = refl
sectors_none _ given = refl

-- what an answered call of plain work leaves
answered : HasSpaceLaws → (told : Bool) (s : State) (client : ℕ) (call : Call) (reply : Reply) (t : State) → is_plain_work call ≡ true → s.automatic ≡ false → IsValid s
    → hold s ≤ hold t → refusal s client call ≡ None → Comes told (flushed s) (answer s client call) reply t → Takes s (sectors_of_record call reply) t
answered space told s client (calls.OpenStream name) reply t plain off valid later none comes =
    let F : State → Type 0 = λ u. hold s ≤ hold u in
    let G : State → Type 0 = Takes s 0 in
    subst G (sym comes.1) (takes_opened s name (stream_number s name) (subst F comes.1 later))
answered space told s client (calls.CreateArea stream largest reads) reply t plain off valid later none comes =
    let G : State → Type 0 = Takes s 0 in subst G (sym comes.1) (record { containers = refl; automatic = refl; free = omega arith })
answered space told s client (calls.FlushTo number lsn) reply t plain off valid later none comes =
    let G : State → Type 0 = Takes s 0 in subst G (sym comes.1) (takes_flushed_to s lsn (sound_of s valid))
answered space told s client (calls.Append number draft false []) reply t plain off valid later none comes =
    let two = two_of s (in_area s client number (λ (area : Area). append_refusal s area draft false [])) none in
    let there = passed_area (area_of s client number) (λ area. append_refusal s area draft false []) two.1 in
    let n = length draft.bytes in
    let F : Option Area → Type 0 = λ at. Comes told (flushed s) (option_map_or (λ (area : Area). outcome (replies.Placed (next_lsn s n)) (appended s area draft false [])) at
    (outcome (replies.Refused refusals.NoSuchArea) s)) reply t in
    let comes_so = subst F there.1.0 comes in
    let is : reply ≡ replies.Placed (next_lsn s n) = placed_read told (flushed s) (next_lsn s n) reply comes_so.0 in
    let G : State → Type 0 = Takes s (own n) in
    let H : Reply → Type 0 = λ r. Takes s (sectors_of_record (calls.Append number draft false []) r) t in
    subst H (sym is) (subst G (sym comes_so.1) (takes_append space s client number there.0 draft off valid there.1.0 there.1.1))
answered space told s client call reply t plain off valid later none comes = absurd (cc plain)

fine_by : HasSpaceLaws → (told : Bool) (s : State) (client : ℕ) (call : Call) (reply : Reply) (t : State) (first : Option Refusal) → is_plain_work call ≡ true
    → s.automatic ≡ false → IsValid s → hold s ≤ hold t → refusal s client call ≡ first
    → MatchOption first (Comes told (flushed s) (answer s client call) reply t) (λ given. (reply ≡ replies.Refused given) × (t ≡ s))
    → Takes s (sectors_of_record call reply) t
fine_by space told s client call reply t None plain off valid later is comes = answered space told s client call reply t plain off valid later is comes
fine_by space told s client call reply t (Some given) plain off valid later is comes = takes_as s t _ comes.1

-- a log that broke has what it had
takes_broken : (s t : State) (sectors : ℕ) → t ≡ with_broken s → Takes s sectors t
takes_broken s t sectors same =
    let F : State → Type 0 = Takes s sectors in subst F (sym same) (record { containers = refl; automatic = refl; free = omega arith })

goes_by : HasSpaceLaws → (told : Bool) (s : State) (client : ℕ) (call : Call) (happened : Happened) (reply : Reply) (t : State) → is_plain_work call ≡ true
    → s.automatic ≡ false → IsValid s → hold s ≤ hold t → Goes told s client call happened reply t → Takes s (sectors_of_record call reply) t
goes_by space told s client call Fine reply t plain off valid later goes =
    fine_by space told s client call reply t (refusal s client call) plain off valid later refl goes
goes_by space told s client call Fault reply t plain off valid later goes = takes_broken s t _ goes.1.1.1
goes_by space told s client call Damage reply t plain off valid later goes = takes_broken s t _ goes.1.1.1

step_by : HasSpaceLaws → (told : Bool) (s : State) (client : ℕ) (call : Call) (happened : Happened) (reply : Reply) (t : State) (broken : Bool) → s.broken ≡ broken
    → is_plain_work call ≡ true → s.automatic ≡ false → IsValid s → hold s ≤ hold t → Step told s client call happened reply t
    → Takes s (sectors_of_record call reply) t
step_by space told s client call happened reply t true is plain off valid later step =
    takes_as s t _ (broken_step told s client call happened reply t is step).1
step_by space told s client call happened reply t false is plain off valid later step = elim (whole_step told s client call happened reply t is step) [
  | inl want ↦ takes_as s t _ want.1.1
  | inr goes ↦ goes_by space told s client call happened reply t plain off valid later goes
]

step_takes : HasSpaceLaws → (told : Bool) (s : State) (client : ℕ) (call : Call) (happened : Happened) (reply : Reply) (t : State) → is_plain_work call ≡ true
    → s.automatic ≡ false → IsValid s → Step told s client call happened reply t → Takes s (sectors_of_record call reply) t
step_takes space told s client call happened reply t plain off valid step =
    step_by space told s client call happened reply t s.broken refl plain off valid (hold_rises space told s client call happened reply t valid step) step

takes_through : HasSpaceLaws → (told : Bool) (before : List Entry) (s t : State) (entries : List Entry) → GoesOn told before s entries t → s.automatic ≡ false → IsValid s
    → AllByRecursion (λ (entry : Entry). is_plain_work entry.call ≡ true) entries → Takes s (sectors_of_records entries) t
takes_through space told before s t [] goes off valid plain = takes_as s t 0 goes
takes_through space told before s t (entry ∷ entries) goes off valid plain =
    let mid : State = goes.0 in
    let step = goes.1.0.step in
    let first = step_takes space told s entry.client entry.call entry.happened entry.reply mid plain.0 off valid step in
    let valid_mid = valid_step space told s entry.client entry.call entry.happened entry.reply mid valid step in
    let rest = takes_through space told (before ++ entry ∷ []) mid t entries goes.1.1 (first.automatic ∙ off) valid_mid plain.1 in
    takes_on s mid t _ _ first rest

-- what plain work leaves along any part of a journal
pub work_takes : HasSpaceLaws → (told : Bool) (before : List Entry) (s t : State) (entries : List Entry) → GoesOn told before s entries t → s.automatic ≡ false → IsValid s
    → All (λ (entry : Entry). is_plain_work entry.call ≡ true) entries
    → (t.containers ≡ s.containers) × ((t.automatic ≡ s.automatic) × (free s ≤ free t + sectors_of_records entries))
work_takes space told before s t entries goes off valid plain =
    let is = takes_through space told before s t entries goes off valid (recursion_from_All (λ (entry : Entry). is_plain_work entry.call ≡ true) entries plain) in
    (is.containers, (is.automatic, is.free))
