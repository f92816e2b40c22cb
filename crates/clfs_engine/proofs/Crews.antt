-- What the calls of a crew make of its area and of its permits, and the journal that it leaves.
use Rattle.std.proofs.Common.{◌≡◌, ℕ, ◌+◌, ◌*◌, ◌<◌, ◌≤◌, Bool, true, false, refl, sym, ap, ap₂, subst, ◌∙◌, List, [], ◌∷◌, ◌++◌, length, map, inl, inr, arith}
use Rattle.std.specs.Prelude.{◌||◌, ◌⊎◌, ◌==◌, All, IsTrue, Some, if◌then◌else◌}
use Rattle.std.proofs.Math.Nat.{add-mul}
use Rattle.std.specs.List.{list_any}
use Rattle.std.proofs.lemmas.Bool.{cases_Bool, eqb-true, eq-eqb}
use Rattle.std.proofs.lemmas.List.Sums.{sum_by-append}
use Rattle.std.proofs.lemmas.List.{length_push}
use Rattle.std.proofs.lemmas.List.Elements.{All-nil, All-head, All-cons, All-pop}
use Rattle.std.proofs.lemmas.Nat.{mul-le}
use Rattle.clfs_disk.specs.State.{DiskState, IsSteady}
use Rattle.clfs_lsn.specs.Size.{own}
use Rattle.clfs_model.specs.declared.call.Call.{Call}
use Rattle.clfs_model.specs.declared.call.Call.TheVariants as calls
use Rattle.clfs_model.specs.declared.call.Draft.{Draft}
use Rattle.clfs_model.specs.declared.journal.Entry.{Entry}
use Rattle.clfs_model.specs.declared.refusal.Refusal.{Refusal}
use Rattle.clfs_model.specs.declared.refusal.Refusal.TheVariants as refusals
use Rattle.clfs_model.specs.declared.reply.Reply.{Reply}
use Rattle.clfs_model.specs.declared.reply.Reply.TheVariants as replies
use Rattle.clfs_model.specs.declared.state.State.{State}
use Rattle.clfs_model.specs.Journals.{IsLegal, mine, held_by, held_in}
use Rattle.clfs_turn.specs.Lists.{is_in}
use Rattle.clfs_model.specs.Space.{own_sum}
use Rattle.clfs_recover.specs.Whole.{are_whole}
use Rattle.clfs_turn.specs.Seats.{IsNewSeat, IsSameSeat, HasSeen}
use Rattle.clfs_shared.specs.declared.opening.Opening.{Opening}
use Rattle.clfs_shared.specs.Journal.{client_of, entry_of, is_out_of_memory}
use Rattle.clfs_shared.specs.Reached.{is_calm, opening_of}
use Rattle.clfs_shared.specs.Sessions.{SessionState, SharedState, IsCalmReply, IsOf, IsStepped, own_entries}
use Rattle.clfs_area.specs.Areas.{AreaBooks, HasSameBooks, IsSameArea, PermitState, books_of, held_by_own, permit_of}
use Rattle.clfs_area.specs.Calls.{HasAsked, held_append}
use Rattle.clfs_area.specs.Causes.{may_refuse_append, TellsAppend}
use Rattle.clfs_engine.specs.Crew.{IsCrewText, crew_log, crew_text, is_placed, placed_in}
use Rattle.clfs_operations.specs.Trial.{is_refusal}
use Rattle.clfs_engine.specs.Work.{HasAppended, HasPlaced, HasWorked, IsAtWork, IsCrewRecord, IsCrewed, NeverFails, WorkerState, ready, record_bytes, worker_of}

-- ---- one entry more

any_more : (p : Entry → Bool) (es : List Entry) (e : Entry) → list_any p (es ++ e ∷ []) ≡ (list_any p es || p e)
any_more p [] e = by_first (p e)
  where
    by_first : (b : Bool) → (b || false) ≡ b
    by_first true = refl
    by_first false = refl
any_more p (x ∷ es) e = by_first (p x) (any_more p es e)
  where
    by_first : (b : Bool) → list_any p (es ++ e ∷ []) ≡ (list_any p es || p e) → (b || list_any p (es ++ e ∷ [])) ≡ ((b || list_any p es) || p e)
    by_first true is = refl
    by_first false is = is

-- an entry counts for one where it is an append that was placed
abbrev pub count_of : Call → Reply → ℕ
count_of call reply = if is_placed call reply then 1 else 0

has_more : (es : List Entry) (records : ℕ) (e : Entry) → HasPlaced es records → is_refusal e.reply ≡ false
    → HasPlaced (es ++ e ∷ []) (records + count_of e.call e.reply)
has_more es records e has fine = record {
  none_refused = any_more (λ (x : Entry). is_refusal x.reply) es e ∙ (ap (λ (b : Bool). b || is_refusal e.reply) has.none_refused ∙ fine);
  placed =
      let sum : placed_in (es ++ e ∷ []) ≡ placed_in es + (0 + count_of e.call e.reply) =
      sum_by-append (λ (x : Entry). if is_placed x.call x.reply then 1 else 0) es (e ∷ []) in
      let before = has.placed in
      omega (arith, sum, before);
}

-- a session that made a call, which was not refused
pub after_step : (s t : SessionState) (call : Call) (reply : Reply) (records : ℕ) → IsStepped s t call reply → is_refusal reply ≡ false
    → HasPlaced (own_entries s) records → HasPlaced (own_entries t) (records + count_of call reply)
after_step s t call reply records step fine has =
    let e : Entry = entry_of s.client (length (own_entries s) + 1) call reply in
    subst (λ (es : List Entry). HasPlaced es (records + count_of call reply)) (sym step.grew) (has_more (own_entries s) records e has fine)

-- a session that has seen no more
unseen : (s t : SessionState) → IsSameSeat s t → t.seen ≡ s.seen → own_entries t ≡ own_entries s
unseen s t same is = ap (λ (c : ℕ). mine t.seen c) same.client ∙ ap (λ (es : List Entry). mine es s.client) is

pub still_of : (log : SharedState) (s t : SessionState) → IsOf log s → IsSameSeat s t → IsOf log t
still_of log s t of same = record {
  lock = same.lock ∙ of.lock;
  opening = same.opening ∙ of.opening;
  client = ap (λ (c : ℕ). is_in c log.clients) same.client ∙ of.client;
}

-- no entries
pub none_placed : (es : List Entry) → es ≡ [] → HasPlaced es 0
none_placed es none = subst (λ (x : List Entry). HasPlaced x 0) (sym none) (record { none_refused = refl; placed = refl })

-- ---- an area at work

-- after a call that was not refused
pub works_on : (log : SharedState) (a b : AreaBooks) (call : Call) (reply : Reply) → IsAtWork log a → IsSameArea a b → IsStepped a.session b.session call reply
    → is_refusal reply ≡ false → b.records ≡ a.records + count_of call reply → IsAtWork log b
works_on log a b call reply works same step fine records = record {
  of = still_of log a.session b.session works.of same.session;
  entries = subst (HasPlaced (own_entries b.session)) (sym records) (after_step a.session b.session call reply a.records step fine works.entries);
  largest = same.largest ∙ works.largest;
}

-- after out of memory
pub works_still : (log : SharedState) (a b : AreaBooks) → IsAtWork log a → IsSameArea a b → HasSameBooks a b → b.session.seen ≡ a.session.seen → IsAtWork log b
works_still log a b works same books is = record {
  of = still_of log a.session b.session works.of same.session;
  entries = subst (HasPlaced (own_entries b.session)) (sym books.records)
      (subst (λ (es : List Entry). HasPlaced es a.records) (sym (unseen a.session b.session same.session is)) works.entries);
  largest = same.largest ∙ works.largest;
}

-- ---- a record of a crew

-- it needs one sector
pub one_sector : (draft : Draft) → IsCrewRecord draft → own (length draft.bytes) ≡ 1
one_sector draft is = ap own is.bytes

-- its append is refused for nothing but memory
pub lacks_memory : (draft : Draft) (largest : ℕ) (given : Refusal) → IsCrewRecord draft → largest ≡ record_bytes → may_refuse_append given ≡ true
    → TellsAppend largest draft given → IsCalmReply (replies.Refused given) → is_out_of_memory (replies.Refused given) ≡ true
lacks_memory draft largest refusals.NoMemory is fits may told calm = refl
lacks_memory draft largest refusals.DiskFault is fits may told calm = absurd (calm.fault refl)
lacks_memory draft largest refusals.Broken is fits may told calm = absurd (calm.broken refl)
lacks_memory draft largest (refusals.RecordTooLong len max) is fits may told calm =
    let long = told.1.0 in let long_is = told.1.1 in let bytes = is.bytes in absurd (omega (arith, long, long_is, bytes, fits))
lacks_memory draft largest (refusals.LinkInvalid lsn) is fits may told calm = by_link told.1
  where
    by_link : ((lsn ≡ draft.previous) ⊎ (lsn ≡ draft.undo_next)) → is_out_of_memory (replies.Refused (refusals.LinkInvalid lsn)) ≡ true
    by_link (inl previous) = absurd (told.0 (previous ∙ is.previous))
    by_link (inr undo_next) = absurd (told.0 (undo_next ∙ is.undo_next))
lacks_memory draft largest _ is fits may told calm = absurd (cc may)

-- lengths of so many records need so many sectors
pub one_size_more : (sizes : List ℕ) → own_sum (sizes ++ record_bytes ∷ []) ≡ own_sum sizes + 1
one_size_more sizes = sum_by-append own sizes (record_bytes ∷ [])

-- ---- what the calls of the area make of it

-- a call of the area's session tells nothing of the disk
pub calm_session : (log : SharedState) (s : SessionState) → NeverFails log → IsOf log s → (is_calm s.opening ≡ true) × (s.opening.state.broken ≡ false)
calm_session log s never of =
    (ap is_calm of.opening ∙ never.calm, ap (λ (o : Opening). o.state.broken) of.opening ∙ never.unbroken)

-- an area that was just made
pub made_works : (log : SharedState) (s : SessionState) (a : AreaBooks) (stream reads : ℕ) → IsOf log s → HasPlaced (own_entries s) 0 → IsSameSeat s a.session
    → IsStepped s a.session (calls.CreateArea stream record_bytes reads) (replies.Area a.number)
    → a ≡ books_of a.session a.number stream record_bytes reads 0 0 → IsAtWork log a
made_works log s a stream reads of has same step is = record {
  of = still_of log s a.session of same;
  entries = subst (HasPlaced (own_entries a.session)) (sym (ap (λ (x : AreaBooks). x.records) is))
      (after_step s a.session (calls.CreateArea stream record_bytes reads) (replies.Area a.number) 0 step refl has);
  largest = ap (λ (x : AreaBooks). x.largest) is;
}

-- sectors were reserved
pub reserved_works : (log : SharedState) (a b : AreaBooks) (sizes : List ℕ) (held : ℕ) → IsAtWork log a → IsSameArea a b
    → HasAsked a.session b.session (calls.Reserve a.number sizes) (replies.Held held) → b.records ≡ a.records → IsAtWork log b
reserved_works log a b sizes held works same asked records =
    works_on log a b (calls.Reserve a.number sizes) (replies.Held held) works same (asked.step refl) refl (omega (arith, records))

-- a record was appended
pub appended_works : (log : SharedState) (a b : AreaBooks) (p : PermitState) (draft : Draft) (lsn : ℕ) → IsAtWork log a → IsSameArea a b → IsCrewRecord draft
    → 1 ≤ p.sectors → (own (length draft.bytes) ≤ p.sectors → HasAsked a.session b.session (held_append a.number draft) (replies.Placed lsn))
    → b.records ≡ a.records + 1 → IsAtWork log b
appended_works log a b p draft lsn works same is some asked records =
    let one = one_sector draft is in
    works_on log a b (held_append a.number draft) (replies.Placed lsn) works same ((asked (omega (arith, one, some))).step refl) refl records

-- there was no memory for it
pub lacked_works : (log : SharedState) (a b : AreaBooks) (p : PermitState) (draft : Draft) (given : Refusal) → NeverFails log → IsAtWork log a → IsSameArea a b
    → IsCrewRecord draft → 1 ≤ p.sectors
    → (own (length draft.bytes) ≤ p.sectors → HasAsked a.session b.session (held_append a.number draft) (replies.Refused given))
    → (own (length draft.bytes) ≤ p.sectors → may_refuse_append given ≡ true) → TellsAppend a.largest draft given
    → (is_calm a.session.opening ≡ true → a.session.opening.state.broken ≡ false → IsCalmReply (replies.Refused given)) → HasSameBooks a b → IsAtWork log b
lacked_works log a b p draft given never works same is some asked refused told calm books =
    let one = one_sector draft is in
    let enough : own (length draft.bytes) ≤ p.sectors = omega (arith, one, some) in
    let still = calm_session log a.session never works.of in
    works_still log a b works same books
    ((asked enough).none (lacks_memory draft a.largest given is works.largest (refused enough) told (calm still.0 still.1)))

-- what it makes of the permit
pub one_appended : (p q : PermitState) (draft : Draft) → IsCrewRecord draft → q.sectors + own (length draft.bytes) ≡ p.sectors → q.records ≡ p.records + 1
    → q.parts ≡ p.parts → HasAppended p q 1 0
one_appended p q draft is sectors records parts = record {
  records = omega (arith, records);
  sectors = let one = one_sector draft is in omega (arith, one, sectors);
  parts = parts;
}

-- ---- workers that are done

-- a worker's numbers stay small
pub few_records : (count : ℕ) (worker : WorkerState) → HasWorked count worker → worker.permit.parts ≤ 8 → count ≤ 1000 → worker.permit.records + worker.lacked ≤ 8000
few_records count worker worked parts few =
    let most : worker.permit.parts * count ≤ 8 * 1000 = mul-le worker.permit.parts count 8 1000 parts few in
    let all = worked.all in omega (arith, most, all)

-- a worker that made all its appends
pub worker_done : (count lacked : ℕ) (p q : PermitState) → p ≡ permit_of count 0 1 → HasAppended p q count lacked
    → HasWorked count (worker_of q lacked) × (q.parts ≡ 1)
worker_done count lacked p q is appended =
    let parts : q.parts ≡ 1 = appended.parts ∙ ap (λ (x : PermitState). x.parts) is in
    let records : p.records ≡ 0 = ap (λ (x : PermitState). x.records) is in
    let sectors : p.sectors ≡ count = ap (λ (x : PermitState). x.sectors) is in
    let one : q.parts * count ≡ 1 * count = ap (λ (n : ℕ). n * count) parts in
    let placed = appended.records in
    let left = appended.sectors in
    (record { all = omega (arith, placed, records, one); left = omega (arith, left, sectors) }, parts)

-- two that are done, in one
pub both_done : (count lacked : ℕ) (v w : WorkerState) (q : PermitState) → HasWorked count v → HasWorked count w
    → q.sectors ≡ v.permit.sectors + w.permit.sectors → q.records ≡ v.permit.records + w.permit.records → q.parts ≡ v.permit.parts + w.permit.parts
    → lacked ≡ v.lacked + w.lacked → HasWorked count (worker_of q lacked)
both_done count lacked v w q first second sectors records parts sum =
    let product : q.parts * count ≡ v.permit.parts * count + w.permit.parts * count =
    ap (λ (n : ℕ). n * count) parts ∙ add-mul v.permit.parts w.permit.parts count in
    let a = first.all in
    let b = second.all in
    let c = first.left in
    let d = second.left in
    record { all = omega (arith, product, a, b, records, sum); left = omega (arith, c, d, sectors, sum) }

-- a permit of some parts has the sectors for one of them, and without it those for the others
pub share_fits : (parts count : ℕ) → 0 < parts → count ≤ parts * count
share_fits parts count some = let least : 1 * count ≤ parts * count = mul-le 1 count parts count (omega (arith, some)) (omega arith) in omega (arith, least)

pub share_left : (parts rest sectors left count : ℕ) → sectors ≡ parts * count → left + count ≡ sectors → rest + 1 ≡ parts → left ≡ rest * count
share_left parts rest sectors left count is less fewer =
    let all : parts * count ≡ rest * count + 1 * count = ap (λ (n : ℕ). n * count) (sym fewer) ∙ add-mul rest 1 count in
    omega (arith, is, less, all)

-- what is left of it
pub rest_of : (count : ℕ) (p q : PermitState) → p ≡ permit_of (p.parts * count) 0 p.parts → q.sectors + count ≡ p.sectors → q.parts + 1 ≡ p.parts
    → q.records ≡ p.records → q ≡ permit_of (q.parts * count) 0 q.parts
rest_of count p q is sectors parts records =
    let left : q.sectors ≡ q.parts * count =
    share_left p.parts q.parts p.sectors q.sectors count (ap (λ (x : PermitState). x.sectors) is) sectors parts in
    let none : q.records ≡ 0 = records ∙ ap (λ (x : PermitState). x.records) is in
    ap (λ (n : ℕ). permit_of n q.records q.parts) left ∙ ap (λ (n : ℕ). permit_of (q.parts * count) n q.parts) none

-- and the worker that gets it
pub is_ready : (count : ℕ) (w : WorkerState) (p : PermitState) → w.permit ≡ p → p ≡ permit_of count 0 1 → w.lacked ≡ 0 → w ≡ ready count
is_ready count w p permit is lacked = ap₂ worker_of (permit ∙ is) lacked

-- the last of workers that are done, and the others
pub last_done : (count : ℕ) (workers front : List WorkerState) (last : WorkerState) → workers ≡ front ++ last ∷ []
    → All (λ (worker : WorkerState). HasWorked count worker × (worker.permit.parts ≡ 1)) workers
    → (HasWorked count last × (last.permit.parts ≡ 1))
    × (All (λ (worker : WorkerState). HasWorked count worker × (worker.permit.parts ≡ 1)) front × (length workers ≡ length front + 1))
last_done count workers front last is all =
    let both = All-pop (λ (worker : WorkerState). HasWorked count worker × (worker.permit.parts ≡ 1)) workers front (Some last) is all in
    (both.1, (both.0, ap length is ∙ length_push front last))

-- ---- the end of an area

-- all workers in one, and the area that they left
pub crewed_by : (log : SharedState) (threads count : ℕ) (a : AreaBooks) (w : WorkerState) (session : SessionState) (area held records : ℕ) → IsAtWork log a
    → HasWorked count w → w.permit.parts ≡ threads → session ≡ a.session → area ≡ a.number → held ≡ held_by_own a.session a.number → records ≡ a.records
    → held ≡ w.permit.sectors → records ≡ w.permit.records → IsCrewed log threads count session area held records
crewed_by log threads count a w session area held records works worked parts is_session is_area is_held is_records all_held all_records = record {
  of = subst (λ (s : SessionState). IsOf log s) (sym is_session) works.of;
  entries = subst (λ (s : SessionState). HasPlaced (own_entries s) records) (sym is_session)
      (subst (HasPlaced (own_entries a.session)) (sym is_records) works.entries);
  holds = ap (λ (s : SessionState). held_by_own s area) is_session ∙ (ap (λ (n : ℕ). held_by_own a.session n) is_area ∙ sym is_held);
  all =
      let product : w.permit.parts * count ≡ threads * count = ap (λ (n : ℕ). n * count) parts in
      let made = worked.all in
      let left = worked.left in omega (arith, product, made, left, all_held, all_records);
}

-- ---- the journal

all_are : (client : ℕ) (journal : List Entry) → ((c : ℕ) → (c == client) ≡ false → mine journal c ≡ []) → mine journal client ≡ journal
all_are client [] none = refl
all_are client (e ∷ es) none = elim (cases_Bool (e.client == client)) [
  | inl here ↦ rw here (ap (λ (xs : List Entry). e ∷ xs) (all_are client es (λ c other. rest c (none c other))))
  | inr there ↦ absurd (let own_one : (e.client == e.client) ≡ true = eq-eqb e.client e.client refl in
      let clash : (if e.client == e.client then e ∷ mine es e.client else mine es e.client) ≡ [] = none e.client there in
      let is : e ∷ mine es e.client ≡ [] = sym (ap (λ (b : Bool). if b then e ∷ mine es e.client else mine es e.client) own_one) ∙ clash in cc is)
]
  where
    by_first : (b : Bool) (xs : List Entry) → (if b then e ∷ xs else xs) ≡ [] → xs ≡ []
    by_first true xs is = absurd (cc is)
    by_first false xs is = is

    rest : (c : ℕ) → mine (e ∷ es) c ≡ [] → mine es c ≡ []
    rest c is = by_first (e.client == c) (mine es c) is

other_client : (c : ℕ) → (c == 1) ≡ false → is_in c (1 ∷ []) ≡ false
other_client c other = elim (cases_Bool (1 == c)) [
  | inl is ↦ absurd (let same : 1 ≡ c = eqb-true 1 c is in let again : (c == 1) ≡ true = eq-eqb c 1 (sym same) in cc (sym other ∙ again))
  | inr not_it ↦ rw not_it refl
]

pub only_client : (c : ℕ) → is_in c (1 ∷ []) ≡ true → c ≡ 1
only_client c is = elim (cases_Bool (1 == c)) [
  | inl t ↦ sym (eqb-true 1 c t)
  | inr f ↦ absurd (let none : is_in c (1 ∷ []) ≡ false = rw f refl in cc (sym none ∙ is))
]

-- ---- the sessions of a crew's log

-- a list with one client has one session
pub no_others : (front : List SessionState) (session : SessionState) → map (λ (s : SessionState). s.client) (front ++ session ∷ []) ≡ 1 ∷ [] → front ≡ []
no_others [] session one = refl
no_others (x ∷ []) session one = absurd (cc one)
no_others (x ∷ y ∷ front) session one = absurd (cc one)

-- it is one of the log, and has seen nothing
pub first_of : (log : SharedState) (sessions front : List SessionState) (session : SessionState) → sessions ≡ front ++ session ∷ []
    → map (λ (s : SessionState). s.client) sessions ≡ 1 ∷ [] → All (λ (s : SessionState). IsOf log s) sessions → All (λ (s : SessionState). IsNewSeat log s) sessions
    → (front ≡ []) × (IsOf log session × (own_entries session ≡ []))
first_of log sessions front session is one belong new =
    let none : front ≡ [] = no_others front session (ap (λ (ss : List SessionState). map (λ (s : SessionState). s.client) ss) (sym is) ∙ one) in
    let alone : sessions ≡ session ∷ [] = is ∙ ap (λ (ss : List SessionState). ss ++ session ∷ []) none in
    let of : IsOf log session =
    All-head (λ (s : SessionState). IsOf log s) session [] (subst (λ (ss : List SessionState). All (λ (s : SessionState). IsOf log s) ss) alone belong) in
    let fresh : IsNewSeat log session =
    All-head (λ (s : SessionState). IsNewSeat log s) session [] (subst (λ (ss : List SessionState). All (λ (s : SessionState). IsNewSeat log s) ss) alone new) in
    (none, (of, ap (λ (es : List Entry). mine es session.client) fresh.seen))

-- the list that it comes back to
pub again_of : (log : SharedState) (sessions front : List SessionState) (session : SessionState) → sessions ≡ front ++ session ∷ [] → front ≡ []
    → IsOf log session → All (λ (s : SessionState). IsOf log s) sessions
again_of log sessions front session is none of =
    subst (λ (ss : List SessionState). All (λ (s : SessionState). IsOf log s) ss) (sym (is ∙ ap (λ (ss : List SessionState). ss ++ session ∷ []) none))
    (All-cons (λ (s : SessionState). IsOf log s) session [] of (All-nil (λ (s : SessionState). IsOf log s)))

-- it has all clients of the log
pub all_clients : (log : SharedState) (sessions front : List SessionState) (session : SessionState) → sessions ≡ front ++ session ∷ [] → front ≡ []
    → IsOf log session → log.clients ≡ 1 ∷ [] → (c : ℕ) → is_in c log.clients ≡ true → is_in c (map (λ (s : SessionState). s.client) sessions) ≡ true
all_clients log sessions front session is none of clients c inside =
    let alone : sessions ≡ session ∷ [] = is ∙ ap (λ (ss : List SessionState). ss ++ session ∷ []) none in
    let named : session.client ≡ 1 = only_client session.client (subst (λ (cs : List ℕ). is_in session.client cs ≡ true) clients of.client) in
    let same : map (λ (s : SessionState). s.client) sessions ≡ 1 ∷ [] =
    ap (λ (ss : List SessionState). map (λ (s : SessionState). s.client) ss) alone ∙ ap (λ (k : ℕ). k ∷ []) named in
    ap (λ (cs : List ℕ). is_in c cs) same ∙ (ap (λ (cs : List ℕ). is_in c cs) (sym clients) ∙ inside)

-- a log that was just made over a steady disk never fails
pub never_fails : (log : SharedState) (s : State) (disk : DiskState) → log.opening ≡ opening_of s disk → s ≡ crew_log → IsTrue disk.nature.tells_contents
    → IsSteady disk → are_whole disk.files ≡ true → NeverFails log
never_fails log s disk opens begins tells steady whole = record {
  calm =
      let steady_is : disk.nature.steady ≡ true = steady in
      let tells_is : disk.nature.tells_contents ≡ true = tells in
      ap is_calm opens ∙ rw (steady_is, tells_is, whole) refl;
  unbroken = ap (λ (o : Opening). o.state.broken) opens ∙ ap (λ (x : State). x.broken) begins;
}

-- The law on what own entries say of held sectors.
abbrev pub HeldLaw : Type 0
HeldLaw = (told : Bool) (s t : State) (journal : List Entry) (client number : ℕ) → IsLegal told journal s t
    → held_in t client number ≡ held_by s client (mine journal client) number

-- what a crew's line tells of the log that it leaves
pub tells_crew : (log : SharedState) (session : SessionState) (threads count area held records : ℕ) (journal : List Entry) (last : State) (text : List ℕ)
    → HeldLaw → log.opening.state ≡ crew_log → log.opening.tells_contents ≡ true → log.clients ≡ 1 ∷ [] → IsCrewed log threads count session area held records
    → HasSeen client_of journal session → ((c : ℕ) → is_in c log.clients ≡ false → mine journal c ≡ [])
    → IsLegal log.opening.tells_contents journal log.opening.state last → text ≡ crew_text threads count records held → IsCrewText threads count text
tells_crew log session threads count area held records journal last text law begins tells clients crewed seen others legal is =
    let client : session.client ≡ 1 = only_client session.client (subst (λ (cs : List ℕ). is_in session.client cs ≡ true) clients crewed.of.client) in
    let none : (c : ℕ) → (c == 1) ≡ false → mine journal c ≡ [] = λ c other.
    others c (subst (λ (cs : List ℕ). is_in c cs ≡ false) (sym clients) (other_client c other)) in
    let all : mine journal 1 ≡ journal = all_are 1 journal none in
    let own : own_entries session ≡ journal = seen.own ∙ (ap (λ (c : ℕ). mine journal c) client ∙ all) in
    let from : IsLegal true journal log.opening.state last = subst (λ (b : Bool). IsLegal b journal log.opening.state last) tells legal in
    let holds : held_by crew_log 1 journal area ≡ held =
    sym (ap (λ (o : Opening). held_by o.state session.client (own_entries session) area) crewed.of.opening
    ∙ (ap (λ (s : State). held_by s session.client (own_entries session) area) begins
    ∙ (ap (λ (c : ℕ). held_by crew_log c (own_entries session) area) client ∙ ap (λ (es : List Entry). held_by crew_log 1 es area) own))) ∙ crewed.holds in
    let has : HasPlaced journal records = subst (λ (es : List Entry). HasPlaced es records) own crewed.entries in
    let at_end : IsLegal true journal crew_log last = subst (λ (s : State). IsLegal true journal s last) begins from in
    record {
      journal = journal;
      last = last;
      area = area;
      records = records;
      held = held;
      legal = at_end;
      none_refused = has.none_refused;
      placed = has.placed;
      holds = law true crew_log last journal 1 area at_end ∙ (ap (λ (es : List Entry). held_by crew_log 1 es area) all ∙ holds);
      all = crewed.all;
      is = is;
    }
