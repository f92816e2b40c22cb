-- What the members of a crowd do, one call after the other.
use Rattle.std.proofs.Common.{◌≡◌, ℕ, ◌+◌, ◌-◌, ◌*◌, ◌≤◌, ◌<◌, Bool, true, false, refl, sym, ap, ap₂, subst, ◌∙◌, inl, inr, List, [], ◌∷◌, ◌++◌, length, map, arith, cond, append-nil, append_assoc, length-append}
use Rattle.std.specs.Prelude.{◌==◌, if◌then◌else◌, All, Contains, Result, Ok, Err, IfErr, count_by, sum_by, nat_lt, max}
use mathlib.Core.List.{IsPrefix}
use Rattle.std.proofs.lemmas.Bool.{cases_Bool, ltb-true, lt-ltb}
use Rattle.std.proofs.lemmas.List.{length_push, map_push}
use Rattle.std.proofs.lemmas.List.Sums.{sum_by-cons, sum_by_push}
use Rattle.std.proofs.lemmas.List.Elements.{All-head, All-nil, All-push, All-same, All-tail, Contains-append_right, Contains-push}
use Rattle.clfs_model.specs.declared.call.Call.{Call}
use Rattle.clfs_model.specs.declared.call.Call.TheVariants as calls
use Rattle.clfs_model.specs.declared.journal.Entry.{Entry}
use Rattle.clfs_model.specs.declared.refusal.Refusal.{Refusal}
use Rattle.clfs_model.specs.declared.refusal.Refusal.TheVariants as refusals
use Rattle.clfs_model.specs.declared.reply.Reply.{Reply}
use Rattle.clfs_model.specs.declared.reply.Reply.TheVariants as replies
use Rattle.clfs_model.specs.Journals.{mine}
use Rattle.clfs_model.specs.Valid.{IsValid}
use Rattle.clfs_turn.specs.Seats.{IsSameSeat}
use Rattle.clfs_shared.specs.declared.opening.Opening.{Opening}
use Rattle.clfs_shared.specs.Counts.{most_calls}
use Rattle.clfs_shared.specs.Journal.{entry_of, is_out_of_memory}
use Rattle.clfs_shared.specs.Reached.{is_calm}
use Rattle.clfs_shared.specs.Sessions.{SessionState, SharedState, IsOf, IsStepped, own_entries}
use Rattle.clfs_group.specs.Answers.{flush_reply, placed_by, placed_lsns}
use Rattle.clfs_group.specs.Groups.{HasFlushed}
use Rattle.clfs_command.specs.Command.{most_crew_records, most_crew_threads}
use Rattle.clfs_engine.specs.Crew.{is_placed, placed_in}
use Rattle.clfs_engine.specs.Crowd.{is_placed_below, placed_below}
use Rattle.clfs_engine.specs.Commits.{IsCrowdAppend, IsMember, MemberState, client_of_member, has_made, member_of}
use Rattle.clfs_engine.specs.Work.{NeverFails, record_bytes}
use Rattle.clfs_engine.proofs.Crews.{still_of}

-- what is on the disk by what a session has seen is there when it has seen more
abbrev pub StaysSeen : Type 0
StaysSeen = (s t : SessionState) (lsn : ℕ) → IsValid s.opening.state → IsSameSeat s t → IsPrefix s.seen t.seen → HasFlushed s lsn → HasFlushed t lsn

-- ---- counts

-- what passes counts for one
abbrev one_if : Bool → ℕ
one_if b = cond b 1 0

count_more : (p : Entry → Bool) (es : List Entry) (e : Entry) → count_by p (es ++ e ∷ []) ≡ count_by p es + one_if (p e)
count_more p es e = sum_by_push (λ (x : Entry). cond (p x) 1 0) es e

one_rises : (a b : ℕ) → a ≤ b → (call : Call) (reply : Reply) → one_if (is_placed_below a call reply) ≤ one_if (is_placed_below b call reply)
one_rises a b le (calls.Append area draft is_reserved sizes) (replies.Placed lsn) = elim (cases_Bool (nat_lt lsn a)) [
  | inl below ↦ let less = ltb-true lsn a below in let is : nat_lt lsn b ≡ true = lt-ltb lsn b (omega (arith, less, le)) in rw (below, is) (omega arith)
  | inr above ↦ rw above (omega arith)
]
one_rises a b le (calls.Append area draft is_reserved sizes) _ = omega arith
one_rises a b le _ reply = omega arith

-- the records below a higher LSN are no fewer
pub below_rises : (a b : ℕ) → a ≤ b → (es : List Entry) → placed_below a es ≤ placed_below b es
below_rises a b le [] = omega arith
below_rises a b le (e ∷ es) =
    let at_a = sum_by-cons (λ (x : Entry). one_if (is_placed_below a x.call x.reply)) e es in
    let at_b = sum_by-cons (λ (x : Entry). one_if (is_placed_below b x.call x.reply)) e es in
    let one = one_rises a b le e.call e.reply in
    let rest = below_rises a b le es in
    omega (arith, at_a, at_b, one, rest)

not_placed : (call : Call) (reply : Reply) → ((lsn : ℕ) → reply ≡ replies.Placed lsn → ⊥) → one_if (is_placed call reply) ≡ 0
not_placed (calls.Append area draft is_reserved sizes) (replies.Placed lsn) other = absurd (other lsn refl)
not_placed (calls.Append area draft is_reserved sizes) _ other = refl
not_placed _ reply other = refl

-- ---- a member

-- one that has just been made
pub new_member : (log : SharedState) (s t : SessionState) (stream bytes area : ℕ) → IsOf log s → IsSameSeat s t → own_entries s ≡ [] → bytes ≡ record_bytes
    → IsStepped s t (calls.CreateArea stream bytes 1) (replies.Area area) → IsMember log (member_of t area 0 0)
new_member log s t stream bytes area of same none eight z =
    let e : Entry = entry_of s.client (length (own_entries s) + 1) (calls.CreateArea stream bytes 1) (replies.Area area) in
    let own : own_entries t ≡ e ∷ [] = z.grew ∙ ap (λ (es : List Entry). es ++ e ∷ []) none in record {
      of = still_of log s t of same;
      made = e;
      appends = [];
      own = own;
      area = record { stream = stream; call = ap (λ (n : ℕ). calls.CreateArea stream n 1) eight; reply = refl };
      are = All-nil (λ (entry : Entry). IsCrowdAppend area entry.call);
      placed = ap placed_in own;
      mark = 0;
      flushed = λ last legal. omega arith;
      on_disk = omega arith;
      answered = λ never short. refl;
    }

-- one whose session has seen no more
pub kept_member : StaysSeen → (log : SharedState) (m : MemberState) (t : SessionState) → IsValid m.session.opening.state → IsMember log m → IsSameSeat m.session t
    → t.seen ≡ m.session.seen → IsMember log (member_of t m.area m.records m.stable)
kept_member stays log m t begin is same seen =
    let own : own_entries t ≡ own_entries m.session = ap (λ (c : ℕ). mine t.seen c) same.client ∙ ap (λ (es : List Entry). mine es m.session.client) seen in record {
      of = still_of log m.session t is.of same;
      made = is.made;
      appends = is.appends;
      own = own ∙ is.own;
      area = is.area;
      are = is.are;
      placed = ap placed_in own ∙ is.placed;
      mark = is.mark;
      flushed = stays m.session t is.mark begin same ([], append-nil m.session.seen ∙ sym seen) is.flushed;
      on_disk = subst (λ (es : List Entry). m.stable ≤ placed_below is.mark es) (sym own) is.on_disk;
      answered = λ never short. is.answered never (subst (λ (es : List Entry). length es < most_calls) seen short);
    }

-- one that has made an append more, and may have met others since
more_member : (log : SharedState) (m : MemberState) (t u : SessionState) (call : Call) (reply : Reply) (records stable mark : ℕ) → IsMember log m
    → IsStepped m.session t call reply → IsCrowdAppend m.area call → IsSameSeat m.session u → own_entries u ≡ own_entries t
    → records ≡ m.records + one_if (is_placed call reply) → HasFlushed u mark
    → stable ≤ placed_below mark (own_entries m.session) + one_if (is_placed_below mark call reply)
    → (NeverFails log → length u.seen < most_calls → stable ≡ records) → IsMember log (member_of u m.area records stable)
more_member log m t u call reply records stable mark is z append same own count flushed few answered =
    let e : Entry = entry_of m.session.client (length (own_entries m.session) + 1) call reply in
    let grew : own_entries u ≡ own_entries m.session ++ e ∷ [] = own ∙ z.grew in
    let counted = count_more (λ (x : Entry). is_placed x.call x.reply) (own_entries m.session) e in
    let below = count_more (λ (x : Entry). is_placed_below mark x.call x.reply) (own_entries m.session) e in
    let had = is.placed in
    let all : placed_in (own_entries m.session ++ e ∷ []) ≡ records = omega (arith, counted, had, count) in
    let least : stable ≤ placed_below mark (own_entries m.session ++ e ∷ []) = omega (arith, below, few) in record {
      of = still_of log m.session u is.of same;
      made = is.made;
      appends = is.appends ++ e ∷ [];
      own = grew ∙ ap (λ (es : List Entry). es ++ e ∷ []) is.own;
      area = is.area;
      are = All-push (λ (entry : Entry). IsCrowdAppend m.area entry.call) is.appends e is.are append;
      placed = ap placed_in grew ∙ all;
      mark = mark;
      flushed = flushed;
      on_disk = subst (λ (es : List Entry). stable ≤ placed_below mark es) (sym grew) least;
      answered = answered;
    }

seen_more : (s t : SessionState) (call : Call) (reply : Reply) → IsStepped s t call reply → IsPrefix s.seen t.seen
seen_more s t call reply z =
    let e : Entry = entry_of s.client (length (own_entries s) + 1) call reply in
    (z.begins.0 ++ e ∷ [], sym (append_assoc s.seen z.begins.0 (e ∷ [])) ∙ (ap (λ (es : List Entry). es ++ e ∷ []) z.begins.1 ∙ sym z.ends))

prefix_on : (xs ys zs : List Entry) → IsPrefix xs ys → IsPrefix ys zs → IsPrefix xs zs
prefix_on xs ys zs p q = (p.0 ++ q.0, sym (append_assoc xs p.0 q.0) ∙ (ap (λ w. w ++ q.0) p.1 ∙ q.1))

-- entries of which there are few began with few
pub was_short : (before after : List Entry) → IsPrefix before after → length after < most_calls → length before < most_calls
was_short before after begins short =
    let parts = length-append before begins.0 in
    let all : length (before ++ begins.0) ≡ length after = ap length begins.1 in
    omega (arith, parts, all, short)

same_on : (s t u : SessionState) → IsSameSeat s t → IsSameSeat t u → IsSameSeat s u
same_on s t u first second = record { lock = second.lock ∙ first.lock; client = second.client ∙ first.client; opening = second.opening ∙ first.opening }

by_memory : (b : Bool) (P : Type 0) → (b ≡ true → P) → (b ≡ false → P) → P
by_memory true P out other = out refl
by_memory false P out other = other refl

-- one whose append wasn't answered with an LSN
pub unplaced_member : StaysSeen → (log : SharedState) (m : MemberState) (t : SessionState) (call : Call) (reply : Reply) → IsValid m.session.opening.state → IsMember log m
    → IsSameSeat m.session t → IsCrowdAppend m.area call → (is_out_of_memory reply ≡ true → t.seen ≡ m.session.seen)
    → (is_out_of_memory reply ≡ false → IsStepped m.session t call reply) → ((lsn : ℕ) → reply ≡ replies.Placed lsn → ⊥)
    → IsMember log (member_of t m.area m.records m.stable)
unplaced_member stays log m t call reply begin is same append none step other =
    by_memory (is_out_of_memory reply) (IsMember log (member_of t m.area m.records m.stable))
    (λ out. kept_member stays log m t begin is same (none out))
    (λ off. let z = step off in
    let zero = not_placed call reply other in
    let had = is.on_disk in
    more_member log m t t call reply m.records m.stable is.mark is z append same refl (omega (arith, zero))
    (stays m.session t is.mark begin same (seen_more m.session t call reply z) is.flushed) (omega (arith, had))
    (λ never short. is.answered never (was_short m.session.seen t.seen (seen_more m.session t call reply z) short)))

-- one whose append was, and which met the group then
met_member : StaysSeen → (log : SharedState) (m : MemberState) (t u : SessionState) (call : Call) (lsn stable mark : ℕ) → IsMember log m
    → IsStepped m.session t call (replies.Placed lsn) → IsCrowdAppend m.area call → IsSameSeat m.session t → IsSameSeat t u → own_entries u ≡ own_entries t
    → HasFlushed u mark → stable ≤ placed_below mark (own_entries m.session) + one_if (is_placed_below mark call (replies.Placed lsn))
    → (NeverFails log → length u.seen < most_calls → stable ≡ m.records + 1) → IsMember log (member_of u m.area (m.records + 1) stable)
met_member stays log m t u call lsn stable mark is z append same met own flushed few answered =
    let one : one_if (is_placed call (replies.Placed lsn)) ≡ 1 = ap (λ (c : Call). one_if (is_placed c (replies.Placed lsn))) append.is in
    more_member log m t u call (replies.Placed lsn) (m.records + 1) stable mark is z append (same_on m.session t u same met) own (omega (arith, one)) flushed few answered

-- and to which the group gave no answer, which comes only where a client had all its calls
pub placed_member : StaysSeen → (log : SharedState) (m : MemberState) (t u : SessionState) (call : Call) (lsn : ℕ) → IsValid m.session.opening.state → IsMember log m
    → IsStepped m.session t call (replies.Placed lsn) → IsCrowdAppend m.area call → IsSameSeat m.session t → IsSameSeat t u → IsPrefix t.seen u.seen
    → own_entries u ≡ own_entries t → (NeverFails log → length u.seen < most_calls → ⊥) → IsMember log (member_of u m.area (m.records + 1) m.stable)
placed_member stays log m t u call lsn begin is z append same met seen own full =
    let had = is.on_disk in
    met_member stays log m t u call lsn m.stable is.mark is z append same met own
    (stays m.session u is.mark begin (same_on m.session t u same met)
    (prefix_on m.session.seen t.seen u.seen (seen_more m.session t call (replies.Placed lsn) z) seen) is.flushed)
    (omega (arith, had)) (λ never short. absurd (full never short))

-- and was answered that its record is on the disk
pub stable_member : StaysSeen → (log : SharedState) (m : MemberState) (t u : SessionState) (call : Call) (lsn answer : ℕ) → IsValid m.session.opening.state → IsMember log m
    → IsStepped m.session t call (replies.Placed lsn) → IsCrowdAppend m.area call → IsSameSeat m.session t → IsSameSeat t u → IsPrefix t.seen u.seen
    → own_entries u ≡ own_entries t → lsn < answer → HasFlushed u answer → IsMember log (member_of u m.area (m.records + 1) (m.stable + 1))
stable_member stays log m t u call lsn answer begin is z append same met seen own above flushed =
    let mark : ℕ = max is.mark answer in
    let begins = prefix_on m.session.seen t.seen u.seen (seen_more m.session t call (replies.Placed lsn) z) seen in
    let still = stays m.session u is.mark begin (same_on m.session t u same met) begins is.flushed in
    let under : nat_lt lsn mark ≡ true = lt-ltb lsn mark (omega (arith, above)) in
    let one : one_if (is_placed_below mark call (replies.Placed lsn)) ≡ 1 =
    ap (λ (c : Call). one_if (is_placed_below mark c (replies.Placed lsn))) append.is ∙ ap (λ (b : Bool). one_if b) under in
    let had = is.on_disk in
    let rises = below_rises is.mark mark (omega arith) (own_entries m.session) in
    met_member stays log m t u call lsn (m.stable + 1) mark is z append same met own
    (λ last legal. let a = still last legal in let b = flushed last legal in omega (arith, a, b))
    (omega (arith, had, rises, one)) (λ never short. ap (λ (n : ℕ). n + 1) (is.answered never (was_short m.session.seen u.seen begins short)))

-- ---- answers of the group

placed_last : (es : List Entry) (e : Entry) (lsn : ℕ) → e.reply ≡ replies.Placed lsn → Contains (placed_lsns (es ++ e ∷ [])) lsn
placed_last [] e lsn is = subst (λ (reply : Reply). Contains (placed_by reply ++ []) lsn) (sym is) (Contains-push [] lsn)
placed_last (x ∷ es) e lsn is = Contains-append_right (placed_by x.reply) (placed_lsns (es ++ e ∷ [])) lsn (placed_last es e lsn is)

refused_for_memory : (result : Result ℕ Refusal) → ((answer : ℕ) → result ≡ Ok answer → ⊥) → IfErr result (λ given. given ≡ refusals.NoMemory)
    → is_out_of_memory (flush_reply result) ≡ true
refused_for_memory (Ok answer) other memory = absurd (other answer refl)
refused_for_memory (Err given) other memory = ap (λ (r : Refusal). is_out_of_memory (replies.Refused r)) memory

own_few : (es : List Entry) (client : ℕ) → length (mine es client) ≤ length es
own_few [] client = omega arith
own_few (e ∷ es) client = by_test (e.client == client) (own_few es client)
  where
    by_test : (b : Bool) → length (mine es client) ≤ length es → length (if b then e ∷ mine es client else mine es client) ≤ length (e ∷ es)
    by_test true few = omega (arith, few)
    by_test false few = omega (arith, few)

-- to a record that was just placed the group gives no answer only where its client had all its calls
pub unanswered : (log : SharedState) (s t u : SessionState) (call : Call) (lsn client : ℕ) (result : Result ℕ Refusal) → IsOf log t
    → IsStepped s t call (replies.Placed lsn) → ((answer : ℕ) → result ≡ Ok answer → ⊥)
    → (is_calm t.opening ≡ true → t.opening.state.broken ≡ false → Contains (placed_lsns t.seen) lsn → IfErr result (λ given. given ≡ refusals.NoMemory))
    → (is_out_of_memory (flush_reply result) ≡ true → most_calls ≤ length (mine u.seen client)) → NeverFails log → length u.seen < most_calls → ⊥
unanswered log s t u call lsn client result of z other calm wanted never short =
    let e : Entry = entry_of s.client (length (own_entries s) + 1) call (replies.Placed lsn) in
    let there = subst (λ (es : List Entry). Contains (placed_lsns es) lsn) (sym z.ends) (placed_last z.before e lsn refl) in
    let memory = calm (ap is_calm of.opening ∙ never.calm) (ap (λ (o : Opening). o.state.broken) of.opening ∙ never.unbroken) there in
    let many = wanted (refused_for_memory result other memory) in
    let few = own_few u.seen client in
    omega (arith, many, few, short)

-- it has made at most one call more
pub made_more : (s t u : SessionState) (call : Call) (reply : Reply) → IsSameSeat s t → (is_out_of_memory reply ≡ true → t.seen ≡ s.seen)
    → (is_out_of_memory reply ≡ false → IsStepped s t call reply) → own_entries u ≡ own_entries t → length (own_entries u) - 1 ≤ length (own_entries s) - 1 + 1
made_more s t u call reply same none step own =
    let now : length (own_entries u) ≡ length (own_entries t) = ap length own in
    by_memory (is_out_of_memory reply) (length (own_entries u) - 1 ≤ length (own_entries s) - 1 + 1)
    (λ out. let kept : length (own_entries t) ≡ length (own_entries s) =
    ap length (ap (λ (c : ℕ). mine t.seen c) same.client ∙ ap (λ (es : List Entry). mine es s.client) (none out)) in omega (arith, now, kept))
    (λ off. let z = step off in
    let grew : length (own_entries t) ≡ length (own_entries s) + 1 =
    ap length z.grew ∙ length_push (own_entries s) (entry_of s.client (length (own_entries s) + 1) call reply) in omega (arith, now, grew))

-- ---- all members

pub one_more : (log : SharedState) (members all : List MemberState) (m : MemberState) (sessions : List SessionState) (s : SessionState) → all ≡ members ++ m ∷ []
    → All (λ (x : MemberState). IsMember log x × (has_made x ≡ 0)) members → IsMember log m → has_made m ≡ 0
    → map client_of_member members ≡ map (λ (x : SessionState). x.client) sessions → client_of_member m ≡ s.client
    → All (λ (x : MemberState). IsMember log x × (has_made x ≡ 0)) all × (map client_of_member all ≡ map (λ (x : SessionState). x.client) (sessions ++ s ∷ []))
one_more log members all m sessions s is had new none clients client =
    let P : MemberState → Type 0 = λ x. IsMember log x × (has_made x ≡ 0) in
    let f : SessionState → ℕ = λ x. x.client in (
      All-same P all (members ++ m ∷ []) is (All-push P members m had (new, none)),
      ap (map client_of_member) is ∙ (map_push client_of_member members m ∙ (ap₂ (λ (ns : List ℕ) (n : ℕ). ns ++ n ∷ []) clients client ∙ sym (map_push f sessions s))),
    )

-- the counts of a member
abbrev pub HasFew : MemberState → Type 0
HasFew m = (m.records ≤ most_crew_records) × (m.stable ≤ most_crew_records)

-- Sums so far, with the room that the members to come may take.
pub record Sums (done left : List MemberState) (sessions : List SessionState) (records stable : ℕ) : Type 0 where
  pub sessions_are : sessions ≡ map (λ (m : MemberState). m.session) done
  pub records_are : records ≡ sum_by (λ (m : MemberState). m.records) done
  pub stable_are : stable ≡ sum_by (λ (m : MemberState). m.stable) done
  pub few : All HasFew left
  pub few_records : records + most_crew_records * length left ≤ most_crew_threads * most_crew_records
  pub few_stable : stable + most_crew_records * length left ≤ most_crew_threads * most_crew_records

pub no_sums : (members left : List MemberState) (sessions : List SessionState) → left ≡ members → sessions ≡ [] → All HasFew members → length members ≤ most_crew_threads
    → Sums [] left sessions 0 0
no_sums members left sessions is none few short =
    let long : length left ≡ length members = ap length is in record {
      sessions_are = none;
      records_are = refl;
      stable_are = refl;
      few = All-same HasFew left members is few;
      few_records = omega (arith, long, short);
      few_stable = omega (arith, long, short);
    }

-- the next member's counts fit
pub record Fitting (records stable : ℕ) (m : MemberState) : Type 0 where
  pub of_records : records + m.records ≤ most_crew_threads * most_crew_records
  pub of_stable : stable + m.stable ≤ most_crew_threads * most_crew_records

pub sums_fit : (done left rest : List MemberState) (sessions : List SessionState) (records stable : ℕ) (m : MemberState) → left ≡ m ∷ rest → Sums done left sessions records stable
    → Fitting records stable m
sums_fit done left rest sessions records stable m is sums =
    let one = All-head HasFew m rest (subst (All HasFew) is sums.few) in
    let a = one.0 in
    let b = one.1 in
    let long : length left ≡ length rest + 1 = ap length is ∙ omega arith in
    let first = sums.few_records in
    let second = sums.few_stable in
    record { of_records = omega (arith, a, long, first); of_stable = omega (arith, b, long, second) }

pub more_sums : (done left rest : List MemberState) (sessions all : List SessionState) (records stable : ℕ) (m : MemberState) → left ≡ m ∷ rest
    → all ≡ sessions ++ m.session ∷ [] → Sums done left sessions records stable → Sums (done ++ m ∷ []) rest all (records + m.records) (stable + m.stable)
more_sums done left rest sessions all records stable m is pushed sums =
    let whole = subst (All HasFew) is sums.few in
    let one = All-head HasFew m rest whole in
    let a = one.0 in
    let b = one.1 in
    let long : length left ≡ length rest + 1 = ap length is ∙ omega arith in
    let first = sums.few_records in
    let second = sums.few_stable in
    let of_records : MemberState → ℕ = λ x. x.records in
    let of_stable : MemberState → ℕ = λ x. x.stable in
    let of_session : MemberState → SessionState = λ x. x.session in
    record {
      sessions_are = pushed ∙ (ap (λ (ss : List SessionState). ss ++ m.session ∷ []) sums.sessions_are ∙ sym (map_push of_session done m));
      records_are = ap (λ (n : ℕ). n + m.records) sums.records_are ∙ sym (sum_by_push of_records done m);
      stable_are = ap (λ (n : ℕ). n + m.stable) sums.stable_are ∙ sym (sum_by_push of_stable done m);
      few = All-tail HasFew m rest whole;
      few_records = omega (arith, a, long, first);
      few_stable = omega (arith, b, long, second);
    }
