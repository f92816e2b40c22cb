-- What a crowd leaves: what its members counted, read off the journal that closing its log hands out.
use Rattle.std.proofs.Common.{◌≡◌, ◌≢◌, ℕ, suc, ◌+◌, ◌*◌, ◌<◌, ◌≤◌, Bool, true, false, refl, sym, ap, subst, ◌∙◌, inl, inr, List, [], ◌∷◌, ◌++◌, length, map, arith, cond, zero, drop, append_assoc}
use Rattle.std.specs.Prelude.{◌||◌, ◌&&◌, ◌⊎◌, ◌==◌, not, if◌then◌else◌, All, AllPairs, Option, Some, None, find, is_some, nat_lt, count_by, slice_index_or, sum_by}
use Rattle.std.specs.List.{AllByRecursion, list_any}
use Rattle.std.proofs.lemmas.Bool.{cases_Bool, eqb-true, eq-eqb, le-leb, ltb-true}
use Rattle.std.proofs.lemmas.List.Sums.{sum_by-append, sum_by-cons, sum_by_push, sum_by-le}
use Rattle.std.specs.Option.{option_map_or}
use Rattle.std.proofs.lemmas.List.Elements.{All-cons, All-filter, All-from_recursion, All-head, All-map, All-nil, All-push, All-same, All-tail, All-weaker, filter-append, recursion_from_All}
use Rattle.clfs_lsn.specs.Lsn.{null_lsn}
use Rattle.clfs_lsn.specs.Size.{own}
use Rattle.clfs_model.specs.declared.call.Call.{Call}
use Rattle.clfs_model.specs.declared.call.Call.TheVariants as calls
use Rattle.clfs_model.specs.declared.call.Draft.{Draft}
use Rattle.clfs_model.specs.declared.refusal.Refusal.{Refusal}
use Rattle.clfs_model.specs.declared.refusal.Refusal.TheVariants as refusals
use Rattle.clfs_model.specs.declared.reply.Happened.{Happened}
use Rattle.clfs_model.specs.declared.reply.Happened.TheVariants.{Fine, Fault, Damage}
use Rattle.clfs_model.specs.declared.state.State.{State}
use Rattle.clfs_model.specs.Happened.{happened_of}
use Rattle.clfs_model.specs.Refusals.{append_refusal, full, in_area, invalid_link, refusal, refused_if, short, too_long}
use Rattle.clfs_model.specs.Space.{free, grown, has_room, reserved}
use Rattle.clfs_model.specs.Live.{live_at}
use Rattle.clfs_model.specs.Put.{need_of, spent_of}
use Rattle.clfs_model.specs.Conditions.{IsClient}
use Rattle.clfs_model.specs.Step.{Step}
use Rattle.clfs_laws.specs.Refused.{is_of_call}
use Rattle.clfs_laws.specs.Rows.{NoneMakesOrEnds, makes_or_ends}
use Rattle.clfs_model.specs.declared.reply.Reply.{Reply}
use Rattle.clfs_model.specs.declared.reply.Reply.TheVariants as replies
use Rattle.clfs_model.specs.declared.state.Area.{Area}
use Rattle.clfs_model.specs.State.{area_of, base_of, is_area}
use Rattle.clfs_model.specs.Valid.{AreDifferentAreas, IsValid}
use Rattle.clfs_laws.specs.PlainWork.{is_plain_work, sectors_of_record, sectors_of_records}
use Rattle.clfs_model.specs.declared.journal.Entry.{Entry}
use Rattle.clfs_model.specs.Journals.{GoesOn, IsLegal, held_after, held_through, mine}
use Rattle.clfs_turn.specs.Lists.{are_distinct, is_in}
use Rattle.clfs_turn.specs.Seats.{HasSeen}
use Rattle.clfs_shared.specs.Counts.{most_calls}
use Rattle.clfs_shared.specs.Journal.{client_of, has_damage, has_fault, is_damage, is_fault}
use Rattle.clfs_shared.specs.Sessions.{SessionState, SharedState, own_entries}
use Rattle.clfs_engine.specs.Crowd.{IsCrowdText, crowd_log, crowd_text, is_any_append_refused, is_placed_below, is_refused_append, placed_below}
use Rattle.clfs_engine.specs.Crew.{is_placed, placed_in}
use Rattle.clfs_engine.proofs.Commits.{below_rises, was_short}
use Rattle.clfs_group.specs.Groups.{HasFlushed}
use Rattle.clfs_shared.specs.declared.opening.Opening.{Opening}
use Rattle.clfs_model.specs.Flush.{flushed}
use mathlib.Core.List.{IsPrefix}
use Rattle.clfs_engine.proofs.Crews.{HeldLaw}
use Rattle.clfs_engine.specs.Commits.{IsCrowdAppend, IsMember, IsQuiet, MadeArea, has_made, MemberState, is_quiet_work}
use Rattle.clfs_engine.specs.Work.{IsCrewRecord, NeverFails, record_bytes}

-- ---- sums

module _ {X : Type 0} where
  pub sum_le : (f g : X → ℕ) (xs : List X) → All (λ x. f x ≤ g x) xs → sum_by f xs ≤ sum_by g xs
  sum_le f g [] all = omega arith
  sum_le f g (x ∷ xs) all =
      let a = sum_by-cons f x xs in
      let b = sum_by-cons g x xs in
      let one = All-head (λ y. f y ≤ g y) x xs all in
      let rest = sum_le f g xs (All-tail (λ y. f y ≤ g y) x xs all) in
      omega (arith, a, b, one, rest)

  sum_same : (f g : X → ℕ) (xs : List X) → All (λ x. f x ≡ g x) xs → sum_by f xs ≡ sum_by g xs
  sum_same f g [] all = refl
  sum_same f g (x ∷ xs) all =
      let a = sum_by-cons f x xs in
      let b = sum_by-cons g x xs in
      let one = All-head (λ y. f y ≡ g y) x xs all in
      let rest = sum_same f g xs (All-tail (λ y. f y ≡ g y) x xs all) in
      omega (arith, a, b, one, rest)

  sum_mapped : {Y : Type 0} (f : X → ℕ) (g : Y → X) (ys : List Y) → sum_by f (map g ys) ≡ sum_by (λ y. f (g y)) ys
  sum_mapped f g [] = refl
  sum_mapped f g (y ∷ ys) =
      let a = sum_by-cons f (g y) (map g ys) in
      let b = sum_by-cons (λ z. f (g z)) y ys in
      let rest = sum_mapped f g ys in
      omega (arith, a, b, rest)

  no_sum : (xs : List X) → sum_by (λ _. 0) xs ≡ 0
  no_sum [] = refl
  no_sum (x ∷ xs) = let a = sum_by-cons (λ (y : X). 0) x xs in let rest = no_sum xs in omega (arith, a, rest)

or_false : (a b : Bool) → (a || b) ≡ false → (a ≡ false) × (b ≡ false)
or_false true b is = absurd (cc is)
or_false false b is = (refl, is)

pub and_true : (a b : Bool) → (a && b) ≡ true → (a ≡ true) × (b ≡ true)
and_true true b is = (refl, is)
and_true false b is = absurd (cc is)

not_true : (a : Bool) → not a ≡ true → a ≡ false
not_true true is = absurd (cc is)
not_true false is = refl

other_way : (k x : ℕ) → (x == k) ≡ false → (k == x) ≡ false
other_way k x is = elim (cases_Bool (k == x)) [
  | inl same ↦ absurd (let back : (x == k) ≡ true = eq-eqb x k (sym (eqb-true k x same)) in cc (sym is ∙ back))
  | inr apart ↦ apart
]

-- what one client has more than before
abbrev with_one : ℕ → ℕ → (ℕ → ℕ) → ℕ → ℕ
with_one k more f c = if k == c then more + f c else f c

add_none : (k more : ℕ) (f : ℕ → ℕ) (cs : List ℕ) → is_in k cs ≡ false → sum_by (with_one k more f) cs ≡ sum_by f cs
add_none k more f [] none = refl
add_none k more f (x ∷ cs) none =
    let parts = or_false (x == k) (is_in k cs) none in
    let here : with_one k more f x ≡ f x = ap (λ (b : Bool). if b then more + f x else f x) (other_way k x parts.0) in
    let a = sum_by-cons (with_one k more f) x cs in
    let b = sum_by-cons f x cs in
    let rest = add_none k more f cs parts.1 in
    omega (arith, a, b, here, rest)

add_one : (k more : ℕ) (f : ℕ → ℕ) (cs : List ℕ) → are_distinct cs ≡ true → is_in k cs ≡ true → sum_by (with_one k more f) cs ≡ more + sum_by f cs
add_one k more f [] apart inside = absurd (cc inside)
add_one k more f (x ∷ cs) apart inside =
    let parts = and_true (not (is_in x cs)) (are_distinct cs) apart in
    let a = sum_by-cons (with_one k more f) x cs in
    let b = sum_by-cons f x cs in
    elim (cases_Bool (x == k)) [
      | inl same ↦ let is : x ≡ k = eqb-true x k same in
          let here : with_one k more f x ≡ more + f x = ap (λ (b : Bool). if b then more + f x else f x) (eq-eqb k x (sym is)) in
          let none : is_in k cs ≡ false = ap (λ (n : ℕ). is_in n cs) (sym is) ∙ not_true (is_in x cs) parts.0 in
          let rest = add_none k more f cs none in omega (arith, a, b, here, rest)
      | inr other ↦ let here : with_one k more f x ≡ f x = ap (λ (b : Bool). if b then more + f x else f x) (other_way k x other) in
          let later : is_in k cs ≡ true = sym (ap (λ (b : Bool). b || is_in k cs) other) ∙ inside in
          let rest = add_one k more f cs parts.1 later in omega (arith, a, b, here, rest)
    ]

-- ---- the entries of all clients

abbrev pub one_if : Bool → ℕ
one_if b = cond b 1 0

count_if : (p : Entry → Bool) (b : Bool) (e : Entry) (xs : List Entry)
    → count_by p (if b then e ∷ xs else xs) ≡ (if b then one_if (p e) + count_by p xs else count_by p xs)
count_if p true e xs = sum_by-cons (λ (x : Entry). one_if (p x)) e xs
count_if p false e xs = refl

-- what is counted in a journal is counted client by client
split_count : (p : Entry → Bool) (cs : List ℕ) → are_distinct cs ≡ true → (journal : List Entry) → AllByRecursion (λ (e : Entry). is_in e.client cs ≡ true) journal
    → count_by p journal ≡ sum_by (λ c. count_by p (mine journal c)) cs
split_count p cs apart [] inside = sym (no_sum cs)
split_count p cs apart (e ∷ es) inside =
    let f : ℕ → ℕ = λ c. count_by p (mine es c) in
    let now = sum_by-cons (λ (x : Entry). one_if (p x)) e es in
    let rest = split_count p cs apart es inside.1 in
    let each : sum_by (λ c. count_by p (mine (e ∷ es) c)) cs ≡ sum_by (with_one e.client (one_if (p e)) f) cs =
    sum_same (λ c. count_by p (mine (e ∷ es) c)) (with_one e.client (one_if (p e)) f) cs (λ k d less. count_if p (e.client == slice_index_or cs k d) e (mine es (slice_index_or cs k d))) in
    let more = add_one e.client (one_if (p e)) f cs apart inside.0 in
    omega (arith, now, rest, each, more)

-- a journal whose other clients have no entries has entries of these alone
pub by_others : (cs : List ℕ) (journal : List Entry) → ((c : ℕ) → is_in c cs ≡ false → mine journal c ≡ []) → AllByRecursion (λ (e : Entry). is_in e.client cs ≡ true) journal
by_others cs [] none = tt
by_others cs (e ∷ es) none = (
  elim (cases_Bool (is_in e.client cs)) [
    | inl inside ↦ inside
    | inr outside ↦ absurd (let own_one : (e.client == e.client) ≡ true = eq-eqb e.client e.client refl in
        let clash : (if e.client == e.client then e ∷ mine es e.client else mine es e.client) ≡ [] = none e.client outside in
        let is : e ∷ mine es e.client ≡ [] = sym (ap (λ (b : Bool). if b then e ∷ mine es e.client else mine es e.client) own_one) ∙ clash in cc is)
  ],
  by_others cs es (λ c outside. by_first (e.client == c) e (mine es c) (none c outside)),
)
  where
    by_first : (b : Bool) (x : Entry) (xs : List Entry) → (if b then x ∷ xs else xs) ≡ [] → xs ≡ []
    by_first true x xs is = absurd (cc is)
    by_first false x xs is = is

-- what is counted in the journal of a crowd is counted by its members and in what the group's session did
pub split_members : (p : Entry → Bool) (cs : List ℕ) (journal : List Entry) (members : List MemberState) (ended : SessionState) → are_distinct cs ≡ true
    → AllByRecursion (λ (e : Entry). is_in e.client cs ≡ true) journal → map (λ (s : SessionState). s.client) (map (λ (m : MemberState). m.session) members ++ ended ∷ []) ≡ cs
    → All (λ (s : SessionState). HasSeen client_of journal s) (map (λ (m : MemberState). m.session) members ++ ended ∷ [])
    → count_by p journal ≡ sum_by (λ (m : MemberState). count_by p (own_entries m.session)) members + count_by p (own_entries ended)
split_members p cs journal members ended apart inside clients seen =
    let of_member : MemberState → SessionState = λ m. m.session in
    let of_session : SessionState → ℕ = λ s. s.client in
    let own : SessionState → ℕ = λ s. count_by p (own_entries s) in
    let by_client : ℕ → ℕ = λ c. count_by p (mine journal c) in
    let sessions : List SessionState = map of_member members ++ ended ∷ [] in
    let all = split_count p cs apart journal inside in
    let as_sessions : sum_by by_client cs ≡ sum_by (λ s. by_client (of_session s)) sessions = ap (sum_by by_client) (sym clients) ∙ sum_mapped by_client of_session sessions in
    let as_own : sum_by own sessions ≡ sum_by (λ s. by_client (of_session s)) sessions =
    sum_same own (λ s. by_client (of_session s)) sessions (λ k d less. ap (count_by p) (seen k d less).own) in
    let parts = sum_by_push own (map of_member members) ended in
    let mapped = sum_mapped own of_member members in
    omega (arith, all, as_sessions, as_own, parts, mapped)

-- ---- what is true of the entries of all clients

all_from_mine : (P : Entry → Type 0) (cs : List ℕ) (journal : List Entry) → AllByRecursion (λ (e : Entry). is_in e.client cs ≡ true) journal
    → ((c : ℕ) → is_in c cs ≡ true → All P (mine journal c)) → AllByRecursion P journal
all_from_mine P cs [] inside all = tt
all_from_mine P cs (e ∷ es) inside all =
    let here : (e.client == e.client) ≡ true = eq-eqb e.client e.client refl in
    let first : All P (e ∷ mine es e.client) = subst (λ (b : Bool). All P (if b then e ∷ mine es e.client else mine es e.client)) here (all e.client inside.0) in (
      All-head P e (mine es e.client) first,
      all_from_mine P cs es inside.1 (λ c is. by_first (e.client == c) e (mine es c) (all c is)),
    )
  where
    by_first : (b : Bool) (x : Entry) (xs : List Entry) → All P (if b then x ∷ xs else xs) → All P xs
    by_first true x xs is = All-tail P x xs is
    by_first false x xs is = is

-- at one entry, and before it
at_split : (P : Entry → Type 0) (front rest : List Entry) (e : Entry) → AllByRecursion P (front ++ e ∷ rest) → P e × AllByRecursion P front
at_split P [] rest e all = (all.0, tt)
at_split P (x ∷ front) rest e all = let later = at_split P front rest e all.1 in (later.0, (all.0, later.1))

-- what holds of a client of some session
of_client : (S : ℕ → Type 0) (sessions : List SessionState) (c : ℕ) → All (λ (s : SessionState). S s.client) sessions
    → is_in c (map (λ (s : SessionState). s.client) sessions) ≡ true → S c
of_client S [] c all inside = absurd (cc inside)
of_client S (s ∷ sessions) c all inside = elim (cases_Bool (s.client == c)) [
  | inl same ↦ subst S (eqb-true s.client c same) (All-head (λ (x : SessionState). S x.client) s sessions all)
  | inr other ↦ of_client S sessions c (All-tail (λ (x : SessionState). S x.client) s sessions all)
      (sym (ap (λ (b : Bool). b || is_in c (map (λ (x : SessionState). x.client) sessions)) other) ∙ inside)
]

-- ---- the sectors of a crowd's records

abbrev pub is_append : Call → Bool
is_append (calls.Append area draft is_reserved sizes) = true
is_append _ = false

-- an entry asks for no sectors, and takes one at most, if it is an append
record IsWork (e : Entry) : Type 0 where
  plain : is_plain_work e.call ≡ true
  sectors : sectors_of_record e.call e.reply ≤ one_if (is_append e.call)

quiet_takes : (call : Call) (reply : Reply) → is_quiet_work call ≡ true → (is_plain_work call ≡ true) × (sectors_of_record call reply ≤ one_if (is_append call))
quiet_takes (calls.OpenStream name) reply is = (refl, omega arith)
quiet_takes (calls.CreateArea stream largest reads) reply is = (refl, omega arith)
quiet_takes (calls.FlushTo area lsn) reply is = (refl, omega arith)
quiet_takes _ reply is = absurd (cc is)

one_sector : (draft : Draft) → IsCrewRecord draft → own (length draft.bytes) ≡ 1
one_sector draft is = ap own is.bytes

append_takes : (area : ℕ) (draft : Draft) (reply : Reply) → IsCrewRecord draft → sectors_of_record (calls.Append area draft false []) reply ≤ 1
append_takes area draft (replies.Placed lsn) is = let one = one_sector draft is in omega (arith, one)
append_takes area draft _ is = omega arith

quiet_is_work : (e : Entry) → is_quiet_work e.call ≡ true → IsWork e
quiet_is_work e is = let both = quiet_takes e.call e.reply is in record { plain = both.0; sectors = both.1 }

append_is_work : (area : ℕ) (e : Entry) → IsCrowdAppend area e.call → IsWork e
append_is_work area e is =
    let F : Call → Type 0 = λ call. sectors_of_record call e.reply ≤ one_if (is_append call) in record {
      plain = ap is_plain_work is.is;
      sectors = subst F (sym is.is) (append_takes area is.draft e.reply is.is_record);
    }

sectors_few : (es : List Entry) → AllByRecursion IsWork es → sectors_of_records es ≤ count_by (λ (e : Entry). is_append e.call) es
sectors_few [] all = omega arith
sectors_few (e ∷ es) all =
    let count = sum_by-cons (λ (x : Entry). one_if (is_append x.call)) e es in
    let one = all.0.sectors in
    let rest = sectors_few es all.1 in
    omega (arith, count, one, rest)

-- ---- what the entries of one client are

-- those of the group's session, or those of a member's
pub record MemberShape (entries : List Entry) : Type 0 where
  pub made : Entry
  pub appends : List Entry
  pub own : entries ≡ made ∷ appends
  pub number : ℕ
  pub area : MadeArea number made
  pub are : All (λ (entry : Entry). IsCrowdAppend number entry.call) appends

abbrev pub Shape : List Entry → Type 0
Shape entries = All (λ (entry : Entry). is_quiet_work entry.call ≡ true) entries ⊎ MemberShape entries

shape_work : (entries : List Entry) → Shape entries → All IsWork entries
shape_work entries (inl quiet) = All-weaker (λ (entry : Entry). is_quiet_work entry.call ≡ true) IsWork quiet_is_work entries quiet
shape_work entries (inr member) =
    let making : IsWork member.made = quiet_is_work member.made (ap is_quiet_work member.area.call) in
    let rest = All-weaker (λ (entry : Entry). IsCrowdAppend member.number entry.call) IsWork (append_is_work member.number) member.appends member.are in
    All-same IsWork entries (member.made ∷ member.appends) member.own (All-cons IsWork member.made member.appends making rest)

-- ---- nothing is held

after_plain : (number : ℕ) (call : Call) (reply : Reply) → is_plain_work call ≡ true → held_after number 0 call reply ≡ 0
after_plain number call (replies.Area given) plain = elim (cases_Bool (given == number)) [ inl same ↦ rw same refl | inr other ↦ rw other refl ]
after_plain number (calls.Append given draft false []) (replies.Placed lsn) plain = elim (cases_Bool (given == number)) [ inl same ↦ rw same refl | inr other ↦ rw other refl ]
after_plain number (calls.Append given draft false []) _ plain = refl
after_plain number (calls.OpenStream name) _ plain = refl
after_plain number (calls.CreateArea stream largest reads) _ plain = refl
after_plain number (calls.FlushTo area lsn) _ plain = refl
after_plain number _ _ plain = absurd (cc plain)

through_plain : (number held : ℕ) (es : List Entry) → held ≡ 0 → All (λ (e : Entry). is_plain_work e.call ≡ true) es → held_through number held es ≡ 0
through_plain number held [] none all = none
through_plain number held (e ∷ es) none all =
    let P : Entry → Type 0 = λ x. is_plain_work x.call ≡ true in
    through_plain number (held_after number held e.call e.reply) es
    (ap (λ (h : ℕ). held_after number h e.call e.reply) none ∙ after_plain number e.call e.reply (All-head P e es all)) (All-tail P e es all)

-- the sectors that the first area of a client and a number holds
abbrev held_of : List Area → ℕ → ℕ → ℕ
held_of areas client number = option_map_or (λ (area : Area). area.held) (find (is_area client number) areas) 0

itself : (a : Area) → is_area a.client a.number a ≡ true
itself a = let c : (a.client == a.client) ≡ true = eq-eqb a.client a.client refl in let n : (a.number == a.number) ≡ true = eq-eqb a.number a.number refl in rw (c, n) refl

apart_from : (a b : Area) (client number : ℕ) → AreDifferentAreas a b → is_area client number a ≡ true → is_area client number b ≡ false
apart_from a b client number apart is = elim (cases_Bool (is_area client number b)) [
  | inl too ↦ absurd (let p = and_true (a.client == client) (a.number == number) is in let q = and_true (b.client == client) (b.number == number) too in
      let clients : a.client ≡ b.client = eqb-true a.client client p.0 ∙ sym (eqb-true b.client client q.0) in
      let numbers : a.number ≡ b.number = eqb-true a.number number p.1 ∙ sym (eqb-true b.number number q.1) in
      elim apart [ inl other ↦ other clients | inr other ↦ other numbers ])
  | inr other ↦ other
]

none_found : (a : Area) (areas : List Area) (client number : ℕ) → is_area client number a ≡ true → AllByRecursion (AreDifferentAreas a) areas
    → held_of areas client number ≡ 0
none_found a [] client number is all = refl
none_found a (b ∷ areas) client number is all =
    let other : is_area client number b ≡ false = apart_from a b client number all.0 is in
    let rest = none_found a areas client number is all.1 in
    ap (λ (x : Bool). option_map_or (λ (area : Area). area.held) (if x then Some b else find (is_area client number) areas) 0) other ∙ rest

none_held : (areas : List Area) → AllPairs AreDifferentAreas areas → ((client number : ℕ) → held_of areas client number ≡ 0) → sum_by (λ (area : Area). area.held) areas ≡ 0
none_held [] apart none = refl
none_held (a ∷ areas) apart none =
    let count = sum_by-cons (λ (area : Area). area.held) a areas in
    let own_held : a.held ≡ 0 =
    sym (ap (λ (x : Bool). option_map_or (λ (area : Area). area.held) (if x then Some a else find (is_area a.client a.number) areas) 0) (itself a)) ∙ none a.client a.number in
    let others : AllByRecursion (AreDifferentAreas a) areas =
    recursion_from_All (AreDifferentAreas a) areas (λ k d less. apart 0 (suc k) d (omega arith) (omega (arith, less))) in
    let rest = none_held areas (λ i j d less inside. apart (suc i) (suc j) d (omega (arith, less)) (omega (arith, inside)))
    (λ client number. elim (cases_Bool (is_area client number a)) [
      | inl is ↦ none_found a areas client number is others
      | inr other ↦ sym (ap (λ (x : Bool). option_map_or (λ (area : Area). area.held) (if x then Some a else find (is_area client number) areas) 0) other) ∙ none client number
    ]) in
    omega (arith, count, own_held, rest)

-- ---- every append of a crowd finds room

-- what the laws say
abbrev pub PlainTakes : Type 0
PlainTakes = (told : Bool) (before : List Entry) (s t : State) (entries : List Entry) → IsValid s → s.automatic ≡ false → GoesOn told before s entries t
    → All (λ (entry : Entry). is_plain_work entry.call ≡ true) entries
    → (t.containers ≡ s.containers) × ((t.automatic ≡ s.automatic) × (free s ≤ free t + sectors_of_records entries))

abbrev pub MadeIsThere : Type 0
MadeIsThere = (stream largest reads : ℕ) (told : Bool) (s t : State) (journal before after : List Entry) (client number : ℕ) (entry : Entry)
    → IsLegal told journal s t → mine journal client ≡ before ++ entry ∷ after
    → entry.call ≡ calls.CreateArea stream largest reads → entry.reply ≡ replies.Area number → NoneMakesOrEnds number after
    → (area : Area) × (area_of t client number ≡ Some area)
    × (area.stream ≡ stream) × (area.largest ≡ largest) × (area.reads ≡ reads)

abbrev pub NoneGiven : Type 0
NoneGiven = (told : Bool) (s : State) (client : ℕ) (call : Call) (happened : Happened) (given : Refusal) (t : State)
    → refusal s client call ≡ None → Step told s client call happened (replies.Refused given) t → is_of_call given ≡ false

abbrev pub NoBadLine : Type 0
NoBadLine = (told : Bool) (s : State) (client : ℕ) (call : Call) (happened : Happened) (at : ℕ) (t : State)
    → Step told s client call happened (replies.Refused (refusals.BadLine at)) t → ⊥

abbrev pub FineReplies : Type 0
FineReplies = (told : Bool) (s : State) (client : ℕ) (call : Call) (reply : Reply) (t : State) → Step told s client call Fine reply t → happened_of reply ≡ Fine

abbrev pub FrontsAreLegal : Type 0
FrontsAreLegal = (told : Bool) (s t : State) (front rest : List Entry) → IsLegal told (front ++ rest) s t
    → (mid : State) × (IsLegal told front s mid × GoesOn told front mid rest t)

abbrev pub StaysValid : Type 0
StaysValid = (told : Bool) (s t : State) (journal : List Entry) → IsValid s → IsLegal told journal s t → IsValid t

-- a log without automatic growth has room for what is free
has_room_there : (s : State) (need : ℕ) → s.automatic ≡ false → reserved s + need ≤ free s → has_room s need ≡ true
unfolding grown has_room
has_room_there s need off enough = rw off (le-leb (reserved s + need) (free s) enough)

none_below : (n : ℕ) → nat_lt n 0 ≡ false
none_below n = elim (cases_Bool (nat_lt n 0)) [ inl less ↦ absurd (let low = ltb-true n 0 less in omega (arith, low)) | inr not_less ↦ not_less ]

-- a length that isn't too long, and a null link
not_too_long : (greatest n : ℕ) (others : Option Refusal) → nat_lt greatest n ≡ false → too_long greatest (n ∷ []) others ≡ others
not_too_long greatest n others fits =
    ap (λ (b : Bool). option_map_or (λ (len : ℕ). Some (refusals.RecordTooLong len greatest)) (if b then Some n else None) others) fits

null_link : (s : State) (stream link : ℕ) (others : Option Refusal) → link ≡ null_lsn → invalid_link s stream link others ≡ others
null_link s stream link others is =
    ap (λ (b : Bool). refused_if (not (b || nat_lt link (base_of s stream) || is_some (live_at s stream link))) (refusals.LinkInvalid link) others) (eq-eqb link null_lsn is)

-- an append of a crowd is refused by none of its tests
no_test_refuses : (s : State) (client number : ℕ) (area : Area) (draft : Draft) → s.containers ≡ 8 → area_of s client number ≡ Some area → area.largest ≡ record_bytes
    → IsCrewRecord draft → has_room s 1 ≡ true → refusal s client (calls.Append number draft false []) ≡ None
no_test_refuses s client number area draft eight there largest is room =
    let n = length draft.bytes in
    let two : nat_lt s.containers 2 ≡ false = ap (λ (c : ℕ). nat_lt c 2) eight in
    let rest : Area → Option Refusal = λ a. append_refusal s a draft false [] in
    let fits : nat_lt area.largest n ≡ false = ap (λ (l : ℕ). nat_lt l n) largest ∙ ap (λ (k : ℕ). nat_lt record_bytes k) is.bytes in
    let need : need_of false n [] ≡ 1 = ap (λ (k : ℕ). own k + 0) is.bytes in
    let space : has_room s (need_of false n []) ≡ true = ap (has_room s) need ∙ room in
    let last : Option Refusal = full s (need_of false n []) in
    let held : Option Refusal = short area (spent_of false n) last in
    let undo : Option Refusal = invalid_link s area.stream draft.undo_next held in
    ap (λ (b : Bool). refused_if b (refusals.NotEnoughContainers s.containers) (in_area s client number rest)) two
    ∙ (ap (λ (found : Option Area). option_map_or rest found (Some refusals.NoSuchArea)) there
    ∙ (not_too_long area.largest n (invalid_link s area.stream draft.previous undo) fits
    ∙ (null_link s area.stream draft.previous undo is.previous
    ∙ (null_link s area.stream draft.undo_next held is.undo_next
    ∙ (ap (λ (b : Bool). refused_if b (refusals.ReservationShort area.held 0) last) (none_below area.held)
    ∙ ap (λ (b : Bool). refused_if (not b) (refusals.Full (free (grown s (need_of false n []))) (reserved (grown s (need_of false n []))) (need_of false n [])) None) space)))))

-- the refusals that aren't of the call's own list
left_over : (P : Refusal → Type 0) → P refusals.NoMemory → P refusals.DiskFault → P refusals.Broken
    → ((container offset at : ℕ) → P (refusals.Damaged container offset at)) → ((at : ℕ) → P (refusals.BadLine at)) → (given : Refusal) → is_of_call given ≡ false → P given
left_over P memory fault broken damaged bad refusals.NoMemory of_call = memory
left_over P memory fault broken damaged bad refusals.DiskFault of_call = fault
left_over P memory fault broken damaged bad refusals.Broken of_call = broken
left_over P memory fault broken damaged bad (refusals.Damaged container offset at) of_call = damaged container offset at
left_over P memory fault broken damaged bad (refusals.BadLine at) of_call = bad at
left_over P memory fault broken damaged bad _ of_call = absurd (cc of_call)

-- ---- an append in the journal of a crowd

mine_split : (front rest : List Entry) (e : Entry) → mine (front ++ e ∷ rest) e.client ≡ mine front e.client ++ e ∷ mine rest e.client
mine_split front rest e =
    let p : Entry → Bool = λ x. x.client == e.client in
    let here : (e.client == e.client) ≡ true = eq-eqb e.client e.client refl in
    filter-append p front (e ∷ rest) ∙ ap (λ (b : Bool). mine front e.client ++ (if b then e ∷ mine rest e.client else mine rest e.client)) here

-- what an area's own entries are before one of its appends
record BeforeAppend (front : List Entry) (e : Entry) : Type 0 where
  pub made : Entry
  pub appends : List Entry
  pub number : ℕ
  pub area : MadeArea number made
  own : front ≡ made ∷ appends
  pub are : All (λ (entry : Entry). IsCrowdAppend number entry.call) appends
  append : IsCrowdAppend number e.call

no_making : (number : ℕ) (made e : Entry) → MadeArea number made → made ≡ e → is_append e.call ≡ true → ⊥
no_making number made e area same is =
    let made_is : is_append made.call ≡ false = ap is_append area.call in
    let clash : false ≡ true = sym made_is ∙ (ap (λ (x : Entry). is_append x.call) same ∙ is) in cc clash

split_member : (entries front rest : List Entry) (e : Entry) → entries ≡ front ++ e ∷ rest → MemberShape entries → is_append e.call ≡ true → BeforeAppend front e
split_member entries [] rest e is m append =
    let both : m.made ∷ m.appends ≡ e ∷ rest = sym m.own ∙ is in absurd (no_making m.number m.made e m.area (cc both) append)
split_member entries (x ∷ front) rest e is m append =
    let P : Entry → Type 0 = λ entry. IsCrowdAppend m.number entry.call in
    let both : m.made ∷ m.appends ≡ x ∷ (front ++ e ∷ rest) = sym m.own ∙ is in
    let first : m.made ≡ x = cc both in
    let later : m.appends ≡ front ++ e ∷ rest = cc both in
    let parts = at_split P front rest e (recursion_from_All P (front ++ e ∷ rest) (subst (All P) later m.are)) in record {
      made = m.made;
      appends = front;
      number = m.number;
      area = m.area;
      own = ap (λ (y : Entry). y ∷ front) (sym first);
      are = All-from_recursion P front parts.1;
      append = parts.0;
    }

none_ends : (number : ℕ) (entries : List Entry) → AllByRecursion (λ (entry : Entry). IsCrowdAppend number entry.call) entries → NoneMakesOrEnds number entries
none_ends number [] all = tt
none_ends number (e ∷ es) all = (ends_none e.call e.reply all.0, none_ends number es all.1)
  where
    ends_none : (call : Call) (reply : Reply) → IsCrowdAppend number call → makes_or_ends number call reply ≡ false
    ends_none call reply is = ap (λ (c : Call). makes_or_ends number c reply) is.is

-- what is known of the whole journal
pub record Known (cs : List ℕ) (journal : List Entry) : Type 0 where
  pub inside : AllByRecursion (λ (e : Entry). is_in e.client cs ≡ true) journal
  pub shapes : (c : ℕ) → is_in c cs ≡ true → Shape (mine journal c)
  pub fine : AllByRecursion (λ (e : Entry). e.happened ≡ Fine) journal
  pub unbroken : AllByRecursion (λ (e : Entry). e.reply ≢ replies.Refused refusals.Broken) journal
  pub few : count_by (λ (e : Entry). is_append e.call) journal ≤ 8000

-- the state before one of its appends has room for it
room_before : PlainTakes → FrontsAreLegal → StaysValid → HeldLaw → (cs : List ℕ) (front rest : List Entry) (e : Entry) (at : State) → IsValid crowd_log
    → Known cs (front ++ e ∷ rest) → IsLegal true front crowd_log at → is_append e.call ≡ true → (at.containers ≡ 8) × (has_room at 1 ≡ true)
room_before takes fronts stays held cs front rest e at valid known legal append =
    let whole : List Entry = front ++ e ∷ rest in
    let work = all_from_mine IsWork cs whole known.inside (λ c is. shape_work (mine whole c) (known.shapes c is)) in
    let before = (at_split IsWork front rest e work).1 in
    let P : Entry → Type 0 = λ x. is_plain_work x.call ≡ true in
    let plain : All P front = All-weaker IsWork P (λ x is. is.plain) front (All-from_recursion IsWork front before) in
    let taken = takes true [] crowd_log at front valid refl legal plain in
    let few = sectors_few front before in
    let p : Entry → ℕ = λ x. one_if (is_append x.call) in
    let parts = sum_by-append p front (e ∷ rest) in
    let cons = sum_by-cons p e rest in
    let one : p e ≡ 1 = ap one_if append in
    let most = known.few in
    let all_free : free crowd_log ≡ 8192 = refl in
    let left = taken.1.1 in
    let valid_at = stays true crowd_log at front valid legal in
    let none : reserved at ≡ 0 = none_held at.areas valid_at.tables.numbers (λ client number.
    held true crowd_log at front client number legal
    ∙ through_plain number 0 (mine front client) refl (All-filter (λ (x : Entry). x.client == client) P front plain)) in (
      taken.0,
      has_room_there at 1 taken.1.0 (omega (arith, few, parts, cons, one, most, all_free, left, none)),
    )

-- so it isn't refused
never_refused : PlainTakes → MadeIsThere → NoneGiven → NoBadLine → FineReplies → FrontsAreLegal → StaysValid → HeldLaw → (cs : List ℕ) (front rest : List Entry) (e : Entry) (last : State)
    → IsValid crowd_log → Known cs (front ++ e ∷ rest) → IsLegal true (front ++ e ∷ rest) crowd_log last → is_append e.call ≡ true → (given : Refusal) → e.reply ≢ replies.Refused given
never_refused takes made none_given bad fine fronts stays held cs front rest e last valid known legal append given is =
    let whole : List Entry = front ++ e ∷ rest in
    let cut = fronts true crowd_log last front (e ∷ rest) legal in
    let at : State = cut.0 in
    let next = cut.1.1.1.0 in
    let room = room_before takes fronts stays held cs front rest e at valid known cut.1.0 append in
    let split = mine_split front rest e in
    let before : BeforeAppend (mine front e.client) e = elim (known.shapes e.client (at_split (λ (x : Entry). is_in x.client cs ≡ true) front rest e known.inside).0) [
      | inl quiet ↦ absurd (let Q : Entry → Type 0 = λ x. is_quiet_work x.call ≡ true in
          let parts = at_split Q (mine front e.client) (mine rest e.client) e (recursion_from_All Q (mine front e.client ++ e ∷ mine rest e.client) (subst (All Q) split quiet)) in
          no_quiet e.call parts.0 append)
      | inr member ↦ split_member (mine whole e.client) (mine front e.client) (mine rest e.client) e split member append
    ] in
    let there = made before.area.stream record_bytes 1 true crowd_log at front [] before.appends e.client before.number before.made cut.1.0 before.own before.area.call before.area.reply
    (none_ends before.number before.appends (recursion_from_All (λ (entry : Entry). IsCrowdAppend before.number entry.call) before.appends before.are)) in
    let passes = no_test_refuses at e.client before.number there.0 before.append.draft room.0 there.1 there.3 before.append.is_record room.1 in
    let C : Call → Type 0 = λ call. refusal at e.client call ≡ None in
    let R : Reply → Type 0 = λ reply. Step true at e.client e.call e.happened reply cut.1.1.0 in
    let own_list = none_given true at e.client e.call e.happened given cut.1.1.0 (subst C (sym before.append.is) passes) (subst R is next.step) in
    let H : Happened → Type 0 = λ h. Step true at e.client e.call h e.reply cut.1.1.0 in
    let nothing : happened_of e.reply ≡ Fine =
    fine true at e.client e.call e.reply cut.1.1.0 (subst H (at_split (λ (x : Entry). x.happened ≡ Fine) front rest e known.fine).0 next.step) in
    left_over (λ g. e.reply ≡ replies.Refused g → ⊥) next.no_want
    (λ told. let clash : happened_of (replies.Refused refusals.DiskFault) ≡ Fine = ap happened_of (sym told) ∙ nothing in cc clash)
    (at_split (λ (x : Entry). x.reply ≢ replies.Refused refusals.Broken) front rest e known.unbroken).0
    (λ container offset place told. let clash : happened_of (replies.Refused (refusals.Damaged container offset place)) ≡ Fine = ap happened_of (sym told) ∙ nothing in cc clash)
    (λ place told. bad true at e.client e.call e.happened place cut.1.1.0 (subst R told next.step))
    given own_list is
  where
    no_quiet : (call : Call) → is_quiet_work call ≡ true → is_append call ≡ true → ⊥
    no_quiet (calls.Append area draft is_reserved sizes) quiet is_it = cc quiet
    no_quiet _ quiet is_it = cc is_it

no_append_refused : (call : Call) (reply : Reply) → (is_append call ≡ true → (given : Refusal) → reply ≢ replies.Refused given) → is_refused_append call reply ≡ false
no_append_refused (calls.Append area draft is_reserved sizes) (replies.Refused given) never = absurd (never refl given refl)
no_append_refused (calls.Append area draft is_reserved sizes) _ never = refl
no_append_refused _ reply never = refl

-- what fails nowhere in a list
none_in : (p : Entry → Bool) (front es all : List Entry) → all ≡ front ++ es → ((before rest : List Entry) (e : Entry) → all ≡ before ++ e ∷ rest → p e ≡ false) → list_any p es ≡ false
none_in p front [] all is each = refl
none_in p front (e ∷ es) all is each =
    let here = each front es e is in
    let rest = none_in p (front ++ e ∷ []) es all (is ∙ sym (append_assoc front (e ∷ []) es)) each in
    ap (λ (b : Bool). b || list_any p es) here ∙ rest

pub none_refused : PlainTakes → MadeIsThere → NoneGiven → NoBadLine → FineReplies → FrontsAreLegal → StaysValid → HeldLaw → (cs : List ℕ) (journal : List Entry) (last : State)
    → IsValid crowd_log → Known cs journal → IsLegal true journal crowd_log last → is_any_append_refused journal ≡ false
none_refused takes made none_given bad fine fronts stays held cs journal last valid known legal =
    none_in (λ (e : Entry). is_refused_append e.call e.reply) [] journal journal refl (λ front rest e is.
    no_append_refused e.call e.reply (λ append given told.
    never_refused takes made none_given bad fine fronts stays held cs front rest e last valid (subst (Known cs) is known)
    (subst (λ (es : List Entry). IsLegal true es crowd_log last) is legal) append given told))

-- ---- the line that is printed

-- what a member's own entries are
member_shape : (log : SharedState) (m : MemberState) → IsMember log m → MemberShape (own_entries m.session)
member_shape log m is = record { made = is.made; appends = is.appends; own = is.own; number = m.area; area = is.area; are = is.are }

-- its appends are as many as the calls that it made, and those that were placed are no more
pub own_appends : (log : SharedState) (m : MemberState) → IsMember log m → count_by (λ (e : Entry). is_append e.call) (own_entries m.session) ≤ has_made m
own_appends log m is =
    let p : Entry → ℕ = λ e. one_if (is_append e.call) in
    let counted : sum_by p (own_entries m.session) ≡ sum_by p (is.made ∷ is.appends) = ap (sum_by p) is.own in
    let cons = sum_by-cons p is.made is.appends in
    let none : p is.made ≡ 0 = ap (λ (c : Call). one_if (is_append c)) is.area.call in
    let most = sum_by-le p 1 is.appends (λ k d less. one_most (is_append (slice_index_or is.appends k d).call)) in
    let long : length (own_entries m.session) ≡ length is.appends + 1 = ap length is.own ∙ omega arith in
    omega (arith, counted, cons, none, most, long)
  where
    one_most : (b : Bool) → one_if b ≤ 1
    one_most true = omega arith
    one_most false = omega arith

pub placed_are_appends : (es : List Entry) → placed_in es ≤ count_by (λ (e : Entry). is_append e.call) es
placed_are_appends es = sum_le (λ (e : Entry). one_if (is_placed e.call e.reply)) (λ (e : Entry). one_if (is_append e.call)) es
    (λ k d less. at_one (slice_index_or es k d).call (slice_index_or es k d).reply)
  where
    at_one : (call : Call) (reply : Reply) → one_if (is_placed call reply) ≤ one_if (is_append call)
    at_one (calls.Append area draft is_reserved sizes) (replies.Placed lsn) = omega arith
    at_one (calls.Append area draft is_reserved sizes) _ = omega arith
    at_one _ reply = omega arith

quiet_none : (p : Call → Reply → Bool) → ((call : Call) (reply : Reply) → is_quiet_work call ≡ true → p call reply ≡ false) → (es : List Entry)
    → All (λ (e : Entry). is_quiet_work e.call ≡ true) es → count_by (λ (e : Entry). p e.call e.reply) es ≡ 0
quiet_none p none [] all = refl
quiet_none p none (e ∷ es) all =
    let Q : Entry → Type 0 = λ x. is_quiet_work x.call ≡ true in
    let cons = sum_by-cons (λ (x : Entry). one_if (p x.call x.reply)) e es in
    let here : one_if (p e.call e.reply) ≡ 0 = ap one_if (none e.call e.reply (All-head Q e es all)) in
    let rest = quiet_none p none es (All-tail Q e es all) in
    omega (arith, cons, here, rest)

quiet_append : (call : Call) (reply : Reply) → is_quiet_work call ≡ true → is_append call ≡ false
quiet_append (calls.Append area draft is_reserved sizes) reply is = absurd (cc is)
quiet_append _ reply is = refl

quiet_placed : (call : Call) (reply : Reply) → is_quiet_work call ≡ true → is_placed call reply ≡ false
quiet_placed (calls.Append area draft is_reserved sizes) reply is = absurd (cc is)
quiet_placed _ reply is = refl

quiet_below : (stable : ℕ) (call : Call) (reply : Reply) → is_quiet_work call ≡ true → is_placed_below stable call reply ≡ false
quiet_below stable (calls.Append area draft is_reserved sizes) reply is = absurd (cc is)
quiet_below stable _ reply is = refl

-- what holds of the sessions of all members, of a list that they begin
All-unmap : (P : SessionState → Type 0) (f : MemberState → SessionState) (members : List MemberState) (ended : SessionState) → All P (map f members ++ ended ∷ [])
    → All (λ (m : MemberState). P (f m)) members
All-unmap P f [] ended all = All-nil (λ (m : MemberState). P (f m))
All-unmap P f (m ∷ members) ended all =
    All-cons (λ (x : MemberState). P (f x)) m members (All-head P (f m) (map f members ++ ended ∷ []) all)
    (All-unmap P f members ended (All-tail P (f m) (map f members ++ ended ∷ []) all))

-- a crowd's log that was closed
pub record Closing (log : SharedState) (threads count : ℕ) (members : List MemberState) (ended : SessionState) (journal : List Entry) (last : State) : Type 0 where
  pub begins : log.opening.state ≡ crowd_log
  pub never : NeverFails log
  pub tells : log.opening.tells_contents ≡ true
  pub valid : IsValid log.opening.state
  pub apart : are_distinct log.clients ≡ true
  pub clients : map (λ (s : SessionState). s.client) (map (λ (m : MemberState). m.session) members ++ ended ∷ []) ≡ log.clients
  pub are : All (λ (m : MemberState). IsMember log m × (has_made m ≤ count)) members
  pub quiet : IsQuiet log ended
  pub many : length members ≡ threads
  pub few : threads * count ≤ 8000
  pub seen : All (λ (s : SessionState). HasSeen client_of journal s) (map (λ (m : MemberState). m.session) members ++ ended ∷ [])
  pub others : (c : ℕ) → is_in c log.clients ≡ false → mine journal c ≡ []
  pub legal : IsLegal log.opening.tells_contents journal log.opening.state last
  pub fine : AllByRecursion (λ (e : Entry). e.happened ≡ Fine) journal

-- the law on what is stable at the end
abbrev pub StaysBelow : Type 0
StaysBelow = (s : SessionState) (lsn : ℕ) (journal : List Entry) (last : State) → IsValid s.opening.state → IsPrefix s.seen journal
    → IsLegal s.opening.tells_contents journal s.opening.state last → HasFlushed s lsn → lsn ≤ flushed last

-- its members' counts are counts of the journal
pub counts_are : StaysBelow → (log : SharedState) (threads count : ℕ) (members : List MemberState) (ended : SessionState) (journal : List Entry) (last : State)
    → Closing log threads count members ended journal last
    → (placed_in journal ≡ sum_by (λ (m : MemberState). m.records) members)
    × ((sum_by (λ (m : MemberState). m.stable) members ≤ placed_below (flushed last) journal)
    × (count_by (λ (e : Entry). is_append e.call) journal ≤ threads * count))
counts_are stays log threads count members ended journal last z =
    let inside = by_others log.clients journal z.others in
    let split : (p : Entry → Bool) → count_by p journal ≡ sum_by (λ (m : MemberState). count_by p (own_entries m.session)) members + count_by p (own_entries ended) =
    λ p. split_members p log.clients journal members ended z.apart inside z.clients z.seen in
    let of_session : MemberState → SessionState = λ m. m.session in
    let seen_by : All (λ (m : MemberState). HasSeen client_of journal m.session) members =
    λ k d less. front_seen k d less in
    let below : ℕ = flushed last in
    let p_placed : Entry → Bool = λ e. is_placed e.call e.reply in
    let p_below : Entry → Bool = λ e. is_placed_below below e.call e.reply in
    let p_append : Entry → Bool = λ e. is_append e.call in
    let placed = split p_placed in
    let stable = split p_below in
    let appends = split p_append in
    let no_placed = quiet_none is_placed quiet_placed (own_entries ended) z.quiet.are in
    let no_below = quiet_none (is_placed_below below) (quiet_below below) (own_entries ended) z.quiet.are in
    let no_append = quiet_none (λ call reply. is_append call) quiet_append (own_entries ended) z.quiet.are in
    let by_members = sum_same (λ (m : MemberState). count_by p_placed (own_entries m.session)) (λ (m : MemberState). m.records) members (λ k d less. (z.are k d less).0.placed) in
    let least = sum_le (λ (m : MemberState). m.stable) (λ (m : MemberState). count_by p_below (own_entries m.session)) members
    (λ k d less. let m = slice_index_or members k d in let is = (z.are k d less).0 in
    let mark = marked m is (seen_by k d less) in
    let rises = below_rises is.mark below mark (own_entries m.session) in
    let had = is.on_disk in omega (arith, rises, had)) in
    let most = sum_by-le (λ (m : MemberState). count_by p_append (own_entries m.session)) count members
    (λ k d less. let made = (z.are k d less).1 in let few = own_appends log (slice_index_or members k d) (z.are k d less).0 in omega (arith, made, few)) in
    let product : length members * count ≡ threads * count = ap (λ (n : ℕ). n * count) z.many in (
      omega (arith, placed, no_placed, by_members),
      (omega (arith, stable, least), omega (arith, appends, no_append, most, product)),
    )
  where
    front_seen : All (λ (m : MemberState). HasSeen client_of journal m.session) members
    front_seen = All-unmap (λ (s : SessionState). HasSeen client_of journal s) (λ (m : MemberState). m.session) members ended z.seen

    marked : (m : MemberState) (is : IsMember log m) → HasSeen client_of journal m.session → is.mark ≤ flushed last
    marked m is seen =
        let F : Opening → Type 0 = λ o. IsLegal o.tells_contents journal o.state last in
        let V : Opening → Type 0 = λ o. IsValid o.state in
        stays m.session is.mark journal last (subst V (sym is.of.opening) z.valid) seen.begins (subst F (sym is.of.opening) z.legal) is.flushed

-- where the journal has fewer calls than a client may make, each member was answered for all of its records
all_answered : (log : SharedState) (threads count : ℕ) (members : List MemberState) (ended : SessionState) (journal : List Entry) (last : State)
    → Closing log threads count members ended journal last → length journal < most_calls
    → sum_by (λ (m : MemberState). m.stable) members ≡ sum_by (λ (m : MemberState). m.records) members
all_answered log threads count members ended journal last z short =
    let seen_by = All-unmap (λ (s : SessionState). HasSeen client_of journal s) (λ (m : MemberState). m.session) members ended z.seen in
    sum_same (λ (m : MemberState). m.stable) (λ (m : MemberState). m.records) members
    (λ k d less. (z.are k d less).0.answered z.never (was_short (slice_index_or members k d).session.seen journal (seen_by k d less).begins short))

-- nothing happened in a journal without faults and without damage
pub fine_entries : (journal : List Entry) → has_fault journal ≡ false → has_damage journal ≡ false → AllByRecursion (λ (e : Entry). e.happened ≡ Fine) journal
fine_entries [] faults damages = tt
fine_entries (e ∷ es) faults damages =
    let f = or_false (is_fault e.happened) (has_fault es) faults in
    let d = or_false (is_damage e.happened) (has_damage es) damages in
    (fine_one e.happened f.0 d.0, fine_entries es f.1 d.1)
  where
    fine_one : (happened : Happened) → is_fault happened ≡ false → is_damage happened ≡ false → happened ≡ Fine
    fine_one Fine fault damage = refl
    fine_one Fault fault damage = absurd (cc fault)
    fine_one Damage fault damage = absurd (cc damage)

-- a log that isn't broken stays so where nothing happens, and no entry says that it is
abbrev pub StaysUnbroken : Type 0
StaysUnbroken = (told : Bool) (before : List Entry) (s t : State) (entries : List Entry) → s.broken ≡ false → GoesOn told before s entries t
    → All (λ (entry : Entry). entry.happened ≡ Fine) entries → (t.broken ≡ false) × All (λ (entry : Entry). entry.reply ≢ replies.Refused refusals.Broken) entries

-- what is known of its journal
known_of : StaysBelow → StaysUnbroken → (log : SharedState) (threads count : ℕ) (members : List MemberState) (ended : SessionState) (journal : List Entry) (last : State)
    → Closing log threads count members ended journal last → IsLegal true journal crowd_log last → Known log.clients journal
known_of stays unbroken log threads count members ended journal last z legal =
    let S : ℕ → Type 0 = λ c. Shape (mine journal c) in
    let of_session : MemberState → SessionState = λ m. m.session in
    let Q : SessionState → Type 0 = λ s. S s.client in
    let sessions : List SessionState = map of_session members ++ ended ∷ [] in
    let seen_by = All-unmap (λ (s : SessionState). HasSeen client_of journal s) of_session members ended z.seen in
    let of_members : All (λ (m : MemberState). Q m.session) members =
    λ k d less. let m = slice_index_or members k d in subst Shape (seen_by k d less).own (inr (member_shape log m (z.are k d less).0)) in
    let last_seen = last_of (λ (s : SessionState). HasSeen client_of journal s) (map of_session members) ended z.seen in
    let all : All Q sessions = All-push Q (map of_session members) ended (All-map Q of_session members of_members) (subst Shape last_seen.own (inl z.quiet.are)) in
    let P : Entry → Type 0 = λ e. e.happened ≡ Fine in
    let appends = (counts_are stays log threads count members ended journal last z).1.1 in
    let few = z.few in record {
      inside = by_others log.clients journal z.others;
      shapes = λ c is. of_client S sessions c all (subst (λ (cs : List ℕ). is_in c cs ≡ true) (sym z.clients) is);
      fine = z.fine;
      unbroken = recursion_from_All (λ (entry : Entry). entry.reply ≢ replies.Refused refusals.Broken) journal
          (unbroken true [] crowd_log last journal refl legal (All-from_recursion P journal z.fine)).1;
      few = omega (arith, appends, few);
    }
  where
    last_of : (R : SessionState → Type 0) (front : List SessionState) (s : SessionState) → All R (front ++ s ∷ []) → R s
    last_of R [] s each = All-head R s [] each
    last_of R (x ∷ front) s each = last_of R front s (All-tail R x (front ++ s ∷ []) each)

-- what a crowd's line tells of the log that it leaves
pub tells_crowd : PlainTakes → MadeIsThere → NoneGiven → NoBadLine → FineReplies → FrontsAreLegal → StaysValid → HeldLaw → StaysBelow → StaysUnbroken
    → (log : SharedState) (threads count records stable : ℕ) (members : List MemberState) (ended : SessionState) (journal : List Entry) (last : State) (text : List ℕ)
    → Closing log threads count members ended journal last → records ≡ sum_by (λ (m : MemberState). m.records) members
    → stable ≡ sum_by (λ (m : MemberState). m.stable) members → length journal < most_calls → text ≡ crowd_text threads count records stable
    → IsCrowdText threads count text
tells_crowd takes made none_given bad fine fronts stays_valid held stays unbroken log threads count records stable members ended journal last text z is_records is_stable short is =
    let legal : IsLegal true journal crowd_log last = subst (λ (s : State). IsLegal true journal s last) z.begins
    (subst (λ (b : Bool). IsLegal b journal log.opening.state last) z.tells z.legal) in
    let counts = counts_are stays log threads count members ended journal last z in
    let placed = counts.0 in
    let on_disk = counts.1.0 in
    let appends = counts.1.1 in
    let fewer = placed_are_appends journal in record {
      journal = journal;
      last = last;
      records = records;
      stable = stable;
      legal = legal;
      none_refused = none_refused takes made none_given bad fine fronts stays_valid held log.clients journal last (subst IsValid z.begins z.valid)
          (known_of stays unbroken log threads count members ended journal last z legal) legal;
      placed = placed ∙ sym is_records;
      on_disk = omega (arith, is_stable, on_disk);
      answered = is_stable ∙ (all_answered log threads count members ended journal last z short ∙ sym is_records);
      few = omega (arith, placed, is_records, appends, fewer);
      is = is;
    }

-- ---- the clients of a crowd

pub distinct_drop : (n : ℕ) (cs : List ℕ) → are_distinct cs ≡ true → are_distinct (drop n cs) ≡ true
distinct_drop zero cs apart = apart
distinct_drop (suc n) [] apart = refl
distinct_drop (suc n) (c ∷ cs) apart = distinct_drop n cs (and_true (not (is_in c cs)) (are_distinct cs) apart).1

pub is_client_of : (c : ℕ) (cs : List ℕ) → All (λ (n : ℕ). (1 ≤ n) × (n ≤ 64)) cs → is_in c cs ≡ true → IsClient c
is_client_of c [] all inside = absurd (cc inside)
is_client_of c (x ∷ cs) all inside = elim (cases_Bool (x == c)) [
  | inl same ↦ let range = subst (λ (n : ℕ). (1 ≤ n) × (n ≤ 64)) (eqb-true x c same) (All-head (λ (n : ℕ). (1 ≤ n) × (n ≤ 64)) x cs all) in
      record { least = range.0; greatest = range.1 }
  | inr other ↦ is_client_of c cs (All-tail (λ (n : ℕ). (1 ≤ n) × (n ≤ 64)) x cs all) (sym (ap (λ (b : Bool). b || is_in c cs) other) ∙ inside)
]
