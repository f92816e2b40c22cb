-- What a call of the lock tells a session of its place in the journal.
use Rattle.std.proofs.Common.{◌≡◌, ℕ, zero, suc, ◌+◌, Bool, true, false, refl, sym, ap, subst, ◌∙◌, List, [], ◌∷◌, ◌++◌, length, map, slice_index_or, arith}
use Rattle.std.specs.Prelude.{◌≤◌, ◌⊎◌, ◌<◌, ◌==◌, ◌≢◌, ◌||◌, ◌&&◌, All, Option, Some, None, IsSome}
use Rattle.std.specs.List.{AllByRecursion, list_any}
use Rattle.std.proofs.lemmas.Bool.Decides.{nat_tests}
use Rattle.std.proofs.lemmas.List.Elements.{All-from_recursion}
use Rattle.std.proofs.lemmas.List.Folds.{list_any-append}
use Rattle.clfs_disk.specs.State.{DiskState}
use Rattle.clfs_lsn.specs.Size.{own as size}
use Rattle.clfs_laws.specs.Needs.{area_number, is_for_room}
use Rattle.clfs_laws.specs.Rows.{row_in, row_through, NoneMakesOrEnds}
use Rattle.clfs_model.specs.Valid.{IsValid}
use Rattle.clfs_model.specs.declared.call.Call.{Call}
use Rattle.clfs_model.specs.declared.call.Call.TheVariants as calls
use Rattle.clfs_model.specs.declared.call.Draft.{Draft}
use Rattle.clfs_model.specs.declared.journal.Entry.{Entry}
use Rattle.clfs_model.specs.declared.refusal.Refusal.{Refusal}
use Rattle.clfs_model.specs.declared.refusal.Refusal.TheVariants as refusals
use Rattle.clfs_model.specs.declared.reply.Happened.{Happened}
use Rattle.clfs_model.specs.declared.reply.Happened.TheVariants.{Fine, Fault, Damage}
use Rattle.clfs_model.specs.declared.reply.Reply.{Reply}
use Rattle.clfs_model.specs.declared.reply.Reply.TheVariants as replies
use Rattle.clfs_model.specs.declared.state.State.{State}
use Rattle.clfs_model.specs.declared.state.Area.{Area}
use Rattle.clfs_model.specs.State.{area_of}
use Rattle.clfs_model.specs.Happened.{happened_of}
use Rattle.clfs_model.specs.Journals.{GoesOn, IsLegal, mine, held_in, held_by}
use Rattle.clfs_model.specs.Step.{Step, IsDamaged, takes_memory}
use Rattle.clfs_turn.specs.Calls.{Called}
use Rattle.clfs_turn.specs.Lists.{is_in}
use Rattle.clfs_turn.specs.Seats.{IsNewSeat, IsSameSeat}
use Rattle.clfs_shared.specs.declared.opening.Opening.{Opening}
use Rattle.clfs_shared.specs.Journal.{client_of, entry_of, is_fault, is_damage, has_fault, has_damage, is_out_of_memory}
use Rattle.clfs_shared.specs.Reached.{IsReached, is_calm}
use Rattle.clfs_shared.specs.Sessions.{SessionState, SharedState, HasAreas, HasRun, IsCalmReply, IsOf, IsStepped, own_entries}

module _ {V : Type 0} (may_lack : List Entry → Type 0) (entries : V → List Entry) (state : V → State) (disk : V → DiskState) where
  -- a log that was lawfully reached
  abbrev Reached : Opening → V → Type 0
  Reached o v = IsReached o (disk v) (state v) (entries v)

  -- one call that was made
  abbrev Ran : ℕ → Call → Reply → V → V → Type 0
  Ran client call reply x y = HasRun may_lack (disk x).nature.tells_contents (state x) (entries x) client call reply (state y) (entries y)

  stepped : (s t : SessionState) (call : Call) (reply : Reply) → Called entries client_of Reached (Ran s.client call reply) s t → IsSameSeat s t
      → is_out_of_memory reply ≡ false → IsStepped s t call reply
  stepped s t call reply called same answered = record {
    before = before;
    found = state called.found;
    left = state called.left;
    begins = called.before.begins;
    legal = called.before.lawful.legal;
    step = subst (λ (told : Bool). Step told (state called.found) s.client call (happened_of reply) reply (state called.left))
        called.before.lawful.contents (called.ran.step answered);
    place = called.ran.place answered;
    whole = subst (λ (z : List Entry). IsLegal s.opening.tells_contents z s.opening.state (state called.left)) (sym sees)
        (subst (λ (o : Opening). IsLegal o.tells_contents (entries called.left) o.state (state called.left)) same.opening called.after.lawful.legal);
    ends = sees ∙ (called.ran.entry answered ∙ ap (λ (n : ℕ). before ++ entry_of s.client (n + 1) call reply ∷ []) counted);
    grew = (called.added entry (called.ran.entry answered)).1 ∙ ap (λ (n : ℕ). own_entries s ++ entry_of s.client (n + 1) call reply ∷ []) counted;
    others = called.before.own;
    calm = λ calm. ap has_fault sees ∙ called.after.lawful.calm (ap is_calm same.opening ∙ calm);
    damage = λ told. ap has_damage sees ∙ called.after.lawful.damage (ap (λ (o : Opening). o.tells_contents) same.opening ∙ told);
  }
    where
      before : List Entry
      before = entries called.found

      entry : Entry
      entry = entry_of s.client (length (mine before s.client) + 1) call reply

      counted : length (mine before s.client) ≡ length (own_entries s)
      counted = ap length (sym called.before.own)

      sees : t.seen ≡ entries called.left
      sees = (called.added entry (called.ran.entry answered)).0

  -- where the job's client has another name
  pub stepped_by : (n : ℕ) (s t : SessionState) (call : Call) (reply : Reply) → n ≡ s.client → Called entries client_of Reached (Ran n call reply) s t → IsSameSeat s t
      → is_out_of_memory reply ≡ false → IsStepped s t call reply
  stepped_by n s t call reply is called = stepped s t call reply (subst (λ (k : ℕ). Called entries client_of Reached (Ran k call reply) s t) is called)

  -- why memory ran out
  pub wanted_by : (n : ℕ) (s t : SessionState) (call : Call) (reply : Reply) → n ≡ s.client → Called entries client_of Reached (Ran n call reply) s t
      → is_out_of_memory reply ≡ true → (takes_memory call ≡ true) ⊎ may_lack (own_entries s)
  wanted_by n s t call reply is called lacking =
      subst (λ (own : List Entry). (takes_memory call ≡ true) ⊎ may_lack own)
      (ap (λ (k : ℕ). mine (entries called.found) k) is ∙ sym called.before.own) (called.ran.wanted lacking)

or_right : (a b : Bool) → b ≡ true → (a || b) ≡ true
or_right true b e = refl
or_right false b e = e

-- ---- sessions of a log

own_number : (n : ℕ) → (n == n) ≡ true
own_number n = grind (arith, nat_tests)

-- each of a list is in it
in_list : (sessions : List SessionState) (k : ℕ) (d : SessionState) → k < length sessions
    → is_in (slice_index_or sessions k d).client (map (λ (s : SessionState). s.client) sessions) ≡ true
in_list [] k d below = absurd (omega (arith, below))
in_list (s ∷ sessions) zero d below = ap (λ (b : Bool). b || is_in s.client (map (λ (z : SessionState). z.client) sessions)) (own_number s.client)
in_list (s ∷ sessions) (suc k) d below =
    or_right (s.client == (slice_index_or sessions k d).client) (is_in (slice_index_or sessions k d).client (map (λ (z : SessionState). z.client) sessions))
    (in_list sessions k d (omega (arith, below)))

-- the new sessions of a log's clients are the log's
pub belong_by : (log : SharedState) (sessions : List SessionState) → All (λ (s : SessionState). IsNewSeat log s) sessions
    → map (λ (s : SessionState). s.client) sessions ≡ log.clients → All (λ (s : SessionState). IsOf log s) sessions
belong_by log sessions seats clients = λ k d below. let seat = seats k d below in record {
  lock = seat.lock;
  opening = seat.opening;
  client = subst (λ (all : List ℕ). is_in (slice_index_or sessions k d).client all ≡ true) clients (in_list sessions k d below);
}

by_memory : (b : Bool) (P : Type 0) → (b ≡ true → P) → (b ≡ false → P) → P
by_memory true P on off = on refl
by_memory false P on off = off refl

-- ---- the client's areas

pub record AreaLaws : Type 0 where
  pub held : (told : Bool) (s t : State) (journal : List Entry) (client number : ℕ) → IsLegal told journal s t
      → held_in t client number ≡ held_by s client (mine journal client) number
  pub rows : (told : Bool) (s t : State) (journal : List Entry) (client number : ℕ) → IsLegal told journal s t
      → row_in t client number ≡ row_through number (row_in s client number) (mine journal client)
  pub made : (stream largest reads : ℕ) (told : Bool) (s t : State) (journal before after : List Entry) (client number : ℕ) (entry : Entry)
      → IsLegal told journal s t → mine journal client ≡ before ++ entry ∷ after
      → entry.call ≡ calls.CreateArea stream largest reads → entry.reply ≡ replies.Area number → NoneMakesOrEnds number after
      → (area : Area) × (area_of t client number ≡ Some area) × (area.stream ≡ stream) × (area.largest ≡ largest) × (area.reads ≡ reads)

pub areas_by : AreaLaws → (s t : SessionState) → IsSameSeat s t → (left : State) → IsLegal s.opening.tells_contents t.seen s.opening.state left → HasAreas t left
areas_by laws s t same left legal =
    let F : Opening → Type 0 = λ o. IsLegal o.tells_contents t.seen o.state left in
    let legal_t : F t.opening = subst F (sym same.opening) legal in
    record {
      held = λ number. laws.held t.opening.tells_contents t.opening.state left t.seen t.client number legal_t;
      row = λ number. laws.rows t.opening.tells_contents t.opening.state left t.seen t.client number legal_t;
      there = λ stream largest reads number before after entry is call reply none.
          laws.made stream largest reads t.opening.tells_contents t.opening.state left t.seen before after t.client number entry legal_t is call reply none;
    }

-- ---- an append that the own entries cover

memory_is : (given : Refusal) → is_out_of_memory (replies.Refused given) ≡ true → (is_for_room given ≡ false) × (given ≢ refusals.NoSuchArea)
memory_is refusals.NoMemory e = (refl, λ wrong. cc wrong)
memory_is _ e = absurd (cc e)

pub record CoveredLaws : Type 0 where
  pub room : (told : Bool) (s t u : State) (journal : List Entry) (client number : ℕ) (draft : Draft) (happened : Happened) (given : Refusal)
      → IsValid s → IsLegal told journal s t → size (length draft.bytes) ≤ held_by s client (mine journal client) number
      → Step told t client (calls.Append number draft true []) happened (replies.Refused given) u → is_for_room given ≡ false
  pub there : (told : Bool) (s t : State) (journal : List Entry) (client number : ℕ) (draft : Draft)
      → IsLegal told journal s t → size (length draft.bytes) ≤ held_by s client (mine journal client) number → IsSome (area_of t client number)
  pub missing : (told : Bool) (s : State) (client : ℕ) (call : Call) (happened : Happened) (t : State)
      → Step told s client call happened (replies.Refused refusals.NoSuchArea) t → area_of s client (area_number call) ≡ None

none_there : (found : Option Area) → IsSome found → found ≡ None → ⊥
none_there None some is = cc some
none_there (Some area) some is = cc is

pub covered : CoveredLaws → (s t : SessionState) (call : Call) (reply : Reply) (number : ℕ) (draft : Draft) (given : Refusal) → IsValid s.opening.state
    → (is_out_of_memory reply ≡ false → IsStepped s t call reply)
    → call ≡ calls.Append number draft true [] → size (length draft.bytes) ≤ held_by s.opening.state s.client (own_entries s) number
    → reply ≡ replies.Refused given → (is_for_room given ≡ false) × (given ≢ refusals.NoSuchArea)
covered laws s t call reply number draft given valid step asks enough refused =
    by_memory (is_out_of_memory reply) ((is_for_room given ≡ false) × (given ≢ refusals.NoSuchArea))
    (λ on. memory_is given (ap is_out_of_memory (sym refused) ∙ on))
    (λ off. let z = step off in
    let told = s.opening.tells_contents in
    let F : List Entry → Type 0 = λ es. size (length draft.bytes) ≤ held_by s.opening.state s.client es number in
    let G : Call → Type 0 = λ c. Step told z.found s.client c (happened_of reply) (replies.Refused given) z.left in
    let H : Reply → Type 0 = λ r. Step told z.found s.client call (happened_of reply) r z.left in
    let covers : F (mine z.before s.client) = subst F z.others enough in
    let taken : G (calls.Append number draft true []) = subst G asks (subst H refused z.step) in (
      laws.room told s.opening.state z.found z.left z.before s.client number draft (happened_of reply) given valid z.legal covers taken,
      λ same. let K : Refusal → Type 0 = λ r. Step told z.found s.client (calls.Append number draft true []) (happened_of reply) (replies.Refused r) z.left in
          none_there (area_of z.found s.client number) (laws.there told s.opening.state z.found z.before s.client number draft z.legal covers)
          (laws.missing told z.found s.client (calls.Append number draft true []) (happened_of reply) z.left (subst K same taken)),
    ))

-- ---- over a calm disk

or_parts : (a b : Bool) → (a || b) ≡ false → (a ≡ false) × (b ≡ false)
or_parts true b e = absurd (cc e)
or_parts false b e = (refl, e)

fine_by : (happened : Happened) → is_fault happened ≡ false → is_damage happened ≡ false → happened ≡ Fine
fine_by Fine no_fault no_damage = refl
fine_by Fault no_fault no_damage = absurd (cc no_fault)
fine_by Damage no_fault no_damage = absurd (cc no_damage)

all_fine : (entries : List Entry) → has_fault entries ≡ false → has_damage entries ≡ false → AllByRecursion (λ (entry : Entry). entry.happened ≡ Fine) entries
all_fine [] no_fault no_damage = tt
all_fine (entry ∷ entries) no_fault no_damage =
    let faults = or_parts (is_fault entry.happened) (has_fault entries) no_fault in
    let damages = or_parts (is_damage entry.happened) (has_damage entries) no_damage in
    (fine_by entry.happened faults.0 damages.0, all_fine entries faults.1 damages.1)

-- the entries before the last, and the last
last_parts : (p : Entry → Bool) (entries : List Entry) (entry : Entry) → list_any p (entries ++ entry ∷ []) ≡ false → (list_any p entries ≡ false) × (p entry ≡ false)
last_parts p entries entry none =
    let both = or_parts (list_any p entries) (p entry || false) (sym (list_any-append p entries (entry ∷ [])) ∙ none) in
    (both.0, (or_parts (p entry) false both.1).0)

calm_tells : (a b c : Bool) → (a && b && c) ≡ true → b ≡ true
calm_tells true true c e = refl
calm_tells true false c e = absurd (cc e)
calm_tells false b c e = absurd (cc e)

not_damaged : (reply : Reply) → happened_of reply ≡ Fine → IsDamaged reply → ⊥
not_damaged (replies.Refused (refusals.Damaged container offset at)) fine is = cc fine
not_damaged _ fine is = is

fine_calm : (reply : Reply) → happened_of reply ≡ Fine → reply ≢ replies.Refused refusals.Broken → IsCalmReply reply
fine_calm reply fine silent = record {
  fault = λ is. let told : happened_of reply ≡ Fault = ap happened_of is in cc (told, fine);
  damage = not_damaged reply fine;
  broken = silent;
}

memory_calm : (reply : Reply) → is_out_of_memory reply ≡ true → IsCalmReply reply
memory_calm (replies.Refused refusals.NoMemory) e = fine_calm (replies.Refused refusals.NoMemory) refl (λ wrong. cc wrong)
memory_calm (replies.Refused other) e = absurd (cc e)
memory_calm _ e = absurd (cc e)

pub record CalmLaws : Type 0 where
  pub calls : (told : Bool) (s : State) (client : ℕ) (call : Call) (happened : Happened) (reply : Reply) (t : State)
      → s.broken ≡ false → happened_of reply ≡ Fine → Step told s client call happened reply t → (t.broken ≡ false) × (reply ≢ replies.Refused refusals.Broken)
  pub part : (told : Bool) (before : List Entry) (s t : State) (entries : List Entry) → s.broken ≡ false → GoesOn told before s entries t
      → All (λ (entry : Entry). entry.happened ≡ Fine) entries
      → (t.broken ≡ false) × All (λ (entry : Entry). entry.reply ≢ replies.Refused refusals.Broken) entries

pub calm_by : CalmLaws → (s t : SessionState) (call : Call) (reply : Reply) → (is_out_of_memory reply ≡ false → IsStepped s t call reply)
    → is_calm s.opening ≡ true → s.opening.state.broken ≡ false → IsCalmReply reply
calm_by laws s t call reply step calm whole = by_memory (is_out_of_memory reply) (IsCalmReply reply) (memory_calm reply)
    (λ off. let z = step off in
    let told = s.opening.tells_contents in
    let entry = entry_of s.client (length (own_entries s) + 1) call reply in
    let no_fault = last_parts (λ (e : Entry). is_fault e.happened) z.before entry (sym (ap has_fault z.ends) ∙ z.calm calm) in
    let no_damage = last_parts (λ (e : Entry). is_damage e.happened) z.before entry
    (sym (ap has_damage z.ends) ∙ z.damage (calm_tells s.opening.is_steady told s.opening.is_whole calm)) in
    let fine = fine_by (happened_of reply) no_fault.1 no_damage.1 in
    let found = laws.part told [] s.opening.state z.found z.before whole z.legal
    (All-from_recursion (λ (e : Entry). e.happened ≡ Fine) z.before (all_fine z.before no_fault.0 no_damage.0)) in
    fine_calm reply fine (laws.calls told z.found s.client call (happened_of reply) reply z.left found.0 fine z.step).1)
