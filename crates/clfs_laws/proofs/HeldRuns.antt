-- What an area holds in a legal journal, by its client's own entries alone.
use Rattle.clfs_laws.proofs.Words.{◌≡◌, ℕ, ◌+◌, ◌-◌, Bool, true, false, refl, sym, ap, ◌∙◌, subst, inl, inr, arith, List, [], ◌∷◌, ◌++◌, length, Option, Some}
use Rattle.clfs_laws.proofs.Words.{None, MatchOption, ◌==◌, if◌then◌else◌, option_map, option_map_or, option_and_then, cases_Bool, eqb-true, eqb-false}
use Rattle.clfs_laws.proofs.Words.{ne_eqb, LogEntry, Call, Entry, Refusal, Happened, Fine, Fault, Damage, Reply, State, Area, area_of, live_at}
use Rattle.clfs_laws.proofs.Words.{next_of_cursor, record_cursor, restart_cursor, newest_restart, refusal, stream_number, flushed, Outcome, outcome, answer}
use Rattle.clfs_laws.proofs.Words.{Step, Goes, Comes, IsReply, IsReplyRead, GoesOn, IsLegal, mine, held_in, held_by, AreaRow, row_of, row_in, row_after}
use Rattle.clfs_model.specs.declared.call.Call.TheVariants as calls
use Rattle.clfs_model.specs.declared.refusal.Refusal.TheVariants as refusals
use Rattle.clfs_model.specs.declared.reply.Reply.TheVariants as replies
use Rattle.clfs_model.specs.Journals.{held_after, held_through}
use Rattle.clfs_laws.proofs.RowRuns.{step_rows, damage_is}
use Rattle.clfs_laws.proofs.StepCases.{broken_step, whole_step}

-- what a row holds, or 0 where there is none
abbrev pub held_row : Option AreaRow → ℕ
held_row row = option_map_or (λ (r : AreaRow). r.held) row 0

-- what an area holds is what its row holds
held_in_is : (found : Option Area) → option_map_or (λ (area : Area). area.held) found 0 ≡ held_row (option_map row_of found)
held_in_is None = refl
held_in_is (Some area) = refl

-- what a row holds after the reply is what the rule for own entries gives
abbrev pub HoldsByRule : State → ℕ → Call → Reply → Type 0
HoldsByRule s client call reply = (number : ℕ) → held_row (row_after number (row_in s client number) call reply) ≡ held_after number (held_row (row_in s client number)) call reply

refused_by_rule : (s : State) (client : ℕ) (call : Call) (given : Refusal) → HoldsByRule s client call (replies.Refused given)
refused_by_rule s client (calls.OpenStream name) given number = refl
refused_by_rule s client (calls.CreateArea stream largest reads) given number = refl
refused_by_rule s client (calls.DeleteArea area) given number = refl
refused_by_rule s client (calls.Reserve area sizes) given number = refl
refused_by_rule s client (calls.Release area sectors) given number = refl
refused_by_rule s client (calls.Append area draft reserved sizes) given number = refl
refused_by_rule s client (calls.WriteRestart area bytes base reserved) given number = refl
refused_by_rule s client call given number = refl

-- where the area of the reply is there, its row is too
row_there : (s : State) (client given : ℕ) (area : Area) → area_of s client given ≡ Some area → row_in s client given ≡ Some (row_of area)
row_there s client given area is = ap (λ (found : Option Area). option_map row_of found) is

-- at the area of the call, and at others
at_area : (given number : ℕ) (F : ℕ → Bool → Type 0) → F given true → ((given == number) ≡ false → F number false) → F number (given == number)
at_area given number F here there = elim (cases_Bool (given == number)) [
  | inl same ↦ let G : ℕ → Type 0 = λ n. F n true in rw same (subst G (eqb-true given number same) here)
  | inr differ ↦ rw differ (there differ)
]

held_by_rule : (s : State) (client given now : ℕ) (area : Area) → area_of s client given ≡ Some area → (number : ℕ)
    → held_row (if given == number then option_map (λ (row : AreaRow). record row { held = now }) (row_in s client number) else row_in s client number)
    ≡ (if given == number then now else held_row (row_in s client number))
held_by_rule s client given now area is number =
    at_area given number (λ n b. held_row (if b then option_map (λ (row : AreaRow). record row { held = now }) (row_in s client n) else row_in s client n) ≡ (if b then now else held_row (row_in s client n)))
    (ap (λ (row : Option AreaRow). held_row (option_map (λ (r : AreaRow). record r { held = now }) row)) (row_there s client given area is)) (λ _. refl)

placed_by_rule : (s : State) (client given fewer more : ℕ) (area : Area) → area_of s client given ≡ Some area → (number : ℕ)
    → held_row (if given == number then option_map (λ (row : AreaRow). record row { held = row.held - fewer + more }) (row_in s client number) else row_in s client number)
    ≡ (if given == number then held_row (row_in s client number) - fewer + more else held_row (row_in s client number))
placed_by_rule s client given fewer more area is number =
    at_area given number (λ n b. held_row (if b then option_map (λ (row : AreaRow). record row { held = row.held - fewer + more }) (row_in s client n) else row_in s client n)
    ≡ (if b then held_row (row_in s client n) - fewer + more else held_row (row_in s client n)))
    (let there = row_there s client given area is in
    ap (λ (row : Option AreaRow). held_row (option_map (λ (r : AreaRow). record r { held = r.held - fewer + more }) row)) there
    ∙ sym (ap (λ (row : Option AreaRow). held_row row - fewer + more) there)) (λ _. refl)

-- an outcome of a call in an area
in_area_by_rule : (s : State) (client given : ℕ) (call : Call) (rest : Area → Outcome) (found : Option Area) → area_of s client given ≡ found
    → ((area : Area) → area_of s client given ≡ Some area → HoldsByRule s client call (rest area).reply)
    → HoldsByRule s client call (option_map_or rest found (outcome (replies.Refused refusals.NoSuchArea) s)).reply
in_area_by_rule s client given call rest None is each = refused_by_rule s client call refusals.NoSuchArea
in_area_by_rule s client given call rest (Some area) is each = each area is

-- an outcome of an option
option_by_rule : {A : Type 0} (s : State) (client : ℕ) (call : Call) (found : Option A) (f : A → Outcome) (other : Outcome)
    → ((x : A) → HoldsByRule s client call (f x).reply) → HoldsByRule s client call other.reply → HoldsByRule s client call (option_map_or f found other).reply
option_by_rule s client call None f other each none = none
option_by_rule s client call (Some x) f other each none = each x

-- a restart area lowers what is held by what it spends
restart_by_rule : (s : State) (client given fewer : ℕ) (area : Area) → area_of s client given ≡ Some area → (number : ℕ)
    → held_row (if given == number then option_map (λ (row : AreaRow). record row { held = row.held - fewer + 0 }) (row_in s client number) else row_in s client number)
    ≡ (if given == number then held_row (row_in s client number) - fewer else held_row (row_in s client number))
restart_by_rule s client given fewer area is number =
    placed_by_rule s client given fewer 0 area is number ∙ without_zero (given == number) (held_row (row_in s client number)) fewer
  where
    without_zero : (b : Bool) (held spent : ℕ) → (if b then held - spent + 0 else held) ≡ (if b then held - spent else held)
    without_zero true held spent = omega arith
    without_zero false held spent = refl

-- the answer of each call
answer_by_rule : (s : State) (client : ℕ) (call : Call) → HoldsByRule s client call (answer s client call).reply
answer_by_rule s client (calls.OpenStream name) =
    option_by_rule s client (calls.OpenStream name) (stream_number s name) (λ number. outcome (replies.Stream number) s)
    (outcome (replies.Stream (length s.streams + 1)) (record s { streams = s.streams ++ record { name = name; base = 0 } ∷ [] })) (λ (x : ℕ) number. refl) (λ number. refl)
answer_by_rule s client (calls.CreateArea stream largest reads) = λ number.
    at_area _ number (λ n b. held_row (if b then Some (record { stream = stream; largest = largest; reads = reads; held = 0 }) else row_in s client n)
    ≡ (if b then 0 else held_row (row_in s client n))) refl (λ _. refl)
answer_by_rule s client (calls.DeleteArea given) = λ number.
    at_area given number (λ n b. held_row (if b then None else row_in s client n) ≡ (if b then 0 else held_row (row_in s client n))) refl (λ _. refl)
answer_by_rule s client (calls.Reserve given sizes) =
    in_area_by_rule s client given (calls.Reserve given sizes) _ (area_of s client given) refl (λ (area : Area) is number. held_by_rule s client given _ area is number)
answer_by_rule s client (calls.Release given sectors) =
    in_area_by_rule s client given (calls.Release given sectors) _ (area_of s client given) refl (λ (area : Area) is number. held_by_rule s client given _ area is number)
answer_by_rule s client (calls.Align given sizes) = λ number. refl
answer_by_rule s client (calls.Append given draft is_reserved sizes) =
    in_area_by_rule s client given (calls.Append given draft is_reserved sizes) _ (area_of s client given) refl
    (λ (area : Area) is number. placed_by_rule s client given _ _ area is number)
answer_by_rule s client (calls.Flush given) = λ number. refl
answer_by_rule s client (calls.FlushTo given lsn) = λ number. refl
answer_by_rule s client (calls.Read given lsn mode) =
    in_area_by_rule s client given (calls.Read given lsn mode) _ (area_of s client given) refl (λ (area : Area) is.
    option_by_rule s client (calls.Read given lsn mode) (live_at s area.stream lsn) _ _ (λ (entry : LogEntry) number. refl) (λ number. refl))
answer_by_rule s client (calls.ReadNext given cursor) =
    in_area_by_rule s client given (calls.ReadNext given cursor) _ (area_of s client given) refl (λ (area : Area) is.
    option_by_rule s client (calls.ReadNext given cursor) (option_and_then (next_of_cursor s area) (record_cursor area cursor)) _ _ (λ (entry : LogEntry) number. refl) (λ number. refl))
answer_by_rule s client (calls.EndRead given cursor) = λ number. refl
answer_by_rule s client (calls.WriteRestart given bytes base is_reserved) =
    in_area_by_rule s client given (calls.WriteRestart given bytes base is_reserved) _ (area_of s client given) refl
    (λ (area : Area) is number. restart_by_rule s client given _ area is number)
answer_by_rule s client (calls.ReadRestart given) =
    in_area_by_rule s client given (calls.ReadRestart given) _ (area_of s client given) refl (λ (area : Area) is.
    option_by_rule s client (calls.ReadRestart given) (newest_restart s area.stream) _ _ (λ (entry : LogEntry) number. refl) (λ number. refl))
answer_by_rule s client (calls.PreviousRestart given cursor) =
    in_area_by_rule s client given (calls.PreviousRestart given cursor) _ (area_of s client given) refl (λ (area : Area) is.
    option_by_rule s client (calls.PreviousRestart given cursor) (option_and_then (next_of_cursor s area) (restart_cursor area cursor)) _ _ (λ (entry : LogEntry) number. refl) (λ number. refl))
answer_by_rule s client (calls.Advance given lsn) =
    in_area_by_rule s client given (calls.Advance given lsn) _ (area_of s client given) refl (λ (area : Area) is number. refl)
answer_by_rule s client (calls.SetArchive on) = λ number. refl
answer_by_rule s client (calls.SetArchiveTail lsn) = λ number. refl
answer_by_rule s client calls.ListExtents = λ number. refl
answer_by_rule s client (calls.InstallPolicy policy) = λ number. refl
answer_by_rule s client (calls.RemovePolicy kind) = λ number. refl
answer_by_rule s client (calls.SetSize containers) = λ number. refl
answer_by_rule s client (calls.Info stream) = λ number. refl

-- what is read of a record changes nothing of it
found_by_rule : (s : State) (client : ℕ) (call : Call) (cursor : ℕ) (entry : LogEntry) → HoldsByRule s client call (replies.Found cursor entry)
found_by_rule s client (calls.CreateArea stream largest reads) cursor entry number = refl
found_by_rule s client (calls.DeleteArea area) cursor entry number = refl
found_by_rule s client (calls.Reserve area sizes) cursor entry number = refl
found_by_rule s client (calls.Release area sectors) cursor entry number = refl
found_by_rule s client (calls.Append area draft reserved sizes) cursor entry number = refl
found_by_rule s client (calls.WriteRestart area bytes base reserved) cursor entry number = refl
found_by_rule s client call cursor entry number = refl

next_by_rule : (s : State) (client : ℕ) (call : Call) (entry : LogEntry) → HoldsByRule s client call (replies.Next entry)
next_by_rule s client (calls.CreateArea stream largest reads) entry number = refl
next_by_rule s client (calls.DeleteArea area) entry number = refl
next_by_rule s client (calls.Reserve area sizes) entry number = refl
next_by_rule s client (calls.Release area sectors) entry number = refl
next_by_rule s client (calls.Append area draft reserved sizes) entry number = refl
next_by_rule s client (calls.WriteRestart area bytes base reserved) entry number = refl
next_by_rule s client call entry number = refl

-- a reply that equals another
equal_by_rule : (s : State) (client : ℕ) (call : Call) (answered reply : Reply) → reply ≡ answered → HoldsByRule s client call answered → HoldsByRule s client call reply
equal_by_rule s client call answered reply is rule = let F : Reply → Type 0 = HoldsByRule s client call in subst F (sym is) rule

read_by_rule : (stable : ℕ) (s : State) (client : ℕ) (call : Call) (answered reply : Reply) → IsReplyRead stable answered reply → HoldsByRule s client call answered → HoldsByRule s client call reply
read_by_rule stable s client call (replies.Found cursor entry) reply is rule =
    equal_by_rule s client call (replies.Found cursor is.0) reply is.1.1 (found_by_rule s client call cursor is.0)
read_by_rule stable s client call (replies.Next entry) reply is rule =
    equal_by_rule s client call (replies.Next is.0) reply is.1.1 (next_by_rule s client call is.0)
read_by_rule stable s client call (replies.Stream n) reply is rule = equal_by_rule s client call (replies.Stream n) reply is rule
read_by_rule stable s client call (replies.Area n) reply is rule = equal_by_rule s client call (replies.Area n) reply is rule
read_by_rule stable s client call replies.Done reply is rule = equal_by_rule s client call replies.Done reply is rule
read_by_rule stable s client call (replies.Held n) reply is rule = equal_by_rule s client call (replies.Held n) reply is rule
read_by_rule stable s client call (replies.Sectors n) reply is rule = equal_by_rule s client call (replies.Sectors n) reply is rule
read_by_rule stable s client call (replies.Placed lsn) reply is rule = equal_by_rule s client call (replies.Placed lsn) reply is rule
read_by_rule stable s client call (replies.Flushed lsn) reply is rule = equal_by_rule s client call (replies.Flushed lsn) reply is rule
read_by_rule stable s client call (replies.Base lsn) reply is rule = equal_by_rule s client call (replies.Base lsn) reply is rule
read_by_rule stable s client call (replies.Tail lsn) reply is rule = equal_by_rule s client call (replies.Tail lsn) reply is rule
read_by_rule stable s client call (replies.Extents extents) reply is rule = equal_by_rule s client call (replies.Extents extents) reply is rule
read_by_rule stable s client call (replies.Containers n) reply is rule = equal_by_rule s client call (replies.Containers n) reply is rule
read_by_rule stable s client call (replies.Info info) reply is rule = equal_by_rule s client call (replies.Info info) reply is rule
read_by_rule stable s client call (replies.Refused given) reply is rule = equal_by_rule s client call (replies.Refused given) reply is rule

reply_by_rule : (told : Bool) (stable : ℕ) (s : State) (client : ℕ) (call : Call) (answered reply : Reply) → IsReply told stable answered reply → HoldsByRule s client call answered → HoldsByRule s client call reply
reply_by_rule true stable s client call answered reply is rule = equal_by_rule s client call answered reply is rule
reply_by_rule false stable s client call answered reply is rule = read_by_rule stable s client call answered reply is rule

fine_by_rule : (told : Bool) (s : State) (client : ℕ) (call : Call) (reply : Reply) (t : State) (first : Option Refusal)
    → MatchOption first (Comes told (flushed s) (answer s client call) reply t) (λ r. (reply ≡ replies.Refused r) × (t ≡ s)) → HoldsByRule s client call reply
fine_by_rule told s client call reply t None comes = reply_by_rule told (flushed s) s client call (answer s client call).reply reply comes.0 (answer_by_rule s client call)
fine_by_rule told s client call reply t (Some first) comes = equal_by_rule s client call (replies.Refused first) reply comes.0 (refused_by_rule s client call first)

goes_by_rule : (told : Bool) (s : State) (client : ℕ) (call : Call) (happened : Happened) (reply : Reply) (t : State)
    → Goes told s client call happened reply t → HoldsByRule s client call reply
goes_by_rule told s client call Fine reply t goes = fine_by_rule told s client call reply t (refusal s client call) goes
goes_by_rule told s client call Fault reply t goes = equal_by_rule s client call (replies.Refused refusals.DiskFault) reply goes.1.1.0 (refused_by_rule s client call refusals.DiskFault)
goes_by_rule told s client call Damage reply t goes =
    let given = damage_is reply goes.1.1.0 in equal_by_rule s client call (replies.Refused given.0) reply given.1 (refused_by_rule s client call given.0)

step_by_rule : (told : Bool) (s : State) (client : ℕ) (call : Call) (happened : Happened) (reply : Reply) (t : State) (broken : Bool) → s.broken ≡ broken
    → Step told s client call happened reply t → HoldsByRule s client call reply
step_by_rule told s client call happened reply t true is step =
    equal_by_rule s client call (replies.Refused refusals.Broken) reply (broken_step told s client call happened reply t is step).0 (refused_by_rule s client call refusals.Broken)
step_by_rule told s client call happened reply t false is step = elim (whole_step told s client call happened reply t is step) [
  | inl want ↦ equal_by_rule s client call (replies.Refused refusals.NoMemory) reply want.1.0 (refused_by_rule s client call refusals.NoMemory)
  | inr goes ↦ goes_by_rule told s client call happened reply t goes
]

-- what an area holds through entries that go on after others
held_through_entries : (told : Bool) (before : List Entry) (s t : State) (entries : List Entry) (client number : ℕ) → GoesOn told before s entries t
    → held_row (row_in t client number) ≡ held_through number (held_row (row_in s client number)) (mine entries client)
held_through_entries told before s t [] client number goes = ap (λ (x : State). held_row (row_in x client number)) goes
held_through_entries told before s t (entry ∷ entries) client number goes =
    let step = goes.1.0.step in
    let rows = step_rows told s entry.client entry.call entry.happened entry.reply goes.0 step in
    let rule = step_by_rule told s entry.client entry.call entry.happened entry.reply goes.0 s.broken refl step in
    let rest = held_through_entries told (before ++ entry ∷ []) goes.0 t entries client number goes.1.1 in
    elim (cases_Bool (entry.client == client)) [
      | inl same ↦
          let F : ℕ → Type 0 = λ c. held_row (row_in goes.0 c number) ≡ held_after number (held_row (row_in s c number)) entry.call entry.reply in
          let own : F client = subst F (eqb-true entry.client client same) (ap held_row (rows.own number) ∙ rule number) in
          rw same (rest ∙ ap (λ held. held_through number held (mine entries client)) own)
      | inr differ ↦
          let differs : entry.client ≡ client → ⊥ = eqb-false entry.client client differ in
          let other : (client == entry.client) ≡ false = ne_eqb client entry.client (λ e. differs (sym e)) in
          rw differ (rest ∙ ap (λ (row : Option AreaRow). held_through number (held_row row) (mine entries client)) (rows.others client number other))
    ]

-- what an area holds is computed from the opening state and its client's own entries
pub held_is : (told : Bool) (s t : State) (journal : List Entry) (client number : ℕ) → IsLegal told journal s t
    → held_in t client number ≡ held_by s client (mine journal client) number
held_is told s t journal client number legal =
    held_in_is (area_of t client number) ∙ held_through_entries told [] s t journal client number legal
    ∙ ap (λ held. held_through number held (mine journal client)) (sym (held_in_is (area_of s client number)))
