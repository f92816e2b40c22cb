-- The rows of a client's areas in a legal journal, by its own entries alone.
use Rattle.clfs_laws.proofs.Words.{◌≡◌, ℕ, Bool, true, false, refl, sym, ap, ◌∙◌, subst, inl, inr, List, [], ◌∷◌, ◌++◌, Option, Some, None, MatchOption, ◌==◌}
use Rattle.clfs_laws.proofs.Words.{cases_Bool, eqb-true, eqb-false, ne_eqb, LogEntry, Call, Entry, Refusal, Happened, Fine, Fault, Damage, Reply, State, Area}
use Rattle.clfs_laws.proofs.Words.{flushed, refusal, answer, Step, Goes, Comes, IsReply, IsReplyRead, IsDamaged, GoesOn, mine, AreaRow, row_in, row_after}
use Rattle.clfs_laws.proofs.Words.{row_through}
use Rattle.clfs_model.specs.declared.call.Call.TheVariants as calls
use Rattle.clfs_model.specs.declared.refusal.Refusal.TheVariants as refusals
use Rattle.clfs_model.specs.declared.reply.Reply.TheVariants as replies
use Rattle.clfs_laws.proofs.RowChanges.{row_among}
use Rattle.clfs_laws.proofs.RowsOfCalls.{answer_rows}
use Rattle.clfs_laws.proofs.StepCases.{broken_step, whole_step}

-- the replies that change no row, whatever the call
refused_after : (number : ℕ) (row : Option AreaRow) (call : Call) (given : Refusal) → row_after number row call (replies.Refused given) ≡ row
refused_after number row (calls.OpenStream name) given = refl
refused_after number row (calls.CreateArea stream largest reads) given = refl
refused_after number row (calls.DeleteArea area) given = refl
refused_after number row (calls.Reserve area sizes) given = refl
refused_after number row (calls.Release area sectors) given = refl
refused_after number row (calls.Append area draft reserved sizes) given = refl
refused_after number row (calls.WriteRestart area bytes base reserved) given = refl
refused_after number row call given = refl

found_after : (number : ℕ) (row : Option AreaRow) (call : Call) (cursor : ℕ) (entry : LogEntry) → row_after number row call (replies.Found cursor entry) ≡ row
found_after number row (calls.CreateArea stream largest reads) cursor entry = refl
found_after number row (calls.DeleteArea area) cursor entry = refl
found_after number row (calls.Reserve area sizes) cursor entry = refl
found_after number row (calls.Release area sectors) cursor entry = refl
found_after number row (calls.Append area draft reserved sizes) cursor entry = refl
found_after number row (calls.WriteRestart area bytes base reserved) cursor entry = refl
found_after number row call cursor entry = refl

next_after : (number : ℕ) (row : Option AreaRow) (call : Call) (entry : LogEntry) → row_after number row call (replies.Next entry) ≡ row
next_after number row (calls.CreateArea stream largest reads) entry = refl
next_after number row (calls.DeleteArea area) entry = refl
next_after number row (calls.Reserve area sizes) entry = refl
next_after number row (calls.Release area sectors) entry = refl
next_after number row (calls.Append area draft reserved sizes) entry = refl
next_after number row (calls.WriteRestart area bytes base reserved) entry = refl
next_after number row call entry = refl

-- what is read of a record changes no row
read_after : (stable : ℕ) (number : ℕ) (row : Option AreaRow) (call : Call) (answered reply : Reply) → IsReplyRead stable answered reply → row_after number row call reply ≡ row_after number row call answered
read_after stable number row call (replies.Found cursor entry) reply is =
    ap (λ (r : Reply). row_after number row call r) is.1.1 ∙ found_after number row call cursor is.0 ∙ sym (found_after number row call cursor entry)
read_after stable number row call (replies.Next entry) reply is =
    ap (λ (r : Reply). row_after number row call r) is.1.1 ∙ next_after number row call is.0 ∙ sym (next_after number row call entry)
read_after stable number row call (replies.Stream n) reply is = ap (λ (r : Reply). row_after number row call r) is
read_after stable number row call (replies.Area n) reply is = ap (λ (r : Reply). row_after number row call r) is
read_after stable number row call replies.Done reply is = ap (λ (r : Reply). row_after number row call r) is
read_after stable number row call (replies.Held n) reply is = ap (λ (r : Reply). row_after number row call r) is
read_after stable number row call (replies.Sectors n) reply is = ap (λ (r : Reply). row_after number row call r) is
read_after stable number row call (replies.Placed lsn) reply is = ap (λ (r : Reply). row_after number row call r) is
read_after stable number row call (replies.Flushed lsn) reply is = ap (λ (r : Reply). row_after number row call r) is
read_after stable number row call (replies.Base lsn) reply is = ap (λ (r : Reply). row_after number row call r) is
read_after stable number row call (replies.Tail lsn) reply is = ap (λ (r : Reply). row_after number row call r) is
read_after stable number row call (replies.Extents extents) reply is = ap (λ (r : Reply). row_after number row call r) is
read_after stable number row call (replies.Containers n) reply is = ap (λ (r : Reply). row_after number row call r) is
read_after stable number row call (replies.Info info) reply is = ap (λ (r : Reply). row_after number row call r) is
read_after stable number row call (replies.Refused given) reply is = ap (λ (r : Reply). row_after number row call r) is

reply_after : (told : Bool) (stable : ℕ) (number : ℕ) (row : Option AreaRow) (call : Call) (answered reply : Reply) → IsReply told stable answered reply → row_after number row call reply ≡ row_after number row call answered
reply_after true stable number row call answered reply is = ap (λ (r : Reply). row_after number row call r) is
reply_after false stable number row call answered reply is = read_after stable number row call answered reply is

-- a step changes the rows of its client by the call and the reply, and those of no other client
pub record StepsRows (s : State) (client : ℕ) (call : Call) (reply : Reply) (t : State) : Type 0 where
  pub own : (number : ℕ) → row_in t client number ≡ row_after number (row_in s client number) call reply
  pub others : (of_client number : ℕ) → (of_client == client) ≡ false → row_in t of_client number ≡ row_in s of_client number

-- a refusal that leaves the areas
refused_rows : (s : State) (client : ℕ) (call : Call) (reply : Reply) (given : Refusal) (t : State) → reply ≡ replies.Refused given → t.areas ≡ s.areas → StepsRows s client call reply t
refused_rows s client call reply given t is same = record {
  own = λ number. ap (λ (areas : List Area). row_among areas client number) same
      ∙ sym (ap (λ (r : Reply). row_after number (row_in s client number) call r) is ∙ refused_after number (row_in s client number) call given);
  others = λ of_client number differ. ap (λ (areas : List Area). row_among areas of_client number) same;
}

areas_same : (s t : State) → t ≡ s → t.areas ≡ s.areas
areas_same s t same = ap (λ (x : State). x.areas) same

answered_rows : (told : Bool) (s : State) (client : ℕ) (call : Call) (reply : Reply) (t : State) → refusal s client call ≡ None
    → Comes told (flushed s) (answer s client call) reply t → StepsRows s client call reply t
answered_rows told s client call reply t none comes =
    let rows = answer_rows s client call none in
    let same : t.areas ≡ (answer s client call).state.areas = areas_same (answer s client call).state t comes.1 in
    record {
      own = λ number. ap (λ (areas : List Area). row_among areas client number) same ∙ rows.own number
          ∙ sym (reply_after told (flushed s) number (row_in s client number) call (answer s client call).reply reply comes.0);
      others = λ of_client number differ. ap (λ (areas : List Area). row_among areas of_client number) same ∙ rows.others of_client number differ;
    }

fine_rows : (told : Bool) (s : State) (client : ℕ) (call : Call) (reply : Reply) (t : State) (first : Option Refusal) → refusal s client call ≡ first
    → MatchOption first (Comes told (flushed s) (answer s client call) reply t) (λ r. (reply ≡ replies.Refused r) × (t ≡ s)) → StepsRows s client call reply t
fine_rows told s client call reply t None is comes = answered_rows told s client call reply t is comes
fine_rows told s client call reply t (Some first) is comes = refused_rows s client call reply first t comes.0 (areas_same s t comes.1)

pub damage_is : (reply : Reply) → IsDamaged reply → (given : Refusal) × (reply ≡ replies.Refused given)
damage_is (replies.Refused given) is = (given, refl)
damage_is _ is = absurd is

goes_rows : (told : Bool) (s : State) (client : ℕ) (call : Call) (happened : Happened) (reply : Reply) (t : State)
    → Goes told s client call happened reply t → StepsRows s client call reply t
goes_rows told s client call Fine reply t goes = fine_rows told s client call reply t (refusal s client call) refl goes
goes_rows told s client call Fault reply t goes = refused_rows s client call reply refusals.DiskFault t goes.1.1.0 (ap (λ (x : State). x.areas) goes.1.1.1)
goes_rows told s client call Damage reply t goes =
    let given = damage_is reply goes.1.1.0 in refused_rows s client call reply given.0 t given.1 (ap (λ (x : State). x.areas) goes.1.1.1)

rows_by : (told : Bool) (s : State) (client : ℕ) (call : Call) (happened : Happened) (reply : Reply) (t : State) (broken : Bool) → s.broken ≡ broken
    → Step told s client call happened reply t → StepsRows s client call reply t
rows_by told s client call happened reply t true is step =
    let broken = broken_step told s client call happened reply t is step in refused_rows s client call reply refusals.Broken t broken.0 (areas_same s t broken.1)
rows_by told s client call happened reply t false is step = elim (whole_step told s client call happened reply t is step) [
  | inl want ↦ refused_rows s client call reply refusals.NoMemory t want.1.0 (areas_same s t want.1.1)
  | inr goes ↦ goes_rows told s client call happened reply t goes
]

-- whatever the step
pub step_rows : (told : Bool) (s : State) (client : ℕ) (call : Call) (happened : Happened) (reply : Reply) (t : State)
    → Step told s client call happened reply t → StepsRows s client call reply t
step_rows told s client call happened reply t step = rows_by told s client call happened reply t s.broken refl step

-- the rows of a client through entries that go on after others
pub rows_through : (told : Bool) (before : List Entry) (s t : State) (entries : List Entry) (client number : ℕ) → GoesOn told before s entries t
    → row_in t client number ≡ row_through number (row_in s client number) (mine entries client)
rows_through told before s t [] client number goes = ap (λ (areas : List Area). row_among areas client number) (areas_same s t goes)
rows_through told before s t (entry ∷ entries) client number goes =
    let step = step_rows told s entry.client entry.call entry.happened entry.reply goes.0 goes.1.0.step in
    let rest = rows_through told (before ++ entry ∷ []) goes.0 t entries client number goes.1.1 in
    elim (cases_Bool (entry.client == client)) [
      | inl same ↦
          let is : entry.client ≡ client = eqb-true entry.client client same in
          let F : ℕ → Type 0 = λ c. row_in goes.0 c number ≡ row_after number (row_in s c number) entry.call entry.reply in
          let own : row_in goes.0 client number ≡ row_after number (row_in s client number) entry.call entry.reply = subst F is (step.own number) in
          rw same (rest ∙ ap (λ (row : Option AreaRow). row_through number row (mine entries client)) own)
      | inr differ ↦
          let differs : entry.client ≡ client → ⊥ = eqb-false entry.client client differ in
          let other : (client == entry.client) ≡ false = ne_eqb client entry.client (λ e. differs (sym e)) in
          rw differ (rest ∙ ap (λ (row : Option AreaRow). row_through number row (mine entries client)) (step.others client number other))
    ]
