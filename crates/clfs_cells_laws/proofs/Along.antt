-- Along the calls of a table's store: what is always true of its log, and what a crash leaves in each call of the log.
use Rattle.clfs_cells_laws.proofs.Words.{◌≡◌, ◌⊎◌, ℕ, ◌≤◌, Bool, true, false, refl, sym, subst, ap, ◌∙◌, inl, inr, List, [], ◌∷◌, Option, Some, None}
use Rattle.clfs_cells_laws.proofs.Words.{if◌then◌else◌, find, MatchBool, MatchOption, option_map, option_map_or, LogEntry, Stream, Call, Refusal, Happened}
use Rattle.clfs_cells_laws.proofs.Words.{Fine, Reply, Area, State, Outcome, answer, outcome, flushed, live_at, hold_sizes, with_less_held, with_more_held}
use Rattle.clfs_cells_laws.proofs.Words.{without_cursor, refusal, stream_number, asks, fine_outcome, grown, own_sum, area_of, change_area, change_first}
use Rattle.clfs_cells_laws.proofs.Words.{is_area, log_of, Step, Comes, Goes, IsBroken, takes_memory, IsSurvivor, IsValid, Plan, is_committed, records_after}
use Rattle.clfs_cells_laws.proofs.Words.{table, table_name, Along, IsSafe, IsSafeFrom, LeavesEither}
use Rattle.std.specs.Prelude.{IsTrue}
use Rattle.clfs_lsn.specs.declared.cursor.Mode.{Mode}
use Rattle.clfs_model.specs.declared.call.Call.TheVariants as calls
use Rattle.clfs_model.specs.declared.refusal.Refusal.TheVariants as refusals
use Rattle.clfs_model.specs.declared.reply.Reply.TheVariants as replies
use Rattle.clfs_model.specs.Step.{IsOutOfMemory}
use Rattle.clfs_cells.specs.Plans.{calls as then_calls}
use Rattle.clfs_cells_laws.proofs.FirstRestart.{keeps_grown, table_by}
use Rattle.clfs_cells_laws.proofs.LeftBy.{quiet_left, safe_higher}
use Rattle.clfs_cells_laws.proofs.OwnCalls.{Laws, find_changed}
use Rattle.clfs_cells_laws.proofs.TableLog.{reads_as}
use Rattle.clfs_cells_laws.proofs.Ways.{Way, broken_way, came, damaged, faulted, lacked, refused, way}

-- what other laws say of the flushed LSN
abbrev pub Rising : Type 0
Rising = (told : Bool) (s : State) (client : ℕ) (call : Call) (happened : Happened) (reply : Reply) (t : State) → IsValid s
    → Step told s client call happened reply t → flushed s ≤ flushed t

-- ---- an area

-- an area of this client and number, on this stream
pub record IsOf (client number stream : ℕ) (a : Area) : Type 0 where
  pub client_is : a.client ≡ client
  pub number_is : a.number ≡ number
  pub stream_is : a.stream ≡ stream

abbrev pub IsOwn : ℕ → ℕ → ℕ → State → Type 0
IsOwn client number stream l = (a : Area) → area_of l client number ≡ Some a → IsOf client number stream a

-- a change of an area that leaves these
pub record KeepsArea (f : Area → Area) : Type 0 where
  pub client : (a : Area) → (f a).client ≡ a.client
  pub number : (a : Area) → (f a).number ≡ a.number
  pub stream : (a : Area) → (f a).stream ≡ a.stream

pub own_same : (client number stream : ℕ) (l t : State) → t.areas ≡ l.areas → IsOwn client number stream l → IsOwn client number stream t
own_same client number stream l t areas own a is = own a (sym (ap (λ (xs : List Area). find (is_area client number) xs) areas) ∙ is)

pub own_changed : (client number stream : ℕ) (l t : State) (f : Area → Area) → KeepsArea f → t.areas ≡ change_first (is_area client number) f l.areas
    → IsOwn client number stream l → IsOwn client number stream t
own_changed client number stream l t f keeps areas own a is =
    go (area_of l client number) refl
    (sym (find_changed f (record { client = keeps.client; number = keeps.number }) client number l.areas)
    ∙ sym (ap (λ (xs : List Area). find (is_area client number) xs) areas) ∙ is)
  where
    go : (o : Option Area) → area_of l client number ≡ o → option_map f o ≡ Some a → IsOf client number stream a
    go None at made = absurd (cc made)
    go (Some b) at made =
        let same : f b ≡ a = cc made in
        let its = own b at in
        subst (IsOf client number stream) same (record {
          client_is = keeps.client b ∙ its.client_is;
          number_is = keeps.number b ∙ its.number_is;
          stream_is = keeps.stream b ∙ its.stream_is;
        })

-- ---- calls that leave the records and the streams

pub record IsQuiet (client number stream : ℕ) (l t : State) : Type 0 where
  pub records : t.records ≡ l.records
  pub streams : t.streams ≡ l.streams
  pub broken : t.broken ≡ l.broken
  pub own : IsOwn client number stream t

same_quiet : (client number stream : ℕ) (l : State) → IsOwn client number stream l → IsQuiet client number stream l l
same_quiet client number stream l own = record { records = refl; streams = refl; broken = refl; own = own }

changed_quiet : (client number stream : ℕ) (l : State) (f : Area → Area) → KeepsArea f → IsOwn client number stream l
    → IsQuiet client number stream l (change_area f client number l)
changed_quiet client number stream l f keeps own = record {
  records = refl;
  streams = refl;
  broken = refl;
  own = own_changed client number stream l (change_area f client number l) f keeps refl own;
}

-- the same by an area's own names
by_names : (client number stream : ℕ) (l : State) (f : Area → Area) (a : Area) → KeepsArea f → IsOf client number stream a → IsOwn client number stream l
    → IsQuiet client number stream l (change_area f a.client a.number l)
by_names client number stream l f a keeps its own =
    subst (λ (c : ℕ). IsQuiet client number stream l (change_area f c a.number l)) (sym its.client_is)
    (subst (λ (n : ℕ). IsQuiet client number stream l (change_area f client n l)) (sym its.number_is) (changed_quiet client number stream l f keeps own))

over_quiet : (client number stream : ℕ) (l : State) (go : Area → Outcome) → IsOwn client number stream l
    → ((a : Area) → IsOf client number stream a → IsQuiet client number stream l (go a).state)
    → IsQuiet client number stream l (option_map_or go (area_of l client number) (outcome (replies.Refused refusals.NoSuchArea) l)).state
over_quiet client number stream l go own each = by (area_of l client number) refl
  where
    by : (o : Option Area) → area_of l client number ≡ o → IsQuiet client number stream l (option_map_or go o (outcome (replies.Refused refusals.NoSuchArea) l)).state
    by None is = same_quiet client number stream l own
    by (Some a) is = each a (own a is)

maybe_quiet : {X : Type 0} (client number stream : ℕ) (l : State) (go : X → Outcome) (reply : Reply) (o : Option X) → IsOwn client number stream l
    → ((x : X) → IsQuiet client number stream l (go x).state) → IsQuiet client number stream l (option_map_or go o (outcome reply l)).state
maybe_quiet client number stream l go reply None own each = same_quiet client number stream l own
maybe_quiet client number stream l go reply (Some x) own each = each x

-- the calls of a store that are so
pub data Quiet (number : ℕ) : Call → Type 0 where
  reserves : (sizes : List ℕ) → Quiet number (calls.Reserve number sizes)
  releases : (sectors : ℕ) → Quiet number (calls.Release number sectors)
  reads : (lsn : ℕ) (mode : Mode) → Quiet number (calls.Read number lsn mode)
  reads_on : (cursor : ℕ) → Quiet number (calls.ReadNext number cursor)
  ends_read : (cursor : ℕ) → Quiet number (calls.EndRead number cursor)
  asks_of : (stream : ℕ) → Quiet number (calls.Info stream)
  reads_restart : Quiet number (calls.ReadRestart number)

held_quiet : (client number stream : ℕ) (l : State) (sizes given : List ℕ) (a : Area) → IsOf client number stream a → IsOwn client number stream l
    → IsQuiet client number stream l (hold_sizes a given (grown l (own_sum sizes)))
held_quiet client number stream l sizes [] a its own =
    let grew = keeps_grown l (own_sum sizes) in record {
      records = grew.records;
      streams = grew.streams;
      broken = grew.broken;
      own = own_same client number stream l (grown l (own_sum sizes)) grew.areas own;
    }
held_quiet client number stream l sizes (n ∷ given) a its own =
    let g : State = grown l (own_sum sizes) in
    let grew = keeps_grown l (own_sum sizes) in
    let next = by_names client number stream g (with_more_held (own_sum (n ∷ given))) a (record { client = λ b. refl; number = λ b. refl; stream = λ b. refl }) its
    (own_same client number stream l g grew.areas own) in record {
      records = next.records ∙ grew.records;
      streams = next.streams ∙ grew.streams;
      broken = next.broken ∙ grew.broken;
      own = next.own;
    }

pub quiet_answer : (client number stream : ℕ) (l : State) (call : Call) → Quiet number call → IsOwn client number stream l
    → IsQuiet client number stream l (answer l client call).state
quiet_answer client number stream l call (reserves sizes) own = over_quiet client number stream l _ own (λ a its. held_quiet client number stream l sizes sizes a its own)
quiet_answer client number stream l call (releases sectors) own = over_quiet client number stream l _ own
    (λ a its. by_names client number stream l (with_less_held sectors) a (record { client = λ b. refl; number = λ b. refl; stream = λ b. refl }) its own)
quiet_answer client number stream l call (reads lsn mode) own = over_quiet client number stream l _ own
    (λ a its. maybe_quiet client number stream l _ _ (live_at l a.stream lsn) own
    (λ entry. by_names client number stream l _ a (record { client = λ b. refl; number = λ b. refl; stream = λ b. refl }) its own))
quiet_answer client number stream l call (reads_on cursor) own = over_quiet client number stream l _ own
    (λ a its. maybe_quiet client number stream l _ _ _ own
    (λ entry. by_names client number stream l _ a (record { client = λ b. refl; number = λ b. refl; stream = λ b. refl }) its own))
quiet_answer client number stream l call (ends_read cursor) own =
    changed_quiet client number stream l (without_cursor cursor) (record { client = λ b. refl; number = λ b. refl; stream = λ b. refl }) own
quiet_answer client number stream l call (asks_of other) own = same_quiet client number stream l own
quiet_answer client number stream l call reads_restart own = over_quiet client number stream l _ own
    (λ a its. maybe_quiet client number stream l _ _ _ own
    (λ entry. by_names client number stream l _ a (record { client = λ b. refl; number = λ b. refl; stream = λ b. refl }) its own))

-- ---- what is always true of the log

-- A log that isn't broken, with a table on a stream, on which the client's area is. What isn't on the disk counts for nothing, and a transaction has no commit.
pub record IsTable (client number stream txn : ℕ) (cells : List ℕ) (l : State) : Type 0 where
  pub valid : IsValid l
  pub whole : l.broken ≡ false
  pub named : stream_number l table_name ≡ Some stream
  pub own : IsOwn client number stream l
  pub is : table l ≡ cells
  pub uncommitted : 1 ≤ txn → is_committed (records_after l stream) txn ≡ false
  pub safe : IsSafe l stream

-- the same, or the log is broken
abbrev pub IsKept : ℕ → ℕ → ℕ → ℕ → List ℕ → State → Type 0
IsKept client number stream txn cells l = (l.broken ≡ true) ⊎ IsTable client number stream txn cells l

over : List Stream → List LogEntry → State
over streams records = record (log_of 1 16 4 4) { streams = streams; records = records }

pub safe_by : (bound : ℕ) (l t : State) (stream : ℕ) → t.streams ≡ l.streams → t.records ≡ l.records → IsSafeFrom bound l stream → IsSafeFrom bound t stream
unfolding over
safe_by bound l t stream p q safe =
    subst (λ (ss : List Stream). IsSafeFrom bound (over ss t.records) stream) (sym p)
    (subst (λ (rs : List LogEntry). IsSafeFrom bound (over l.streams rs) stream) (sym q) safe)

pub named_by : (l t : State) (stream : ℕ) → t.streams ≡ l.streams → stream_number l table_name ≡ Some stream → stream_number t table_name ≡ Some stream
unfolding over
named_by l t stream p named = ap (λ (ss : List Stream). stream_number (over ss []) table_name) p ∙ named

quiet_kept : (client number stream txn : ℕ) (cells : List ℕ) (l t : State) → IsTable client number stream txn cells l → IsQuiet client number stream l t → IsValid t
    → flushed l ≤ flushed t → IsTable client number stream txn cells t
quiet_kept client number stream txn cells l t on quiet valid rises = record {
  valid = valid;
  whole = quiet.broken ∙ on.whole;
  named = named_by l t stream quiet.streams on.named;
  own = quiet.own;
  is = table_by t l quiet.records quiet.streams ∙ on.is;
  uncommitted = λ some. ap (λ rows. is_committed rows txn) (reads_as l t stream quiet.streams quiet.records).records ∙ on.uncommitted some;
  safe = safe_higher (flushed l) (flushed t) t stream rises (safe_by (flushed l) l t stream quiet.streams quiet.records on.safe);
}

-- ---- one call

-- what is so of the log and of what the call answers, is so where nothing happens
pub fine_state : (P : State → Type 0) (l : State) (client : ℕ) (call : Call) → l.broken ≡ false → P l
    → (refusal l client call ≡ None → P (answer l client call).state) → P (fine_outcome l (asks client call)).state
unfolding fine_outcome
fine_state P l client call whole same answered =
    subst (λ (b : Bool). P (if b then outcome (replies.Refused refusals.Broken) l
    else option_map_or (λ first. outcome (replies.Refused first) l) (refusal l client call) (answer l client call)).state) (sym whole) (by (refusal l client call) refl)
  where
    by : (o : Option Refusal) → refusal l client call ≡ o → P (option_map_or (λ first. outcome (replies.Refused first) l) o (answer l client call)).state
    by None is = answered is
    by (Some first) is = same

-- what a step leaves
pub step_state : (P : State → Type 0) (l : State) (client : ℕ) (call : Call) (happened : Happened) (reply : Reply) (mid : State) → l.broken ≡ false
    → Step true l client call happened reply mid → P l → (refusal l client call ≡ None → P (answer l client call).state) → (mid.broken ≡ true) ⊎ P mid
step_state P l client call happened reply mid whole step same answered = by (way true l client call happened reply mid whole step)
  where
    by : Way true l client call reply mid → (mid.broken ≡ true) ⊎ P mid
    by (lacked takes is at) = inr (subst P (sym at) same)
    by (came none comes) = inr (subst P (sym comes.1) (answered none))
    by (refused first by_it is at) = inr (subst P (sym at) same)
    by (faulted called is at) = inl (ap (λ (x : State). x.broken) at)
    by (damaged read is at) = inl (ap (λ (x : State). x.broken) at)

-- A step that nothing stops.
pub fine_step : (l : State) (client : ℕ) (call : Call) → l.broken ≡ false → refusal l client call ≡ None
    → Step true l client call Fine (answer l client call).reply (answer l client call).state
unfolding Step
fine_step l client call whole none =
    let reply : Reply = (answer l client call).reply in
    let t : State = (answer l client call).state in
    let goes : Goes true l client call Fine reply t
    = subst (λ (o : Option Refusal). MatchOption o (Comes true (flushed l) (answer l client call) reply t) (λ first. (reply ≡ replies.Refused first) × (t ≡ l)))
    (sym none) (refl, refl) in
    subst (λ (b : Bool). MatchBool b (IsBroken l reply t) ((IsTrue (takes_memory call) × IsOutOfMemory l reply t) ⊎ Goes true l client call Fine reply t))
    (sym whole) (inr goes)

-- ---- along plans

module _ {A : Type 0} (laws : Laws) (rising : Rising) (client number stream txn : ℕ) (cells before after : List ℕ)
    (among : (l : State) → table l ≡ cells → (table l ≡ before) ⊎ (table l ≡ after)) (E : A → State → Type 0) where
  -- a call, by what it leaves, and what it leaves to a crash
  pub along_call : (l : State) (call : Call) (rest : Reply → Plan A) → IsKept client number stream txn cells l
      → (IsTable client number stream txn cells l → LeavesEither before after client call l)
      → (IsTable client number stream txn cells l → (happened : Happened) (reply : Reply) (mid : State) → Step true l client call happened reply mid
      → Along (LeavesEither before after client) E true client mid (rest reply))
      → ((reply : Reply) → Along (LeavesEither before after client) E true client l (rest reply))
      → Along (LeavesEither before after client) E true client l (then_calls call rest)
  along_call l call rest (inl broken) left goes stays = (
    (λ whole. let no : true ≡ false = sym broken ∙ whole in absurd (cc no)),
    (λ happened reply mid step.
        let same = broken_way true l client call happened reply mid broken step in
        subst (λ (x : State). Along (LeavesEither before after client) E true client x (rest reply)) (sym same.1) (stays reply)),
  )
  along_call l call rest (inr on) left goes stays = ((λ whole. left on), goes on)

  pub quiet_survives : (l : State) (call : Call) → Quiet number call → IsTable client number stream txn cells l → LeavesEither before after client call l
  quiet_survives l call quiet on x survives =
      among x (fine_state (λ (s2 : State). IsSurvivor (asks client call) l s2 x → table x ≡ table l) l client call on.whole
      (λ s. quiet_left (asks client call) l l x stream on.valid on.named on.safe refl refl s)
      (λ none s. let q = quiet_answer client number stream l call quiet on.own in
      quiet_left (asks client call) l (answer l client call).state x stream on.valid on.named on.safe q.records q.streams s)
      survives ∙ on.is)

  pub quiet_step : (l : State) (call : Call) → Quiet number call → IsTable client number stream txn cells l → (happened : Happened) (reply : Reply) (mid : State)
      → Step true l client call happened reply mid → IsKept client number stream txn cells mid
  quiet_step l call quiet on happened reply mid step =
      step_state (IsTable client number stream txn cells) l client call happened reply mid on.whole step on (λ none.
      let fine = fine_step l client call on.whole none in
      quiet_kept client number stream txn cells l (answer l client call).state on (quiet_answer client number stream l call quiet on.own)
      (laws.keeps true l client call Fine (answer l client call).reply (answer l client call).state on.valid fine)
      (rising true l client call Fine (answer l client call).reply (answer l client call).state on.valid fine))

  -- a quiet call, whatever comes of it
  pub along_quiet : (l : State) (call : Call) (rest : Reply → Plan A) → Quiet number call → IsKept client number stream txn cells l
      → ((reply : Reply) (mid : State) → IsKept client number stream txn cells mid → Along (LeavesEither before after client) E true client mid (rest reply))
      → Along (LeavesEither before after client) E true client l (then_calls call rest)
  along_quiet l call rest quiet kept goes =
      along_call l call rest kept (quiet_survives l call quiet)
      (λ on happened reply mid step. goes reply mid (quiet_step l call quiet on happened reply mid step)) (λ reply. goes reply l kept)
