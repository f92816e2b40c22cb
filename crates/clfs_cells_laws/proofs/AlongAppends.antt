-- Along a store's calls that append records of a transaction: what each append leaves of the log, and to a crash.
use Rattle.clfs_cells_laws.proofs.Words.{◌≡◌, ◌⊎◌, ℕ, ◌≤◌, Bool, true, false, refl, sym, subst, ap, ◌∙◌, inl, inr, arith, List, [], ◌∷◌, ◌++◌, length, Option}
use Rattle.clfs_cells_laws.proofs.Words.{Some, None, nat_lt, AllByRecursion, option_map_or, cases_Bool, ltb-false, recursion_from_All, frontier, LogEntry}
use Rattle.clfs_cells_laws.proofs.Words.{Call, Fine, Reply, Area, State, answer, outcome, flush, flushed, appended, next_lsn, plain_record, with_less_held}
use Rattle.clfs_cells_laws.proofs.Words.{refusal, asks, area_of, change_first, is_area, IsSurvivor, IsRecord, IsValid, Action, TxnRecord, append_call}
use Rattle.clfs_cells_laws.proofs.Words.{IsTxnRecord, txn_bytes, txn_record, Plan, Memory, Transaction, is_commit, is_committed, records_after, table, Along}
use Rattle.clfs_cells_laws.proofs.Words.{LeavesEither}
use Rattle.clfs_lsn.specs.Size.{own as sectors_of}
use Rattle.clfs_lsn.specs.Lsn.{lsn_number}
use Rattle.clfs_model.specs.declared.refusal.Refusal.TheVariants as refusals
use Rattle.clfs_model.specs.declared.reply.Reply.TheVariants as replies
use Rattle.clfs_cells.specs.Plans.{calls as then_calls}
use Rattle.clfs_cells_laws.proofs.Along.{IsKept, IsOf, IsOwn, IsTable, Rising, along_call, fine_state, fine_step, named_by, own_changed, safe_by, step_state}
use Rattle.clfs_cells_laws.proofs.FirstRestart.{table_by}
use Rattle.clfs_cells_laws.proofs.LeftBy.{IsRow, append_left, joined_safe, joined_table, quiet_left, safe_higher}
use Rattle.clfs_cells_laws.proofs.Links.{draft_of}
use Rattle.clfs_cells_laws.proofs.OwnCalls.{Laws, added_above, appended_is}
use Rattle.clfs_cells_laws.proofs.Rows.{same_commits}
use Rattle.clfs_cells_laws.proofs.TableLog.{row_joins}

-- ---- what an append leaves

pub record HasRow (client number stream : ℕ) (l t : State) (r : TxnRecord) : Type 0 where
  pub entry : LogEntry
  pub row : IsRow l stream entry r
  pub records : t.records ≡ l.records ++ entry ∷ []
  pub streams : t.streams ≡ l.streams
  pub broken : t.broken ≡ l.broken
  pub own : IsOwn client number stream t
  pub valid : IsValid t
  pub rises : flushed l ≤ flushed t

last_has : {X : Type 0} (P : X → Type 0) (xs : List X) (x : X) → AllByRecursion P (xs ++ x ∷ []) → P x
last_has P [] x all = all.0
last_has P (y ∷ xs) x all = last_has P xs x all.1

module _ (laws : Laws) (rising : Rising) (memory : Memory) (stream txn : ℕ) (cells : List ℕ) (l : State) (on : IsTable memory.client memory.area stream txn cells l)
    (t : Transaction) (action : Action) (undo_next : ℕ) (flushing : Bool) (fits : IsTxnRecord (txn_record t.number action)) where
  pub next_is : (o : Option Area) → area_of l memory.client memory.area ≡ o
      → (answer l memory.client (append_call memory t action undo_next flushing)).state
      ≡ (option_map_or (λ (a : Area). outcome (replies.Placed (next_lsn l (length (txn_bytes (txn_record t.number action))))) (appended l a (draft_of t action undo_next flushing) true []))
      o (outcome (replies.Refused refusals.NoSuchArea) l)).state
  next_is o is = ap (λ (x : Option Area). (option_map_or (λ (a : Area). outcome (replies.Placed (next_lsn l (length (txn_bytes (txn_record t.number action)))))
      (appended l a (draft_of t action undo_next flushing) true [])) x (outcome (replies.Refused refusals.NoSuchArea) l)).state) is

  pub has_row : (a : Area) → IsOf memory.client memory.area stream a → refusal l memory.client (append_call memory t action undo_next flushing) ≡ None
      → (answer l memory.client (append_call memory t action undo_next flushing)).state ≡ appended l a (draft_of t action undo_next flushing) true []
      → HasRow memory.client memory.area stream l (answer l memory.client (append_call memory t action undo_next flushing)).state (txn_record t.number action)
  has_row a its none is =
      let c : Call = append_call memory t action undo_next flushing in
      let u : State = (answer l memory.client c).state in
      let parts = appended_is l a (draft_of t action undo_next flushing) u refl is in
      let n : ℕ = length (txn_bytes (txn_record t.number action)) in
      let entry : LogEntry = record (plain_record a (draft_of t action undo_next flushing)) { lsn = next_lsn l n } in
      let step = fine_step l memory.client c on.whole none in
      let valid = laws.keeps true l memory.client c Fine (answer l memory.client c).reply u on.valid step in
      let all = subst (AllByRecursion (IsRecord u)) parts.records (recursion_from_All (IsRecord u) u.records valid.records.records) in
      let its_row = last_has (IsRecord u) l.records entry all in
      let areas : u.areas ≡ change_first (is_area memory.client memory.area) (with_less_held (sectors_of n)) l.areas
      = parts.areas ∙ ap (λ (k : ℕ). change_first (is_area k a.number) (with_less_held (sectors_of n)) l.areas) its.client_is
      ∙ ap (λ (k : ℕ). change_first (is_area memory.client k) (with_less_held (sectors_of n)) l.areas) its.number_is in
      record {
        entry = entry;
        row = record {
          high = added_above laws true l memory.client c Fine (answer l memory.client c).reply u entry on.valid step parts.records;
          some = its_row.named;
          own = its.stream_is;
          plain = refl;
          spells = laws.spelled_row (txn_record t.number action) fits;
        };
        records = parts.records;
        streams = parts.streams;
        broken = parts.broken;
        own = own_changed memory.client memory.area stream l u (with_less_held (sectors_of n)) (record { client = λ b. refl; number = λ b. refl; stream = λ b. refl }) areas on.own;
        valid = valid;
        rises = rising true l memory.client c Fine (answer l memory.client c).reply u on.valid step;
      }

  -- an append that isn't refused
  pub append_leaves : refusal l memory.client (append_call memory t action undo_next flushing) ≡ None
      → ((answer l memory.client (append_call memory t action undo_next flushing)).state ≡ l)
      ⊎ HasRow memory.client memory.area stream l (answer l memory.client (append_call memory t action undo_next flushing)).state (txn_record t.number action)
  append_leaves none = by (area_of l memory.client memory.area) refl
    where
      by : (o : Option Area) → area_of l memory.client memory.area ≡ o
          → ((answer l memory.client (append_call memory t action undo_next flushing)).state ≡ l)
          ⊎ HasRow memory.client memory.area stream l (answer l memory.client (append_call memory t action undo_next flushing)).state (txn_record t.number action)
      by None is = inl (next_is None is)
      by (Some a) is = inr (has_row a (on.own a is) none (next_is (Some a) is))

-- ---- the log after a record of a transaction without a commit

rows_after : (client number stream : ℕ) (l u : State) (r : TxnRecord) → IsValid l → (has : HasRow client number stream l u r) → records_after u stream ≡ records_after l stream ++ r ∷ []
rows_after client number stream l u r valid has =
    (row_joins l u stream has.entry r valid has.row.high has.row.some has.streams has.records has.row.own has.row.plain has.row.spells).1

pub row_kept : (client number stream txn : ℕ) (cells : List ℕ) (l u : State) (r : TxnRecord) → IsTable client number stream txn cells l → HasRow client number stream l u r
    → is_commit r.action ≡ false → r.txn ≡ txn → 1 ≤ txn → IsTable client number stream txn cells u
row_kept client number stream txn cells l u r on has other its some =
    let w : State = record l { records = l.records ++ has.entry ∷ [] } in
    let none : is_committed (records_after l stream) r.txn ≡ false = ap (is_committed (records_after l stream)) its ∙ on.uncommitted some in
    record {
      valid = has.valid;
      whole = has.broken ∙ on.whole;
      named = named_by l u stream has.streams on.named;
      own = has.own;
      is = table_by u w has.records has.streams ∙ joined_table l stream has.entry r on.valid on.named has.row other none ∙ on.is;
      uncommitted = λ _. ap (λ (rows : List TxnRecord). is_committed rows txn) (rows_after client number stream l u r on.valid has)
          ∙ same_commits (records_after l stream) r txn other ∙ on.uncommitted some;
      safe = safe_higher (flushed l) (flushed u) u stream has.rises
          (safe_by (flushed l) w u stream has.streams has.records (joined_safe (flushed l) l stream has.entry r on.valid has.row other none on.safe));
    }

module _ {A : Type 0} (laws : Laws) (rising : Rising) (memory : Memory) (stream txn : ℕ) (cells before after : List ℕ)
    (among : (l : State) → table l ≡ cells → (table l ≡ before) ⊎ (table l ≡ after)) (E : A → State → Type 0) where
  -- an append of a transaction that doesn't commit, whatever comes of it
  pub along_append : (t : Transaction) (action : Action) (undo_next : ℕ) (flushing : Bool) (rest : Reply → Plan A) (l : State) → IsTxnRecord (txn_record t.number action)
      → is_commit action ≡ false → t.number ≡ txn → 1 ≤ txn → IsKept memory.client memory.area stream txn cells l
      → ((reply : Reply) (mid : State) → IsKept memory.client memory.area stream txn cells mid → Along (LeavesEither before after memory.client) E true memory.client mid (rest reply))
      → Along (LeavesEither before after memory.client) E true memory.client l (then_calls (append_call memory t action undo_next flushing) rest)
  along_append t action undo_next flushing rest l fits other its some kept goes =
      along_call laws rising memory.client memory.area stream txn cells before after among E l (append_call memory t action undo_next flushing) rest kept left
      (λ on happened reply mid step. goes reply mid (step_state (IsTable memory.client memory.area stream txn cells) l memory.client
      (append_call memory t action undo_next flushing) happened reply mid on.whole step on
      (λ none. elim (append_leaves laws rising memory stream txn cells l on t action undo_next flushing fits none) [
        | inl same ↦ subst (IsTable memory.client memory.area stream txn cells) (sym same) on
        | inr has ↦ row_kept memory.client memory.area stream txn cells l (answer l memory.client (append_call memory t action undo_next flushing)).state
            (txn_record t.number action) on has other its some
      ])))
      (λ reply. goes reply l kept)
    where
      left : IsTable memory.client memory.area stream txn cells l → LeavesEither before after memory.client (append_call memory t action undo_next flushing) l
      left on x survives =
          let c : Call = append_call memory t action undo_next flushing in
          among x (fine_state (λ (s2 : State). IsSurvivor (asks memory.client c) l s2 x → table x ≡ table l) l memory.client c on.whole
          (λ s. quiet_left (asks memory.client c) l l x stream on.valid on.named on.safe refl refl s)
          (λ none s. elim (append_leaves laws rising memory stream txn cells l on t action undo_next flushing fits none) [
            | inl same ↦ quiet_left (asks memory.client c) l (answer l memory.client c).state x stream on.valid on.named on.safe
                (ap (λ (u : State). u.records) same) (ap (λ (u : State). u.streams) same) s
            | inr has ↦ append_left (asks memory.client c) l (answer l memory.client c).state x stream has.entry (txn_record t.number action) on.valid on.named on.safe
                has.row other (ap (is_committed (records_after l stream)) its ∙ on.uncommitted some) has.records has.streams s
          ]) survives ∙ on.is)

-- ---- after a flush nothing is left that isn't on the disk

pub flushed_all : (y : State) → flushed (flush y) ≡ frontier (flush y).place
flushed_all y = elim (cases_Bool (nat_lt 0 y.place.records)) [
  | inl some ↦ rw some refl
  | inr none ↦
      let zero_records : y.place.records ≡ 0 = (let low = ltb-false 0 y.place.records none in omega (arith, low)) in
      rw none (ap (λ (n : ℕ). lsn_number y.place.container y.place.offset n) (sym zero_records))
]
