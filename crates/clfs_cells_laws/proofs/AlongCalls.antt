-- A store's calls, from the first call of the log to the end: what a crash leaves in each, and what they leave themselves.
use Rattle.clfs_cells_laws.proofs.Words.{◌≡◌, ◌⊎◌, ℕ, zero, suc, ◌+◌, ◌-◌, ◌<◌, ◌≤◌, Bool, true, false, refl, sym, subst, ◌∙◌, inl, inr, arith, List, []}
use Rattle.clfs_cells_laws.proofs.Words.{length, Option, Some, None, ◌^◌, ◌==◌, find, nat_le, nat_lt, replicate, AllByRecursion, option_map_or, null_lsn}
use Rattle.clfs_cells_laws.proofs.Words.{UndoNext, LogEntry, Call, Refusal, Reply, State, Made, RolledBack, Set, Change, TxnRefusal, TxnReply, Answered}
use Rattle.clfs_cells_laws.proofs.Words.{answers, append_call, back_plan, begin_plan, change_to, compensation, end_plan, greatest_number, most_transactions}
use Rattle.clfs_cells_laws.proofs.Words.{over_transaction, rollback_plan, set_cell, set_plan, stops, undo_from, undo_set, undo_sets, unless, with_read_ended}
use Rattle.clfs_cells_laws.proofs.Words.{IsChange, cell_count, Plan, never, on_found, on_held, on_next, on_placed, Memory, Transaction, holder, is_at}
use Rattle.clfs_cells_laws.proofs.Words.{is_numbered, most_records, newest_standing, records_made, standing, transaction, with_begun, with_one_undone}
use Rattle.clfs_cells_laws.proofs.Words.{with_set, with_undone, without_transaction, changed, committed, first_cells, is_committed, records_after, table}
use Rattle.clfs_cells_laws.proofs.Words.{Along, EndsSafe, IsSafe, LeavesEither, IsStore, store_area, IsInTable}
use Rattle.clfs_model.specs.declared.call.Call.TheVariants as calls
use Rattle.clfs_model.specs.declared.reply.Reply.TheVariants as replies
use Rattle.clfs_cells.specs.declared.told.TxnRefusal.TheVariants as denials
use Rattle.clfs_cells.specs.declared.told.TxnReply.TheVariants as told_replies
use Rattle.clfs_cells.specs.Calls.{record_length}
use Rattle.clfs_cells.specs.Plans.{calls as then_calls}
use Rattle.clfs_cells_laws.proofs.Adding.{now_of}
use Rattle.clfs_cells_laws.proofs.Along.{IsKept, IsOf, IsTable, Rising, along_quiet, ends_read, reads, reads_on, releases, reserves}
use Rattle.clfs_cells_laws.proofs.AlongAppends.{along_append}
use Rattle.clfs_cells_laws.proofs.OwnCalls.{Laws}
use Rattle.clfs_cells_laws.proofs.Stacks.{first_changed, first_has}
use Rattle.clfs_cells_laws.proofs.StoreCalls.{found_by_its, number_found, open_found}
use Rattle.clfs_cells_laws.proofs.Tabled.{never_committed}
use Rattle.clfs_cells_laws.proofs.Undoes.{changed_found}

-- ---- how a call ends

-- the log is broken, or as it is to be
abbrev pub EndsAs : List ℕ → List ℕ → Answered → State → Type 0
EndsAs before after result v = (v.broken ≡ true) ⊎ EndsSafe before after result.memory.stream result.reply v

pub ends_refused : (client number txn : ℕ) (cells before after : List ℕ) (l : State) (m : Memory) (given : TxnRefusal) → ((table l ≡ cells) → (table l ≡ before) ⊎ (table l ≡ after))
    → IsKept client number m.stream txn cells l → EndsAs before after (record { reply = told_replies.Refused given; memory = m }) l
ends_refused client number txn cells before after l m given among (inl broken) = inl broken
ends_refused client number txn cells before after l m given among (inr on) = inr (record { safe = on.safe; either = among on.is; answered = λ e. absurd (cc e) })

pub ends_answered : (client number txn : ℕ) (before after : List ℕ) (l : State) (m : Memory) (reply : TxnReply)
    → IsKept client number m.stream txn after l → EndsAs before after (record { reply = reply; memory = m }) l
ends_answered client number txn before after l m reply (inl broken) = inl broken
ends_answered client number txn before after l m reply (inr on) = inr (record { safe = on.safe; either = inr on.is; answered = λ e. on.is })

-- ---- how plans go on

module _ {A : Type 0} (P : Call → State → Type 0) (E : A → State → Type 0) (client : ℕ) (l : State) where
  pub placed_along : (stop : Refusal → Plan A) (go : ℕ → Plan A) → ((given : Refusal) → Along P E true client l (stop given))
      → ((lsn : ℕ) → Along P E true client l (go lsn)) → (reply : Reply) → Along P E true client l (on_placed stop go reply)
  placed_along stop go halts goes (replies.Placed lsn) = goes lsn
  placed_along stop go halts goes (replies.Refused given) = halts given
  placed_along stop go halts goes _ = tt

  pub held_along : (stop : Refusal → Plan A) (go : Plan A) → ((given : Refusal) → Along P E true client l (stop given))
      → Along P E true client l go → (reply : Reply) → Along P E true client l (on_held stop go reply)
  held_along stop go halts goes (replies.Held sectors) = goes
  held_along stop go halts goes (replies.Refused given) = halts given
  held_along stop go halts goes _ = tt

  pub found_along : (stop : Refusal → Plan A) (go : ℕ → LogEntry → Plan A) → ((given : Refusal) → Along P E true client l (stop given))
      → ((cursor : ℕ) (entry : LogEntry) → Along P E true client l (go cursor entry)) → (reply : Reply) → Along P E true client l (on_found stop go reply)
  found_along stop go halts goes (replies.Found cursor entry) = goes cursor entry
  found_along stop go halts goes (replies.Refused given) = halts given
  found_along stop go halts goes _ = tt

  pub next_along : (stop : Refusal → Plan A) (go : LogEntry → Plan A) → ((given : Refusal) → Along P E true client l (stop given))
      → ((entry : LogEntry) → Along P E true client l (go entry)) → (reply : Reply) → Along P E true client l (on_next stop go reply)
  next_along stop go halts goes (replies.Next entry) = goes entry
  next_along stop go halts goes (replies.Refused given) = halts given
  next_along stop go halts goes _ = tt

  pub option_along : {X : Type 0} (go : X → Plan A) (other : Plan A) (o : Option X) → ((x : X) → o ≡ Some x → Along P E true client l (go x))
      → Along P E true client l other → Along P E true client l (option_map_or go o other)
  option_along go other None goes stays = stays
  option_along go other (Some x) goes stays = goes x refl

-- ---- a store's log

pub store_on : (s : State) (memory : Memory) (txn : ℕ) → IsStore true s memory → IsSafe s memory.stream
    → (1 ≤ txn → (t : Transaction) × (t.number ≡ txn) × (transaction memory txn ≡ Some t)) → IsTable memory.client memory.area memory.stream txn (table s) s
store_on s memory txn store safe there = record {
  valid = store.valid;
  whole = store.whole;
  named = store.stream;
  own = λ a is.
      let both : Some (store_area memory []) ≡ Some a = sym store.area ∙ is in
      let same : store_area memory [] ≡ a = cc both in
      subst (IsOf memory.client memory.area memory.stream) same (record { client_is = refl; number_is = refl; stream_is = refl });
  is = refl;
  uncommitted = λ some.
      let at = there some in
      let first : List ℕ = changed (first_cells s memory.stream) (committed (records_after s memory.stream)) in
      let in_t = first_has (IsInTable first (records_after s memory.stream)) (is_numbered txn) memory.transactions at.0 at.2 (store.table refl).open_ones in
      subst (λ (n : ℕ). is_committed (records_after s memory.stream) n ≡ false) at.1 (never_committed at.0 (records_after s memory.stream) in_t.own);
  safe = safe;
}

-- what is known of an open transaction
pub record IsOne (s : State) (memory : Memory) (t : Transaction) : Type 0 where
  pub on : IsTable memory.client memory.area memory.stream t.number (table s) s
  pub some : 1 ≤ t.number
  pub few : t.number < 2 ^ 32
  pub fits : AllByRecursion (λ (made : Made). IsChange made.change) t.made

pub one_of : (s : State) (memory : Memory) (number : ℕ) (t : Transaction) → IsStore true s memory → IsSafe s memory.stream → transaction memory number ≡ Some t → IsOne s memory t
one_of s memory number t store safe there =
    let keeps = store.table refl in
    let first : List ℕ = changed (first_cells s memory.stream) (committed (records_after s memory.stream)) in
    let in_t = first_has (IsInTable first (records_after s memory.stream)) (is_numbered number) memory.transactions t there keeps.open_ones in
    let is_open = open_found [] s memory number t store there in
    record {
      on = store_on s memory t.number store safe (λ _. (t, refl, found_by_its memory number t there));
      some = in_t.some;
      few = (let low = is_open.numbered in let high = keeps.last in omega (arith, low, high));
      fits = in_t.fits;
    }

-- a table to which nothing else comes
abbrev itself : (cells : List ℕ) (l : State) → table l ≡ cells → (table l ≡ cells) ⊎ (table l ≡ cells)
itself cells l is = inl is

-- ---- a set

pub along_set : Laws → Rising → (s : State) (memory : Memory) (number cell value : ℕ) → IsStore true s memory → IsSafe s memory.stream → cell < cell_count → value < 2 ^ 64
    → Along (LeavesEither (table s) (table s) memory.client) (EndsAs (table s) (table s)) true memory.client s (set_plan memory number cell value)
along_set laws rising s memory number cell value store safe inside fits =
    option_along Leaves Ends memory.client s _ _ (transaction memory number)
    (λ t there. option_along Leaves Ends memory.client s _ _ (holder memory number cell) (λ other held. denied t there (denials.CellHeld other.number))
    (room t there (nat_le t.changes (length t.made))))
    (inr (record { safe = safe; either = inl refl; answered = λ e. absurd (cc e) }))
  where
    cells : List ℕ
    cells = table s

    Leaves : Call → State → Type 0
    Leaves = LeavesEither (table s) (table s) memory.client

    Ends : Answered → State → Type 0
    Ends = EndsAs (table s) (table s)

    denied : (t : Transaction) → transaction memory number ≡ Some t → (given : TxnRefusal) → EndsAs (table s) (table s) (record { reply = told_replies.Refused given; memory = memory }) s
    denied t there given = inr (record { safe = safe; either = inl refl; answered = λ e. absurd (cc e) })

    change : Change
    change = change_to memory cell value

    sets : (t : Transaction) → transaction memory number ≡ Some t
        → Along (LeavesEither (table s) (table s) memory.client) (EndsAs (table s) (table s)) true memory.client s (set_cell memory t (change_to memory cell value))
    sets t there =
        let one = one_of s memory number t store safe there in
        along_append laws rising memory memory.stream t.number (table s) (table s) (table s) (itself (table s)) (EndsAs (table s) (table s)) t
        (Set (change_to memory cell value)) (newest_standing t) false _ s
        (record { some = one.some; txn = one.few; action = record { cell = inside; old = (store.table refl).values cell; new = fits } }) refl refl one.some (inr one.on)
        (λ reply mid kept. placed_along (LeavesEither (table s) (table s) memory.client) (EndsAs (table s) (table s)) memory.client mid _ _
        (λ given. ends_refused memory.client memory.area t.number (table s) (table s) (table s) mid memory (denials.Log given) (itself (table s) mid) kept)
        (λ lsn. ends_answered memory.client memory.area t.number (table s) (table s) mid (with_set t (change_to memory cell value) lsn memory) told_replies.Done kept) reply)

    room : (t : Transaction) → transaction memory number ≡ Some t → (spent : Bool)
        → Along (LeavesEither (table s) (table s) memory.client) (EndsAs (table s) (table s)) true memory.client s
        (unless spent (denials.ChangesSpent t.changes) memory (set_cell memory t (change_to memory cell value)))
    room t there true = denied t there (denials.ChangesSpent t.changes)
    room t there false = sets t there

-- ---- a beginning

pub along_begin : Laws → Rising → (s : State) (memory : Memory) (changes : ℕ) → IsStore true s memory → IsSafe s memory.stream
    → Along (LeavesEither (table s) (table s) memory.client) (EndsAs (table s) (table s)) true memory.client s (begin_plan memory changes)
along_begin laws rising s memory changes store safe = limit (nat_le most_transactions (length memory.transactions))
  where
    on : IsTable memory.client memory.area memory.stream 0 (table s) s
    on = store_on s memory 0 store safe (λ some. absurd (omega (arith, some)))

    denied : (given : TxnRefusal) → EndsAs (table s) (table s) (record { reply = told_replies.Refused given; memory = memory }) s
    denied given = inr (record { safe = safe; either = inl refl; answered = λ e. absurd (cc e) })

    reserve : Plan Answered
    reserve = then_calls (calls.Reserve memory.area (replicate (most_records changes) record_length))
        (on_held (stops memory) (answers (told_replies.Begun (memory.last + 1)) (with_begun changes memory)))

    reserved : Along (LeavesEither (table s) (table s) memory.client) (EndsAs (table s) (table s)) true memory.client s
        (then_calls (calls.Reserve memory.area (replicate (most_records changes) record_length))
        (on_held (stops memory) (answers (told_replies.Begun (memory.last + 1)) (with_begun changes memory))))
    reserved = along_quiet laws rising memory.client memory.area memory.stream 0 (table s) (table s) (table s) (itself (table s)) (EndsAs (table s) (table s)) s
        (calls.Reserve memory.area (replicate (most_records changes) record_length)) _ (reserves (replicate (most_records changes) record_length)) (inr on)
        (λ reply mid kept. held_along (LeavesEither (table s) (table s) memory.client) (EndsAs (table s) (table s)) memory.client mid _ _
        (λ given. ends_refused memory.client memory.area 0 (table s) (table s) (table s) mid memory (denials.Log given) (itself (table s) mid) kept)
        (ends_answered memory.client memory.area 0 (table s) (table s) mid (with_begun changes memory) (told_replies.Begun (memory.last + 1)) kept) reply)

    spent : (test : Bool) → Along (LeavesEither (table s) (table s) memory.client) (EndsAs (table s) (table s)) true memory.client s
        (unless test denials.IdsSpent memory (then_calls (calls.Reserve memory.area (replicate (most_records changes) record_length))
        (on_held (stops memory) (answers (told_replies.Begun (memory.last + 1)) (with_begun changes memory)))))
    spent true = denied denials.IdsSpent
    spent false = reserved

    limit : (test : Bool) → Along (LeavesEither (table s) (table s) memory.client) (EndsAs (table s) (table s)) true memory.client s
        (unless test (denials.TxnLimit (length memory.transactions)) memory
        (unless (memory.last == greatest_number) denials.IdsSpent memory (then_calls (calls.Reserve memory.area (replicate (most_records changes) record_length))
        (on_held (stops memory) (answers (told_replies.Begun (memory.last + 1)) (with_begun changes memory))))))
    limit true = denied (denials.TxnLimit (length memory.transactions))
    limit false = spent (memory.last == greatest_number)

-- ---- taking back

-- all sets of the open transaction of a number fit a record
abbrev pub Fits : Memory → ℕ → Type 0
Fits memory number = (t : Transaction) → transaction memory number ≡ Some t → AllByRecursion (λ (made : Made). IsChange made.change) t.made

undone_fits : (memory : Memory) (number lsn : ℕ) (t : Transaction) (made : Made) → transaction memory number ≡ Some t → Fits memory number → Fits (with_undone t made lsn memory) number
undone_fits memory number lsn t made there fits x found =
    let is : Some (with_one_undone made.lsn lsn t) ≡ Some x = sym (changed_found memory number t (with_one_undone made.lsn lsn) there refl) ∙ found in
    let same : with_one_undone made.lsn lsn t ≡ x = cc is in
    subst (λ (y : Transaction). AllByRecursion (λ (m : Made). IsChange m.change) y.made) same
    (first_changed (λ (m : Made). IsChange m.change) (is_at made.lsn) (λ (m : Made). record m { undone = true }) t.made (λ m fits_m. fits_m) (fits t there))

module _ (laws : Laws) (rising : Rising) (base : Memory) (number : ℕ) (cells : List ℕ) (some : 1 ≤ number) (few : number < 2 ^ 32) where
  -- along a plan of the store's, from a log that is kept
  abbrev AlongIt : State → Plan Answered → Type 0
  AlongIt l plan = Along (LeavesEither cells cells base.client) (EndsAs cells cells) true base.client l plan

  abbrev KeptIt : State → Type 0
  KeptIt l = IsKept base.client base.area base.stream number cells l

  stop_along : (ts : List Transaction) (cs : List ℕ) (l : State) (given : Refusal) → IsKept base.client base.area base.stream number cells l
      → Along (LeavesEither cells cells base.client) (EndsAs cells cells) true base.client l (stops (now_of base ts cs) given)
  stop_along ts cs l given kept = ends_refused base.client base.area number cells cells cells l (now_of base ts cs) (denials.Log given) (itself cells l) kept

  read_end_along : (cursor : ℕ) (rest : Plan Answered) (l : State) → IsKept base.client base.area base.stream number cells l
      → ((mid : State) → IsKept base.client base.area base.stream number cells mid
      → Along (LeavesEither cells cells base.client) (EndsAs cells cells) true base.client mid rest)
      → Along (LeavesEither cells cells base.client) (EndsAs cells cells) true base.client l (with_read_ended base cursor rest)
  read_end_along cursor rest l kept goes =
      along_quiet laws rising base.client base.area base.stream number cells cells cells (itself cells) (EndsAs cells cells) l
      (calls.EndRead base.area cursor) (λ _. rest) (ends_read cursor) kept (λ reply mid kept_mid. goes mid kept_mid)

  undo_set_along : (ts : List Transaction) (cs : List ℕ) (cursor lsn : ℕ) (rest : Memory → Plan Answered) (l : State) → Fits (now_of base ts cs) number
      → IsKept base.client base.area base.stream number cells l
      → ((ts cs : _) (mid : State) → Fits (now_of base ts cs) number → IsKept base.client base.area base.stream number cells mid
      → Along (LeavesEither cells cells base.client) (EndsAs cells cells) true base.client mid (rest (now_of base ts cs)))
      → Along (LeavesEither cells cells base.client) (EndsAs cells cells) true base.client l (undo_set (now_of base ts cs) number cursor lsn rest)
  undo_set_along ts cs cursor lsn rest l fits kept goes =
      option_along (LeavesEither cells cells base.client) (EndsAs cells cells) base.client l _ never (transaction (now_of base ts cs) number)
      (λ t there. option_along (LeavesEither cells cells base.client) (EndsAs cells cells) base.client l _ never (find (is_at lsn) t.made) (one t there) tt) tt
    where
      one : (t : Transaction) → transaction (now_of base ts cs) number ≡ Some t → (made : Made) → find (is_at lsn) t.made ≡ Some made
          → Along (LeavesEither cells cells base.client) (EndsAs cells cells) true base.client l
          (then_calls (append_call (now_of base ts cs) t (compensation made) made.undo_next false)
          (on_placed (λ refusal. with_read_ended (now_of base ts cs) cursor (stops (now_of base ts cs) refusal)) (λ at. rest (with_undone t made at (now_of base ts cs)))))
      one t there made at =
          let named = number_found (now_of base ts cs) number t there in
          let change = first_has (λ (m : Made). IsChange m.change) (is_at lsn) t.made made at (fits t there) in
          along_append laws rising (now_of base ts cs) base.stream number cells cells cells (itself cells) (EndsAs cells cells) t (compensation made) made.undo_next false _ l
          (record {
            some = subst (λ (n : ℕ). 1 ≤ n) (sym named) some;
            txn = subst (λ (n : ℕ). n < 2 ^ 32) (sym named) few;
            action = record { cell = change.cell; old = change.new; new = change.old };
          }) refl named some kept
          (λ reply mid kept_mid. placed_along (LeavesEither cells cells base.client) (EndsAs cells cells) base.client mid _ _
          (λ given. read_end_along cursor (stops (now_of base ts cs) given) mid kept_mid (λ last kept_last. stop_along ts cs last given kept_last))
          (λ lsn_of. goes (with_undone t made lsn_of (now_of base ts cs)).transactions (with_undone t made lsn_of (now_of base ts cs)).cells mid
          (undone_fits (now_of base ts cs) number lsn_of t made there fits) kept_mid) reply)

  undo_from_along : (more : ℕ) (ts : List Transaction) (cs : List ℕ) (cursor lsn : ℕ) (rest : Memory → Plan Answered) (l : State) → Fits (now_of base ts cs) number
      → IsKept base.client base.area base.stream number cells l
      → ((ts cs : _) (mid : State) → Fits (now_of base ts cs) number → IsKept base.client base.area base.stream number cells mid
      → Along (LeavesEither cells cells base.client) (EndsAs cells cells) true base.client mid (rest (now_of base ts cs)))
      → Along (LeavesEither cells cells base.client) (EndsAs cells cells) true base.client l (undo_from more (now_of base ts cs) number cursor lsn rest)
  undo_from_along zero ts cs cursor lsn rest l fits kept goes =
      undo_set_along ts cs cursor lsn (λ now. with_read_ended now cursor (rest now)) l fits kept
      (λ ts cs mid fits_mid kept_mid. read_end_along cursor (rest (now_of base ts cs)) mid kept_mid (λ last kept_last. goes ts cs last fits_mid kept_last))
  undo_from_along (suc more) ts cs cursor lsn rest l fits kept goes =
      undo_set_along ts cs cursor lsn
      (λ now. then_calls (calls.ReadNext now.area cursor) (on_next (λ refusal. with_read_ended now cursor (stops now refusal))
      (λ (entry : LogEntry). undo_from more now number cursor entry.lsn rest))) l fits kept
      (λ ts cs mid fits_mid kept_mid.
      along_quiet laws rising base.client base.area base.stream number cells cells cells (itself cells) (EndsAs cells cells) mid
      (calls.ReadNext base.area cursor) _ (reads_on cursor) kept_mid
      (λ reply far kept_far. next_along (LeavesEither cells cells base.client) (EndsAs cells cells) base.client far
      (λ refusal. with_read_ended (now_of base ts cs) cursor (stops (now_of base ts cs) refusal)) (λ entry. undo_from more (now_of base ts cs) number cursor entry.lsn rest)
      (λ given. read_end_along cursor (stops (now_of base ts cs) given) far kept_far (λ last kept_last. stop_along ts cs last given kept_last))
      (λ entry. undo_from_along more ts cs cursor entry.lsn rest far fits_mid kept_far goes) reply))

  pub undo_sets_along : (count : ℕ) (t : Transaction) (rest : Memory → Plan Answered) (l : State) → t.number ≡ number → Fits base number
      → IsKept base.client base.area base.stream number cells l
      → ((ts cs : _) (mid : State) → Fits (now_of base ts cs) number → IsKept base.client base.area base.stream number cells mid
      → Along (LeavesEither cells cells base.client) (EndsAs cells cells) true base.client mid (rest (now_of base ts cs)))
      → Along (LeavesEither cells cells base.client) (EndsAs cells cells) true base.client l (undo_sets count base t rest)
  undo_sets_along zero t rest l named fits kept goes = goes base.transactions base.cells l fits kept
  undo_sets_along (suc more) t rest l named fits kept goes =
      along_quiet laws rising base.client base.area base.stream number cells cells cells (itself cells) (EndsAs cells cells) l
      (calls.Read base.area (newest_standing t) UndoNext) _ (reads (newest_standing t) UndoNext) kept
      (λ reply mid kept_mid. found_along (LeavesEither cells cells base.client) (EndsAs cells cells) base.client mid _ _
      (λ given. stop_along base.transactions base.cells mid given kept_mid)
      (λ cursor entry. subst (λ (n : ℕ). Along (LeavesEither cells cells base.client) (EndsAs cells cells) true base.client mid (undo_from more base n cursor entry.lsn rest)) (sym named)
      (undo_from_along more base.transactions base.cells cursor entry.lsn rest mid fits kept_mid goes)) reply)

  -- the end of a transaction without a commit
  pub rolled_along : (ts : List Transaction) (cs : List ℕ) (l : State) → IsKept base.client base.area base.stream number cells l
      → Along (LeavesEither cells cells base.client) (EndsAs cells cells) true base.client l (over_transaction (now_of base ts cs) number (λ t. end_plan (now_of base ts cs) t RolledBack false))
  rolled_along ts cs l kept =
      option_along (LeavesEither cells cells base.client) (EndsAs cells cells) base.client l _ _ (transaction (now_of base ts cs) number) one
      (ends_refused base.client base.area number cells cells cells l (now_of base ts cs) denials.NoSuchTxn (itself cells l) kept)
    where
      one : (t : Transaction) → transaction (now_of base ts cs) number ≡ Some t
          → Along (LeavesEither cells cells base.client) (EndsAs cells cells) true base.client l (end_plan (now_of base ts cs) t RolledBack false)
      one t there =
          let now : Memory = now_of base ts cs in
          let named = number_found now number t there in
          along_append laws rising now base.stream number cells cells cells (itself cells) (EndsAs cells cells) t RolledBack null_lsn false _ l
          (record { some = subst (λ (n : ℕ). 1 ≤ n) (sym named) some; txn = subst (λ (n : ℕ). n < 2 ^ 32) (sym named) few; action = tt }) refl named some kept
          (λ reply mid kept_mid. placed_along (LeavesEither cells cells base.client) (EndsAs cells cells) base.client mid _ _
          (λ given. stop_along ts cs mid given kept_mid)
          (λ lsn. along_quiet laws rising base.client base.area base.stream number cells cells cells (itself cells) (EndsAs cells cells) mid
          (calls.Release base.area (most_records t.changes - records_made t - 1)) _ (releases (most_records t.changes - records_made t - 1)) kept_mid
          (λ answered last kept_last. held_along (LeavesEither cells cells base.client) (EndsAs cells cells) base.client last _ _
          (λ given. ends_refused base.client base.area number cells cells cells last (without_transaction t.number now) (denials.Log given) (itself cells last) kept_last)
          (ends_answered base.client base.area number cells cells last (without_transaction t.number now) told_replies.Done kept_last) answered)) reply)

fits_its : (s : State) (memory : Memory) (number : ℕ) (t : Transaction) → IsOne s memory t → transaction memory number ≡ Some t → Fits memory t.number
fits_its s memory number t one there x found =
    let both : Some t ≡ Some x = sym (found_by_its memory number t there) ∙ found in
    let same : t ≡ x = cc both in
    subst (λ (y : Transaction). AllByRecursion (λ (m : Made). IsChange m.change) y.made) same one.fits

pub along_back : Laws → Rising → (s : State) (memory : Memory) (number to_keep : ℕ) → IsStore true s memory → IsSafe s memory.stream
    → Along (LeavesEither (table s) (table s) memory.client) (EndsAs (table s) (table s)) true memory.client s (back_plan memory number to_keep)
along_back laws rising s memory number to_keep store safe =
    option_along (LeavesEither (table s) (table s) memory.client) (EndsAs (table s) (table s)) memory.client s _ _ (transaction memory number)
    (λ t there. by t there (nat_lt (length (standing t)) to_keep))
    (inr (record { safe = safe; either = inl refl; answered = λ e. absurd (cc e) }))
  where
    by : (t : Transaction) → transaction memory number ≡ Some t → (test : Bool)
        → Along (LeavesEither (table s) (table s) memory.client) (EndsAs (table s) (table s)) true memory.client s
        (unless test (denials.KeptTooMany (length (standing t))) memory (undo_sets (length (standing t) - to_keep) memory t (λ now. answers told_replies.Done now)))
    by t there true = inr (record { safe = safe; either = inl refl; answered = λ e. absurd (cc e) })
    by t there false =
        let one = one_of s memory number t store safe there in
        undo_sets_along laws rising memory t.number (table s) one.some one.few (length (standing t) - to_keep) t (λ now. answers told_replies.Done now) s refl
        (fits_its s memory number t one there) (inr one.on)
        (λ ts cs mid fits kept. ends_answered memory.client memory.area t.number (table s) (table s) mid (now_of memory ts cs) told_replies.Done kept)

pub along_rollback : Laws → Rising → (s : State) (memory : Memory) (number : ℕ) → IsStore true s memory → IsSafe s memory.stream
    → Along (LeavesEither (table s) (table s) memory.client) (EndsAs (table s) (table s)) true memory.client s (rollback_plan memory number)
along_rollback laws rising s memory number store safe =
    option_along (LeavesEither (table s) (table s) memory.client) (EndsAs (table s) (table s)) memory.client s _ _ (transaction memory number) by
    (inr (record { safe = safe; either = inl refl; answered = λ e. absurd (cc e) }))
  where
    by : (t : Transaction) → transaction memory number ≡ Some t
        → Along (LeavesEither (table s) (table s) memory.client) (EndsAs (table s) (table s)) true memory.client s
        (undo_sets (length (standing t)) memory t (λ now. over_transaction now number (λ x. end_plan now x RolledBack false)))
    by t there =
        let one = one_of s memory number t store safe there in
        undo_sets_along laws rising memory t.number (table s) one.some one.few (length (standing t)) t _ s refl (fits_its s memory number t one there) (inr one.on)
        (λ ts cs mid fits kept.
        subst (λ (n : ℕ). Along (LeavesEither (table s) (table s) memory.client) (EndsAs (table s) (table s)) true memory.client mid
        (over_transaction (now_of memory ts cs) n (λ x. end_plan (now_of memory ts cs) x RolledBack false))) (number_found memory number t there)
        (rolled_along laws rising memory t.number (table s) one.some one.few ts cs mid kept))
