-- How the calls of a store end: begin, set, and the end of a transaction.
use Rattle.clfs_cells_laws.proofs.Words.{◌≡◌, ℕ, zero, suc, ◌<◌, ◌≤◌, Bool, true, false, refl, sym, subst, ap, ◌∙◌, arith, List, [], ◌∷◌, length, Option}
use Rattle.clfs_cells_laws.proofs.Words.{Some, None, ◌^◌, nat_le, option_map_or, eq-eqb, ne_eqb, UndoNext, LogEntry, Refusal, Happened, Reply, State}
use Rattle.clfs_cells_laws.proofs.Words.{next_lsn, free, Step, Made, Action, Set, Change, TxnRefusal, TxnReply, Answered, answers, append_call, change_to}
use Rattle.clfs_cells_laws.proofs.Words.{refuses, set_cell, set_plan, stops, undo_from, undo_sets, unless, cell_count, txn_bytes, txn_record, Plan}
use Rattle.clfs_cells_laws.proofs.Words.{CarriesOut, on_found, on_placed, Memory, Transaction, holder, is_numbered, newest_standing, standing, transaction}
use Rattle.clfs_cells_laws.proofs.Words.{with_set, reason_if, table_reason, IsSetTo, from_outside, is_of_log, IsOpen, IsStore, newest_of, sectors_held}
use Rattle.clfs_model.specs.declared.call.Call.TheVariants as calls
use Rattle.clfs_model.specs.declared.refusal.Refusal.TheVariants as refusals
use Rattle.clfs_model.specs.declared.reply.Reply.TheVariants as replies
use Rattle.clfs_cells.specs.declared.asked.TxnCall.TheVariants as asked
use Rattle.clfs_cells.specs.declared.told.TxnRefusal.TheVariants as denials
use Rattle.clfs_cells.specs.declared.told.TxnReply.TheVariants as told_replies
use Rattle.clfs_cells.specs.Plans.{calls as asks}
use Rattle.clfs_cells_laws.specs.Reasons.{set_reason}
use Rattle.clfs_cells_laws.proofs.Changes.{others_stay, written}
use Rattle.clfs_cells_laws.proofs.Links.{append_passes, some_held, some_left, standing_live}
use Rattle.clfs_cells_laws.proofs.OneOf.{placed}
use Rattle.clfs_cells_laws.proofs.OwnCalls.{Laws, Went, broke, gave, kept, went}
use Rattle.clfs_cells_laws.proofs.StoreCalls.{added, append_came, broken_store, found_by_its, open_found, set_store}
use Rattle.clfs_cells_laws.proofs.Undoes.{Halted, Undoing, behind_reply, came_to, halted, halted_broken, halted_store, none_undone, same_log, same_plan}
use Rattle.clfs_cells_laws.proofs.Undoes.{top_is, undoes}
use Rattle.clfs_cells_laws.proofs.UndoReads.{Began, Stopped, begins, first_cursor, found, left_broken, left_whole, not_read}
use Rattle.clfs_cells_laws.proofs.Ways.{way}

-- ---- how a call ends

-- with the table's own reason to refuse it, if there is one
pub data Out (tabled : Bool) (allowed : Refusal → Bool) (own : Option TxnRefusal) (s : State) (memory : Memory) (answered : TxnReply → Type 0) (leaves : Memory → Type 0)
    (result : Answered) (v : State) : Type 0 where
  denied : (given : TxnRefusal) → own ≡ Some given → is_of_log given ≡ false → result ≡ record { reply = told_replies.Refused given; memory = memory } → v ≡ s
      → Out tabled allowed own s memory answered leaves result v
  stopped : own ≡ None → Halted tabled allowed result v → Out tabled allowed own s memory answered leaves result v
  done : own ≡ None → answered result.reply → leaves result.memory → IsStore tabled v result.memory → Out tabled allowed own s memory answered leaves result v

abbrev pub Lengths : Type 0
Lengths = (txn : ℕ) (action : Action) → length (txn_bytes (txn_record txn action)) ≡ 24

abbrev pub IsDone : TxnReply → Type 0
IsDone reply = reply ≡ told_replies.Done

-- a call that ended so
done_as : {tabled : Bool} → (allowed : Refusal → Bool) (own : Option TxnRefusal) → own ≡ None → (s u : State) (memory now : Memory) (reply : TxnReply) (answered : TxnReply → Type 0) (leaves : Memory → Type 0) (result : Answered)
    (v : State) → answered reply → leaves now → IsStore tabled u now → (result ≡ record { reply = reply; memory = now }) × (v ≡ u)
    → Out tabled allowed own s memory answered leaves result v
done_as {tabled = tabled} allowed own none s u memory now reply answered leaves result v so left store ended = done none
    (subst (λ (a : Answered). answered a.reply) (sym ended.0) so)
    (subst (λ (a : Answered). leaves a.memory) (sym ended.0) left)
    (subst (λ (x : State). IsStore tabled x result.memory) (sym ended.1) (subst (λ (a : Answered). IsStore tabled u a.memory) (sym ended.0) store))

-- a call of the log of which nothing came
pub stopped_by : {tabled : Bool} → (allowed : Refusal → Bool) (told : Bool) (s mid : State) (memory : Memory) (rest : Reply → Plan Answered) (reply : Reply) (result : Answered) (v : State)
    → ((given : Refusal) → from_outside given ≡ true → allowed given ≡ true) → ((given : Refusal) → rest (replies.Refused given) ≡ stops memory given)
    → IsStore tabled s memory → Stopped s reply mid → CarriesOut told memory.client mid (rest reply) result v → Halted tabled allowed result v
stopped_by {tabled = tabled} allowed told s mid memory rest reply result v wider stopping store (left_whole is same) behind =
    halted_store allowed told memory.client s memory refusals.NoMemory result v (wider refusals.NoMemory refl) store
    (same_log told memory.client mid s (stops memory refusals.NoMemory) result v same
    (same_plan told memory.client mid (rest (replies.Refused refusals.NoMemory)) (stops memory refusals.NoMemory) result v (stopping refusals.NoMemory)
    (behind_reply told memory.client mid rest reply (replies.Refused refusals.NoMemory) result v is behind)))
stopped_by {tabled = tabled} allowed told s mid memory rest reply result v wider stopping store (left_broken given outside is same) behind =
    halted_broken allowed told memory.client mid memory given result v (wider given outside) (broken_store s mid memory [] store same)
    (same_plan told memory.client mid (rest (replies.Refused given)) (stops memory given) result v (stopping given)
    (behind_reply told memory.client mid rest reply (replies.Refused given) result v is behind))

-- ---- sets taken back, from the first read on

pub undo_started : {tabled : Bool} → (count : ℕ) → Laws → Lengths → (told : Bool) (s : State) (memory : Memory) (t : Transaction) (rest : Memory → Plan Answered) (result : Answered) (v : State)
    → IsStore tabled s memory → transaction memory t.number ≡ Some t → count ≤ length (standing t)
    → CarriesOut told memory.client s (undo_sets count memory t rest) result v → Undoing tabled told t.number t memory count rest result v
undo_started {tabled = tabled} zero laws lengths told s memory t rest result v store there few carries =
    came_to s memory t store (none_undone t.number t memory there) refl carries
undo_started {tabled = tabled} (suc more) laws lengths told s memory t rest result v store there few carries = go (standing t) refl few
  where
    behind_read : Reply → Plan Answered
    behind_read = on_found (stops memory) (λ cursor (entry : LogEntry). undo_from more memory t.number cursor entry.lsn rest)

    from : (made : Made) (older : List Made) → standing t ≡ made ∷ older → more ≤ length older → (happened : Happened) (reply : Reply) (mid : State)
        → Step told s memory.client (calls.Read memory.area made.lsn UndoNext) happened reply mid → CarriesOut told memory.client mid (behind_read reply) result v
        → Began tabled told s memory made.lsn reply mid → Undoing tabled told t.number t memory (suc more) rest result v
    from made older stood few happened reply mid step behind (not_read how) =
        halted (stopped_by from_outside told s mid memory behind_read reply result v (λ given is. is) (λ given. refl) store how behind)
    from made older stood few happened reply mid step behind (found read is at after) =
        undoes more laws lengths told mid memory first_cursor t.number t made older rest result v after there stood few
        (subst (λ (n : ℕ). CarriesOut told memory.client mid (undo_from more memory t.number first_cursor n rest) result v) at
        (behind_reply told memory.client mid behind_read reply (replies.Found first_cursor read) result v is behind))

    started : (made : Made) (older : List Made) → standing t ≡ made ∷ older → more ≤ length older
        → CarriesOut told memory.client s (asks (calls.Read memory.area made.lsn UndoNext) behind_read) result v → Undoing tabled told t.number t memory (suc more) rest result v
    started made older stood few (happened, reply, mid, (step, behind)) =
        let is_open = open_found [] s memory t.number t store there in
        let top = top_is s memory t made older is_open stood in
        from made older stood few happened reply mid step behind (begins laws told s memory made.lsn happened reply mid store top.logged.at step)

    go : (xs : List Made) → standing t ≡ xs → suc more ≤ length xs → Undoing tabled told t.number t memory (suc more) rest result v
    go [] is few = absurd (omega (arith, few))
    go (made ∷ older) is few =
        started made older is (omega (arith, few))
        (same_plan told memory.client s _ _ result v (ap (λ (l : List Made). asks (calls.Read memory.area (newest_of l) UndoNext) behind_read) is) carries)

-- ---- a set

set_done : {tabled : Bool} → (own : Option TxnRefusal) → own ≡ None → Laws → Lengths → (told : Bool) (s : State) (memory : Memory) (number cell value : ℕ) (t : Transaction) (result : Answered) (v : State) → IsStore tabled s memory
    → cell < cell_count → value < 2 ^ 64 → transaction memory number ≡ Some t → holder memory number cell ≡ None → nat_le t.changes (length t.made) ≡ false
    → CarriesOut told memory.client s (set_cell memory t (change_to memory cell value)) result v
    → Out tabled from_outside own s memory IsDone (IsSetTo cell value memory) result v
set_done {tabled = tabled} own none laws lengths told s memory number cell value t result v store inside fits there free room (happened, reply, mid, (step, behind)) =
    by (went told s memory.client (append_call memory t (Set change) (newest_standing t) false) reply mid
    (append_passes tabled laws s memory [] store t (Set change) (newest_standing t) false is_open.newest (standing_live s memory t is_open) held (lengths t.number (Set change)))
    (way told s memory.client (append_call memory t (Set change) (newest_standing t) false) happened reply mid store.whole step))
  where
    change : Change
    change = change_to memory cell value

    is_open : IsOpen s memory t
    is_open = open_found [] s memory number t store there

    held : 1 ≤ sectors_held memory.transactions
    held =
        let at = placed (is_numbered t.number) memory.transactions t (found_by_its memory number t there) in
        subst (λ (l : List Transaction). 1 ≤ sectors_held l) (sym at.is) (some_held at.before at.after t (some_left t is_open.few))

    rest : Reply → Plan Answered
    rest = on_placed (stops memory) (λ lsn. answers told_replies.Done (with_set t (change_to memory cell value) lsn memory))

    lsn : ℕ
    lsn = next_lsn s (length (txn_bytes (txn_record t.number (Set (change_to memory cell value)))))

    leaves : (lsn : ℕ) → IsSetTo cell value memory (with_set t (change_to memory cell value) lsn memory)
    leaves lsn = record {
      set = written memory.cells cell value cell (let long = store.cells in omega (arith, long, inside)) (eq-eqb cell cell refl);
      others = λ other differ. others_stay memory.cells cell value other (ne_eqb cell other (λ e. differ (sym e)));
    }

    by : Went told s memory.client (append_call memory t (Set (change_to memory cell value)) (newest_standing t) false) reply mid
        → Out tabled from_outside own s memory IsDone (IsSetTo cell value memory) result v
    by (kept takes is same) = stopped none (stopped_by from_outside told s mid memory rest reply result v (λ given is. is) (λ given. refl) store (left_whole is same) behind)
    by (broke how given outside is same) =
        stopped none (stopped_by from_outside told s mid memory rest reply result v (λ given is. is) (λ given. refl) store (left_broken given outside is same) behind)
    by (gave comes) =
        let came_so = append_came told s memory [] t (Set (change_to memory cell value)) (newest_standing t) false reply mid store comes in
        let add = added laws told s memory [] t (Set (change_to memory cell value)) (newest_standing t) false happened reply mid store
        (lengths t.number (Set (change_to memory cell value))) step came_so.1 in
        let at : ℕ = next_lsn s (length (txn_bytes (txn_record t.number (Set (change_to memory cell value))))) in
        done_as from_outside own none s mid memory (with_set t (change_to memory cell value) at memory) told_replies.Done IsDone (IsSetTo cell value memory) result v refl (leaves at)
        (set_store laws s mid memory [] t number cell value at false store there free room inside fits add)
        (behind_reply told memory.client mid rest reply (replies.Placed at) result v came_so.0 behind)

pub set_out : {tabled : Bool} → Laws → Lengths → (told : Bool) (s : State) (memory : Memory) (number cell value : ℕ) (result : Answered) (v : State) → IsStore tabled s memory
    → cell < cell_count → value < 2 ^ 64 → CarriesOut told memory.client s (set_plan memory number cell value) result v
    → Out tabled from_outside (table_reason memory (asked.Set number cell value)) s memory IsDone (IsSetTo cell value memory) result v
set_out {tabled = tabled} laws lengths told s memory number cell value result v store inside fits carries = of_txn (transaction memory number) refl carries
  where
    reason_found : (t : Transaction) → transaction memory number ≡ Some t → table_reason memory (asked.Set number cell value) ≡ set_reason memory number cell t
    reason_found t is = ap (λ (o : Option Transaction). option_map_or (set_reason memory number cell) o (Some denials.NoSuchTxn)) is

    reason_held : (t : Transaction) (o : Option Transaction) → transaction memory number ≡ Some t → holder memory number cell ≡ o
        → table_reason memory (asked.Set number cell value)
        ≡ option_map_or (λ (other : Transaction). Some (denials.CellHeld other.number)) o (reason_if (nat_le t.changes (length t.made)) (denials.ChangesSpent t.changes) None)
    reason_held t o there is = reason_found t there
        ∙ ap (λ (x : Option Transaction). option_map_or (λ (other : Transaction). Some (denials.CellHeld other.number)) x
        (reason_if (nat_le t.changes (length t.made)) (denials.ChangesSpent t.changes) None)) is

    reason_spent : (t : Transaction) (spent : Bool) → transaction memory number ≡ Some t → holder memory number cell ≡ None → nat_le t.changes (length t.made) ≡ spent
        → table_reason memory (asked.Set number cell value) ≡ reason_if spent (denials.ChangesSpent t.changes) None
    reason_spent t spent there free is = reason_held t None there free ∙ ap (λ (b : Bool). reason_if b (denials.ChangesSpent t.changes) None) is

    room : (t : Transaction) → transaction memory number ≡ Some t → holder memory number cell ≡ None → (spent : Bool) → nat_le t.changes (length t.made) ≡ spent
        → CarriesOut told memory.client s (unless spent (denials.ChangesSpent t.changes) memory (set_cell memory t (change_to memory cell value))) result v
        → Out tabled from_outside (table_reason memory (asked.Set number cell value)) s memory IsDone (IsSetTo cell value memory) result v
    room t there free true is ended = denied (denials.ChangesSpent t.changes) (reason_spent t true there free is) refl ended.0 ended.1
    room t there free false is carried = set_done _ (reason_spent t false there free is) laws lengths told s memory number cell value t result v store inside fits there free is carried

    of_holder : (t : Transaction) → transaction memory number ≡ Some t → (other : Option Transaction) → holder memory number cell ≡ other
        → CarriesOut told memory.client s (option_map_or (λ (x : Transaction). refuses memory (denials.CellHeld x.number)) other
        (unless (nat_le t.changes (length t.made)) (denials.ChangesSpent t.changes) memory (set_cell memory t (change_to memory cell value)))) result v
        → Out tabled from_outside (table_reason memory (asked.Set number cell value)) s memory IsDone (IsSetTo cell value memory) result v
    of_holder t there (Some other) is ended = denied (denials.CellHeld other.number) (reason_held t (Some other) there is) refl ended.0 ended.1
    of_holder t there None is carried = room t there is (nat_le t.changes (length t.made)) refl carried

    of_txn : (found : Option Transaction) → transaction memory number ≡ found
        → CarriesOut told memory.client s (option_map_or (λ (t : Transaction). option_map_or (λ (x : Transaction). refuses memory (denials.CellHeld x.number)) (holder memory number cell)
        (unless (nat_le t.changes (length t.made)) (denials.ChangesSpent t.changes) memory (set_cell memory t (change_to memory cell value)))) found
        (refuses memory denials.NoSuchTxn)) result v
        → Out tabled from_outside (table_reason memory (asked.Set number cell value)) s memory IsDone (IsSetTo cell value memory) result v
    of_txn None is ended =
        denied denials.NoSuchTxn (ap (λ (o : Option Transaction). option_map_or (set_reason memory number cell) o (Some denials.NoSuchTxn)) is) refl ended.0 ended.1
    of_txn (Some t) is carried = of_holder t is (holder memory number cell) refl carried
