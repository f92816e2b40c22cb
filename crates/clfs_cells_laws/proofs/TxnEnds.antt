-- How a transaction ends, and how sets are taken back: what is left of the store.
use Rattle.clfs_cells_laws.proofs.Words.{◌≡◌, ℕ, ◌+◌, ◌-◌, ◌≤◌, Bool, true, false, refl, sym, subst, ap, ◌∙◌, inl, inr, arith, List, [], ◌∷◌, ◌++◌, length}
use Rattle.clfs_cells_laws.proofs.Words.{drop, Option, Some, None, find, nat_lt, slice_index, AllByRecursion, option_map_or, ne_eqb, le-ltb, ltb-false}
use Rattle.clfs_cells_laws.proofs.Words.{null_lsn, LogEntry, Reply, Area, State, Outcome, answer, outcome, flushed, next_lsn, with_less_held, refusal}
use Rattle.clfs_cells_laws.proofs.Words.{refused_if, short, change_area, Comes, IsReply, IsValid, Made, Action, Commit, RolledBack, TxnRefusal, Answered}
use Rattle.clfs_cells_laws.proofs.Words.{answers, append_call, back_plan, commit_plan, end_plan, over_transaction, refuses, rollback_plan, stops, undo_sets}
use Rattle.clfs_cells_laws.proofs.Words.{unless, txn_bytes, txn_record, Plan, CarriesOut, on_held, on_placed, Memory, Transaction, is_numbered, most_records}
use Rattle.clfs_cells_laws.proofs.Words.{records_made, standing, transaction, without_first, without_transaction, reason_if, table_reason, IsCommitted}
use Rattle.clfs_cells_laws.proofs.Words.{IsRolledBack, IsTakenBack, from_outside, AllApart, AreApart, IsOpen, IsStore, records_left, sectors_held, store_area}
use Rattle.clfs_cells_laws.proofs.Words.{value_before, value_by, IsAction, changed, committed, first_cells, records_after, IsInTable, IsTabled, Keeps}
use Rattle.std.proofs.Math.Seq.{drop-append_seam}
use Rattle.std.proofs.lemmas.List.{length-append}
use Rattle.clfs_model.specs.declared.call.Call.TheVariants as calls
use Rattle.clfs_model.specs.declared.refusal.Refusal.TheVariants as refusals
use Rattle.clfs_model.specs.declared.reply.Reply.TheVariants as replies
use Rattle.clfs_model.specs.Answers.{released}
use Rattle.clfs_cells.specs.declared.asked.TxnCall.TheVariants as asked
use Rattle.clfs_cells.specs.declared.told.TxnRefusal.TheVariants as denials
use Rattle.clfs_cells.specs.declared.told.TxnReply.TheVariants as told_replies
use Rattle.clfs_cells.specs.Plans.{calls as asks}
use Rattle.clfs_cells_laws.specs.Reasons.{back_reason, reason_within}
use Rattle.clfs_cells_laws.proofs.Ends.{IsDone, Lengths, Out, denied, done, stopped, stopped_by, undo_started}
use Rattle.clfs_cells_laws.proofs.Grown.{Grows, live_named, still_some}
use Rattle.clfs_cells_laws.proofs.Links.{append_passes, some_held, some_left}
use Rattle.clfs_cells_laws.proofs.OneOf.{Placed, all_parts, apart_parts, placed, sectors_parts, without_at}
use Rattle.clfs_cells_laws.proofs.OwnCalls.{joined_live, Laws, Went, area_after, broke, gave, kept, went}
use Rattle.clfs_cells_laws.proofs.Stacks.{first_has, each}
use Rattle.clfs_cells_laws.proofs.StoreCalls.{tabled_on, Added, added, append_came, entry_of, found_by_its, number_found, open_found, open_on, stream_same}
use Rattle.clfs_cells_laws.proofs.TableEnds.{commit_keeps, rollback_keeps}
use Rattle.clfs_cells_laws.proofs.TableLog.{row_joins}
use Rattle.clfs_cells_laws.proofs.TabledRows.{keeps_as}
use Rattle.clfs_cells_laws.proofs.Undoes.{Halted, IsUndone, Undoing, behind_reply, came_to, halted}
use Rattle.clfs_cells_laws.proofs.UndoReads.{left_broken, left_whole}
use Rattle.clfs_cells_laws.proofs.Ways.{way}

-- ---- the room that is given up

-- the area once a transaction's last record is appended
abbrev less_one : Memory → Area
less_one memory = record (store_area memory []) { held = sectors_held memory.transactions - 1 }

held_as : (told : Bool) (stable held : ℕ) (reply : Reply) → IsReply told stable (replies.Held held) reply → reply ≡ replies.Held held
held_as true stable held reply is = is
held_as false stable held reply is = is

abbrev rest_of : Transaction → ℕ
rest_of t = most_records t.changes - records_made t - 1

-- without one of the transactions
gone_from : (transactions : List Transaction) (t : Transaction) (at : Placed (is_numbered t.number) transactions t)
    → without_first (is_numbered t.number) transactions ≡ at.before ++ at.after
gone_from transactions t at = ap (without_first (is_numbered t.number)) at.is ∙ without_at (is_numbered t.number) at.before at.after t at.none at.here

-- none of the others has its number
none_numbered : (number : ℕ) (xs : List Transaction) → AllByRecursion (λ (x : Transaction). x.number ≡ number → ⊥) xs → find (is_numbered number) xs ≡ None
none_numbered number [] none = refl
none_numbered number (x ∷ xs) none = rw (ne_eqb x.number number none.0) (none_numbered number xs none.1)

gone_is : {tabled : Bool} → (s : State) (memory : Memory) (number : ℕ) (t : Transaction) → IsStore tabled s memory → transaction memory number ≡ Some t
    → transaction (without_transaction t.number memory) number ≡ None
gone_is {tabled = tabled} s memory number t store there =
    let at = placed (is_numbered t.number) memory.transactions t (found_by_its memory number t there) in
    let apart = apart_parts at.before at.after t (subst AllApart at.is store.apart) in
    let named = number_found memory number t there in
    ap (find (is_numbered number)) (gone_from memory.transactions t at)
    ∙ none_numbered number (at.before ++ at.after)
    (each (AreApart t) (λ (x : Transaction). x.number ≡ number → ⊥) (at.before ++ at.after) (λ x is e. is.numbers (named ∙ sym e)) apart.1)

module _ (tabled : Bool) (s u w : State) (memory : Memory) (t : Transaction) (entry : LogEntry) (store : IsStore tabled s memory) (add : Added s u memory [] entry)
    (there : transaction memory t.number ≡ Some t) where
  at : Placed (is_numbered t.number) memory.transactions t
  at = placed (is_numbered t.number) memory.transactions t there

  is_open : IsOpen s memory t
  is_open = open_found [] s memory t.number t store there

  held_is : sectors_held memory.transactions ≡ records_left t + sectors_held (at.before ++ at.after)
  held_is = ap sectors_held at.is ∙ sectors_parts at.before at.after t

  some : 1 ≤ records_left t
  some = some_left t is_open.few

  pub release_passes : refusal u memory.client (calls.Release memory.area (rest_of t)) ≡ None
  release_passes =
      let enough : nat_lt (sectors_held memory.transactions - 1) (rest_of t) ≡ false
      = le-ltb (sectors_held memory.transactions - 1) (rest_of t) (omega (arith, held_is, some)) in
      ap (λ (o : Option Area). option_map_or (λ (area : Area). short area (rest_of t) None) o (Some refusals.NoSuchArea)) add.area
      ∙ ap (λ (b : Bool). refused_if b (refusals.ReservationShort (sectors_held memory.transactions - 1) (rest_of t)) None) enough

  left_held : sectors_held memory.transactions - 1 - rest_of t ≡ sectors_held (without_first (is_numbered t.number) memory.transactions)
  left_held =
      let gone : sectors_held (without_first (is_numbered t.number) memory.transactions) ≡ sectors_held (at.before ++ at.after)
      = ap sectors_held (gone_from memory.transactions t at) in
      omega (arith, held_is, some, gone)

  pub ended_store : w ≡ change_area (with_less_held (rest_of t)) memory.client memory.area u → IsValid w
      → (tabled ≡ true → IsTabled u (without_transaction t.number memory)) → IsStore tabled w (without_transaction t.number memory)
  ended_store is valid_w table =
      let grows : Grows s w = record { streams = ap (λ (x : State). x.streams) is ∙ add.streams; more = entry ∷ []; records = ap (λ (x : State). x.records) is ∙ add.records } in
      let apart = apart_parts at.before at.after t (subst AllApart at.is store.apart) in
      let all_open = all_parts (IsOpen s memory) at.before at.after t (subst (AllByRecursion (IsOpen s memory)) at.is store.open_ones) in
      record {
        valid = valid_w;
        whole = ap (λ (x : State). x.broken) is ∙ add.whole;
        stream = stream_same s w grows.streams ∙ store.stream;
        some = still_some s w memory.stream grows store.some;
        area = area_after u w memory.client memory.area (less_one memory) (with_less_held (rest_of t)) (record { client = λ a. refl; number = λ a. refl }) add.area
            (ap (λ (x : State). x.areas) is)
            ∙ ap (λ (n : ℕ). Some (record (store_area memory []) { held = n })) left_held;
        cells = store.cells;
        table = λ so. tabled_on u w (without_transaction t.number memory) (ap (λ (x : State). x.streams) is) (ap (λ (x : State). x.records) is) (table so);
        apart = subst AllApart (sym (gone_from memory.transactions t at)) apart.0;
        open_ones = subst (AllByRecursion (IsOpen w (without_transaction t.number memory))) (sym (gone_from memory.transactions t at))
            (each (IsOpen s memory) (IsOpen w (without_transaction t.number memory)) (at.before ++ at.after)
            (λ x open_x. open_on s w memory (without_transaction t.number memory) x grows refl (omega arith) (λ cell held. refl) open_x) all_open.0);
      }

-- what a transaction's end leaves
abbrev pub IsEnded : Memory → Transaction → Memory → Type 0
IsEnded memory t now = now ≡ without_transaction t.number memory

abbrev behind_release : Memory → Reply → Plan Answered
behind_release after = on_held (stops after) (answers told_replies.Done after)

-- the room is given up
release_out : {tabled : Bool} → Laws → (told : Bool) (s u : State) (memory : Memory) (t : Transaction) (entry : LogEntry) (result : Answered) (v : State) → IsStore tabled s memory
    → transaction memory t.number ≡ Some t → Added s u memory [] entry → (tabled ≡ true → IsTabled u (without_transaction t.number memory))
    → CarriesOut told memory.client u (asks (calls.Release memory.area (rest_of t)) (behind_release (without_transaction t.number memory))) result v
    → (result ≡ record { reply = told_replies.Done; memory = without_transaction t.number memory }) × IsStore tabled v (without_transaction t.number memory)
release_out {tabled = tabled} laws told s u memory t entry result v store there add table (happened, reply, mid, (step, behind)) =
    by (went told u memory.client (calls.Release memory.area (rest_of t)) reply mid (release_passes tabled s u mid memory t entry store add there)
    (way told u memory.client (calls.Release memory.area (rest_of t)) happened reply mid add.whole step))
  where
    after : Memory
    after = without_transaction t.number memory

    by : Went told u memory.client (calls.Release memory.area (rest_of t)) reply mid
        → (result ≡ record { reply = told_replies.Done; memory = without_transaction t.number memory }) × IsStore tabled v (without_transaction t.number memory)
    by (kept takes is same) = absurd (cc takes)
    by (broke (inl how) given outside is same) = absurd (cc how)
    by (broke (inr how) given outside is same) = absurd (cc how)
    by (gave comes) =
        let sectors : ℕ = rest_of t in
        let held : ℕ = sectors_held memory.transactions - 1 in
        let next : State = change_area (with_less_held sectors) memory.client memory.area u in
        let is : answer u memory.client (calls.Release memory.area sectors) ≡ outcome (replies.Held (held - sectors)) next
        = ap (λ (o : Option Area). option_map_or (λ (a : Area). released u a sectors) o (outcome (replies.Refused refusals.NoSuchArea) u)) add.area in
        let so : Comes told (flushed u) (outcome (replies.Held (held - sectors)) next) reply mid
        = subst (λ (o : Outcome). Comes told (flushed u) o reply mid) is comes in
        let told_so = held_as told (flushed u) (held - sectors) reply so.0 in
        let valid = laws.keeps told u memory.client (calls.Release memory.area sectors) happened reply mid add.valid step in
        let over = behind_reply told memory.client mid (behind_release (without_transaction t.number memory)) reply (replies.Held (held - sectors)) result v told_so behind in
        (over.0, subst (λ (x : State). IsStore tabled x (without_transaction t.number memory)) (sym over.1) (ended_store tabled s u mid memory t entry store add there so.1 valid table))

-- how a transaction's end goes: it is done, or the log refused it
pub data Ended (tabled : Bool) (memory : Memory) (t : Transaction) (result : Answered) (v : State) : Type 0 where
  not_ended : Halted tabled from_outside result v → Ended tabled memory t result v
  ended : result.reply ≡ told_replies.Done → IsEnded memory t result.memory → IsStore tabled v result.memory → Ended tabled memory t result v

pub end_out : {tabled : Bool} → Laws → Lengths → (told : Bool) (s : State) (memory : Memory) (number : ℕ) (t : Transaction) (action : Action) (flush : Bool) (result : Answered) (v : State)
    → IsStore tabled s memory → transaction memory number ≡ Some t → IsAction action
    → (tabled ≡ true → Keeps (first_cells s memory.stream) (records_after s memory.stream ++ txn_record t.number action ∷ []) (without_transaction t.number memory))
    → CarriesOut told memory.client s (end_plan memory t action flush) result v
    → Ended tabled memory t result v
end_out {tabled = tabled} laws lengths told s memory number t action flush result v store there fits ended_keeps (happened, reply, mid, (step, behind)) =
    by (went told s memory.client (append_call memory t action null_lsn flush) reply mid
    (append_passes tabled laws s memory [] store t action null_lsn flush its_open.newest (inl refl) held (lengths t.number action))
    (way told s memory.client (append_call memory t action null_lsn flush) happened reply mid store.whole step))
  where
    its_open : IsOpen s memory t
    its_open = open_found [] s memory number t store there

    held : 1 ≤ sectors_held memory.transactions
    held =
        let at = placed (is_numbered t.number) memory.transactions t (found_by_its memory number t there) in
        subst (λ (l : List Transaction). 1 ≤ sectors_held l) (sym at.is) (some_held at.before at.after t (some_left t its_open.few))

    rest : Reply → Plan Answered
    rest = on_placed (stops memory) (λ _. asks (calls.Release memory.area (rest_of t)) (behind_release (without_transaction t.number memory)))

    by : Went told s memory.client (append_call memory t action null_lsn flush) reply mid → Ended tabled memory t result v
    by (kept takes is same) = not_ended (stopped_by from_outside told s mid memory rest reply result v (λ given is. is) (λ given. refl) store (left_whole is same) behind)
    by (broke how given outside is same) =
        not_ended (stopped_by from_outside told s mid memory rest reply result v (λ given is. is) (λ given. refl) store (left_broken given outside is same) behind)
    by (gave comes) =
        let lsn : ℕ = next_lsn s (length (txn_bytes (txn_record t.number action))) in
        let came_so = append_came told s memory [] t action null_lsn flush reply mid store comes in
        let add = added laws told s memory [] t action null_lsn flush happened reply mid store (lengths t.number action) step came_so.1 in
        let entry : LogEntry = entry_of memory [] t action null_lsn flush lsn in
        let live = joined_live s mid entry store.valid add.above add.records add.streams in
        let table : tabled ≡ true → IsTabled mid (without_transaction t.number memory)
        = λ so.
        let keeps = store.table so in
        let in_t = first_has (IsInTable (changed (first_cells s memory.stream) (committed (records_after s memory.stream))) (records_after s memory.stream)) (is_numbered number)
        memory.transactions t there keeps.open_ones in
        let row = laws.spelled_row (txn_record t.number action)
        (record { some = in_t.some; txn = let low = its_open.numbered in let high = keeps.last in omega (arith, low, high); action = fits }) in
        let joined = row_joins s mid memory.stream entry (txn_record t.number action) store.valid add.above (live_named mid memory.stream lsn add.valid live.0)
        add.streams add.records refl refl row in
        keeps_as s mid memory (without_transaction t.number memory) (first_cells s memory.stream)
        (records_after s memory.stream ++ txn_record t.number action ∷ []) joined.0 joined.1 (ended_keeps so) in
        let over = release_out laws told s mid memory t entry result v store (found_by_its memory number t there) add table
        (behind_reply told memory.client mid rest reply (replies.Placed lsn) result v came_so.0 behind) in
        ended (ap (λ (a : Answered). a.reply) over.0) (ap (λ (a : Answered). a.memory) over.0)
        (subst (λ (a : Answered). IsStore tabled v a.memory) (sym over.0) over.1)

-- ---- commit

over_out : {tabled : Bool} → {P : Memory → Type 0} (told : Bool) (s : State) (memory : Memory) (number : ℕ) (reason : Transaction → Option TxnRefusal)
    (go : Transaction → Plan Answered) (result : Answered) (v : State)
    → ((t : Transaction) → transaction memory number ≡ Some t → CarriesOut told memory.client s (go t) result v → Out tabled from_outside (reason t) s memory IsDone P result v)
    → CarriesOut told memory.client s (over_transaction memory number go) result v → Out tabled from_outside (reason_within memory number reason) s memory IsDone P result v
over_out {tabled = tabled} {P = P} told s memory number reason go result v to carries = by (transaction memory number) refl carries
  where
    by : (o : Option Transaction) → transaction memory number ≡ o → CarriesOut told memory.client s (option_map_or go o (refuses memory denials.NoSuchTxn)) result v
        → Out tabled from_outside (reason_within memory number reason) s memory IsDone P result v
    by None is over =
        denied denials.NoSuchTxn (ap (λ (o : Option Transaction). option_map_or reason o (Some denials.NoSuchTxn)) is) refl over.0 over.1
    by (Some t) is carried =
        subst (λ (own : Option TxnRefusal). Out tabled from_outside own s memory IsDone P result v)
        (sym (ap (λ (o : Option Transaction). option_map_or reason o (Some denials.NoSuchTxn)) is)) (to t is carried)

pub commit_out : {tabled : Bool} → Laws → Lengths → (told : Bool) (s : State) (memory : Memory) (number : ℕ) (result : Answered) (v : State) → IsStore tabled s memory
    → CarriesOut told memory.client s (commit_plan memory number) result v
    → Out tabled from_outside (table_reason memory (asked.Commit number)) s memory IsDone (IsCommitted number memory) result v
commit_out {tabled = tabled} laws lengths told s memory number result v store carries =
    over_out told s memory number (λ t. None) (λ t. end_plan memory t Commit true) result v
    (λ t there carried. by t there (end_out laws lengths told s memory number t Commit true result v store there tt (committed_keeps t there) carried)) carries
  where
    committed_keeps : (t : Transaction) → transaction memory number ≡ Some t → tabled ≡ true
        → Keeps (first_cells s memory.stream) (records_after s memory.stream ++ txn_record t.number Commit ∷ []) (without_transaction t.number memory)
    committed_keeps t there so =
        let at = placed (is_numbered t.number) memory.transactions t (found_by_its memory number t there) in
        let apart = apart_parts at.before at.after t (subst AllApart at.is store.apart) in
        let is_open = open_found [] s memory number t store there in
        commit_keeps (first_cells s memory.stream) (records_after s memory.stream) memory (store.table so) at.before at.after t at.is apart.1
        (without_first (is_numbered t.number) memory.transactions) (gone_from memory.transactions t at) is_open.numbered

    by : (t : Transaction) → transaction memory number ≡ Some t → Ended tabled memory t result v → Out tabled from_outside None s memory IsDone (IsCommitted number memory) result v
    by t there (not_ended h) = stopped refl h
    by t there (ended so is store_after) = done refl so
        (record {
          was = t;
          there = there;
          gone = ap (λ (m : Memory). transaction m number) is ∙ gone_is s memory number t store there;
          cells = ap (λ (m : Memory). m.cells) is;
          without = ap (λ (m : Memory). m.transactions) is
              ∙ ap (λ (n : ℕ). without_first (is_numbered n) memory.transactions) (number_found memory number t there);
        }) store_after

-- ---- back

back_leaves : {tabled : Bool} → (s u : State) (memory now : Memory) (number to_keep : ℕ) (t x : Transaction) → IsStore tabled u now → transaction memory number ≡ Some t → to_keep ≤ length (standing t)
    → IsUndone number t memory now x (length (standing t) - to_keep) → IsTakenBack number to_keep memory now
back_leaves {tabled = tabled} s u memory now number to_keep t x store there few undone =
    let is_open = open_found [] u now number x store undone.there in
    let long : length (standing t) ≡ length undone.gone + length (standing x) = ap length undone.stood ∙ length-append undone.gone (standing x) in
    record {
      was = t;
      there = there;
      is = x;
      still = undone.there;
      count = let many = undone.many in omega (arith, long, many, few);
      oldest = sym (ap (λ (n : ℕ). drop n (standing t)) (sym undone.many) ∙ ap (drop (length undone.gone)) undone.stood ∙ drop-append_seam undone.gone (standing x));
      values = λ cell held. is_open.values cell (undone.held cell ∙ held) ∙ ap (λ (n : ℕ). value_by n cell (standing x)) (undone.before cell);
      others = undone.others;
    }

pub back_out : {tabled : Bool} → Laws → Lengths → (told : Bool) (s : State) (memory : Memory) (number to_keep : ℕ) (result : Answered) (v : State) → IsStore tabled s memory
    → CarriesOut told memory.client s (back_plan memory number to_keep) result v
    → Out tabled from_outside (table_reason memory (asked.Back number to_keep)) s memory IsDone (IsTakenBack number to_keep memory) result v
back_out {tabled = tabled} laws lengths told s memory number to_keep result v store carries =
    over_out told s memory number (back_reason to_keep) (λ t. unless (nat_lt (length (standing t)) to_keep) (denials.KeptTooMany (length (standing t))) memory
    (undo_sets (length (standing t) - to_keep) memory t (λ now. answers told_replies.Done now))) result v
    (λ t there carried. by t there (nat_lt (length (standing t)) to_keep) refl carried) carries
  where
    over : (t : Transaction) → transaction memory number ≡ Some t → to_keep ≤ length (standing t) → back_reason to_keep t ≡ None
        → Undoing tabled told t.number t memory (length (standing t) - to_keep) (λ now. answers told_replies.Done now) result v
        → Out tabled from_outside (back_reason to_keep t) s memory IsDone (IsTakenBack number to_keep memory) result v
    over t there few clear (halted h) = stopped clear h
    over t there few clear (came_to u now x store_u undone client finished) =
        let named = number_found memory number t there in
        let left = back_leaves s u memory now number to_keep t x store_u there few
        (subst (λ (n : ℕ). IsUndone n t memory now x (length (standing t) - to_keep)) named undone) in
        done clear (ap (λ (a : Answered). a.reply) finished.0)
        (subst (λ (a : Answered). IsTakenBack number to_keep memory a.memory) (sym finished.0) left)
        (subst (λ (y : State). IsStore tabled y result.memory) (sym finished.1) (subst (λ (a : Answered). IsStore tabled u a.memory) (sym finished.0) store_u))

    by : (t : Transaction) → transaction memory number ≡ Some t → (more : Bool) → nat_lt (length (standing t)) to_keep ≡ more
        → CarriesOut told memory.client s (unless more (denials.KeptTooMany (length (standing t))) memory
        (undo_sets (length (standing t) - to_keep) memory t (λ now. answers told_replies.Done now))) result v
        → Out tabled from_outside (back_reason to_keep t) s memory IsDone (IsTakenBack number to_keep memory) result v
    by t there true is so =
        denied (denials.KeptTooMany (length (standing t))) (ap (λ (b : Bool). reason_if b (denials.KeptTooMany (length (standing t))) None) is) refl so.0 so.1
    by t there false is carried =
        over t there (ltb-false (length (standing t)) to_keep is) (ap (λ (b : Bool). reason_if b (denials.KeptTooMany (length (standing t))) None) is)
        (undo_started (length (standing t) - to_keep) laws lengths told s memory t (λ now. answers told_replies.Done now) result v store (found_by_its memory number t there)
        (omega arith) carried)

-- ---- rollback

no_sets : (xs : List Made) → length xs ≡ 0 → xs ≡ []
no_sets [] is = refl
no_sets (x ∷ xs) is = absurd (omega (arith, is))

rolled_back : {tabled : Bool} → (s u : State) (memory now : Memory) (number : ℕ) (t x : Transaction) (after : Memory) → IsStore tabled u now → transaction memory number ≡ Some t
    → IsUndone number t memory now x (length (standing t)) → IsEnded now x after → IsRolledBack number memory after
rolled_back {tabled = tabled} s u memory now number t x after store there undone is =
    let is_open = open_found [] u now number x store undone.there in
    let long : length (standing t) ≡ length undone.gone + length (standing x) = ap length undone.stood ∙ length-append undone.gone (standing x) in
    let none : standing x ≡ [] = no_sets (standing x) (let many = undone.many in omega (arith, long, many)) in
    record {
      was = t;
      there = there;
      gone = ap (λ (m : Memory). transaction m number) is ∙ gone_is u now number x store undone.there;
      values = λ cell held. ap (λ (m : Memory). slice_index m.cells cell) is ∙ is_open.values cell (undone.held cell ∙ held)
          ∙ ap (λ (l : List Made). value_by (value_before x.made cell) cell l) none ∙ undone.before cell;
      others = λ cell free. ap (λ (m : Memory). slice_index m.cells cell) is ∙ undone.others cell free;
    }

-- no set stands
none_stand : (t x : Transaction) (memory now : Memory) (number : ℕ) → IsUndone number t memory now x (length (standing t)) → standing x ≡ []
none_stand t x memory now number undone =
    let long : length (standing t) ≡ length undone.gone + length (standing x) = ap length undone.stood ∙ length-append undone.gone (standing x) in
    no_sets (standing x) (let many = undone.many in omega (arith, long, many))

-- what was rolled back leaves the table as it was
rolled_keeps : {tabled : Bool} → (u : State) (now : Memory) (number : ℕ) (x : Transaction) → IsStore tabled u now → transaction now number ≡ Some x → standing x ≡ []
    → tabled ≡ true → Keeps (first_cells u now.stream) (records_after u now.stream ++ txn_record x.number RolledBack ∷ []) (without_transaction x.number now)
rolled_keeps {tabled = tabled} u now number x store there none so =
    let at = placed (is_numbered x.number) now.transactions x (found_by_its now number x there) in
    let apart = apart_parts at.before at.after x (subst AllApart at.is store.apart) in
    let is_open = open_found [] u now number x store there in
    rollback_keeps (first_cells u now.stream) (records_after u now.stream) now (store.table so) at.before at.after x at.is apart.1
    (without_first (is_numbered x.number) now.transactions) (gone_from now.transactions x at) is_open.numbered
    (λ cell held. is_open.values cell held ∙ ap (λ (l : List Made). value_by (value_before x.made cell) cell l) none)

pub rollback_out : {tabled : Bool} → Laws → Lengths → (told : Bool) (s : State) (memory : Memory) (number : ℕ) (result : Answered) (v : State) → IsStore tabled s memory
    → CarriesOut told memory.client s (rollback_plan memory number) result v
    → Out tabled from_outside (table_reason memory (asked.Rollback number)) s memory IsDone (IsRolledBack number memory) result v
rollback_out {tabled = tabled} laws lengths told s memory number result v store carries =
    over_out told s memory number (λ t. None) (λ t. undo_sets (length (standing t)) memory t ends_it) result v
    (λ t there carried. over t there
    (undo_started (length (standing t)) laws lengths told s memory t ends_it result v store (found_by_its memory number t there) (omega arith) carried)) carries
  where
    ends_it : Memory → Plan Answered
    ends_it now = over_transaction now number (λ t. end_plan now t RolledBack false)

    by : (t : Transaction) → transaction memory number ≡ Some t → (u : State) (now : Memory) (x : Transaction) → IsStore tabled u now
        → IsUndone number t memory now x (length (standing t)) → Ended tabled now x result v
        → Out tabled from_outside None s memory IsDone (IsRolledBack number memory) result v
    by t there u now x store_u undone (not_ended h) = stopped refl h
    by t there u now x store_u undone (ended so is store_v) =
        done refl so (rolled_back s u memory now number t x result.memory store_u there undone is) store_v

    over : (t : Transaction) → transaction memory number ≡ Some t → Undoing tabled told t.number t memory (length (standing t)) ends_it result v
        → Out tabled from_outside None s memory IsDone (IsRolledBack number memory) result v
    over t there (halted h) = stopped refl h
    over t there (came_to u now x store_u undone client carried) =
        let named = number_found memory number t there in
        let its = subst (λ (n : ℕ). IsUndone n t memory now x (length (standing t))) named undone in
        let plan : ends_it now ≡ end_plan now x RolledBack false
        = ap (λ (o : Option Transaction). option_map_or (λ (y : Transaction). end_plan now y RolledBack false) o (refuses now denials.NoSuchTxn)) its.there in
        by t there u now x store_u its (end_out laws lengths told u now number x RolledBack false result v store_u its.there tt
        (λ so. rolled_keeps u now number x store_u its.there (none_stand t x memory now number its) so)
        (subst (λ (p : Plan Answered). CarriesOut told now.client u p result v) plan carried))
