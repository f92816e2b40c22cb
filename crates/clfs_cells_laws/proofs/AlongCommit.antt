-- A commit, from its append to its end: a crash in it leaves the table from before or that with its transaction.
use Rattle.clfs_cells_laws.proofs.Words.{◌≡◌, ◌⊎◌, ℕ, ◌-◌, ◌<◌, true, refl, sym, subst, ap, ◌∙◌, inl, inr, arith, List, [], ◌∷◌, ◌++◌, length, Some, None}
use Rattle.clfs_cells_laws.proofs.Words.{AllByRecursion, recursion_from_All, null_lsn, frontier, LogEntry, Call, Refusal, Reply, Area, State, answer, flush}
use Rattle.clfs_cells_laws.proofs.Words.{flushed, appended, need_of, plain_record, put, spend_if, refusal, asks, grown, IsSurvivor, IsRecord, IsValid, Commit}
use Rattle.clfs_cells_laws.proofs.Words.{Answered, answers, append_call, commit_plan, end_plan, stops, IsTxnRecord, txn_bytes, txn_record, on_held, on_placed}
use Rattle.clfs_cells_laws.proofs.Words.{Memory, Transaction, most_records, records_made, transaction, without_transaction, table, Along, IsSafeFrom, IsSafe}
use Rattle.clfs_cells_laws.proofs.Words.{LeavesEither, table_joined, IsStore, store_area}
use Rattle.clfs_model.specs.declared.call.Call.TheVariants as calls
use Rattle.clfs_model.specs.declared.refusal.Refusal.TheVariants as refusals
use Rattle.clfs_model.specs.declared.reply.Reply.TheVariants as replies
use Rattle.clfs_cells.specs.declared.told.TxnRefusal.TheVariants as denials
use Rattle.clfs_cells.specs.declared.told.TxnReply.TheVariants as told_replies
use Rattle.clfs_cells.specs.Plans.{calls as then_calls}
use Rattle.clfs_cells_laws.proofs.Along.{IsKept, IsTable, Rising, along_quiet, fine_state, named_by, releases}
use Rattle.clfs_cells_laws.proofs.AlongAppends.{HasRow, append_leaves, flushed_all, has_row, next_is}
use Rattle.clfs_cells_laws.proofs.AlongCalls.{EndsAs, ends_answered, ends_refused, held_along, one_of, option_along, placed_along}
use Rattle.clfs_cells_laws.proofs.FirstRestart.{table_by}
use Rattle.clfs_cells_laws.proofs.LeftBy.{commit_left, commit_table, quiet_left, safe_below}
use Rattle.clfs_cells_laws.proofs.Links.{draft_of}
use Rattle.clfs_cells_laws.proofs.OwnCalls.{Laws, damage_of}
use Rattle.clfs_cells_laws.proofs.StoreCalls.{number_found}
use Rattle.clfs_cells_laws.proofs.Ways.{Way, came, damaged, faulted, lacked, refused, way}

-- a log that was flushed has nothing that isn't on the disk
pub flushed_safe : (y u : State) (stream : ℕ) → flushed u ≡ flushed (flush y) → frontier u.place ≡ frontier (flush y).place → IsValid u → IsSafe u stream
flushed_safe y u stream p q valid =
    let at : flushed u ≡ frontier u.place = p ∙ flushed_all y ∙ sym q in
    subst (λ (n : ℕ). IsSafeFrom n u stream) (sym at)
    (safe_below (frontier u.place) u stream (below u.records (recursion_from_All (IsRecord u) u.records valid.records.records)))
  where
    below : (xs : List LogEntry) → AllByRecursion (IsRecord u) xs → AllByRecursion (λ (e : LogEntry). e.lsn < frontier u.place) xs
    below [] all = tt
    below (x ∷ xs) all = (all.0.below, below xs all.1)

-- the table with one of two transactions' numbers
same_joined : (s : State) (stream number other : ℕ) → number ≡ other → table_joined s stream number ≡ table_joined s stream other
same_joined s stream number other is = ap (table_joined s stream) is

module _ (laws : Laws) (rising : Rising) (s : State) (memory : Memory) (number : ℕ) (store : IsStore true s memory) (safe : IsSafe s memory.stream)
    (t : Transaction) (there : transaction memory number ≡ Some t) where
  left : LeavesEither (table s) (table_joined s memory.stream number) memory.client (append_call memory t Commit null_lsn true) s
  left x survives =
      let one = one_of s memory number t store safe there in
      let c : Call = append_call memory t Commit null_lsn true in
      let on = one.on in
      fine_state (λ (s2 : State). IsSurvivor (asks memory.client c) s s2 x → (table x ≡ table s) ⊎ (table x ≡ table_joined s memory.stream number)) s memory.client c on.whole
      (λ is. inl (quiet_left (asks memory.client c) s s x memory.stream on.valid on.named on.safe refl refl is))
      (λ none is. elim (append_leaves laws rising memory memory.stream t.number (table s) s on t Commit null_lsn true
      (record { some = one.some; txn = one.few; action = tt }) none) [
        | inl same ↦ inl (quiet_left (asks memory.client c) s (answer s memory.client c).state x memory.stream on.valid on.named on.safe
            (ap (λ (u : State). u.records) same) (ap (λ (u : State). u.streams) same) is)
        | inr has ↦ elim (commit_left (asks memory.client c) s (answer s memory.client c).state x memory.stream has.entry t.number on.valid on.named on.safe
            has.row has.records has.streams is) [
              | inl before ↦ inl before
              | inr with_it ↦ inr (with_it ∙ same_joined s memory.stream t.number number (number_found memory number t there))
            ]
      ]) survives

  -- the log after its commit was appended and flushed
  committed_on : (u : State) → HasRow memory.client memory.area memory.stream s u (txn_record t.number Commit) → IsSafe u memory.stream
      → IsTable memory.client memory.area memory.stream 0 (table_joined s memory.stream number) u
  committed_on u has safe_u =
      let one = one_of s memory number t store safe there in
      let on = one.on in
      let w : State = record s { records = s.records ++ has.entry ∷ [] } in
      record {
        valid = has.valid;
        whole = has.broken ∙ on.whole;
        named = named_by s u memory.stream has.streams on.named;
        own = has.own;
        is = table_by u w has.records has.streams ∙ commit_table s memory.stream has.entry t.number on.valid on.named has.row
            ∙ same_joined s memory.stream t.number number (number_found memory number t there);
        uncommitted = λ some. absurd (omega (arith, some));
        safe = safe_u;
      }

  -- how it goes on once it was
  behind : (u : State) (reply : Reply) → IsTable memory.client memory.area memory.stream 0 (table_joined s memory.stream number) u
      → Along (LeavesEither (table s) (table_joined s memory.stream number) memory.client) (EndsAs (table s) (table_joined s memory.stream number)) true memory.client u
      (on_placed (stops memory) (λ _. then_calls (calls.Release memory.area (most_records t.changes - records_made t - 1))
      (on_held (stops (without_transaction t.number memory)) (answers told_replies.Done (without_transaction t.number memory)))) reply)
  behind u reply on =
      let joined : List ℕ = table_joined s memory.stream number in
      let P : Call → State → Type 0 = LeavesEither (table s) joined memory.client in
      let E : Answered → State → Type 0 = EndsAs (table s) joined in
      placed_along P E memory.client u _ _
      (λ given. ends_refused memory.client memory.area 0 joined (table s) joined u memory (denials.Log given) (λ is. inr is) (inr on))
      (λ lsn. along_quiet laws rising memory.client memory.area memory.stream 0 joined (table s) joined (λ l is. inr is) E u
      (calls.Release memory.area (most_records t.changes - records_made t - 1)) _ (releases (most_records t.changes - records_made t - 1)) (inr on)
      (λ answered last kept. held_along P E memory.client last _ _
      (λ given. ends_refused memory.client memory.area 0 joined (table s) joined last (without_transaction t.number memory) (denials.Log given) (λ is. inr is) kept)
      (ends_answered memory.client memory.area 0 (table s) joined last (without_transaction t.number memory) told_replies.Done kept) answered)) reply

  -- or if the log refused it
  refused_so : (mid : State) (reply : Reply) (given : Refusal) → reply ≡ replies.Refused given → IsKept memory.client memory.area memory.stream t.number (table s) mid
      → Along (LeavesEither (table s) (table_joined s memory.stream number) memory.client) (EndsAs (table s) (table_joined s memory.stream number)) true memory.client mid
      (on_placed (stops memory) (λ _. then_calls (calls.Release memory.area (most_records t.changes - records_made t - 1))
      (on_held (stops (without_transaction t.number memory)) (answers told_replies.Done (without_transaction t.number memory)))) reply)
  refused_so mid reply given is kept =
      let joined : List ℕ = table_joined s memory.stream number in
      subst (λ (r : Reply). Along (LeavesEither (table s) joined memory.client) (EndsAs (table s) joined) true memory.client mid
      (on_placed (stops memory) (λ _. then_calls (calls.Release memory.area (most_records t.changes - records_made t - 1))
      (on_held (stops (without_transaction t.number memory)) (answers told_replies.Done (without_transaction t.number memory)))) r)) (sym is)
      (ends_refused memory.client memory.area t.number (table s) (table s) joined mid memory (denials.Log given) (λ same. inl same) kept)

  came_so : (mid : State) (reply : Reply) → refusal s memory.client (append_call memory t Commit null_lsn true) ≡ None
      → mid ≡ (answer s memory.client (append_call memory t Commit null_lsn true)).state
      → Along (LeavesEither (table s) (table_joined s memory.stream number) memory.client) (EndsAs (table s) (table_joined s memory.stream number)) true memory.client mid
      (on_placed (stops memory) (λ _. then_calls (calls.Release memory.area (most_records t.changes - records_made t - 1))
      (on_held (stops (without_transaction t.number memory)) (answers told_replies.Done (without_transaction t.number memory)))) reply)
  came_so mid reply none is =
      let one = one_of s memory number t store safe there in
      let on = one.on in
      let a : Area = store_area memory [] in
      let c : Call = append_call memory t Commit null_lsn true in
      let u : State = (answer s memory.client c).state in
      let fit : IsTxnRecord (txn_record t.number Commit) = record { some = one.some; txn = one.few; action = tt } in
      let at : u ≡ appended s a (draft_of t Commit null_lsn true) true [] = next_is laws rising memory memory.stream t.number (table s) s on t Commit null_lsn true fit (Some a) store.area in
      let has = has_row laws rising memory memory.stream t.number (table s) s on t Commit null_lsn true fit a (on.own a store.area) none at in
      let n : ℕ = length (txn_bytes (txn_record t.number Commit)) in
      let y : State = spend_if true a n (put (grown s (need_of true n [])) (plain_record a (draft_of t Commit null_lsn true))) in
      let safe_u = flushed_safe y u memory.stream (ap flushed at) (ap (λ (x : State). frontier x.place) at) has.valid in
      subst (λ (x : State). Along (LeavesEither (table s) (table_joined s memory.stream number) memory.client) (EndsAs (table s) (table_joined s memory.stream number)) true memory.client x
      (on_placed (stops memory) (λ _. then_calls (calls.Release memory.area (most_records t.changes - records_made t - 1))
      (on_held (stops (without_transaction t.number memory)) (answers told_replies.Done (without_transaction t.number memory)))) reply)) (sym is)
      (behind u reply (committed_on u has safe_u))

  went_so : (reply : Reply) (mid : State) → Way true s memory.client (append_call memory t Commit null_lsn true) reply mid
      → Along (LeavesEither (table s) (table_joined s memory.stream number) memory.client) (EndsAs (table s) (table_joined s memory.stream number)) true memory.client mid
      (on_placed (stops memory) (λ _. then_calls (calls.Release memory.area (most_records t.changes - records_made t - 1))
      (on_held (stops (without_transaction t.number memory)) (answers told_replies.Done (without_transaction t.number memory)))) reply)
  went_so reply mid (lacked takes is at) =
      refused_so mid reply refusals.NoMemory is (inr (subst (IsTable memory.client memory.area memory.stream t.number (table s)) (sym at) (one_of s memory number t store safe there).on))
  went_so reply mid (refused first by_it is at) =
      refused_so mid reply first is (inr (subst (IsTable memory.client memory.area memory.stream t.number (table s)) (sym at) (one_of s memory number t store safe there).on))
  went_so reply mid (faulted called is at) = refused_so mid reply refusals.DiskFault is (inl (ap (λ (x : State). x.broken) at))
  went_so reply mid (damaged read is at) = let d = damage_of reply is in refused_so mid reply d.0 d.2 (inl (ap (λ (x : State). x.broken) at))
  went_so reply mid (came none comes) = came_so mid reply none comes.1

  pub end_along : Along (LeavesEither (table s) (table_joined s memory.stream number) memory.client) (EndsAs (table s) (table_joined s memory.stream number)) true memory.client s
      (end_plan memory t Commit true)
  end_along = (
    (λ whole. left),
    (λ happened reply mid step. went_so reply mid (way true s memory.client (append_call memory t Commit null_lsn true) happened reply mid store.whole step)),
  )

pub along_commit : Laws → Rising → (s : State) (memory : Memory) (number : ℕ) → IsStore true s memory → IsSafe s memory.stream
    → Along (LeavesEither (table s) (table_joined s memory.stream number) memory.client) (EndsAs (table s) (table_joined s memory.stream number)) true memory.client s
    (commit_plan memory number)
along_commit laws rising s memory number store safe =
    option_along (LeavesEither (table s) (table_joined s memory.stream number) memory.client) (EndsAs (table s) (table_joined s memory.stream number)) memory.client s _ _
    (transaction memory number) (λ t there. end_along laws rising s memory number store safe t there)
    (inr (record { safe = safe; either = inl refl; answered = λ e. absurd (cc e) }))
