-- A checkpoint: a crash in it leaves the table from before, since the restart area has just that.
use Rattle.clfs_cells_laws.proofs.Words.{◌≡◌, ℕ, ◌+◌, ◌-◌, ◌≤◌, Bool, true, false, refl, sym, subst, ap, ◌∙◌, inl, inr, arith, List, [], ◌∷◌, length, Option}
use Rattle.clfs_cells_laws.proofs.Words.{None, ◌==◌, map, nat_lt, option_map_or, cases_Bool, ne_eqb, null_lsn, frontier, set_base, Stream, Call, LogInfo}
use Rattle.clfs_cells_laws.proofs.Words.{Fine, Reply, Area, State, answer, info_of, outcome, restart_record, restarted, flush, flushed, last_live, need_of}
use Rattle.clfs_cells_laws.proofs.Words.{next_lsn, put, spend_if, refusal, asks, grown, IsSurvivor, Answered, answers, checkpoint_plan, stops, unless}
use Rattle.clfs_cells_laws.proofs.Words.{checkpoint_bytes, Plan, on_info, on_placed, Memory, table, Along, IsSafe, LeavesEither, IsStore, store_area}
use Rattle.clfs_model.specs.declared.call.Call.TheVariants as calls
use Rattle.clfs_model.specs.declared.refusal.Refusal.TheVariants as refusals
use Rattle.clfs_model.specs.declared.reply.Reply.TheVariants as replies
use Rattle.clfs_model.specs.Answers.{rebased}
use Rattle.clfs_cells.specs.declared.told.TxnRefusal.TheVariants as denials
use Rattle.clfs_cells.specs.declared.told.TxnReply.TheVariants as told_replies
use Rattle.clfs_cells.specs.Plans.{calls as then_calls}
use Rattle.clfs_cells_laws.proofs.Along.{IsTable, Rising, asks_of, fine_state, fine_step, quiet_survives}
use Rattle.clfs_cells_laws.proofs.AlongCalls.{EndsAs, placed_along, store_on}
use Rattle.clfs_cells_laws.proofs.AlongCommit.{flushed_safe}
use Rattle.clfs_cells_laws.proofs.CheckpointTable.{checkpoint_lives, checkpoint_tabled, stream_there}
use Rattle.clfs_cells_laws.proofs.FromLoading.{at_rest}
use Rattle.clfs_cells_laws.proofs.LeftBy.{quiet_left, restart_left}
use Rattle.clfs_cells_laws.proofs.OtherEnds.{Rebased, info_as, is_base_there, no_transactions, rebased_store, rebases, restart_entry}
use Rattle.clfs_cells_laws.proofs.OwnCalls.{Laws, added_above}
use Rattle.clfs_cells_laws.proofs.Ways.{Way, came, damaged, faulted, lacked, refused, way}

based_names : (number lsn : ℕ) (streams : List Stream) → map (λ (stream : Stream). stream.name) (set_base number lsn streams) ≡ map (λ (stream : Stream). stream.name) streams
based_names number lsn [] = refl
based_names number lsn (x ∷ streams) = elim (cases_Bool (number == 1)) [
  | inl here ↦ rw here refl
  | inr further ↦ rw further (ap (λ (l : List (List ℕ)). x.name ∷ l) (based_names (number - 1) lsn streams))
]

flushed_rebased : (stream base : ℕ) (z : State) → (base == null_lsn) ≡ false → flushed (rebased stream base z) ≡ flushed z
flushed_rebased stream base z some = rw some refl

front_rebased : (stream base : ℕ) (z : State) → (base == null_lsn) ≡ false → frontier (rebased stream base z).place ≡ frontier z.place
front_rebased stream base z some = rw some refl

abbrev written : Memory → List ℕ
written memory = checkpoint_bytes (record { cells = memory.cells; last = memory.last })

-- the log once the restart area is written
record IsWritten (s u : State) (memory : Memory) (base : ℕ) : Type 0 where
  made : Rebased s (store_area memory []) (checkpoint_bytes (record { cells = memory.cells; last = memory.last })) base u
  above : frontier s.place ≤ (restart_entry s (store_area memory []) (checkpoint_bytes (record { cells = memory.cells; last = memory.last })) base).lsn
  same : table u ≡ table s
  safe : IsSafe u memory.stream

module _ (laws : Laws) (rising : Rising) (s : State) (memory : Memory) (store : IsStore true s memory) (safe : IsSafe s memory.stream)
    (none : nat_lt 0 (length memory.transactions) ≡ false) where
  on : IsTable memory.client memory.area memory.stream 0 (table s) s
  on = store_on s memory 0 store safe (λ some. absurd (omega (arith, some)))

  writes : (base : ℕ) → base ≡ last_live s memory.stream + 1 → (base == null_lsn) ≡ false
      → refusal s memory.client (calls.WriteRestart memory.area (checkpoint_bytes (record { cells = memory.cells; last = memory.last })) base false) ≡ None
      → IsWritten s (answer s memory.client (calls.WriteRestart memory.area (checkpoint_bytes (record { cells = memory.cells; last = memory.last })) base false)).state memory base
  writes base base_is some passes =
      let area : Area = store_area memory [] in
      let bytes : List ℕ = checkpoint_bytes (record { cells = memory.cells; last = memory.last }) in
      let c : Call = calls.WriteRestart memory.area bytes base false in
      let u : State = (answer s memory.client c).state in
      let at : u ≡ restarted s area bytes base false
      = ap (λ (o : Option Area). (option_map_or (λ (a : Area). outcome (replies.Placed (next_lsn s (length bytes))) (restarted s a bytes base false)) o
      (outcome (replies.Refused refusals.NoSuchArea) s)).state) store.area in
      let step = fine_step s memory.client c store.whole passes in
      let valid = laws.keeps true s memory.client c Fine (answer s memory.client c).reply u store.valid step in
      let made = subst (Rebased s area bytes base) (sym at) (rebases s area bytes base some) in
      let above = added_above laws true s memory.client c Fine (answer s memory.client c).reply u (restart_entry s area bytes base) store.valid step made.records in
      let empty = no_transactions memory.transactions none in
      let there = stream_there s memory.stream store.stream in
      let is_one = is_base_there s memory base store some passes in
      let lives = checkpoint_lives s u memory.stream (restart_entry s area bytes base) base base_is is_one store.valid above made.streams made.records refl there in
      let after = rebased_store s u memory bytes base store valid none made (λ e. let no : restart_entry s area bytes base ∷ [] ≡ [] = sym lives ∙ e in cc no)
      (λ so. checkpoint_tabled laws s u memory (restart_entry s area bytes base) base store.cells
      empty base_is is_one store.valid valid (store.table so) above made.streams made.records refl refl refl there) in
      let y : State = spend_if false area (length bytes) (put (grown s (need_of false (length bytes) [])) (restart_record s area bytes base)) in
      record {
        made = made;
        above = above;
        same = sym (at_rest u memory after empty) ∙ at_rest s memory store empty;
        safe = flushed_safe y u memory.stream (ap flushed at ∙ flushed_rebased memory.stream base (flush y) some)
            (ap (λ (x : State). frontier x.place) at ∙ front_rebased memory.stream base (flush y) some) valid;
      }

  left : (base : ℕ) → base ≡ last_live s memory.stream + 1 → (base == null_lsn) ≡ false
      → LeavesEither (table s) (table s) memory.client (calls.WriteRestart memory.area (checkpoint_bytes (record { cells = memory.cells; last = memory.last })) base false) s
  left base base_is some x survives =
      let bytes : List ℕ = checkpoint_bytes (record { cells = memory.cells; last = memory.last }) in
      let c : Call = calls.WriteRestart memory.area bytes base false in
      inl (fine_state (λ (s2 : State). IsSurvivor (asks memory.client c) s s2 x → table x ≡ table s) s memory.client c store.whole
      (λ is. quiet_left (asks memory.client c) s s x memory.stream store.valid store.stream safe refl refl is)
      (λ passes is. let w = writes base base_is some passes in
      restart_left memory.client memory.area bytes base s (answer s memory.client c).state x memory.stream (restart_entry s (store_area memory []) bytes base) store.valid
      store.stream safe w.above w.made.records (ap (λ (l : List Stream). map (λ (stream : Stream). stream.name) l) w.made.streams ∙ based_names memory.stream base s.streams) w.same is)
      survives)

  abbrev behind : Reply → Plan Answered
  behind = on_placed (stops memory) (λ _. answers told_replies.Done memory)

  kept_as : (mid : State) (reply : Reply) → IsSafe mid memory.stream → table mid ≡ table s
      → Along (LeavesEither (table s) (table s) memory.client) (EndsAs (table s) (table s)) true memory.client mid
      (on_placed (stops memory) (λ _. answers told_replies.Done memory) reply)
  kept_as mid reply is_safe same = placed_along (LeavesEither (table s) (table s) memory.client) (EndsAs (table s) (table s)) memory.client mid _ _
      (λ given. inr (record { safe = is_safe; either = inl same; answered = λ e. same }))
      (λ lsn. inr (record { safe = is_safe; either = inl same; answered = λ e. same })) reply

  broken_as : (mid : State) (reply : Reply) → mid.broken ≡ true
      → Along (LeavesEither (table s) (table s) memory.client) (EndsAs (table s) (table s)) true memory.client mid
      (on_placed (stops memory) (λ _. answers told_replies.Done memory) reply)
  broken_as mid reply broken = placed_along (LeavesEither (table s) (table s) memory.client) (EndsAs (table s) (table s)) memory.client mid _ _
      (λ given. inl broken) (λ lsn. inl broken) reply

  went : (base : ℕ) → base ≡ last_live s memory.stream + 1 → (base == null_lsn) ≡ false → (reply : Reply) (mid : State)
      → Way true s memory.client (calls.WriteRestart memory.area (checkpoint_bytes (record { cells = memory.cells; last = memory.last })) base false) reply mid
      → Along (LeavesEither (table s) (table s) memory.client) (EndsAs (table s) (table s)) true memory.client mid
      (on_placed (stops memory) (λ _. answers told_replies.Done memory) reply)
  went base base_is some reply mid (lacked takes is at) = kept_as mid reply (subst (λ (x : State). IsSafe x memory.stream) (sym at) safe) (ap table at)
  went base base_is some reply mid (refused first by_it is at) = kept_as mid reply (subst (λ (x : State). IsSafe x memory.stream) (sym at) safe) (ap table at)
  went base base_is some reply mid (faulted called is at) = broken_as mid reply (ap (λ (x : State). x.broken) at)
  went base base_is some reply mid (damaged read is at) = broken_as mid reply (ap (λ (x : State). x.broken) at)
  went base base_is some reply mid (came passes comes) =
      let w = writes base base_is some passes in
      kept_as mid reply (subst (λ (x : State). IsSafe x memory.stream) (sym comes.1) w.safe) (ap table comes.1 ∙ w.same)

  restart_along : (base : ℕ) → base ≡ last_live s memory.stream + 1 → (base == null_lsn) ≡ false
      → Along (LeavesEither (table s) (table s) memory.client) (EndsAs (table s) (table s)) true memory.client s
      (then_calls (calls.WriteRestart memory.area (checkpoint_bytes (record { cells = memory.cells; last = memory.last })) base false)
      (on_placed (stops memory) (λ _. answers told_replies.Done memory)))
  restart_along base base_is some = (
    (λ whole. left base base_is some),
    (λ happened reply mid step. went base base_is some reply mid
        (way true s memory.client (calls.WriteRestart memory.area (checkpoint_bytes (record { cells = memory.cells; last = memory.last })) base false) happened reply mid store.whole step)),
  )

  -- what comes after the question what the stream is like
  asked : (reply : Reply) (mid : State) → Way true s memory.client (calls.Info memory.stream) reply mid
      → Along (LeavesEither (table s) (table s) memory.client) (EndsAs (table s) (table s)) true memory.client mid
      (on_info (stops memory) (λ (info : LogInfo). then_calls (calls.WriteRestart memory.area (checkpoint_bytes (record { cells = memory.cells; last = memory.last })) (info.last + 1) false)
      (on_placed (stops memory) (λ _. answers told_replies.Done memory))) reply)
  asked reply mid (lacked takes is at) = absurd (cc takes)
  asked reply mid (faulted called is at) = absurd (cc called)
  asked reply mid (damaged read is at) = absurd (cc read)
  asked reply mid (refused first by_it is at) =
      subst (λ (r : Reply). Along (LeavesEither (table s) (table s) memory.client) (EndsAs (table s) (table s)) true memory.client mid
      (on_info (stops memory) (λ (info : LogInfo). then_calls (calls.WriteRestart memory.area (checkpoint_bytes (record { cells = memory.cells; last = memory.last })) (info.last + 1) false)
      (on_placed (stops memory) (λ _. answers told_replies.Done memory))) r)) (sym is)
      (inr (record { safe = subst (λ (x : State). IsSafe x memory.stream) (sym at) safe; either = inl (ap table at); answered = λ e. ap table at }))
  asked reply mid (came passes comes) =
      let told_so = info_as true (flushed s) (info_of s memory.stream) reply comes.0 in
      let above : (last_live s memory.stream + 1 == null_lsn) ≡ false = ne_eqb (last_live s memory.stream + 1) 0 (λ e. omega (arith, e)) in
      subst (λ (x : State). Along (LeavesEither (table s) (table s) memory.client) (EndsAs (table s) (table s)) true memory.client x
      (on_info (stops memory) (λ (info : LogInfo). then_calls (calls.WriteRestart memory.area (checkpoint_bytes (record { cells = memory.cells; last = memory.last })) (info.last + 1) false)
      (on_placed (stops memory) (λ _. answers told_replies.Done memory))) reply)) (sym comes.1)
      (subst (λ (r : Reply). Along (LeavesEither (table s) (table s) memory.client) (EndsAs (table s) (table s)) true memory.client s
      (on_info (stops memory) (λ (info : LogInfo). then_calls (calls.WriteRestart memory.area (checkpoint_bytes (record { cells = memory.cells; last = memory.last })) (info.last + 1) false)
      (on_placed (stops memory) (λ _. answers told_replies.Done memory))) r)) (sym told_so)
      (restart_along (last_live s memory.stream + 1) refl above))

  pub asks_along : Along (LeavesEither (table s) (table s) memory.client) (EndsAs (table s) (table s)) true memory.client s
      (then_calls (calls.Info memory.stream) (on_info (stops memory) (λ (info : LogInfo).
      then_calls (calls.WriteRestart memory.area (checkpoint_bytes (record { cells = memory.cells; last = memory.last })) (info.last + 1) false)
      (on_placed (stops memory) (λ _. answers told_replies.Done memory)))))
  asks_along = (
    (λ whole. quiet_survives laws rising memory.client memory.area memory.stream 0 (table s) (table s) (table s) (λ l is. inl is) (EndsAs (table s) (table s)) s
        (calls.Info memory.stream) (asks_of memory.stream) on),
    (λ happened reply mid step. asked reply mid (way true s memory.client (calls.Info memory.stream) happened reply mid store.whole step)),
  )

pub along_checkpoint : Laws → Rising → (s : State) (memory : Memory) → IsStore true s memory → IsSafe s memory.stream
    → Along (LeavesEither (table s) (table s) memory.client) (EndsAs (table s) (table s)) true memory.client s (checkpoint_plan memory)
along_checkpoint laws rising s memory store safe = first (nat_lt 0 (length memory.transactions)) refl
  where
    first : (some : Bool) → nat_lt 0 (length memory.transactions) ≡ some
        → Along (LeavesEither (table s) (table s) memory.client) (EndsAs (table s) (table s)) true memory.client s
        (unless some (denials.TxnsOpen (length memory.transactions)) memory (then_calls (calls.Info memory.stream) (on_info (stops memory) (λ (info : LogInfo).
        then_calls (calls.WriteRestart memory.area (checkpoint_bytes (record { cells = memory.cells; last = memory.last })) (info.last + 1) false)
        (on_placed (stops memory) (λ _. answers told_replies.Done memory))))))
    first true is = inr (record { safe = safe; either = inl refl; answered = λ e. absurd (cc e) })
    first false is = asks_along laws rising s memory store safe is
