-- Loading: a crash in it leaves the table as it is.
use Rattle.clfs_cells_laws.proofs.Words.{◌≡◌, ◌⊎◌, ℕ, zero, suc, ◌<◌, ◌≤◌, Bool, true, false, refl, sym, subst, ap, ◌∙◌, inl, inr, arith, List, [], ◌∷◌, ◌++◌}
use Rattle.clfs_cells_laws.proofs.Words.{length, Option, Some, None, Ok, Err, if◌then◌else◌, ◌&&◌, ◌==◌, AllByRecursion, option_map_or, recursion_from_All}
use Rattle.clfs_cells_laws.proofs.Words.{null_lsn, frontier, stream_number_from, Forward, LogEntry, Stream, Call, LogInfo, Refusal, Fine, Reply, Area, State}
use Rattle.clfs_cells_laws.proofs.Words.{answer, info_of, outcome, restart_record, restarted, cut, flushed, is_live, last_live, live, need_of, next_lsn, put}
use Rattle.clfs_cells_laws.proofs.Words.{refusal, stream_number, Request, asks, bad_line, fine_outcome, grown, area_of, IsSurvivor, Survives, IsRecord}
use Rattle.clfs_cells_laws.proofs.Words.{IsValid, Checkpoint, TxnRecord, TxnLoadRefusal, blank_cells, blank_checkpoint, checkpoint_bytes, checkpoint_of}
use Rattle.clfs_cells_laws.proofs.Words.{txn_record_of, gives_up, load_above, load_area, load_new, load_stream, load_table, memory_of, on_more, read_records}
use Rattle.clfs_cells_laws.proofs.Words.{stopped, ends, on_info, on_placed, Memory, table, table_in, table_name, Along, IsSafe, IsSafeLog, LeavesEither}
use Rattle.clfs_cells_laws.proofs.Words.{LoadsSafe}
use Rattle.clfs_model.specs.declared.call.Call.TheVariants as calls
use Rattle.clfs_model.specs.declared.refusal.Refusal.TheVariants as refusals
use Rattle.clfs_model.specs.declared.reply.Reply.TheVariants as replies
use Rattle.clfs_cells.specs.declared.told.TxnLoadRefusal.TheVariants as denials
use Rattle.clfs_cells.specs.Plans.{calls as then_calls}
use Rattle.clfs_cells_laws.proofs.Above.{kept}
use Rattle.clfs_cells_laws.proofs.Along.{IsKept, IsTable, Rising, along_call, along_quiet, asks_of, ends_read, fine_state, fine_step, named_by, own_same}
use Rattle.clfs_cells_laws.proofs.Along.{quiet_survives, reads, reads_on, reads_restart, step_state}
use Rattle.clfs_cells_laws.proofs.AlongCalls.{found_along, option_along, placed_along}
use Rattle.clfs_cells_laws.proofs.AlongCommit.{flushed_safe}
use Rattle.clfs_cells_laws.proofs.FirstRestart.{Restarted, put_record, restarts, zeros}
use Rattle.clfs_cells_laws.proofs.Ground.{cells_in}
use Rattle.clfs_cells_laws.proofs.LeftBy.{names_by, quiet_left, records_under, restart_left, safe_below, streams_left}
use Rattle.clfs_cells_laws.proofs.Newest.{none_last}
use Rattle.clfs_cells_laws.proofs.OtherEnds.{info_as}
use Rattle.clfs_cells_laws.proofs.OwnCalls.{Laws, added_above}
use Rattle.clfs_cells_laws.proofs.Ways.{Way, came, damaged, faulted, lacked, refused, way}

-- ---- a log whose table may not be there yet

pub quiet_log_left : (asked : Request) (s s2 x : State) → IsValid s → IsSafeLog s → s2.records ≡ s.records → s2.streams ≡ s.streams → IsSurvivor asked s s2 x → table x ≡ table s
quiet_log_left asked s s2 x valid safe records streams survives = by (stream_number s table_name) refl
  where
    by : (o : Option ℕ) → stream_number s table_name ≡ o → table x ≡ table s
    by (Some stream) is = quiet_left asked s s2 x stream valid is (safe stream is) records streams survives
    by None is =
        let same = streams_left asked s s2 x streams survives in
        ap (λ (o : Option ℕ). option_map_or (table_in x) o blank_cells) (no_name s x same is) ∙ sym (ap (λ (o : Option ℕ). option_map_or (table_in s) o blank_cells) is)
      where
        no_name : (s x : State) → x.streams ≡ s.streams → stream_number s table_name ≡ None → stream_number x table_name ≡ None
        no_name s x same is = ap (λ (l : List Stream). stream_number_from 1 table_name l) same ∙ is

-- all that was opened is on the disk
pub opened_safe : (s : State) → cut s ≡ s → IsSafeLog s
opened_safe s same stream named =
    safe_below (flushed s) s stream
    (subst (AllByRecursion (λ (e : LogEntry). e.lsn < flushed s)) (ap (λ (x : State). x.records) same) (records_under (flushed s) s.records))

pub log_rests : (s : State) (at : ℕ) (x : State) → IsValid s → IsSafeLog s → Survives (bad_line at) s x → table x ≡ table s
unfolding fine_outcome
log_rests s at x valid safe survives = quiet_log_left (bad_line at) s s x valid safe refl refl survives

-- ---- once there is the area

-- what a first restart area leaves
record IsFirst (l u : State) (stream : ℕ) (cells : List ℕ) (client number : ℕ) : Type 0 where
  on : IsTable client number stream 0 cells u
  entry : LogEntry
  above : frontier l.place ≤ entry.lsn
  records : u.records ≡ l.records ++ entry ∷ []
  streams : u.streams ≡ l.streams

table_blank : (l : State) (stream : ℕ) → stream_number l table_name ≡ Some stream → live l stream ≡ [] → table l ≡ blank_cells
table_blank l stream named none = ap (λ (o : Option ℕ). option_map_or (table_in l) o blank_cells) named ∙ ap cells_in none

module _ (laws : Laws) (rising : Rising) (client number stream : ℕ) (cells : List ℕ) where
  -- the area goes, whatever became of the log
  gives_up_along : (l : State) (cause : TxnLoadRefusal) → IsKept client number stream 0 cells l
      → Along (LeavesEither cells cells client) LoadsSafe true client l (gives_up number cause)
  gives_up_along l cause kept =
      along_call laws rising client number stream 0 cells cells cells (λ _ is. inl is) LoadsSafe l (calls.DeleteArea number) (λ _. ends (Err cause)) kept
      (λ on x survives. inl (fine_state (λ (s2 : State). IsSurvivor (asks client (calls.DeleteArea number)) l s2 x → table x ≡ table l) l client (calls.DeleteArea number) on.whole
      (λ s. quiet_left (asks client (calls.DeleteArea number)) l l x stream on.valid on.named on.safe refl refl s)
      (λ none s. quiet_left (asks client (calls.DeleteArea number)) l (answer l client (calls.DeleteArea number)).state x stream on.valid on.named on.safe refl refl s)
      survives ∙ on.is))
      (λ on happened reply mid step. tt) (λ reply. tt)

  stopped_along : (l : State) (given : Refusal) → IsKept client number stream 0 cells l
      → Along (LeavesEither cells cells client) LoadsSafe true client l (stopped number given)
  stopped_along l given kept = gives_up_along l (denials.Log given) kept

  done_along : (l : State) (memory : Memory) → memory.stream ≡ stream → IsKept client number stream 0 cells l → LoadsSafe (Ok memory) l
  done_along l memory is (inl broken) = inl broken
  done_along l memory is (inr on) = inr (subst (IsSafe l) (sym is) on.safe)

  -- ---- a stream without live records

  first_leaves : (l : State) → IsTable client number stream 0 cells l → live l stream ≡ []
      → refusal l client (calls.WriteRestart number (checkpoint_bytes blank_checkpoint) null_lsn false) ≡ None
      → ((answer l client (calls.WriteRestart number (checkpoint_bytes blank_checkpoint) null_lsn false)).state ≡ l)
      ⊎ IsFirst l (answer l client (calls.WriteRestart number (checkpoint_bytes blank_checkpoint) null_lsn false)).state stream cells client number
  first_leaves l on none passes = by (area_of l client number) refl
    where
      its : (o : Option Area) → area_of l client number ≡ o
          → (answer l client (calls.WriteRestart number (checkpoint_bytes blank_checkpoint) null_lsn false)).state
          ≡ (option_map_or (λ (a : Area). outcome (replies.Placed (next_lsn l (length (checkpoint_bytes blank_checkpoint)))) (restarted l a (checkpoint_bytes blank_checkpoint) null_lsn false)) o
          (outcome (replies.Refused refusals.NoSuchArea) l)).state
      its o is = ap (λ (x : Option Area). (option_map_or (λ (a : Area). outcome (replies.Placed (next_lsn l (length (checkpoint_bytes blank_checkpoint))))
          (restarted l a (checkpoint_bytes blank_checkpoint) null_lsn false)) x (outcome (replies.Refused refusals.NoSuchArea) l)).state) is

      by : (o : Option Area) → area_of l client number ≡ o
          → ((answer l client (calls.WriteRestart number (checkpoint_bytes blank_checkpoint) null_lsn false)).state ≡ l)
          ⊎ IsFirst l (answer l client (calls.WriteRestart number (checkpoint_bytes blank_checkpoint) null_lsn false)).state stream cells client number
      by None is = inl (its None is)
      by (Some a) is =
          let bytes : List ℕ = checkpoint_bytes blank_checkpoint in
          let c : Call = calls.WriteRestart number bytes null_lsn false in
          let u : State = (answer l client c).state in
          let at : u ≡ restarted l a bytes null_lsn false = its (Some a) is in
          let made = subst (Restarted l a bytes) (sym at) (restarts l a bytes) in
          let step = fine_step l client c on.whole passes in
          let valid = laws.keeps true l client c Fine (answer l client c).reply u on.valid step in
          let above = added_above laws true l client c Fine (answer l client c).reply u (put_record l a bytes) on.valid step made.records in
          let y : State = put (grown l (need_of false (length bytes) [])) (restart_record l a bytes null_lsn) in
          inr (record {
            on = record {
              valid = valid;
              whole = made.broken ∙ on.whole;
              named = named_by l u stream made.streams on.named;
              own = own_same client number stream l u made.areas on.own;
              is = zeros l u a stream on.named none made ∙ sym (table_blank l stream on.named none) ∙ on.is;
              uncommitted = λ some. absurd (omega (arith, some));
              safe = flushed_safe y u stream (ap flushed at) (ap (λ (x : State). frontier x.place) at) valid;
            };
            entry = put_record l a bytes;
            above = above;
            records = made.records;
            streams = made.streams;
          })

  new_along : (l : State) → IsTable client number stream 0 cells l → live l stream ≡ []
      → Along (LeavesEither cells cells client) LoadsSafe true client l (load_new client number stream)
  new_along l on none =
      along_call laws rising client number stream 0 cells cells cells (λ _ is. inl is) LoadsSafe l (calls.WriteRestart number (checkpoint_bytes blank_checkpoint) null_lsn false) _ (inr on)
      (λ _. left)
      (λ _ happened reply mid step. goes mid reply (step_state (IsTable client number stream 0 cells) l client
      (calls.WriteRestart number (checkpoint_bytes blank_checkpoint) null_lsn false) happened reply mid on.whole step on
      (λ passes. elim (first_leaves l on none passes) [
        | inl same ↦ subst (IsTable client number stream 0 cells) (sym same) on
        | inr first ↦ first.on
      ])))
      (λ reply. goes l reply (inr on))
    where
      left : LeavesEither cells cells client (calls.WriteRestart number (checkpoint_bytes blank_checkpoint) null_lsn false) l
      left x survives =
          let bytes : List ℕ = checkpoint_bytes blank_checkpoint in
          let c : Call = calls.WriteRestart number bytes null_lsn false in
          inl (fine_state (λ (s2 : State). IsSurvivor (asks client c) l s2 x → table x ≡ table l) l client c on.whole
          (λ s. quiet_left (asks client c) l l x stream on.valid on.named on.safe refl refl s)
          (λ passes s. elim (first_leaves l on none passes) [
            | inl same ↦ quiet_left (asks client c) l (answer l client c).state x stream on.valid on.named on.safe
                (ap (λ (u : State). u.records) same) (ap (λ (u : State). u.streams) same) s
            | inr first ↦ restart_left client number bytes null_lsn l (answer l client c).state x stream first.entry on.valid on.named on.safe first.above first.records
                (names_by l (answer l client c).state first.streams) (first.on.is ∙ sym on.is) s
          ]) survives ∙ on.is)

      goes : (mid : State) (reply : Reply) → IsKept client number stream 0 cells mid
          → Along (LeavesEither cells cells client) LoadsSafe true client mid
          (on_placed (stopped number) (λ _. ends (Ok (memory_of client number stream blank_checkpoint []))) reply)
      goes mid reply kept = placed_along (LeavesEither cells cells client) LoadsSafe client mid (stopped number) (λ _. ends (Ok (memory_of client number stream blank_checkpoint [])))
          (λ given. stopped_along mid given kept) (λ lsn. done_along mid (memory_of client number stream blank_checkpoint []) refl kept) reply

  -- ---- a stream with a table

  records_along : (more cursor : ℕ) (records : List TxnRecord) (whole : List TxnRecord → Memory) (l : State) → ((rs : List TxnRecord) → (whole rs).stream ≡ stream)
      → IsKept client number stream 0 cells l → Along (LeavesEither cells cells client) LoadsSafe true client l (read_records more number cursor records whole)
  records_along zero cursor records whole l same kept = tt
  records_along (suc more) cursor records whole l same kept =
      along_quiet laws rising client number stream 0 cells cells cells (λ _ is. inl is) LoadsSafe l (calls.ReadNext number cursor) _ (reads_on cursor) kept
      (λ reply mid kept_mid. by mid (λ rs. records_along more cursor rs whole mid same kept_mid) kept_mid reply)
    where
      done : (mid : State) → IsKept client number stream 0 cells mid
          → Along (LeavesEither cells cells client) LoadsSafe true client mid (then_calls (calls.EndRead number cursor) (λ _. ends (Ok (whole records))))
      done mid kept_mid = along_quiet laws rising client number stream 0 cells cells cells (λ _ is. inl is) LoadsSafe mid (calls.EndRead number cursor) (λ _. ends (Ok (whole records)))
          (ends_read cursor) kept_mid (λ reply last kept_last. done_along last (whole records) (same records) kept_last)

      refused_with : (mid : State) → IsKept client number stream 0 cells mid → (given : Refusal)
          → Along (LeavesEither cells cells client) LoadsSafe true client mid (stopped number given)
      refused_with mid kept_mid given = stopped_along mid given kept_mid

      by : (mid : State) → ((rs : List TxnRecord) → Along (LeavesEither cells cells client) LoadsSafe true client mid (read_records more number cursor rs whole))
          → IsKept client number stream 0 cells mid → (reply : Reply)
          → Along (LeavesEither cells cells client) LoadsSafe true client mid (on_more number
          (λ (entry : LogEntry). option_map_or (λ (r : TxnRecord). read_records more number cursor (records ++ r ∷ []) whole) (txn_record_of entry.bytes)
          (gives_up number (denials.NotATable entry.lsn)))
          (then_calls (calls.EndRead number cursor) (λ _. ends (Ok (whole records)))) reply)
      by mid rest kept_mid (replies.Next entry) =
          option_along (LeavesEither cells cells client) LoadsSafe client mid (λ (r : TxnRecord). read_records more number cursor (records ++ r ∷ []) whole)
          (gives_up number (denials.NotATable entry.lsn)) (txn_record_of entry.bytes) (λ r is. rest (records ++ r ∷ []))
          (gives_up_along mid (denials.NotATable entry.lsn) kept_mid)
      by mid rest kept_mid (replies.Refused refusals.EndOfLog) = done mid kept_mid
      by mid rest kept_mid (replies.Refused given) = refused_with mid kept_mid given
      by mid rest kept_mid _ = tt

  above_along : (most lsn : ℕ) (c : Checkpoint) (l : State) → IsKept client number stream 0 cells l
      → Along (LeavesEither cells cells client) LoadsSafe true client l (load_above most client number stream c lsn)
  above_along most lsn c l kept =
      along_quiet laws rising client number stream 0 cells cells cells (λ _ is. inl is) LoadsSafe l (calls.Read number lsn Forward) _ (reads lsn Forward) kept
      (λ reply mid kept_mid. found_along (LeavesEither cells cells client) LoadsSafe client mid (stopped number)
      (λ cursor _. read_records most number cursor [] (memory_of client number stream c))
      (λ given. stopped_along mid given kept_mid)
      (λ cursor entry. records_along most cursor [] (memory_of client number stream c) mid (λ rs. refl) kept_mid) reply)

  table_along : (most : ℕ) (l : State) → IsKept client number stream 0 cells l
      → Along (LeavesEither cells cells client) LoadsSafe true client l (load_table most client number stream)
  table_along most l kept =
      along_quiet laws rising client number stream 0 cells cells cells (λ _ is. inl is) LoadsSafe l (calls.ReadRestart number) _ reads_restart kept
      (λ reply mid kept_mid. found_along (LeavesEither cells cells client) LoadsSafe client mid (stopped number)
      (λ cursor (entry : LogEntry). then_calls (calls.EndRead number cursor) (λ _.
      option_map_or (λ c. load_above most client number stream c entry.lsn) (checkpoint_of entry.bytes) (gives_up number (denials.NotATable entry.lsn))))
      (λ given. stopped_along mid given kept_mid)
      (λ cursor entry. along_quiet laws rising client number stream 0 cells cells cells (λ _ is. inl is) LoadsSafe mid (calls.EndRead number cursor) _ (ends_read cursor) kept_mid
      (λ _ last kept_last. option_along (LeavesEither cells cells client) LoadsSafe client last (λ c. load_above most client number stream c entry.lsn)
      (gives_up number (denials.NotATable entry.lsn)) (checkpoint_of entry.bytes) (λ c is. above_along most entry.lsn c last kept_last)
      (gives_up_along last (denials.NotATable entry.lsn) kept_last))) reply)

  -- ---- what the stream is like

  none_live : (l : State) → IsValid l → (last_live l stream == null_lsn) ≡ true → live l stream ≡ []
  none_live l valid null = none_last (live l stream)
      (kept (λ (e : LogEntry). 0 < e.lsn) (λ (e : LogEntry). (e.stream == stream) && is_live l e) l.records (named_all l.records (recursion_from_All (IsRecord l) l.records valid.records.records))) null
    where
      named_all : (xs : List LogEntry) → AllByRecursion (IsRecord l) xs → AllByRecursion (λ (e : LogEntry). 0 < e.lsn) xs
      named_all [] all = tt
      named_all (x ∷ xs) all = (all.0.named, named_all xs all.1)

  stream_along : (most : ℕ) (l : State) (info : LogInfo) → IsTable client number stream 0 cells l → info ≡ info_of l stream
      → Along (LeavesEither cells cells client) LoadsSafe true client l (load_stream most client number stream info)
  stream_along most l info on is = first (info.last == null_lsn) refl
    where
      second : (test : Bool) → Along (LeavesEither cells cells client) LoadsSafe true client l
          (if test then gives_up number (denials.NotATable info.last) else load_table most client number stream)
      second true = gives_up_along l (denials.NotATable info.last) (inr on)
      second false = table_along most l (inr on)

      first : (test : Bool) → (info.last == null_lsn) ≡ test → Along (LeavesEither cells cells client) LoadsSafe true client l
          (if test then load_new client number stream
          else if info.restart == null_lsn then gives_up number (denials.NotATable info.last) else load_table most client number stream)
      first true null = new_along l on (none_live l on.valid (ap (λ (i : LogInfo). i.last == null_lsn) (sym is) ∙ null))
      first false other = second (info.restart == null_lsn)

  info_went : (most : ℕ) (l : State) → IsTable client number stream 0 cells l → (reply : Reply) (mid : State) → Way true l client (calls.Info stream) reply mid
      → Along (LeavesEither cells cells client) LoadsSafe true client mid (on_info (stopped number) (load_stream most client number stream) reply)
  info_went most l on reply mid (lacked takes is at) = absurd (cc takes)
  info_went most l on reply mid (faulted called is at) = absurd (cc called)
  info_went most l on reply mid (damaged read is at) = absurd (cc read)
  info_went most l on reply mid (refused first by_it is at) =
      subst (λ (r : Reply). Along (LeavesEither cells cells client) LoadsSafe true client mid (on_info (stopped number) (load_stream most client number stream) r)) (sym is)
      (stopped_along mid first (inr (subst (IsTable client number stream 0 cells) (sym at) on)))
  info_went most l on reply mid (came passes comes) =
      subst (λ (x : State). Along (LeavesEither cells cells client) LoadsSafe true client x (on_info (stopped number) (load_stream most client number stream) reply)) (sym comes.1)
      (subst (λ (r : Reply). Along (LeavesEither cells cells client) LoadsSafe true client l (on_info (stopped number) (load_stream most client number stream) r))
      (sym (info_as true (flushed l) (info_of l stream) reply comes.0)) (stream_along most l (info_of l stream) on refl))

  pub area_along : (most : ℕ) (l : State) → IsTable client number stream 0 cells l
      → Along (LeavesEither cells cells client) LoadsSafe true client l (load_area most client number stream)
  area_along most l on = (
    (λ whole. quiet_survives laws rising client number stream 0 cells cells cells (λ _ is. inl is) LoadsSafe l (calls.Info stream) (asks_of stream) on),
    (λ happened reply mid step. info_went most l on reply mid (way true l client (calls.Info stream) happened reply mid on.whole step)),
  )
