-- What a table's log says after a record of it, and after a checkpoint.
use Rattle.clfs_cells_laws.proofs.Words.{◌≡◌, ℕ, ◌<◌, ◌≤◌, Bool, true, false, refl, ap, ◌∙◌, arith, List, [], ◌∷◌, ◌++◌, Option, Some, None, ◌&&◌, ◌==◌}
use Rattle.clfs_cells_laws.proofs.Words.{filter, nat_lt, reverse, slice_get, AllByRecursion, option_and_then, option_map_or, eq-eqb, le-leb, lt-ltb}
use Rattle.clfs_cells_laws.proofs.Words.{append-nil, filter-append, recursion_from_All, is_restart, frontier, LogEntry, Stream, State, is_live, live}
use Rattle.clfs_cells_laws.proofs.Words.{lsn_or_null, base_of, log_of, IsRecord, IsValid, Checkpoint, TxnRecord, blank_cells, checkpoint_of, txn_record_of}
use Rattle.clfs_cells_laws.proofs.Words.{entries_after, first_cells, records_after}
use Rattle.std.proofs.lemmas.List.Elements.{filter_map-append}
use Rattle.clfs_cells_laws.proofs.Above.{above, kept}
use Rattle.clfs_cells_laws.proofs.Ground.{newest_in, spelled}
use Rattle.clfs_cells_laws.proofs.Newest.{newest_has}
use Rattle.clfs_cells_laws.proofs.OwnCalls.{base_within, below_all, flushed_within}

-- ---- both are read of the streams and the records alone

over : List Stream → List LogEntry → State
over streams records = record (log_of 1 16 4 4) { streams = streams; records = records }

pub record ReadsAs (s u : State) (stream : ℕ) : Type 0 where
  pub first : first_cells u stream ≡ first_cells s stream
  pub records : records_after u stream ≡ records_after s stream

pub reads_as : (s u : State) (stream : ℕ) → u.streams ≡ s.streams → u.records ≡ s.records → ReadsAs s u stream
unfolding over
reads_as s u stream p q = record {
  first = ap (λ (l : List Stream). first_cells (over l u.records) stream) p ∙ ap (λ (l : List LogEntry). first_cells (over s.streams l) stream) q;
  records = ap (λ (l : List Stream). records_after (over l u.records) stream) p ∙ ap (λ (l : List LogEntry). records_after (over s.streams l) stream) q;
}

-- ---- a record joins

newest_more : (xs : List LogEntry) (entry : LogEntry) → is_restart entry.kind ≡ false → newest_in (xs ++ entry ∷ []) ≡ newest_in xs
newest_more xs entry plain =
    let last : filter (λ (e : LogEntry). is_restart e.kind) (entry ∷ []) ≡ [] = rw plain refl in
    ap (λ (l : List LogEntry). slice_get (reverse l) 0) (filter-append (λ (e : LogEntry). is_restart e.kind) xs (entry ∷ [])
    ∙ ap (λ (l : List LogEntry). filter (λ (e : LogEntry). is_restart e.kind) xs ++ l) last ∙ append-nil (filter (λ (e : LogEntry). is_restart e.kind) xs))

newest_below : (xs : List LogEntry) (lsn : ℕ) → 0 < lsn → AllByRecursion (λ (e : LogEntry). e.lsn < lsn) xs → lsn_or_null (newest_in xs) < lsn
newest_below xs lsn some all = go (newest_in xs) refl
  where
    go : (o : Option LogEntry) → newest_in xs ≡ o → lsn_or_null o < lsn
    go None is = some
    go (Some x) is = newest_has (λ (e : LogEntry). e.lsn < lsn) xs x is all

-- a record of the stream that is no restart area comes after all others above the newest one
pub record JoinsEntries (s : State) (stream : ℕ) (entry : LogEntry) (w : State) : Type 0 where
  pub newest : newest_in (live w stream) ≡ newest_in (live s stream)
  pub entries : entries_after w stream ≡ entries_after s stream ++ entry ∷ []

pub entries_join : (s : State) (stream : ℕ) (entry : LogEntry) → IsValid s → frontier s.place ≤ entry.lsn → 0 < entry.lsn → entry.stream ≡ stream
    → is_restart entry.kind ≡ false → JoinsEntries s stream entry (record s { records = s.records ++ entry ∷ [] })
entries_join s stream entry valid high some own plain =
    let w : State = record s { records = s.records ++ entry ∷ [] } in
    let p : LogEntry → Bool = λ e. (e.stream == stream) && is_live s e in
    let base = base_within s entry.stream valid in
    let low = flushed_within s valid in
    let passes : p entry ≡ true = rw (eq-eqb entry.stream stream own) (le-leb (base_of s entry.stream) entry.lsn (omega (arith, base, low, high))) in
    let last : filter p (entry ∷ []) ≡ entry ∷ [] = rw passes refl in
    let lives : live w stream ≡ live s stream ++ entry ∷ [] = filter-append p s.records (entry ∷ []) ∙ ap (λ (l : List LogEntry). live s stream ++ l) last in
    let newest : newest_in (live w stream) ≡ newest_in (live s stream) = ap newest_in lives ∙ newest_more (live s stream) entry plain in
    let all_low = kept (λ (e : LogEntry). e.lsn < entry.lsn) p s.records (below_all s entry.lsn s.records high (recursion_from_All (IsRecord s) s.records valid.records.records)) in
    let under : lsn_or_null (newest_in (live s stream)) < entry.lsn = newest_below (live s stream) entry.lsn some all_low in
    record {
      newest = newest;
      entries = ap (λ (o : Option LogEntry). above (lsn_or_null o) (live w stream)) newest
          ∙ ap (above (lsn_or_null (newest_in (live s stream)))) lives
          ∙ filter-append (λ (e : LogEntry). nat_lt (lsn_or_null (newest_in (live s stream))) e.lsn) (live s stream) (entry ∷ [])
          ∙ ap (λ (l : List LogEntry). above (lsn_or_null (newest_in (live s stream))) (live s stream) ++ l)
          (let one : above (lsn_or_null (newest_in (live s stream))) (entry ∷ []) ≡ entry ∷ [] = rw (lt-ltb (lsn_or_null (newest_in (live s stream))) entry.lsn under) refl in one);
    }

pub row_joins : (s u : State) (stream : ℕ) (entry : LogEntry) (r : TxnRecord) → IsValid s → frontier s.place ≤ entry.lsn → 0 < entry.lsn → u.streams ≡ s.streams
    → u.records ≡ s.records ++ entry ∷ [] → entry.stream ≡ stream → is_restart entry.kind ≡ false → txn_record_of entry.bytes ≡ Some r
    → (first_cells u stream ≡ first_cells s stream) × (records_after u stream ≡ records_after s stream ++ r ∷ [])
row_joins s u stream entry r valid high some streams records own plain spells =
    let w : State = record s { records = s.records ++ entry ∷ [] } in
    let same = reads_as w u stream streams records in
    let joins = entries_join s stream entry valid high some own plain in
    let one_row : spelled (entry ∷ []) ≡ r ∷ [] = rw spells refl in (
      same.first ∙ ap first_of joins.newest,
      same.records ∙ ap spelled joins.entries ∙ filter_map-append (λ (e : LogEntry). txn_record_of e.bytes) (entries_after s stream) (entry ∷ [])
          ∙ ap (λ (l : List TxnRecord). spelled (entries_after s stream) ++ l) one_row,
    )
  where
    first_of : Option LogEntry → List ℕ
    first_of o = option_map_or (λ (c : Checkpoint). c.cells) (option_and_then (λ (e : LogEntry). checkpoint_of e.bytes) o) blank_cells
