-- What a crash leaves of a table's log while a call of the log is under way, by what the call does.
use Rattle.clfs_cells_laws.proofs.Words.{◌≡◌, ◌⊎◌, ℕ, suc, ◌+◌, ◌-◌, ◌<◌, ◌≤◌, Bool, true, false, refl, sym, subst, ap, ◌∙◌, inl, inr, arith, List, [], ◌∷◌}
use Rattle.clfs_cells_laws.proofs.Words.{◌++◌, Option, Some, ◌&&◌, ◌||◌, ◌==◌, All, filter, map, nat_lt, slice_get, AllByRecursion, option_map_or, cases_Bool}
use Rattle.clfs_cells_laws.proofs.Words.{eq-eqb, lt-ltb, ltb-true, ltb-false, le-ltb, ne_eqb, append-nil, All-from_recursion, filter-append}
use Rattle.clfs_cells_laws.proofs.Words.{recursion_from_All, is_restart, frontier, LogEntry, Stream, State, flushed, is_live, live, lsn_or_null}
use Rattle.clfs_cells_laws.proofs.Words.{newest_restart, stream_number, Request, asks, base_of, HasBases, IsSurvivor, IsRecord, IsValid, Commit, TxnRecord}
use Rattle.clfs_cells_laws.proofs.Words.{blank_cells, txn_record, txn_record_of, changed, committed, entries_after, first_cells, is_commit, is_committed}
use Rattle.clfs_cells_laws.proofs.Words.{records_after, table, table_in, table_name, CountsForNothing, IsSafe, IsSafeFrom, table_joined}
use Rattle.std.proofs.lemmas.List.Quantifiers.{Any-push}
use Rattle.clfs_lsn.specs.declared.entry.Kind.{Kind}
use Rattle.clfs_lsn.specs.declared.entry.Kind.TheVariants.{Plain, Restart}
use Rattle.clfs_model.specs.declared.call.Call.TheVariants as calls
use Rattle.clfs_model.specs.Survivors.{HasMore, names_of, records_below}
use Rattle.clfs_cells_laws.proofs.Above.{kept}
use Rattle.clfs_cells_laws.proofs.Dropped.{left_table, under}
use Rattle.clfs_cells_laws.proofs.FirstRestart.{table_by}
use Rattle.clfs_cells_laws.proofs.Grown.{base_same}
use Rattle.clfs_cells_laws.proofs.OwnCalls.{below_all}
use Rattle.clfs_cells_laws.proofs.Rows.{changed_then, one_more_commit, same_commits, same_committed, same_test, for_all}
use Rattle.clfs_cells_laws.proofs.Stacks.{each, with_last}
use Rattle.clfs_cells_laws.proofs.TableEnds.{false_end, or_true}
use Rattle.clfs_cells_laws.proofs.TableLog.{entries_join, row_joins}

-- ---- streams of the same names and bases

base_at : List Stream → ℕ → ℕ
base_at streams place = option_map_or (λ (stream : Stream). stream.base) (slice_get streams place) 0

stream_of : List ℕ → ℕ → Stream
stream_of name base = record { name = name; base = base }

same_stream : (a b : Stream) → a.name ≡ b.name → a.base ≡ b.base → a ≡ b
unfolding stream_of
same_stream a b name base = let same : stream_of a.name a.base ≡ stream_of b.name b.base = cc in same

same_streams : (xs ys : List Stream) → map (λ (stream : Stream). stream.name) xs ≡ map (λ (stream : Stream). stream.name) ys
    → ((place : ℕ) → base_at xs place ≡ base_at ys place) → xs ≡ ys
unfolding base_at
same_streams [] [] names bases = refl
same_streams [] (y ∷ ys) names bases = absurd (cc)
same_streams (x ∷ xs) [] names bases = absurd (cc)
same_streams (x ∷ xs) (y ∷ ys) names bases =
    let name : x.name ≡ y.name = cc in
    let others : map (λ (stream : Stream). stream.name) xs ≡ map (λ (stream : Stream). stream.name) ys = cc in
    let first : x ≡ y = same_stream x y name (bases 0) in
    let rest : xs ≡ ys = same_streams xs ys others (λ place. bases (suc place)) in
    cc

base_is : (s : State) (place : ℕ) → base_of s (place + 1) ≡ base_at s.streams place
unfolding base_at
base_is s place =
    let some : (place + 1 == 0) ≡ false = ne_eqb (place + 1) 0 (λ e. omega (arith, e)) in
    let back : place + 1 - 1 ≡ place = omega arith in
    rw some (ap (base_at s.streams) back)

pub streams_are : (s x : State) → names_of x ≡ names_of s → HasBases s x → x.streams ≡ s.streams
streams_are s x names bases = same_streams x.streams s.streams names (λ place. sym (base_is x place) ∙ bases (place + 1) ∙ base_is s place)

-- the names of a survivor, where the call makes no stream
names_are : (asked : Request) (s s2 x : State) → names_of s2 ≡ names_of s → IsSurvivor asked s s2 x → names_of x ≡ names_of s
names_are asked s s2 x same survives = elim survives.settings [ inl old ↦ old.names | inr new ↦ new.names ∙ same ]

pub names_by : (s s2 : State) → s2.streams ≡ s.streams → names_of s2 ≡ names_of s
names_by s s2 streams = ap (λ (l : List Stream). map (λ (stream : Stream). stream.name) l) streams

-- and its streams, where the call moves no base
pub streams_left : (asked : Request) (s s2 x : State) → s2.streams ≡ s.streams → IsSurvivor asked s s2 x → x.streams ≡ s.streams
streams_left asked s s2 x streams survives =
    streams_are s x (names_are asked s s2 x (names_by s s2 streams) survives)
    (λ stream. elim (survives.bases stream) [ inl old ↦ old | inr new ↦ new ∙ base_same s s2 stream streams ])

-- ---- bounds

kind_is : (kind : Kind) → is_restart kind ≡ true → kind ≡ Restart
kind_is Plain is = absurd (cc is)
kind_is Restart is = refl

restarts_low : (s : State) (bound : ℕ) (xs : List LogEntry) → flushed s ≤ bound → AllByRecursion (λ (e : LogEntry). e.kind ≡ Restart → e.lsn < flushed s) xs
    → AllByRecursion (λ (e : LogEntry). is_restart e.kind ≡ true → e.lsn < bound) xs
restarts_low s bound [] high all = tt
restarts_low s bound (x ∷ xs) high all = ((λ is. let low = all.0 (kind_is x.kind is) in omega (arith, low, high)), restarts_low s bound xs high all.1)

pub restarts_under : (s : State) (bound : ℕ) → IsValid s → flushed s ≤ bound → AllByRecursion (λ (e : LogEntry). is_restart e.kind ≡ true → e.lsn < bound) s.records
restarts_under s bound valid high =
    restarts_low s bound s.records high (recursion_from_All (λ (e : LogEntry). e.kind ≡ Restart → e.lsn < flushed s) s.records valid.stable.restarts)

pub safe_higher : (low high : ℕ) (s : State) (stream : ℕ) → low ≤ high → IsSafeFrom low s stream → IsSafeFrom high s stream
safe_higher low high s stream le safe = go (entries_after s stream) safe
  where
    go : (xs : List LogEntry) → AllByRecursion (λ (e : LogEntry). low ≤ e.lsn → CountsForNothing (records_after s stream) e) xs
        → AllByRecursion (λ (e : LogEntry). high ≤ e.lsn → CountsForNothing (records_after s stream) e) xs
    go [] all = tt
    go (x ∷ xs) all = ((λ up. all.0 (omega (arith, le, up))), go xs all.1)

-- a log whose records lie all below a bound is safe from it
pub safe_below : (bound : ℕ) (s : State) (stream : ℕ) → AllByRecursion (λ (e : LogEntry). e.lsn < bound) s.records → IsSafeFrom bound s stream
safe_below bound s stream low =
    let n : ℕ = lsn_or_null (newest_restart s stream) in
    let live_low = kept (λ (e : LogEntry). e.lsn < bound) (λ (e : LogEntry). (e.stream == stream) && is_live s e) s.records low in
    go (entries_after s stream) (kept (λ (e : LogEntry). e.lsn < bound) (λ (e : LogEntry). nat_lt n e.lsn) (live s stream) live_low)
  where
    go : (xs : List LogEntry) → AllByRecursion (λ (e : LogEntry). e.lsn < bound) xs
        → AllByRecursion (λ (e : LogEntry). bound ≤ e.lsn → CountsForNothing (records_after s stream) e) xs
    go [] all = tt
    go (x ∷ xs) all = ((λ up. let down = all.0 in absurd (omega (arith, up, down))), go xs all.1)

all_pass : (bound : ℕ) (xs : List LogEntry) → AllByRecursion (λ (e : LogEntry). e.lsn < bound) xs → filter (under bound) xs ≡ xs
all_pass bound [] low = refl
all_pass bound (x ∷ xs) low = rw (lt-ltb x.lsn bound low.0) (ap (λ (l : List LogEntry). x ∷ l) (all_pass bound xs low.1))

-- what has all records of a log has its table
all_left : (bound : ℕ) (s x : State) → x.streams ≡ s.streams → x.records ≡ filter (under bound) s.records → AllByRecursion (λ (e : LogEntry). e.lsn < bound) s.records
    → table x ≡ table s
all_left bound s x streams records low = table_by x s (records ∙ all_pass bound s.records low) streams

-- ---- a call that leaves the records and the streams

pub quiet_left : (asked : Request) (s s2 x : State) (stream : ℕ) → IsValid s → stream_number s table_name ≡ Some stream → IsSafe s stream
    → s2.records ≡ s.records → s2.streams ≡ s.streams → IsSurvivor asked s s2 x → table x ≡ table s
quiet_left asked s s2 x stream valid named safe records streams survives =
    left_table (frontier x.place) s x stream (record {
      named = named;
      streams = streams_left asked s s2 x streams survives;
      records = survives.records ∙ ap (records_below x.place) records;
      restarts = restarts_under s (frontier x.place) valid survives.place.from;
      safe = safe_higher (flushed s) (frontier x.place) s stream survives.place.from safe;
    })

-- ---- a record of a transaction that joins the others

-- such a record
pub record IsRow (s : State) (stream : ℕ) (entry : LogEntry) (r : TxnRecord) : Type 0 where
  pub high : frontier s.place ≤ entry.lsn
  pub some : 0 < entry.lsn
  pub own : entry.stream ≡ stream
  pub plain : is_restart entry.kind ≡ false
  pub spells : txn_record_of entry.bytes ≡ Some r

abbrev with_entry : State → LogEntry → State
with_entry s entry = record s { records = s.records ++ entry ∷ [] }

pub joined_safe : (bound : ℕ) (s : State) (stream : ℕ) (entry : LogEntry) (r : TxnRecord) → IsValid s → IsRow s stream entry r → is_commit r.action ≡ false
    → is_committed (records_after s stream) r.txn ≡ false → IsSafeFrom bound s stream → IsSafeFrom bound (with_entry s entry) stream
joined_safe bound s stream entry r valid row other none safe =
    let w : State = with_entry s entry in
    let joins = entries_join s stream entry valid row.high row.some row.own row.plain in
    let rows = row_joins s w stream entry r valid row.high row.some refl refl row.own row.plain row.spells in
    let P : List TxnRecord → LogEntry → Type 0 = λ records e. bound ≤ e.lsn → CountsForNothing records e in
    let more : List TxnRecord = records_after s stream ++ r ∷ [] in
    let old = each (P (records_after s stream)) (P more) (entries_after s stream)
    (λ e counts up x spelled. same_commits (records_after s stream) r x.txn other ∙ counts up x spelled) safe in
    let new : P more entry = λ up x spelled.
    let same : Some r ≡ Some x = sym row.spells ∙ spelled in
    let one : r ≡ x = cc same in
    same_commits (records_after s stream) r x.txn other ∙ ap (λ (y : TxnRecord). is_committed (records_after s stream) y.txn) (sym one) ∙ none in
    subst (λ (l : List TxnRecord). AllByRecursion (P l) (entries_after w stream)) (sym rows.1)
    (subst (AllByRecursion (P more)) (sym joins.entries) (with_last (P more) (entries_after s stream) entry old new))

pub joined_table : (s : State) (stream : ℕ) (entry : LogEntry) (r : TxnRecord) → IsValid s → stream_number s table_name ≡ Some stream → IsRow s stream entry r
    → is_commit r.action ≡ false → is_committed (records_after s stream) r.txn ≡ false → table (with_entry s entry) ≡ table s
joined_table s stream entry r valid named row other none =
    let w : State = with_entry s entry in
    let rows = row_joins s w stream entry r valid row.high row.some refl refl row.own row.plain row.spells in
    ap (λ (o : Option ℕ). option_map_or (table_in w) o blank_cells) named
    ∙ ap (λ (l : List TxnRecord). changed (first_cells w stream) (committed l)) rows.1
    ∙ ap (changed (first_cells w stream)) (same_committed (records_after s stream) r other none)
    ∙ ap (λ (l : List ℕ). changed l (committed (records_after s stream))) rows.0
    ∙ sym (ap (λ (o : Option ℕ). option_map_or (table_in s) o blank_cells) named)

pub append_left : (asked : Request) (s s2 x : State) (stream : ℕ) (entry : LogEntry) (r : TxnRecord) → IsValid s → stream_number s table_name ≡ Some stream
    → IsSafe s stream → IsRow s stream entry r → is_commit r.action ≡ false → is_committed (records_after s stream) r.txn ≡ false
    → s2.records ≡ s.records ++ entry ∷ [] → s2.streams ≡ s.streams → IsSurvivor asked s s2 x → table x ≡ table s
append_left asked s s2 x stream entry r valid named safe row other none records streams survives =
    let w : State = with_entry s entry in
    let bound : ℕ = frontier x.place in
    left_table bound w x stream (record {
      named = named;
      streams = streams_left asked s s2 x streams survives;
      records = survives.records ∙ ap (records_below x.place) records;
      restarts = with_last (λ (e : LogEntry). is_restart e.kind ≡ true → e.lsn < bound) s.records entry (restarts_under s bound valid survives.place.from)
          (λ is. let no : true ≡ false = sym is ∙ row.plain in absurd (cc no));
      safe = joined_safe bound s stream entry r valid row other none (safe_higher (flushed s) bound s stream survives.place.from safe);
    })
    ∙ joined_table s stream entry r valid named row other none

-- ---- a commit

commits_as : (records : List TxnRecord) (number n : ℕ)
    → is_committed (records ++ txn_record number Commit ∷ []) n ≡ (is_committed records n || (number == n))
commits_as records number n = one_more_commit records (txn_record number Commit) n ∙ false_end (is_committed records n) (number == n)

pub commit_table : (s : State) (stream : ℕ) (entry : LogEntry) (number : ℕ) → IsValid s → stream_number s table_name ≡ Some stream
    → IsRow s stream entry (txn_record number Commit) → table (with_entry s entry) ≡ table_joined s stream number
commit_table s stream entry number valid named row =
    let w : State = with_entry s entry in
    let c : TxnRecord = txn_record number Commit in
    let records : List TxnRecord = records_after s stream in
    let rows = row_joins s w stream entry c valid row.high row.some refl refl row.own row.plain row.spells in
    let is : TxnRecord → Bool = λ x. is_committed (records ++ c ∷ []) x.txn in
    let joins : TxnRecord → Bool = λ x. is_committed records x.txn || (number == x.txn) in
    let passes : joins c ≡ true = ap (λ (b : Bool). is_committed records number || b) (eq-eqb number number refl) ∙ or_true (is_committed records number) in
    let last : filter joins (c ∷ []) ≡ c ∷ [] = rw passes refl in
    let those : committed (records ++ c ∷ []) ≡ filter joins records ++ c ∷ []
    = same_test is joins (records ++ c ∷ []) (for_all (λ (x : TxnRecord). is x ≡ joins x) (records ++ c ∷ []) (λ x. commits_as records number x.txn))
    ∙ filter-append joins records (c ∷ []) ∙ ap (λ (l : List TxnRecord). filter joins records ++ l) last in
    ap (λ (o : Option ℕ). option_map_or (table_in w) o blank_cells) named
    ∙ ap (λ (l : List TxnRecord). changed (first_cells w stream) (committed l)) rows.1
    ∙ ap (changed (first_cells w stream)) those
    ∙ ap (λ (l : List ℕ). changed l (filter joins records ++ c ∷ [])) rows.0
    ∙ changed_then (first_cells s stream) (filter joins records) (c ∷ [])

-- all records lie below a bound above the last one
all_low : (s : State) (bound : ℕ) (entry : LogEntry) → IsValid s → frontier s.place ≤ entry.lsn → entry.lsn < bound
    → AllByRecursion (λ (e : LogEntry). e.lsn < bound) (s.records ++ entry ∷ [])
all_low s bound entry valid high low =
    with_last (λ (e : LogEntry). e.lsn < bound) s.records entry
    (below_all s bound s.records (omega (arith, high, low)) (recursion_from_All (IsRecord s) s.records valid.records.records)) low

last_gone : (bound : ℕ) (xs : List LogEntry) (entry : LogEntry) → bound ≤ entry.lsn → filter (under bound) (xs ++ entry ∷ []) ≡ filter (under bound) xs
last_gone bound xs entry high =
    let none : filter (under bound) (entry ∷ []) ≡ [] = rw (le-ltb entry.lsn bound high) refl in
    filter-append (under bound) xs (entry ∷ []) ∙ ap (λ (l : List LogEntry). filter (under bound) xs ++ l) none ∙ append-nil (filter (under bound) xs)

-- a log without the last record
before_last : (asked : Request) (s x : State) (stream : ℕ) (entry : LogEntry) → IsValid s → stream_number s table_name ≡ Some stream → IsSafe s stream
    → x.streams ≡ s.streams → flushed s ≤ frontier x.place → x.records ≡ filter (under (frontier x.place)) (s.records ++ entry ∷ []) → frontier x.place ≤ entry.lsn
    → table x ≡ table s
before_last asked s x stream entry valid named safe streams from records gone =
    left_table (frontier x.place) s x stream (record {
      named = named;
      streams = streams;
      records = records ∙ last_gone (frontier x.place) s.records entry gone;
      restarts = restarts_under s (frontier x.place) valid from;
      safe = safe_higher (flushed s) (frontier x.place) s stream from safe;
    })

pub commit_left : (asked : Request) (s s2 x : State) (stream : ℕ) (entry : LogEntry) (number : ℕ) → IsValid s → stream_number s table_name ≡ Some stream
    → IsSafe s stream → IsRow s stream entry (txn_record number Commit) → s2.records ≡ s.records ++ entry ∷ [] → s2.streams ≡ s.streams → IsSurvivor asked s s2 x
    → (table x ≡ table s) ⊎ (table x ≡ table_joined s stream number)
commit_left asked s s2 x stream entry number valid named safe row records streams survives =
    let bound : ℕ = frontier x.place in
    let its : x.records ≡ filter (under bound) (s.records ++ entry ∷ []) = survives.records ∙ ap (records_below x.place) records in
    let same = streams_left asked s s2 x streams survives in
    elim (cases_Bool (nat_lt entry.lsn bound)) [
      | inl there ↦
          let low = ltb-true entry.lsn bound there in
          inr (all_left bound (with_entry s entry) x same its (all_low s bound entry valid row.high low) ∙ commit_table s stream entry number valid named row)
      | inr gone ↦ inl (before_last asked s x stream entry valid named safe same survives.place.from its (ltb-false entry.lsn bound gone))
    ]

-- ---- a restart area, and a base that moves with it

pub records_under : (bound : ℕ) (xs : List LogEntry) → AllByRecursion (λ (e : LogEntry). e.lsn < bound) (filter (under bound) xs)
records_under bound [] = tt
records_under bound (x ∷ xs) = elim (cases_Bool (nat_lt x.lsn bound)) [
  | inl low ↦ rw low (ltb-true x.lsn bound low, records_under bound xs)
  | inr high ↦ rw high (records_under bound xs)
]

none_more : (records : List LogEntry) (x : State) → x.records ≡ records → HasMore records x → ⊥
none_more records x same more =
    let all : All (λ (other : LogEntry). other.lsn ≡ more.1.lsn → ⊥) records
    = subst (λ (l : List LogEntry). All (λ (other : LogEntry). other.lsn ≡ more.1.lsn → ⊥) l) same more.4 in
    let F : LogEntry → Type 0 = λ e. e.lsn ≡ more.1.lsn → ⊥ in
    let itself : more.1.lsn ≡ more.1.lsn → ⊥ = subst F more.3 (all more.0 more.1 more.2) in
    itself refl

all_differ : (bound lsn : ℕ) (xs : List LogEntry) → bound ≤ lsn → AllByRecursion (λ (e : LogEntry). e.lsn < bound) xs
    → AllByRecursion (λ (e : LogEntry). e.lsn ≡ lsn → ⊥) xs
all_differ bound lsn [] high all = tt
all_differ bound lsn (x ∷ xs) high all = ((λ same. let low = all.0 in omega (arith, low, same, high)), all_differ bound lsn xs high all.1)

has_more : (bound : ℕ) (xs : List LogEntry) (entry : LogEntry) (x : State) → bound ≤ entry.lsn → x.records ≡ filter (under bound) (xs ++ entry ∷ [])
    → HasMore (xs ++ entry ∷ []) x
has_more bound xs entry x high records =
    Any-push (λ (e : LogEntry). All (λ (other : LogEntry). other.lsn ≡ e.lsn → ⊥) x.records) xs entry
    (All-from_recursion (λ (other : LogEntry). other.lsn ≡ entry.lsn → ⊥) x.records
    (all_differ bound entry.lsn x.records high
    (subst (AllByRecursion (λ (e : LogEntry). e.lsn < bound)) (sym records) (records_under bound (xs ++ entry ∷ [])))))

pub restart_left : (client number : ℕ) (bytes : List ℕ) (base : ℕ) (s s2 x : State) (stream : ℕ) (entry : LogEntry) → IsValid s → stream_number s table_name ≡ Some stream
    → IsSafe s stream → frontier s.place ≤ entry.lsn → s2.records ≡ s.records ++ entry ∷ [] → names_of s2 ≡ names_of s → table s2 ≡ table s
    → IsSurvivor (asks client (calls.WriteRestart number bytes base false)) s s2 x → table x ≡ table s
restart_left client number bytes base s s2 x stream entry valid named safe high records names same survives =
    let asked : Request = asks client (calls.WriteRestart number bytes base false) in
    let bound : ℕ = frontier x.place in
    let its : x.records ≡ filter (under bound) (s.records ++ entry ∷ []) = survives.records ∙ ap (records_below x.place) records in
    let its_names = names_are asked s s2 x names survives in
    elim (cases_Bool (nat_lt entry.lsn bound)) [
      | inl there ↦
          let low = ltb-true entry.lsn bound there in
          let all : x.records ≡ s2.records = its ∙ all_pass bound (s.records ++ entry ∷ []) (all_low s bound entry valid high low) ∙ sym records in
          let bases = survives.bases_of_request.there (none_more s2.records x all) in
          table_by x s2 all (streams_are s2 x (its_names ∙ sym names) bases) ∙ same
      | inr gone ↦
          let up = ltb-false entry.lsn bound gone in
          let more = subst (λ (l : List LogEntry). HasMore l x) (sym records) (has_more bound s.records entry x up its) in
          let bases = survives.bases_of_request.lost more in
          before_last asked s x stream entry valid named safe (streams_are s x its_names bases) survives.place.from its up
    ]
