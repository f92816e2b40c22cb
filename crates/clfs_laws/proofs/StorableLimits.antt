-- Streams, areas and cursors stay within their limits.
use Rattle.clfs_laws.proofs.Words.{◌≡◌, ℕ, suc, ◌-◌, Bool, true, false, refl, sym, ap, ◌∙◌, subst, inl, inr, arith, List, [], ◌∷◌, ◌++◌, length, Some, None}
use Rattle.clfs_laws.proofs.Words.{All, find, filter, nat_lt, ◌==◌, AllByRecursion, cases_Bool, append-nil, All-weaker, All-from_recursion}
use Rattle.clfs_laws.proofs.Words.{recursion_from_All, null_lsn, LogEntry, Draft, State, Area, Cursor, Stream, IsClient, is_area, areas_of, change_first}
use Rattle.clfs_laws.proofs.Words.{change_area, set_base, own_sum, with_containers, grown, flushed, seal, flush, put, need_of, with_less_held, with_more_held}
use Rattle.clfs_laws.proofs.Words.{spend_if, hold_sizes, seal_if, flush_if, plain_record, appended, name_fault, flushed_to, restart_record, restarted}
use Rattle.clfs_laws.proofs.Words.{rebased, advanced, IsCursor, IsAreaWithinLimits, IsWithinLimits}
use Rattle.clfs_laws.proofs.RecordsOfCalls.{seal_records}
use Rattle.clfs_laws.proofs.RowSteps.{put_areas, seal_areas}
use Rattle.clfs_laws.proofs.StorableCursors.{cursor_kept}
use Rattle.clfs_laws.proofs.ValidBases.{set_length, flush_streams}
use Rattle.clfs_laws.proofs.ValidRestarts.{put_streams}
use Rattle.clfs_laws.proofs.ValidSettings.{grown_is}

-- an area that was made for the same and has the same cursors
pub record IsAlike (a b : Area) : Type 0 where
  pub client : b.client ≡ a.client
  pub number : b.number ≡ a.number
  pub reads : b.reads ≡ a.reads
  pub stream : b.stream ≡ a.stream
  pub cursors : b.cursors ≡ a.cursors

-- such an area stays within its limits, with more records too
pub area_kept : (s t : State) (a b : Area) (more : List LogEntry) → t.records ≡ s.records ++ more → IsAlike a b → IsAreaWithinLimits s a
    → IsAreaWithinLimits t b
area_kept s t a b more records alike is = record {
  client = subst IsClient (sym alike.client) is.client;
  some_number = omega (arith, is.some_number, alike.number);
  number = omega (arith, is.number, alike.number);
  some_reads = omega (arith, is.some_reads, alike.reads);
  reads = omega (arith, is.reads, alike.reads);
  few_cursors = let count : length b.cursors ≡ length a.cursors = ap length alike.cursors in omega (arith, is.few_cursors, count, alike.reads);
  cursors =
      let F : List Cursor → Type 0 = All (IsCursor t b) in
      subst F (sym alike.cursors) (All-weaker (IsCursor s a) (IsCursor t b)
      (λ cursor has. cursor_kept s t a b more records alike.reads alike.stream cursor has) a.cursors is.cursors);
}

-- an area is alike itself
pub alike_itself : (a : Area) → IsAlike a a
alike_itself a = record { client = refl; number = refl; reads = refl; stream = refl; cursors = refl }

-- a state of the same streams and areas, with more records
pub limits_as : (s t : State) (more : List LogEntry) → t.streams ≡ s.streams → t.areas ≡ s.areas → t.records ≡ s.records ++ more
    → IsWithinLimits s → IsWithinLimits t
limits_as s t more streams areas records limits =
    let N : List Stream → Type 0 = All (λ (stream : Stream). name_fault stream.name ≡ None) in
    let A : List Area → Type 0 = All (IsAreaWithinLimits t) in
    record {
      names = subst N (sym streams) limits.names;
      few_streams = let count : length t.streams ≡ length s.streams = ap length streams in omega (arith, limits.few_streams, count);
      few_areas = λ client.
          let count : length (areas_of t client) ≡ length (areas_of s client) =
          ap (λ (xs : List Area). length (filter (λ (area : Area). area.client == client) xs)) areas in
          omega (arith, limits.few_areas client, count);
      areas =
          subst A (sym areas) (All-weaker (IsAreaWithinLimits s) (IsAreaWithinLimits t)
          (λ area is. area_kept s t area area more records (alike_itself area) is) s.areas limits.areas);
    }

-- with the same records
pub limits_same : (s t : State) → t.streams ≡ s.streams → t.areas ≡ s.areas → t.records ≡ s.records → IsWithinLimits s → IsWithinLimits t
limits_same s t streams areas records limits = limits_as s t [] streams areas (records ∙ sym (append-nil s.records)) limits

-- a client has as many areas after a change of one that keeps its client
few_changed : (client : ℕ) (p : Area → Bool) (change : Area → Area) → ((area : Area) → (change area).client ≡ area.client) → (areas : List Area)
    → length (filter (λ (area : Area). area.client == client) (change_first p change areas)) ≡ length (filter (λ (area : Area). area.client == client) areas)
few_changed client p change keeps [] = refl
few_changed client p change keeps (area ∷ areas) = elim (cases_Bool (p area)) [
  | inl here ↦ elim (cases_Bool (area.client == client)) [
    | inl mine ↦
        let mine_too : ((change area).client == client) ≡ true = ap (λ (c : ℕ). c == client) (keeps area) ∙ mine in
        rw (here, mine, mine_too) refl
    | inr other ↦
        let other_too : ((change area).client == client) ≡ false = ap (λ (c : ℕ). c == client) (keeps area) ∙ other in
        rw (here, other, other_too) refl
  ]
  | inr there ↦ elim (cases_Bool (area.client == client)) [
    | inl mine ↦ rw (there, mine) (ap suc (few_changed client p change keeps areas))
    | inr other ↦ rw (there, other) (few_changed client p change keeps areas)
  ]
]

-- the areas with the first that passes a test changed
pub limits_found : (s : State) (p : Area → Bool) (change : Area → Area) → ((area : Area) → (change area).client ≡ area.client)
    → ((area : Area) → find p s.areas ≡ Some area → IsAreaWithinLimits s area → IsAreaWithinLimits s (change area))
    → IsWithinLimits s → IsWithinLimits (record s { areas = change_first p change s.areas })
limits_found s p change client keeps limits = let t : State = record s { areas = change_first p change s.areas } in record {
  names = limits.names;
  few_streams = limits.few_streams;
  few_areas = λ of. let count = few_changed of p change client s.areas in omega (arith, limits.few_areas of, count);
  areas =
      All-weaker (IsAreaWithinLimits s) (IsAreaWithinLimits t)
      (λ area is. area_kept s t area area [] (sym (append-nil s.records)) (alike_itself area) is) t.areas
      (All-from_recursion (IsAreaWithinLimits s) t.areas (changed s.areas keeps (recursion_from_All (IsAreaWithinLimits s) s.areas limits.areas)));
}
  where
    changed : (areas : List Area) → ((area : Area) → find p areas ≡ Some area → IsAreaWithinLimits s area → IsAreaWithinLimits s (change area))
        → AllByRecursion (IsAreaWithinLimits s) areas → AllByRecursion (IsAreaWithinLimits s) (change_first p change areas)
    changed [] each all = all
    changed (area ∷ areas) each all = elim (cases_Bool (p area)) [
      | inl here ↦ rw here (each area (rw here refl) all.0, all.1)
      | inr there ↦ rw there (all.0, changed areas (λ other is. each other (rw there is)) all.1)
    ]

-- the same where the change is one of what an area holds
limits_held : (s : State) (change : Area → Area) (client number : ℕ) → ((area : Area) → IsAlike area (change area)) → IsWithinLimits s
    → IsWithinLimits (change_area change client number s)
limits_held s change client number alike limits =
    limits_found s (is_area client number) change (λ area. (alike area).client)
    (λ area is within. area_kept s s area (change area) [] (sym (append-nil s.records)) (alike area) within) limits

less_held : (sectors : ℕ) (area : Area) → IsAlike area (with_less_held sectors area)
less_held sectors area = record { client = refl; number = refl; reads = refl; stream = refl; cursors = refl }

more_held : (sectors : ℕ) (area : Area) → IsAlike area (with_more_held sectors area)
more_held sectors area = record { client = refl; number = refl; reads = refl; stream = refl; cursors = refl }

-- an area that gives up sectors
pub limits_released : (s : State) (area : Area) (sectors : ℕ) → IsWithinLimits s
    → IsWithinLimits (change_area (with_less_held sectors) area.client area.number s)
limits_released s area sectors limits = limits_held s (with_less_held sectors) area.client area.number (less_held sectors) limits

pub limits_spent : (is_reserved : Bool) (area : Area) (n : ℕ) (s : State) → IsWithinLimits s → IsWithinLimits (spend_if is_reserved area n s)
limits_spent false area n s limits = limits
limits_spent true area n s limits = limits_released s area _ limits

pub limits_hold : (area : Area) (sizes : List ℕ) (s : State) → IsWithinLimits s → IsWithinLimits (hold_sizes area sizes s)
limits_hold area [] s limits = limits
limits_hold area (size ∷ sizes) s limits =
    limits_held s (with_more_held (own_sum (size ∷ sizes))) area.client area.number (more_held (own_sum (size ∷ sizes))) limits

pub limits_grown : (s : State) (need : ℕ) → IsWithinLimits s → IsWithinLimits (grown s need)
limits_grown s need limits = subst IsWithinLimits (sym (grown_is s need)) (limits_same s (with_containers (grown s need).containers s) refl refl refl limits)

-- a log that is sealed, or flushed
pub limits_seal : (s : State) → IsWithinLimits s → IsWithinLimits (seal s)
limits_seal s limits = limits_same s (seal s) (flush_streams s) (seal_areas s) (seal_records s) limits

pub limits_flush : (s : State) → IsWithinLimits s → IsWithinLimits (flush s)
limits_flush s limits = limits_same s (flush s) (flush_streams s) (seal_areas s) (seal_records s) limits

limits_seal_if : (asked : Bool) (s : State) → IsWithinLimits s → IsWithinLimits (seal_if asked s)
limits_seal_if true s limits = limits_seal s limits
limits_seal_if false s limits = limits

limits_flush_if : (asked : Bool) (s : State) → IsWithinLimits s → IsWithinLimits (flush_if asked s)
limits_flush_if true s limits = limits_flush s limits
limits_flush_if false s limits = limits

pub limits_flushed_to : (s : State) (lsn : ℕ) → IsWithinLimits s → IsWithinLimits (flushed_to s lsn)
limits_flushed_to s lsn limits = elim (cases_Bool (nat_lt lsn (flushed s))) [
  | inl below ↦ rw below limits
  | inr above ↦ rw above (limits_flush s limits)
]

pub limits_put : (s : State) (entry : LogEntry) → IsWithinLimits s → IsWithinLimits (put s entry)
limits_put s entry limits = limits_as s (put s entry) _ (put_streams s entry) (put_areas s entry) refl limits

-- an append
pub limits_appended : (s : State) (area : Area) (draft : Draft) (is_reserved : Bool) (sizes : List ℕ) → IsWithinLimits s
    → IsWithinLimits (appended s area draft is_reserved sizes)
limits_appended s area draft is_reserved sizes limits =
    let n = length draft.bytes in
    limits_flush_if draft.flush _ (limits_seal_if draft.seal _ (limits_hold area sizes _ (limits_spent is_reserved area n _
    (limits_put (grown s (need_of is_reserved n sizes)) (plain_record area draft) (limits_grown s (need_of is_reserved n sizes) limits)))))

-- a base that moves
limits_set : (s : State) (number lsn : ℕ) → IsWithinLimits s → IsWithinLimits (record s { streams = set_base number lsn s.streams })
limits_set s number lsn limits = let t : State = record s { streams = set_base number lsn s.streams } in record {
  names = All-from_recursion (λ (stream : Stream). name_fault stream.name ≡ None) t.streams
      (names_set number s.streams (recursion_from_All (λ (stream : Stream). name_fault stream.name ≡ None) s.streams limits.names));
  few_streams = let count = set_length number lsn s.streams in omega (arith, limits.few_streams, count);
  few_areas = limits.few_areas;
  areas =
      All-weaker (IsAreaWithinLimits s) (IsAreaWithinLimits t)
      (λ area is. area_kept s t area area [] (sym (append-nil s.records)) (alike_itself area) is) s.areas limits.areas;
}
  where
    names_set : (n : ℕ) (streams : List Stream) → AllByRecursion (λ (stream : Stream). name_fault stream.name ≡ None) streams
        → AllByRecursion (λ (stream : Stream). name_fault stream.name ≡ None) (set_base n lsn streams)
    names_set n [] all = tt
    names_set n (stream ∷ streams) all = elim (cases_Bool (n == 1)) [
      | inl here ↦ rw here (all.0, all.1)
      | inr there ↦ rw there (all.0, names_set (n - 1) streams all.1)
    ]

pub limits_advanced : (s : State) (stream lsn : ℕ) → IsWithinLimits s → IsWithinLimits (advanced s stream lsn)
limits_advanced s stream lsn limits = limits_set (flush s) stream lsn (limits_flush s limits)

pub limits_rebased : (stream base : ℕ) (s : State) → IsWithinLimits s → IsWithinLimits (rebased stream base s)
limits_rebased stream base s limits = elim (cases_Bool (base == null_lsn)) [
  | inl none ↦ rw none limits
  | inr some ↦ rw some (limits_set s stream base limits)
]

-- a restart area
pub limits_restarted : (s : State) (area : Area) (bytes : List ℕ) (base : ℕ) (is_reserved : Bool) → IsWithinLimits s
    → IsWithinLimits (restarted s area bytes base is_reserved)
limits_restarted s area bytes base is_reserved limits =
    let n = length bytes in
    limits_rebased area.stream base _ (limits_flush _ (limits_spent is_reserved area n _
    (limits_put (grown s (need_of is_reserved n [])) (restart_record s area bytes base) (limits_grown s (need_of is_reserved n []) limits))))
