-- A test of heads keeps and finds the heads of what the same test of records keeps and finds.
use Rattle.std.proofs.Common.{◌≡◌, ℕ, ◌+◌, ◌-◌, ◌*◌, Bool, refl, sym, ap, ◌∙◌, inl, inr, List, [], ◌∷◌, ◌++◌, length, map, Some, None, Option}
use Rattle.std.specs.Prelude.{filter, find, nat_le, nat_lt, ◌&&◌, ◌==◌, slice_get, sum_by, reverse}
use Rattle.std.specs.List.{filter_map, last_or, range_with_len}
use Rattle.std.specs.Option.{option_map, option_map_or, option_and_then}
use Rattle.std.specs.Option.{option_to_list}
use Rattle.std.proofs.lemmas.Bool.{cases_Bool, eqb-true}
use Rattle.std.proofs.lemmas.List.{reverse-append, map-append}
use Rattle.std.proofs.lemmas.List.Folds.{fold-map}
use Rattle.std.proofs.lemmas.Option.{slice_get-map}
use Rattle.clfs_lsn.specs.Format.{sector_bytes, block_header}
use Rattle.clfs_lsn.specs.Head.{head_of}
use Rattle.clfs_lsn.specs.Lsn.{container_of, offset_of}
use Rattle.clfs_lsn.specs.Place.{frontier}
use Rattle.clfs_lsn.specs.Size.{size, sectors}
use Rattle.clfs_lsn.specs.declared.entry.Head.{Head}
use Rattle.clfs_lsn.specs.declared.entry.LogEntry.{LogEntry}
use Rattle.clfs_lsn.specs.declared.cursor.Mode.{Mode}
use Rattle.clfs_lsn.specs.declared.cursor.Mode.TheVariants.{Previous, UndoNext, Forward}
use Rattle.clfs_model.specs.declared.info.Extent.{Extent}
use Rattle.clfs_model.specs.declared.state.State.{State}
use Rattle.clfs_model.specs.State.{base_of}
use Rattle.clfs_model.specs.Live.{is_live, live, live_at, lsn_or_null, last_live, hold}
use Rattle.clfs_lsn.specs.Heads.{live_heads, head_at, head_above, head_or_null, live_head_at, last_live_head, next_head, head_below, restart_heads, hold_of, least_or, is_restart}
use Rattle.clfs_model.specs.Flush.{flushed}
use Rattle.clfs_model.specs.Reading.{entry_at, next, restart_areas, newest_restart, restart_below}
use Rattle.clfs_model.specs.Archive.{is_in_block, end_of_block, archived_in, extent_between, extent_in, extents_from, extents}
use Rattle.clfs_model.specs.Heads.{heads_of, block_end, extent_of_heads, container_extent, extents_of}

-- a test of records that sees their heads alone
pub record SeesHeads (q : LogEntry → Bool) (p : Head → Bool) : Type 0 where
  pub same : (entry : LogEntry) → q entry ≡ p (head_of entry)

pub filter_heads : (q : LogEntry → Bool) (p : Head → Bool) → SeesHeads q p → (entries : List LogEntry)
    → map head_of (filter q entries) ≡ filter p (map head_of entries)
filter_heads q p sees [] = refl
filter_heads q p sees (entry ∷ entries) = elim (cases_Bool (q entry)) [
  | inl passes ↦ rw (passes, sym (sees.same entry) ∙ passes) (ap (λ heads. head_of entry ∷ heads) (filter_heads q p sees entries))
  | inr fails ↦ rw (fails, sym (sees.same entry) ∙ fails) (filter_heads q p sees entries)
]

pub find_heads : (q : LogEntry → Bool) (p : Head → Bool) → SeesHeads q p → (entries : List LogEntry)
    → option_map head_of (find q entries) ≡ find p (map head_of entries)
find_heads q p sees [] = refl
find_heads q p sees (entry ∷ entries) = elim (cases_Bool (q entry)) [
  | inl passes ↦ rw (passes, sym (sees.same entry) ∙ passes) refl
  | inr fails ↦ rw (fails, sym (sees.same entry) ∙ fails) (find_heads q p sees entries)
]

pub last_heads : (found : Option LogEntry) (entries : List LogEntry)
    → option_map head_of (last_or found entries) ≡ last_or (option_map head_of found) (map head_of entries)
last_heads found [] = refl
last_heads found (entry ∷ entries) = last_heads (Some entry) entries

-- what passes two tests passes the one after the other
pub filter_twice : (p q : Head → Bool) (heads : List Head) → filter (λ head. p head && q head) heads ≡ filter q (filter p heads)
filter_twice p q [] = refl
filter_twice p q (head ∷ heads) = elim (cases_Bool (p head)) [
  | inl passes ↦ rw passes (elim (cases_Bool (q head)) [
    | inl too ↦ rw too (ap (λ rest. head ∷ rest) (filter_twice p q heads))
    | inr not ↦ rw not (filter_twice p q heads)
  ])
  | inr fails ↦ rw fails (filter_twice p q heads)
]

-- the sizes of some records are those of their heads
pub sum_heads : (entries : List LogEntry)
    → sum_by (λ (entry : LogEntry). size (length entry.bytes)) entries ≡ sum_by (λ (head : Head). size head.len) (map head_of entries)
sum_heads entries = sym (fold-map (λ (total : ℕ) (head : Head). total + size head.len) head_of 0 entries)

pub reversed_heads : (entries : List LogEntry) → map head_of (reverse entries) ≡ reverse (map head_of entries)
reversed_heads [] = refl
reversed_heads (entry ∷ entries) =
    ap (map head_of) (reverse-append (entry ∷ []) entries) ∙ map-append head_of (reverse entries) (entry ∷ [])
    ∙ ap (λ heads. heads ++ head_of entry ∷ []) (reversed_heads entries) ∙ sym (reverse-append (head_of entry ∷ []) (map head_of entries))

-- where a test is of one stream's records, the base is that stream's
sees_live : (s : State) (stream : ℕ) (entry : LogEntry)
    → ((entry.stream == stream) && is_live s entry) ≡ ((entry.stream == stream) && nat_le (base_of s stream) entry.lsn)
sees_live s stream entry = elim (cases_Bool (entry.stream == stream)) [
  | inl here ↦ let same = eqb-true entry.stream stream here in
      rw here (ap (λ number. nat_le (base_of s number) entry.lsn) same)
  | inr other ↦ rw other refl
]

pub live_as_heads : (s : State) (stream : ℕ) → map head_of (live s stream) ≡ live_heads (base_of s stream) stream (heads_of s)
live_as_heads s stream =
    filter_heads (λ (entry : LogEntry). (entry.stream == stream) && is_live s entry)
    (λ (head : Head). (head.stream == stream) && nat_le (base_of s stream) head.lsn) (record { same = sees_live s stream }) s.records
    ∙ filter_twice (λ (head : Head). head.stream == stream) (λ (head : Head). nat_le (base_of s stream) head.lsn) (heads_of s)

pub live_at_as_heads : (s : State) (stream lsn : ℕ)
    → option_map head_of (live_at s stream lsn) ≡ live_head_at (base_of s stream) stream lsn (heads_of s)
live_at_as_heads s stream lsn =
    find_heads (λ (entry : LogEntry). entry.lsn == lsn) (λ (head : Head). head.lsn == lsn) (record { same = λ _. refl }) (live s stream)
    ∙ ap (head_at lsn) (live_as_heads s stream)

pub entry_at_as_heads : (s : State) (lsn : ℕ) → option_map head_of (entry_at s lsn) ≡ head_at lsn (heads_of s)
entry_at_as_heads s lsn =
    find_heads (λ (entry : LogEntry). entry.lsn == lsn) (λ (head : Head). head.lsn == lsn) (record { same = λ _. refl }) s.records

-- the LSN of a record is that of its head
lsn_of_found : (found : Option LogEntry) → lsn_or_null found ≡ head_or_null (option_map head_of found)
lsn_of_found None = refl
lsn_of_found (Some entry) = refl

pub last_live_as_heads : (s : State) (stream : ℕ)
    → last_live s stream ≡ head_or_null (last_live_head (base_of s stream) stream (heads_of s))
last_live_as_heads s stream = lsn_of_found (last_or None (live s stream))
    ∙ ap head_or_null (last_heads None (live s stream) ∙ ap (last_or None) (live_as_heads s stream))

-- what a record leads to is what its head leads to
found_by_heads : (f : LogEntry → Option LogEntry) (g : Head → Option Head) → ((entry : LogEntry) → option_map head_of (f entry) ≡ g (head_of entry))
    → (found : Option LogEntry) → option_map head_of (option_and_then f found) ≡ option_and_then g (option_map head_of found)
found_by_heads f g alike None = refl
found_by_heads f g alike (Some entry) = alike entry

pub next_as_heads : (s : State) (stream : ℕ) (mode : Mode) (last : ℕ)
    → option_map head_of (next s stream mode last) ≡ next_head (base_of s stream) stream mode last (heads_of s)
next_as_heads s stream Previous last =
    found_by_heads (λ (entry : LogEntry). live_at s stream entry.previous)
    (λ (head : Head). live_head_at (base_of s stream) stream head.previous (heads_of s))
    (λ entry. live_at_as_heads s stream entry.previous) (entry_at s last)
    ∙ ap (option_and_then (λ (head : Head). live_head_at (base_of s stream) stream head.previous (heads_of s))) (entry_at_as_heads s last)
next_as_heads s stream UndoNext last =
    found_by_heads (λ (entry : LogEntry). live_at s stream entry.undo_next)
    (λ (head : Head). live_head_at (base_of s stream) stream head.undo_next (heads_of s))
    (λ entry. live_at_as_heads s stream entry.undo_next) (entry_at s last)
    ∙ ap (option_and_then (λ (head : Head). live_head_at (base_of s stream) stream head.undo_next (heads_of s))) (entry_at_as_heads s last)
next_as_heads s stream Forward last =
    find_heads (λ (entry : LogEntry). nat_lt last entry.lsn) (λ (head : Head). nat_lt last head.lsn) (record { same = λ _. refl }) (live s stream)
    ∙ ap (head_above last) (live_as_heads s stream)

pub restarts_as_heads : (s : State) (stream : ℕ)
    → map head_of (restart_areas s stream) ≡ restart_heads (base_of s stream) stream (heads_of s)
restarts_as_heads s stream =
    let restarts : List LogEntry = filter (λ (entry : LogEntry). is_restart entry.kind) (live s stream) in
    reversed_heads restarts ∙ ap reverse (
    filter_heads (λ (entry : LogEntry). is_restart entry.kind) (λ (head : Head). is_restart head.kind) (record { same = λ _. refl }) (live s stream)
    ∙ ap (filter (λ (head : Head). is_restart head.kind)) (live_as_heads s stream))

pub newest_as_heads : (s : State) (stream : ℕ)
    → option_map head_of (newest_restart s stream) ≡ slice_get (restart_heads (base_of s stream) stream (heads_of s)) 0
newest_as_heads s stream =
    sym (slice_get-map head_of (restart_areas s stream) 0) ∙ ap (λ heads. slice_get heads 0) (restarts_as_heads s stream)

pub restart_below_as_heads : (s : State) (stream lsn : ℕ)
    → option_map head_of (restart_below s stream lsn) ≡ head_below lsn (restart_heads (base_of s stream) stream (heads_of s))
restart_below_as_heads s stream lsn =
    find_heads (λ (entry : LogEntry). nat_lt entry.lsn lsn) (λ (head : Head). nat_lt head.lsn lsn) (record { same = λ _. refl })
    (restart_areas s stream)
    ∙ ap (head_below lsn) (restarts_as_heads s stream)

-- the LSNs of records are those of their heads
lsns_as_heads : (entries : List LogEntry) → map (λ (entry : LogEntry). entry.lsn) entries ≡ map (λ (head : Head). head.lsn) (map head_of entries)
lsns_as_heads [] = refl
lsns_as_heads (entry ∷ entries) = ap (λ lsns. entry.lsn ∷ lsns) (lsns_as_heads entries)

pub hold_as_heads : (s : State) → hold s ≡ hold_of (frontier s.place) s.archive (base_of s) (heads_of s)
hold_as_heads s =
    ap (λ lsns. least_or (frontier s.place) (option_to_list s.archive ++ lsns)) (lsns_as_heads (filter (is_live s) s.records)
    ∙ ap (map (λ (head : Head). head.lsn))
    (filter_heads (is_live s) (λ (head : Head). nat_le (base_of s head.stream) head.lsn) (record { same = λ _. refl }) s.records))

end_as_heads : (entries : List LogEntry) (lsn : ℕ) → end_of_block entries lsn ≡ block_end (map head_of entries) lsn
end_as_heads entries lsn =
    ap (λ payload. offset_of lsn + sector_bytes * sectors (block_header + payload))
    (sum_heads (filter (λ (entry : LogEntry). is_in_block entry.lsn lsn) entries)
    ∙ ap (sum_by (λ (head : Head). size head.len))
    (filter_heads (λ (entry : LogEntry). is_in_block entry.lsn lsn) (λ (head : Head). is_in_block head.lsn lsn) (record { same = λ _. refl }) entries))

-- The extent of some records, the first and the last of which are in it, is that of their heads.
extent_between_heads : (s : State) (archived : List LogEntry)
    → option_map (λ (first : LogEntry). extent_between s first (option_map_or (λ (last : LogEntry). last) (last_or None archived) first)) (slice_get archived 0)
    ≡ option_map (λ (first : Head). extent_of_heads (heads_of s) first (option_map_or (λ (last : Head). last) (last_or None (map head_of archived)) first))
    (slice_get (map head_of archived) 0)
extent_between_heads s [] = refl
extent_between_heads s (first ∷ archived) =
    let both = last_heads (Some first) archived in
    rw (← both) (last_case (last_or (Some first) archived))
  where
    last_case : (last : Option LogEntry)
        → Some (extent_between s first (option_map_or (λ (found : LogEntry). found) last first))
        ≡ Some (extent_of_heads (heads_of s) (head_of first) (option_map_or (λ (found : Head). found) (option_map head_of last) (head_of first)))
    last_case None = ap (λ high. let extent : Extent = record { container = container_of first.lsn; low = offset_of first.lsn; high = high } in Some extent)
        (end_as_heads s.records first.lsn)
    last_case (Some last) = ap (λ high. let extent : Extent = record { container = container_of first.lsn; low = offset_of first.lsn; high = high } in Some extent)
        (end_as_heads s.records last.lsn)

extent_as_heads : (s : State) (tail container : ℕ) → extent_in s tail container ≡ container_extent (flushed s) tail (heads_of s) container
extent_as_heads s tail container =
    extent_between_heads s (archived_in s tail container)
    ∙ ap (λ archived. option_map
    (λ (first : Head). extent_of_heads (heads_of s) first (option_map_or (λ (last : Head). last) (last_or None archived) first)) (slice_get archived 0))
    (filter_heads
    (λ (entry : LogEntry). (container_of entry.lsn == container) && nat_le tail entry.lsn && nat_lt entry.lsn (flushed s))
    (λ (head : Head). (container_of head.lsn == container) && nat_le tail head.lsn && nat_lt head.lsn (flushed s))
    (record { same = λ _. refl }) s.records)

filter_map_alike : (f g : ℕ → Option Extent) → ((n : ℕ) → f n ≡ g n) → (ns : List ℕ) → filter_map f ns ≡ filter_map g ns
filter_map_alike f g alike [] = refl
filter_map_alike f g alike (n ∷ ns) = rw (alike n, filter_map_alike f g alike ns) refl

pub extents_as_heads : (s : State) → extents s ≡ extents_of (flushed s) s.place.container s.archive (heads_of s)
extents_as_heads s = by_tail s.archive
  where
    by_tail : (tail : Option ℕ) → option_map_or (extents_from s) tail [] ≡ extents_of (flushed s) s.place.container tail (heads_of s)
    by_tail None = refl
    by_tail (Some lsn) = filter_map_alike (extent_in s lsn) (container_extent (flushed s) lsn (heads_of s)) (extent_as_heads s lsn)
        (range_with_len (container_of lsn) (s.place.container + 1 - container_of lsn))
