-- Tests that decide whether a state is one that files can stand for.
use Rattle.clfs_rows.proofs.Words.{◌≡◌, ◌⊎◌, ℕ, ◌*◌, ◌<◌, ◌≤◌, Bool, true, false, refl, sym, subst, inl, inr, List, length, get_or, arith, ◌==◌, All, Option}
use Rattle.clfs_rows.proofs.Words.{Some, None, All-head, All-tail, lsn_number, container_of, block_end, sealed, frontier, Shape, Place, LogEntry, Kind, Plain}
use Rattle.clfs_rows.proofs.Words.{Restart, State, Stream, Area, Cursor, CursorKind, Records, RestartAreas, base_of, entry_at, IsStorable}
use Rattle.std.proofs.Common.{◌^◌, [], ◌∷◌}
use Rattle.std.specs.Prelude.{filter}
use Rattle.std.proofs.lemmas.Bool.{eqb-true}
use Rattle.clfs_lsn.specs.Limits.{most_streams, most_areas, most_cursors, most_clients}
use Rattle.clfs_lsn.specs.Spelling.{BaseFits}
use Rattle.clfs_model.specs.State.{areas_of}
use Rattle.clfs_model.specs.Refusals.{name_fault}
use Rattle.clfs_model.specs.Conditions.{IsClient}
use Rattle.clfs_model.specs.Storable.{HasMovedBase, before_all, behind, behind_all, LiesBehind, LieInBlocks, GoesOnAt, HasBlocks, IsOfCursor, IsCursor}
use Rattle.clfs_model.specs.Storable.{IsAreaWithinLimits, IsWithinLimits}
use Rattle.clfs_rows.proofs.Decisions.{Decision, like, always, never, both, either, equal, less, at_most, each, lacks, same_value}
use Rattle.clfs_rows.proofs.SameStates.{same_number_options, same_kinds, same_place}
use Rattle.clfs_rows.proofs.ValidTests.{is_within}

abbrev pub base_fits : (kind : Kind) (lsn base : ℕ) → Decision (BaseFits kind lsn base)
base_fits Plain lsn base = equal base 0
base_fits Restart lsn base = at_most base lsn

abbrev HasMovedBaseParts : State → LogEntry → Type 0
HasMovedBaseParts s entry = (BaseFits entry.kind entry.lsn entry.new_base) × (entry.new_base ≤ base_of s entry.stream)

pub has_moved_base_of_parts : (s : State) (entry : LogEntry) → HasMovedBaseParts s entry → HasMovedBase s entry
has_moved_base_of_parts s entry p = record {
  own = p.0;
  moved = p.1;
}

pub parts_of_has_moved_base : (s : State) (entry : LogEntry) → HasMovedBase s entry → HasMovedBaseParts s entry
parts_of_has_moved_base s entry h = (h.own, h.moved)

abbrev pub has_moved_base : (s : State) (entry : LogEntry) → Decision (HasMovedBase s entry)
has_moved_base s entry = like (has_moved_base_of_parts s entry) (parts_of_has_moved_base s entry)
    (both (base_fits entry.kind entry.lsn entry.new_base)
    (at_most entry.new_base (base_of s entry.stream)))

abbrev pub lies_behind : (place : Place) (entry : LogEntry) → Decision (LiesBehind place entry)
lies_behind place entry = either (both (at_most 1 place.records) (equal entry.lsn (frontier place)))
    (either (equal entry.lsn (lsn_number place.container (512 * block_end place) 0))
    (both (less place.container (container_of entry.lsn)) (equal entry.lsn (lsn_number (container_of entry.lsn) 0 0))))

abbrev pub lie_in_blocks : (shape : Shape) (place : Place) (entries : List LogEntry) → Decision (LieInBlocks shape place entries)
lie_in_blocks shape place [] = always
lie_in_blocks shape place (entry ∷ entries) =
    both (lies_behind place entry) (both (is_within shape (behind place entry)) (lie_in_blocks shape (behind place entry) entries))

abbrev pub goes_on_at : (last place : Place) → Decision (GoesOnAt last place)
goes_on_at last place = either (same_place place last) (either (same_place place (sealed last))
    (both (less last.container place.container) (same_place place (record { container = place.container; offset = 0; used = 0; records = 0 }))))

abbrev HasBlocksParts : State → Type 0
HasBlocksParts s = (LieInBlocks s.shape before_all s.records) × ((GoesOnAt (behind_all before_all s.records) s.place) × (s.place.container < 2 ^ 32))

pub has_blocks_of_parts : (s : State) → HasBlocksParts s → HasBlocks s
has_blocks_of_parts s p = record {
  laid = p.0;
  place = p.1.0;
  container = p.1.1;
}

pub parts_of_has_blocks : (s : State) → HasBlocks s → HasBlocksParts s
parts_of_has_blocks s h = (h.laid, (h.place, h.container))

abbrev pub has_blocks : (s : State) → Decision (HasBlocks s)
has_blocks s = like (has_blocks_of_parts s) (parts_of_has_blocks s)
    (both (lie_in_blocks s.shape before_all s.records)
    (both (goes_on_at (behind_all before_all s.records) s.place)
    (less s.place.container (2 ^ 32))))

abbrev pub is_of_cursor : (cursor : CursorKind) (kind : Kind) → Decision (IsOfCursor cursor kind)
is_of_cursor (Records mode) kind = always
is_of_cursor RestartAreas kind = same_kinds kind Restart

-- a value that is there and that has a property
abbrev pub Found : {X : Type 0} → (X → Type 0) → Option X → Type 0
Found {X} P found = (x : X) × ((found ≡ Some x) × P x)

pub none_found : {X : Type 0} (P : X → Type 0) → Found P None → ⊥
none_found P found = lacks found.0 found.1.0

pub this_found : {X : Type 0} (P : X → Type 0) (x : X) → P x → Found P (Some x)
this_found P x holds = (x, (refl, holds))

pub of_this : {X : Type 0} (P : X → Type 0) (x : X) → Found P (Some x) → P x
of_this P x found = subst P (sym (same_value x found.0 found.1.0)) found.1.1

abbrev pub finds : {X : Type 0} {P : X → Type 0} → ((x : X) → Decision (P x)) → (found : Option X) → Decision (Found P found)
finds {X} {P} d None = like (λ bad. absurd bad) (none_found P) never
finds {X} {P} d (Some x) = like (this_found P x) (of_this P x) (d x)

abbrev HasLast : State → Area → Cursor → Type 0
HasLast s area cursor = Found (λ (entry : LogEntry). (entry.stream ≡ area.stream) × IsOfCursor cursor.kind entry.kind) (entry_at s cursor.last)

abbrev CursorParts : State → Area → Cursor → Type 0
CursorParts s area cursor = (1 ≤ cursor.number) × ((cursor.number ≤ area.reads) × HasLast s area cursor)

pub cursor_of_parts : (s : State) (area : Area) (cursor : Cursor) → CursorParts s area cursor → IsCursor s area cursor
cursor_of_parts s area cursor p = record {
  some_number = p.0;
  number = p.1.0;
  entry = p.1.1.0;
  there = p.1.1.1.0;
  stream = p.1.1.1.1.0;
  kind = p.1.1.1.1.1;
}

pub parts_of_cursor : (s : State) (area : Area) (cursor : Cursor) → IsCursor s area cursor → CursorParts s area cursor
parts_of_cursor s area cursor h = (h.some_number, (h.number, (h.entry, (h.there, (h.stream, h.kind)))))

abbrev pub is_cursor : (s : State) (area : Area) (cursor : Cursor) → Decision (IsCursor s area cursor)
is_cursor s area cursor = like (cursor_of_parts s area cursor) (parts_of_cursor s area cursor)
    (both (at_most 1 cursor.number) (both (at_most cursor.number area.reads)
    (finds (λ (entry : LogEntry). both (equal entry.stream area.stream) (is_of_cursor cursor.kind entry.kind)) (entry_at s cursor.last))))

abbrev IsClientParts : ℕ → Type 0
IsClientParts client = (1 ≤ client) × (client ≤ most_clients)

pub is_client_of_parts : (client : ℕ) → IsClientParts client → IsClient client
is_client_of_parts client p = record {
  least = p.0;
  greatest = p.1;
}

pub parts_of_is_client : (client : ℕ) → IsClient client → IsClientParts client
parts_of_is_client client h = (h.least, h.greatest)

abbrev pub is_client : (client : ℕ) → Decision (IsClient client)
is_client client = like (is_client_of_parts client) (parts_of_is_client client)
    (both (at_most 1 client)
    (at_most client most_clients))

abbrev IsAreaWithinLimitsParts : State → Area → Type 0
IsAreaWithinLimitsParts s area = (IsClient area.client) × ((1 ≤ area.number) ×
    ((area.number ≤ most_areas) × ((1 ≤ area.reads) × ((area.reads ≤ most_cursors) ×
    ((length area.cursors ≤ area.reads) × (All (IsCursor s area) area.cursors))))))

pub is_area_within_limits_of_parts : (s : State) (area : Area) → IsAreaWithinLimitsParts s area → IsAreaWithinLimits s area
is_area_within_limits_of_parts s area p = record {
  client = p.0;
  some_number = p.1.0;
  number = p.1.1.0;
  some_reads = p.1.1.1.0;
  reads = p.1.1.1.1.0;
  few_cursors = p.1.1.1.1.1.0;
  cursors = p.1.1.1.1.1.1;
}

pub parts_of_is_area_within_limits : (s : State) (area : Area) → IsAreaWithinLimits s area → IsAreaWithinLimitsParts s area
parts_of_is_area_within_limits s area h = (h.client, (h.some_number, (h.number, (h.some_reads, (h.reads, (h.few_cursors, h.cursors))))))

abbrev pub is_area_within_limits : (s : State) (area : Area) → Decision (IsAreaWithinLimits s area)
is_area_within_limits s area = like (is_area_within_limits_of_parts s area) (parts_of_is_area_within_limits s area)
    (both (is_client area.client)
    (both (at_most 1 area.number)
    (both (at_most area.number most_areas)
    (both (at_most 1 area.reads)
    (both (at_most area.reads most_cursors)
    (both (at_most (length area.cursors) area.reads)
    (each (is_cursor s area) area.cursors)))))))

-- the areas of a client among these
abbrev of_client : ℕ → List Area → List Area
of_client client areas = filter (λ (area : Area). area.client == client) areas

-- whether the client of an area has no more areas than it may
abbrev FewWith : List Area → Area → Type 0
FewWith all area = length (of_client area.client all) ≤ most_areas

few_or_none : (all areas : List Area) (client : ℕ) → All (FewWith all) areas → (length (of_client client all) ≤ most_areas) ⊎
    (of_client client areas ≡ [])
few_or_none all [] client few = inr refl
few_or_none all (area ∷ areas) client few = by_client (area.client == client) refl (few_or_none all areas client (All-tail (FewWith all) area areas few))
  where
    by_client : (t : Bool) → (area.client == client) ≡ t → (length (of_client client all) ≤ most_areas) ⊎ (of_client client areas ≡ [])
        → (length (of_client client all) ≤ most_areas) ⊎ (of_client client (area ∷ areas) ≡ [])
    by_client true e rest =
        let same : area.client ≡ client = eqb-true area.client client e in
        let F : ℕ → Type 0 = λ number. length (of_client number all) ≤ most_areas in
        inl (subst F same (All-head (FewWith all) area areas few))
    by_client false e rest = rw e rest

few_where_none : (areas : List Area) (client : ℕ) → (length (of_client client areas) ≤ most_areas) ⊎ (of_client client areas ≡ []) → length
    (of_client client areas) ≤ most_areas
few_where_none areas client (inl few) = few
few_where_none areas client (inr none) = rw none (omega arith)

pub few_of_each : (s : State) → All (FewWith s.areas) s.areas → (client : ℕ) → length (areas_of s client) ≤ most_areas
few_of_each s few client = few_where_none s.areas client (few_or_none s.areas s.areas client few)

pub few_of_those : (s : State) → ((client : ℕ) → length (areas_of s client) ≤ most_areas) → All (FewWith s.areas) s.areas
few_of_those s few k d within = few (get_or s.areas k d).client

abbrev pub few_areas : (s : State) → Decision ((client : ℕ) → length (areas_of s client) ≤ most_areas)
few_areas s = like (few_of_each s) (few_of_those s) (each (λ (area : Area). at_most (length (of_client area.client s.areas)) most_areas) s.areas)

abbrev IsWithinLimitsParts : State → Type 0
IsWithinLimitsParts s = (All (λ (stream : Stream). name_fault stream.name ≡ None) s.streams) ×
    ((length s.streams ≤ most_streams) × (((client : ℕ) → length (areas_of s client) ≤ most_areas) × (All (IsAreaWithinLimits s) s.areas)))

pub is_within_limits_of_parts : (s : State) → IsWithinLimitsParts s → IsWithinLimits s
is_within_limits_of_parts s p = record {
  names = p.0;
  few_streams = p.1.0;
  few_areas = p.1.1.0;
  areas = p.1.1.1;
}

pub parts_of_is_within_limits : (s : State) → IsWithinLimits s → IsWithinLimitsParts s
parts_of_is_within_limits s h = (h.names, (h.few_streams, (h.few_areas, h.areas)))

abbrev pub is_within_limits : (s : State) → Decision (IsWithinLimits s)
is_within_limits s = like (is_within_limits_of_parts s) (parts_of_is_within_limits s)
    (both (each (λ (stream : Stream). same_number_options (name_fault stream.name) None) s.streams)
    (both (at_most (length s.streams) most_streams)
    (both (few_areas s)
    (each (is_area_within_limits s) s.areas))))

abbrev IsStorableParts : State → Type 0
IsStorableParts s = (All (HasMovedBase s) s.records) × ((HasBlocks s) × (IsWithinLimits s))

pub is_storable_of_parts : (s : State) → IsStorableParts s → IsStorable s
is_storable_of_parts s p = record {
  bases = p.0;
  blocks = p.1.0;
  limits = p.1.1;
}

pub parts_of_is_storable : (s : State) → IsStorable s → IsStorableParts s
parts_of_is_storable s h = (h.bases, (h.blocks, h.limits))

abbrev pub is_storable : (s : State) → Decision (IsStorable s)
is_storable s = like (is_storable_of_parts s) (parts_of_is_storable s)
    (both (each (has_moved_base s) s.records)
    (both (has_blocks s)
    (is_within_limits s)))
