-- States of other sizes, with another archiving, and of areas that hold more, are states that files can hold: none of that says more of them.
use Rattle.clfs_manager.proofs.Words.{◌≡◌, ℕ, Bool, true, false, refl, ap, inl, inr, List, [], ◌∷◌, length, suc, arith, ◌⊎◌, All, Option, ◌==◌, cases_Bool}
use Rattle.clfs_manager.proofs.Words.{All-nil, All-cons, All-head, All-tail, All-weaker, State, Area, Cursor, hold_sizes, with_more_held, own_sum}
use Rattle.clfs_manager.proofs.Words.{with_containers, change_area, change_first, is_area, HasMovedBase, IsAreaWithinLimits, IsCursor, IsStorable, with_archive}
use Rattle.std.proofs.Common.{filter}
use Rattle.clfs_model.specs.State.{areas_of}

-- the state with so many containers and these areas
abbrev pub changed : State → ℕ → List Area → State
changed s containers areas = record s { containers = containers; areas = areas }

cursor_still : (s : State) (containers : ℕ) (areas : List Area) (area : Area) (cursor : Cursor) → IsCursor s area cursor → IsCursor (changed s containers areas) area cursor
cursor_still s containers areas area cursor is = record {
  some_number = is.some_number;
  number = is.number;
  entry = is.entry;
  there = is.there;
  stream = is.stream;
  kind = is.kind;
}

area_still : (s : State) (containers : ℕ) (areas : List Area) (area : Area) → IsAreaWithinLimits s area → IsAreaWithinLimits (changed s containers areas) area
area_still s containers areas area is = record {
  client = is.client;
  some_number = is.some_number;
  number = is.number;
  some_reads = is.some_reads;
  reads = is.reads;
  few_cursors = is.few_cursors;
  cursors = All-weaker (IsCursor s area) (IsCursor (changed s containers areas) area) (cursor_still s containers areas area) area.cursors is.cursors;
}

storable_changed : (s : State) (containers : ℕ) (areas : List Area) → IsStorable s
    → ((client : ℕ) → length (areas_of (changed s containers areas) client) ≡ length (areas_of s client))
    → All (IsAreaWithinLimits s) areas → IsStorable (changed s containers areas)
storable_changed s containers areas is few within = record {
  bases = All-weaker (HasMovedBase s) (HasMovedBase (changed s containers areas)) (λ entry moved. record { own = moved.own; moved = moved.moved }) s.records is.bases;
  blocks = record { laid = is.blocks.laid; place = is.blocks.place; container = is.blocks.container };
  limits = record {
    names = is.limits.names;
    few_streams = is.limits.few_streams;
    few_areas = λ client. omega (arith, few client, is.limits.few_areas client);
    areas = All-weaker (IsAreaWithinLimits s) (IsAreaWithinLimits (changed s containers areas)) (area_still s containers areas) areas within;
  };
}

archived_cursor : (s : State) (tail : Option ℕ) (area : Area) (cursor : Cursor) → IsCursor s area cursor → IsCursor (with_archive tail s) area cursor
archived_cursor s tail area cursor is = record {
  some_number = is.some_number;
  number = is.number;
  entry = is.entry;
  there = is.there;
  stream = is.stream;
  kind = is.kind;
}

archived_area : (s : State) (tail : Option ℕ) (area : Area) → IsAreaWithinLimits s area → IsAreaWithinLimits (with_archive tail s) area
archived_area s tail area is = record {
  client = is.client;
  some_number = is.some_number;
  number = is.number;
  some_reads = is.some_reads;
  reads = is.reads;
  few_cursors = is.few_cursors;
  cursors = All-weaker (IsCursor s area) (IsCursor (with_archive tail s) area) (archived_cursor s tail area) area.cursors is.cursors;
}

-- a log whose archiving is another
pub storable_archived : (s : State) (tail : Option ℕ) → IsStorable s → IsStorable (with_archive tail s)
storable_archived s tail is = record {
  bases = All-weaker (HasMovedBase s) (HasMovedBase (with_archive tail s)) (λ entry moved. record { own = moved.own; moved = moved.moved }) s.records is.bases;
  blocks = record { laid = is.blocks.laid; place = is.blocks.place; container = is.blocks.container };
  limits = record {
    names = is.limits.names;
    few_streams = is.limits.few_streams;
    few_areas = is.limits.few_areas;
    areas = All-weaker (IsAreaWithinLimits s) (IsAreaWithinLimits (with_archive tail s)) (archived_area s tail) s.areas is.limits.areas;
  };
}

-- a log of another size
pub storable_sized : (s : State) (containers : ℕ) → IsStorable s → IsStorable (with_containers containers s)
storable_sized s containers is = storable_changed s containers s.areas is (λ client. refl) is.limits.areas

more_within : (s : State) (area : Area) (sectors : ℕ) → IsAreaWithinLimits s area → IsAreaWithinLimits s (with_more_held sectors area)
more_within s area sectors is = record {
  client = is.client;
  some_number = is.some_number;
  number = is.number;
  some_reads = is.some_reads;
  reads = is.reads;
  few_cursors = is.few_cursors;
  cursors = All-weaker (IsCursor s area) (IsCursor s (with_more_held sectors area))
      (λ cursor is. record { some_number = is.some_number; number = is.number; entry = is.entry; there = is.there; stream = is.stream; kind = is.kind })
      area.cursors is.cursors;
}

all_within : (s : State) (test : Area → Bool) (sectors : ℕ) (areas : List Area) → All (IsAreaWithinLimits s) areas
    → All (IsAreaWithinLimits s) (change_first test (with_more_held sectors) areas)
all_within s test sectors [] all = All-nil (IsAreaWithinLimits s)
all_within s test sectors (area ∷ areas) all =
    let here = All-head (IsAreaWithinLimits s) area areas all in
    let rest = All-tail (IsAreaWithinLimits s) area areas all in
    elim (cases_Bool (test area)) [
      | inl is ↦ rw is (All-cons (IsAreaWithinLimits s) (with_more_held sectors area) areas (more_within s area sectors here) rest)
      | inr isnt ↦ rw isnt (All-cons (IsAreaWithinLimits s) area (change_first test (with_more_held sectors) areas) here (all_within s test sectors areas rest))
    ]

count_still : (test : Area → Bool) (sectors client : ℕ) (areas : List Area)
    → length (filter (λ (area : Area). area.client == client) (change_first test (with_more_held sectors) areas)) ≡ length (filter (λ (area : Area). area.client == client) areas)
count_still test sectors client [] = refl
count_still test sectors client (area ∷ areas) = elim (cases_Bool (test area)) [
  | inl is ↦ rw is (first (cases_Bool (area.client == client)))
  | inr isnt ↦ rw isnt (later (count_still test sectors client areas) (cases_Bool (area.client == client)))
]
  where
    first : ((area.client == client) ≡ true) ⊎ ((area.client == client) ≡ false)
        → length (filter (λ (a : Area). a.client == client) (with_more_held sectors area ∷ areas)) ≡ length (filter (λ (a : Area). a.client == client) (area ∷ areas))
    first (inl own) = rw own refl
    first (inr other) = rw other refl

    later : length (filter (λ (a : Area). a.client == client) (change_first test (with_more_held sectors) areas)) ≡ length (filter (λ (a : Area). a.client == client) areas)
        → ((area.client == client) ≡ true) ⊎ ((area.client == client) ≡ false)
        → length (filter (λ (a : Area). a.client == client) (area ∷ change_first test (with_more_held sectors) areas)) ≡ length (filter (λ (a : Area). a.client == client) (area ∷ areas))
    later rest (inl own) = rw own (ap (λ (n : ℕ). suc n) rest)
    later rest (inr other) = rw other rest

-- an area that holds the sectors for records to come
pub storable_more : (s : State) (client number sectors : ℕ) → IsStorable s → IsStorable (change_area (with_more_held sectors) client number s)
storable_more s client number sectors is = storable_changed s s.containers (change_first (is_area client number) (with_more_held sectors) s.areas) is
    (λ own. count_still (is_area client number) sectors own s.areas) (all_within s (is_area client number) sectors s.areas is.limits.areas)

pub storable_held : (s : State) (area : Area) (sizes : List ℕ) → IsStorable s → IsStorable (hold_sizes area sizes s)
storable_held s area [] is = is
storable_held s area (n ∷ sizes) is = storable_more s area.client area.number (own_sum (n ∷ sizes)) is
