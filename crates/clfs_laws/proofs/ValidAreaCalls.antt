-- Calls that change areas alone, or areas after growth, keep a state valid.
use Rattle.clfs_laws.proofs.Words.{◌≡◌, ◌≢◌, ℕ, zero, suc, ◌+◌, ◌<◌, ◌≤◌, Bool, true, false, refl, sym, ap, ◌∙◌, subst, inl, inr, ◌⊎◌, arith, List, [], ◌∷◌}
use Rattle.clfs_laws.proofs.Words.{◌++◌, length, Option, Some, None, filter, map, All, IsSome, is_none, slice_index_or, ◌==◌, not, find, nat_le, nat_lt}
use Rattle.clfs_laws.proofs.Words.{if◌then◌else◌, AllByRecursion, cases_Bool, eqb-false, ltb-false, leb-true, All-weaker, All-push, All-filter}
use Rattle.clfs_laws.proofs.Words.{All-from_recursion, recursion_from_All, all_pairs_push, length-map, longest, Refusal, State, Area, Cursor, CursorKind}
use Rattle.clfs_laws.proofs.Words.{stream_at, is_area, area_of, areas_of, change_first, change_area, free, reserved, own_sum, grown, has_room, with_less_held}
use Rattle.clfs_laws.proofs.Words.{with_more_held, hold_sizes, with_cursor, with_cursor_at, without_cursor, unused_cursor, refused_if, too_long, refusal}
use Rattle.clfs_laws.proofs.Words.{new_area, IsValid, AreDifferentAreas, IsArea, HasSpaceLaws, option_map_or}
use Rattle.std.proofs.lemmas.List.Kept.{AllPairs-filter}
use Rattle.std.proofs.lemmas.List.Filters.{sum_by-filter_both}
use Rattle.std.proofs.lemmas.List.Sums.{sum_by_push}
use Rattle.clfs_model.specs.declared.call.Call.TheVariants as calls
use Rattle.clfs_model.specs.declared.refusal.Refusal.TheVariants as refusals
use Rattle.clfs_laws.proofs.Finding.{KeepsName}
use Rattle.clfs_laws.proofs.NotRefused.{passed}
use Rattle.clfs_laws.proofs.RowChanges.{area_named}
use Rattle.clfs_laws.proofs.Unused.{unused_is_new, none_has, not_there, area_number_of}
use Rattle.clfs_laws.proofs.ValidSettings.{valid_grown, grown_is, grown_no_fewer}
use Rattle.clfs_laws.proofs.ValidAreas.{held_sum, valid_areas, numbers_changed, sum_changed}

-- what holds of all areas, and of the changed one, holds after the change
all_changed_found : (p : Area → Bool) (change : Area → Area) (P : Area → Type 0) (areas : List Area) (area : Area) → find p areas ≡ Some area → P (change area)
    → AllByRecursion P areas → AllByRecursion P (change_first p change areas)
all_changed_found p change P [] area is changed all = all
all_changed_found p change P (first ∷ areas) area is changed all = elim (cases_Bool (p first)) [
  | inl here ↦
      let found = rw here at is in
      let same : first ≡ area = cc in
      rw here (let F : Area → Type 0 = λ a. P (change a) in subst F (sym same) changed, all.1)
  | inr there ↦ rw there (all.0, all_changed_found p change P areas area (rw there at is) changed all.1)
]

-- a valid state in which one area changes, which keeps its name
valid_changed : (s : State) (p : Area → Bool) (area : Area) (change : Area → Area) → find p s.areas ≡ Some area → KeepsName change → IsArea s (change area)
    → reserved s + (change area).held ≤ free s + area.held → ((change area).held ≤ area.held) ⊎ (2 ≤ s.containers)
    → IsValid s → IsValid (record s { areas = change_first p change s.areas })
valid_changed s p area change is keeps fits room two valid =
    let sum = sum_changed p change s.areas area is in
    valid_areas s (change_first p change s.areas) s.broken valid (record {
      numbers = numbers_changed p change keeps s.areas valid.tables.numbers;
      each = All-from_recursion (IsArea s) (change_first p change s.areas)
          (all_changed_found p change (IsArea s) s.areas area is fits (recursion_from_All (IsArea s) s.areas valid.tables.areas));
      room = omega (arith, sum, room);
      two = λ some. elim two [
        | inl less ↦ valid.space.two (omega (arith, sum, less, some))
        | inr enough ↦ enough
      ];
    })

-- a change of the area that a call names, where what it holds doesn't grow
pub valid_area : (s : State) (client number : ℕ) (area : Area) (change : Area → Area) → area_of s client number ≡ Some area → KeepsName change
    → IsArea s (change area) → (change area).held ≤ area.held → IsValid s → IsValid (change_area change area.client area.number s)
valid_area s client number area change is keeps fits less valid =
    let name = area_named client number s.areas area is in
    let F : ℕ → ℕ → Type 0 = λ c n. IsValid (change_area change c n s) in
    let G : ℕ → Type 0 = λ c. F c area.number in
    let H : ℕ → Type 0 = λ n. F client n in
    subst G (sym name.0) (subst H (sym name.1)
    (valid_changed s (is_area client number) area change is keeps fits (omega (arith, less, valid.space.room)) (inl less) valid))

-- the number of a cursor
abbrev cursor_number_of : Cursor → ℕ
cursor_number_of cursor = cursor.number

-- an area with one cursor more, of a number that none has
pub area_with_cursor : (s : State) (kind : CursorKind) (last : ℕ) (area : Area) → IsArea s area
    → IsArea s (with_cursor (record { number = unused_cursor area.cursors; kind = kind; last = last }) area)
area_with_cursor s kind last area is = record {
  stream = is.stream;
  largest = is.largest;
  cursors =
      let cursor : Cursor = record { number = unused_cursor area.cursors; kind = kind; last = last } in
      let differ : All (λ (c : Cursor). c.number ≢ unused_cursor area.cursors) area.cursors =
      All-from_recursion (λ (c : Cursor). c.number ≢ unused_cursor area.cursors) area.cursors
      (none_has cursor_number_of area.cursors (unused_cursor area.cursors) (unused_is_new cursor_number_of area.cursors)) in
      all_pairs_push (λ (a b : Cursor). a.number ≢ b.number) area.cursors cursor is.cursors differ;
}

-- an area one of whose cursors has moved
abbrev cursor_at : ℕ → ℕ → Cursor → Cursor
cursor_at number lsn cursor = if cursor.number == number then record cursor { last = lsn } else cursor

cursor_at_number : (number lsn : ℕ) (cursor : Cursor) → (cursor_at number lsn cursor).number ≡ cursor.number
cursor_at_number number lsn cursor = elim (cases_Bool (cursor.number == number)) [ inl same ↦ rw same refl | inr other ↦ rw other refl ]

map_at : (number lsn : ℕ) (cursors : List Cursor) (k : ℕ) (d : Cursor) → k < length cursors
    → (slice_index_or (map (cursor_at number lsn) cursors) k d).number ≡ (slice_index_or cursors k d).number
map_at number lsn [] k d within = absurd (omega (arith, within))
map_at number lsn (cursor ∷ cursors) zero d within = cursor_at_number number lsn cursor
map_at number lsn (cursor ∷ cursors) (suc k) d within = map_at number lsn cursors k d (omega (arith, within))

pub area_with_cursor_at : (s : State) (number lsn : ℕ) (area : Area) → IsArea s area → IsArea s (with_cursor_at number lsn area)
area_with_cursor_at s number lsn area is = record {
  stream = is.stream;
  largest = is.largest;
  cursors = λ i j d below within equal.
      let count = length-map area.cursors (cursor_at number lsn) in
      let in_j : j < length area.cursors = omega (arith, within, count) in
      let in_i : i < length area.cursors = omega (arith, below, in_j) in
      is.cursors i j d below in_j (sym (map_at number lsn area.cursors i d in_i) ∙ equal ∙ map_at number lsn area.cursors j d in_j);
}

pub area_without_cursor : (s : State) (number : ℕ) (area : Area) → IsArea s area → IsArea s (without_cursor number area)
area_without_cursor s number area is = record {
  stream = is.stream;
  largest = is.largest;
  cursors = AllPairs-filter (λ (a b : Cursor). a.number ≢ b.number) (λ (cursor : Cursor). not (cursor.number == number)) area.cursors is.cursors;
}

-- what passes no test fails each
none_passes : (p : Area → Bool) (areas : List Area) → find p areas ≡ None → AllByRecursion (λ (area : Area). p area ≡ false) areas
none_passes p [] none = tt
none_passes p (area ∷ areas) none = elim (cases_Bool (p area)) [
  | inl passes ↦ absurd (let found = rw passes at none in cc)
  | inr fails ↦ (fails, none_passes p areas (rw fails at none))
]

-- an area that hasn't a name differs from one that has
differs_from : (new area : Area) → is_area new.client new.number area ≡ false → AreDifferentAreas area new
differs_from new area fails = elim (cases_Bool (area.client == new.client)) [
  | inl same ↦ inr (eqb-false area.number new.number (rw same at fails))
  | inr other ↦ inl (eqb-false area.client new.client other)
]

-- a valid state with one area more, whose name no area has
valid_new_area : (s : State) (new : Area) → find (is_area new.client new.number) s.areas ≡ None → new.held ≡ 0 → IsArea s new → IsValid s
    → IsValid (record s { areas = s.areas ++ new ∷ [] })
valid_new_area s new unused nothing fits valid =
    let sum = sum_by_push (λ (area : Area). area.held) s.areas new in
    valid_areas s (s.areas ++ new ∷ []) s.broken valid (record {
      numbers = all_pairs_push AreDifferentAreas s.areas new valid.tables.numbers
          (All-weaker (λ (area : Area). is_area new.client new.number area ≡ false) (λ (area : Area). AreDifferentAreas area new) (differs_from new) s.areas
          (All-from_recursion (λ (area : Area). is_area new.client new.number area ≡ false) s.areas (none_passes (is_area new.client new.number) s.areas unused)));
      each = All-push (IsArea s) s.areas new valid.tables.areas fits;
      room = omega (arith, sum, nothing, valid.space.room);
      two = λ some. valid.space.two (omega (arith, sum, nothing, some));
    })

-- something is there where its absence is refused
pub is_there : {A : Type 0} (found : Option A) → is_none found ≡ false → IsSome found
is_there None none = absurd (cc)
is_there (Some x) none = refl

-- a single length isn't too long
pub fits_one : (greatest n : ℕ) → find (λ len. nat_lt greatest len) (n ∷ []) ≡ None → n ≤ greatest
fits_one greatest n none = elim (cases_Bool (nat_lt greatest n)) [
  | inl long ↦ absurd (let found = rw long at none in cc)
  | inr fits ↦ ltb-false greatest n fits
]

pub none_of_option : {A : Type 0} (found : Option A) (given : A → Refusal) (others : Option Refusal) → option_map_or (λ x. Some (given x)) found others ≡ None → found ≡ None
none_of_option None given others none = refl
none_of_option (Some x) given others none = absurd (cc)

pub valid_created : (s : State) (client stream largest reads : ℕ) → refusal s client (calls.CreateArea stream largest reads) ≡ None → IsValid s
    → IsValid (record s { areas = s.areas ++ new_area s client stream largest reads ∷ [] })
valid_created s client stream largest reads none valid =
    let new = new_area s client stream largest reads in
    let limit = refused_if (nat_le 16 (length (areas_of s client))) (refusals.AreaLimit (length (areas_of s client))) None in
    let there = passed (is_none (stream_at s stream)) refusals.NoSuchStream (too_long (longest s.shape) (largest ∷ []) limit) none in
    let fits = none_of_option (find (λ len. nat_lt (longest s.shape) len) (largest ∷ [])) (λ len. refusals.RecordTooLong len (longest s.shape)) limit there.1 in
    let unused = not_there client new.number s.areas (unused_is_new area_number_of (areas_of s client)) in
    valid_new_area s new unused refl (record {
      stream = is_there (stream_at s stream) there.0;
      largest = fits_one (longest s.shape) largest fits;
      cursors = λ i j d below within. absurd (omega (arith, within));
    }) valid

pub valid_deleted : (s : State) (p : Area → Bool) → IsValid s → IsValid (record s { areas = filter (λ area. not (p area)) s.areas })
valid_deleted s p valid =
    let parts = sum_by-filter_both (λ area. not (p area)) p (λ area. sym (not_twice (p area))) (λ (area : Area). area.held) s.areas in
    valid_areas s (filter (λ area. not (p area)) s.areas) s.broken valid (record {
      numbers = AllPairs-filter AreDifferentAreas (λ area. not (p area)) s.areas valid.tables.numbers;
      each = All-filter (λ area. not (p area)) (IsArea s) s.areas valid.tables.areas;
      room = omega (arith, parts, valid.space.room);
      two = λ some. valid.space.two (omega (arith, parts, some));
    })
  where
    not_twice : (b : Bool) → not (not b) ≡ b
    not_twice true = refl
    not_twice false = refl

-- the name of an area stays
pub keeps_name : (change : Area → Area) → ((area : Area) → (change area).client ≡ area.client) → ((area : Area) → (change area).number ≡ area.number) → KeepsName change
keeps_name change client number = record { client = client; number = number }

-- what is found has what all have
found_has : (p : Area → Bool) (P : Area → Type 0) (areas : List Area) (area : Area) → find p areas ≡ Some area → AllByRecursion P areas → P area
found_has p P [] area is all = absurd (cc)
found_has p P (first ∷ areas) area is all = elim (cases_Bool (p first)) [
  | inl here ↦ let found = rw here at is in let same : first ≡ area = cc in subst P same all.0
  | inr there ↦ found_has p P areas area (rw there at is) all.1
]

-- the area of a valid state
pub its_area : (s : State) (client number : ℕ) (area : Area) → area_of s client number ≡ Some area → IsValid s → IsArea s area
its_area s client number area is valid =
    found_has (is_area client number) (IsArea s) s.areas area is (recursion_from_All (IsArea s) s.areas valid.tables.areas)

-- an area that gives up sectors
pub valid_released : (s : State) (client number sectors : ℕ) (area : Area) → area_of s client number ≡ Some area → IsValid s
    → IsValid (change_area (with_less_held sectors) area.client area.number s)
valid_released s client number sectors area is valid =
    let fits = its_area s client number area is valid in
    valid_area s client number area (with_less_held sectors) is (keeps_name (with_less_held sectors) (λ a. refl) (λ a. refl))
    (record { stream = fits.stream; largest = fits.largest; cursors = fits.cursors }) (omega arith) valid

-- an area that holds more, for which there is room
pub valid_held : (s : State) (client number more : ℕ) (area : Area) → area_of s client number ≡ Some area → reserved s + more ≤ free s → 2 ≤ s.containers → IsValid s
    → IsValid (change_area (with_more_held more) area.client area.number s)
valid_held s client number more area is room two valid =
    let name = area_named client number s.areas area is in
    let fits = its_area s client number area is valid in
    let F : ℕ → Type 0 = λ c. IsValid (change_area (with_more_held more) c area.number s) in
    let H : ℕ → Type 0 = λ n. IsValid (change_area (with_more_held more) client n s) in
    subst F (sym name.0) (subst H (sym name.1)
    (valid_changed s (is_area client number) area (with_more_held more) is (keeps_name (with_more_held more) (λ a. refl) (λ a. refl))
    (record { stream = fits.stream; largest = fits.largest; cursors = fits.cursors }) (omega (arith, room)) (inr two) valid))

-- areas that hold the sectors for sizes
pub valid_sizes : (s : State) (client number : ℕ) (sizes : List ℕ) (area : Area) → area_of s client number ≡ Some area → reserved s + own_sum sizes ≤ free s → 2 ≤ s.containers → IsValid s
    → IsValid (hold_sizes area sizes s)
valid_sizes s client number [] area is room two valid = valid
valid_sizes s client number (size ∷ sizes) area is room two valid = valid_held s client number (own_sum (size ∷ sizes)) area is room two valid

-- room is what it says
pub room_is : (s : State) (need : ℕ) → has_room s need ≡ true → reserved s + need ≤ free (grown s need)
unfolding has_room
room_is s need room = leb-true (reserved s + need) (free (grown s need)) room

-- a reservation, after growth
pub valid_reserved : HasSpaceLaws → (s : State) (client number : ℕ) (sizes : List ℕ) (area : Area) → area_of s client number ≡ Some area → has_room s (own_sum sizes) ≡ true → 2 ≤ s.containers → IsValid s
    → IsValid (hold_sizes area sizes (grown s (own_sum sizes)))
valid_reserved space s client number sizes area is room two valid =
    let need = own_sum sizes in
    let g = grown s need in
    let same : g.areas ≡ s.areas = ap (λ (x : State). x.areas) (grown_is s need) in
    let there : area_of g client number ≡ Some area = ap (λ (areas : List Area). find (is_area client number) areas) same ∙ is in
    let sum : reserved g ≡ reserved s = ap held_sum same in
    let enough : reserved s + need ≤ free g = room_is s need room in
    valid_sizes g client number sizes area there (omega (arith, enough, sum)) (omega (arith, two, grown_no_fewer space s need)) (valid_grown space s need valid)

-- a cursor of an area
pub valid_cursor : (s : State) (client number : ℕ) (area : Area) (change : Area → Area) → area_of s client number ≡ Some area → KeepsName change
    → (IsArea s area → IsArea s (change area)) → (change area).held ≡ area.held → IsValid s → IsValid (change_area change area.client area.number s)
valid_cursor s client number area change is keeps fits same valid =
    valid_area s client number area change is keeps (fits (its_area s client number area is valid)) (omega (arith, same)) valid
