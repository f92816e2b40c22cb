-- A valid state whose areas change is valid where the areas are such as a log can have.
use Rattle.clfs_laws.proofs.Words.{◌≡◌, ℕ, zero, suc, ◌+◌, ◌<◌, ◌≤◌, Bool, refl, sym, ap, ◌∙◌, inl, inr, arith, List, [], ◌∷◌, length, Some, None, sum_by}
use Rattle.clfs_laws.proofs.Words.{All, AllPairs, slice_index_or, find, AllByRecursion, cases_Bool, All-weaker, All-from_recursion, recursion_from_All}
use Rattle.clfs_laws.proofs.Words.{sum_by-cons, State, Area, change_first, free, IsValid, AreDifferentAreas, IsArea, IsRecord, IsWaiting}
use Rattle.clfs_laws.proofs.Finding.{KeepsName}

-- the sectors that areas hold
abbrev pub held_sum : List Area → ℕ
held_sum areas = sum_by (λ (area : Area). area.held) areas

-- the areas of a state, and what they hold
pub record HasAreas (s : State) (areas : List Area) : Type 0 where
  pub numbers : AllPairs AreDifferentAreas areas
  pub each : All (IsArea s) areas
  pub room : held_sum areas ≤ free s
  pub two : 0 < held_sum areas → 2 ≤ s.containers

-- a valid state with other areas, broken or not
pub valid_areas : (s : State) (areas : List Area) (broken : Bool) → IsValid s → HasAreas s areas → IsValid (record s { areas = areas; broken = broken })
valid_areas s areas broken valid has = record {
  ranges = record {
    shape = valid.ranges.shape;
    some_containers = valid.ranges.some_containers;
    few_containers = valid.ranges.few_containers;
    some_buffers = valid.ranges.some_buffers;
    few_buffers = valid.ranges.few_buffers;
    place = valid.ranges.place;
  };
  policies = record {
    maximum = valid.policies.maximum;
    minimum = valid.policies.minimum;
    order = valid.policies.order;
    growth = valid.policies.growth;
  };
  tables = record {
    names = valid.tables.names;
    numbers = has.numbers;
    areas = All-weaker (IsArea s) (IsArea (record s { areas = areas; broken = broken }))
        (λ area is. record { stream = is.stream; largest = is.largest; cursors = is.cursors }) areas has.each;
    dedicated = valid.tables.dedicated;
  };
  records = record {
    rising = valid.records.rising;
    records = All-weaker (IsRecord s) (IsRecord (record s { areas = areas; broken = broken }))
        (λ entry is. record { stream = is.stream; named = is.named; below = is.below; previous = is.previous; undo_next = is.undo_next }) s.records valid.records.records;
    open_block = valid.records.open_block;
  };
  stable = record { bases = valid.stable.bases; restarts = valid.stable.restarts; tail = valid.stable.tail };
  waiting = record {
    few = valid.waiting.few;
    rising = valid.waiting.rising;
    blocks = All-weaker (IsWaiting s) (IsWaiting (record s { areas = areas; broken = broken }))
        (λ start is. record { container = is.container; sequence = is.sequence; first = is.first; below = is.below }) s.waiting valid.waiting.blocks;
  };
  space = record { active = valid.space.active; room = has.room; two = has.two };
}

-- the areas of a valid state
pub its_areas : (s : State) → IsValid s → HasAreas s s.areas
its_areas s valid = record { numbers = valid.tables.numbers; each = valid.tables.areas; room = valid.space.room; two = valid.space.two }

-- a valid state stays valid when it is broken
pub valid_broken : (s : State) (broken : Bool) → IsValid s → IsValid (record s { broken = broken })
valid_broken s broken valid = valid_areas s s.areas broken valid (its_areas s valid)

-- as many areas after a change of the first that passes
change_length : (p : Area → Bool) (change : Area → Area) (areas : List Area) → length (change_first p change areas) ≡ length areas
change_length p change [] = refl
change_length p change (area ∷ areas) = elim (cases_Bool (p area)) [
  | inl here ↦ rw here refl
  | inr there ↦ rw there (ap suc (change_length p change areas))
]

-- each area has the client and the number that it had
record HasName (a b : Area) : Type 0 where
  pub client : a.client ≡ b.client
  pub number : a.number ≡ b.number

change_names : (p : Area → Bool) (change : Area → Area) → KeepsName change → (areas : List Area) (k : ℕ) (d : Area)
    → HasName (slice_index_or (change_first p change areas) k d) (slice_index_or areas k d)
change_names p change keeps [] k d = record { client = refl; number = refl }
change_names p change keeps (area ∷ areas) zero d = elim (cases_Bool (p area)) [
  | inl here ↦ rw here (record { client = keeps.client area; number = keeps.number area })
  | inr there ↦ rw there (record { client = refl; number = refl })
]
change_names p change keeps (area ∷ areas) (suc k) d = elim (cases_Bool (p area)) [
  | inl here ↦ rw here (record { client = refl; number = refl })
  | inr there ↦ rw there (change_names p change keeps areas k d)
]

different_as : (a b x y : Area) → HasName x a → HasName y b → AreDifferentAreas a b → AreDifferentAreas x y
different_as a b x y of_x of_y (inl clients) = inl (λ same. clients (sym of_x.client ∙ same ∙ of_y.client))
different_as a b x y of_x of_y (inr numbers) = inr (λ same. numbers (sym of_x.number ∙ same ∙ of_y.number))

-- areas stay different
pub numbers_changed : (p : Area → Bool) (change : Area → Area) → KeepsName change → (areas : List Area) → AllPairs AreDifferentAreas areas → AllPairs AreDifferentAreas (change_first p change areas)
numbers_changed p change keeps areas differ i j d below within =
    let same_length = change_length p change areas in
    different_as (slice_index_or areas i d) (slice_index_or areas j d) _ _ (change_names p change keeps areas i d) (change_names p change keeps areas j d)
    (differ i j d below (omega (arith, within, same_length)))

-- a fact of all areas that the change keeps
all_changed : (p : Area → Bool) (change : Area → Area) (P : Area → Type 0) → ((area : Area) → P area → P (change area)) → (areas : List Area)
    → AllByRecursion P areas → AllByRecursion P (change_first p change areas)
all_changed p change P keeps [] all = all
all_changed p change P keeps (area ∷ areas) all = elim (cases_Bool (p area)) [
  | inl here ↦ rw here (keeps area all.0, all.1)
  | inr there ↦ rw there (all.0, all_changed p change P keeps areas all.1)
]

pub areas_changed : (s : State) (p : Area → Bool) (change : Area → Area) → ((area : Area) → IsArea s area → IsArea s (change area)) → (areas : List Area)
    → All (IsArea s) areas → All (IsArea s) (change_first p change areas)
areas_changed s p change keeps areas all =
    All-from_recursion (IsArea s) (change_first p change areas) (all_changed p change (IsArea s) keeps areas (recursion_from_All (IsArea s) areas all))

-- what areas hold after a change of the one that is found
pub sum_changed : (p : Area → Bool) (change : Area → Area) (areas : List Area) (area : Area) → find p areas ≡ Some area
    → held_sum (change_first p change areas) + area.held ≡ held_sum areas + (change area).held
sum_changed p change [] area is = absurd (cc)
sum_changed p change (first ∷ areas) area is = elim (cases_Bool (p first)) [
  | inl here ↦
      let found = rw here at is in
      let same : first ≡ area = cc in
      let before = sum_by-cons (λ (a : Area). a.held) first areas in
      let after = sum_by-cons (λ (a : Area). a.held) (change first) areas in
      rw here (omega (arith, before, after, ap (λ (a : Area). a.held) same, ap (λ (a : Area). (change a).held) same))
  | inr there ↦
      let before = sum_by-cons (λ (a : Area). a.held) first areas in
      let after = sum_by-cons (λ (a : Area). a.held) first (change_first p change areas) in
      rw there (omega (arith, before, after, sum_changed p change areas area (rw there at is)))
]

-- nothing changes where none is found
pub none_changed : (p : Area → Bool) (change : Area → Area) (areas : List Area) → find p areas ≡ None → change_first p change areas ≡ areas
none_changed p change [] is = refl
none_changed p change (area ∷ areas) is = elim (cases_Bool (p area)) [
  | inl here ↦ absurd (let found = rw here at is in cc)
  | inr there ↦ rw there (ap (λ (others : List Area). area ∷ others) (none_changed p change areas (rw there at is)))
]
