-- Each call changes the rows of areas by its reply alone.
use Rattle.clfs_laws.proofs.Words.{◌≡◌, ℕ, ◌+◌, ◌-◌, Bool, true, false, refl, sym, ap, ◌∙◌, inl, inr, arith, List, [], ◌∷◌, length, Option, Some, None, ◌==◌}
use Rattle.clfs_laws.proofs.Words.{nat_lt, if◌then◌else◌, option_map, option_map_or, cases_Bool, own, joins, begins_here, LogEntry, Call, State, Area}
use Rattle.clfs_laws.proofs.Words.{area_of, is_area, change_first, own_sum, grown, grown_if, seal, flush, put, spend_if, hold_sizes, seal_if, flush_if}
use Rattle.clfs_laws.proofs.Words.{spent_of, with_less_held, with_more_held, Outcome, outcome, AreaRow, row_of, row_after, changed_where, with_changed_held}
use Rattle.clfs_model.specs.declared.refusal.Refusal.TheVariants as refusals
use Rattle.clfs_model.specs.declared.reply.Reply.TheVariants as replies
use Rattle.clfs_laws.proofs.RowChanges.{row_among, area_named, Changes, own_row, others_row}

-- an outcome that changes the rows of the client by the reply alone, and those of no other client
pub record ChangesRows (s : State) (client : ℕ) (call : Call) (o : Outcome) : Type 0 where
  pub own : (number : ℕ) → row_among o.state.areas client number ≡ row_after number (row_among s.areas client number) call o.reply
  pub others : (of_client number : ℕ) → (of_client == client) ≡ false → row_among o.state.areas of_client number ≡ row_among s.areas of_client number

-- no area changes
pub rows_kept : (s : State) (client : ℕ) (call : Call) (o : Outcome) → o.state.areas ≡ s.areas
    → ((number : ℕ) (row : Option AreaRow) → row_after number row call o.reply ≡ row) → ChangesRows s client call o
rows_kept s client call o same kept = record {
  own = λ number. ap (λ (areas : List Area). row_among areas client number) same ∙ sym (kept number (row_among s.areas client number));
  others = λ of_client number differ. ap (λ (areas : List Area). row_among areas of_client number) same;
}

-- one area of the client changes
pub row_changed : (s : State) (client number : ℕ) (call : Call) (o : Outcome) (change : Area → Area) (on_row : AreaRow → AreaRow) → Changes change on_row
    → o.state.areas ≡ change_first (is_area client number) change s.areas
    → ((other : ℕ) → row_after other (row_among s.areas client other) call o.reply ≡ changed_where (number == other) on_row (row_among s.areas client other))
    → ChangesRows s client call o
row_changed s client number call o change on_row changes same after = record {
  own = λ other. ap (λ (areas : List Area). row_among areas client other) same
      ∙ own_row change on_row changes s.areas client number other ∙ sym (after other);
  others = λ of_client other differ. ap (λ (areas : List Area). row_among areas of_client other) same
      ∙ others_row change changes.name s.areas client number of_client other differ;
}

-- one area of the client changes, but not its row
pub cursor_changed : (s : State) (client number : ℕ) (call : Call) (o : Outcome) (change : Area → Area) → Changes change (λ row. row)
    → o.state.areas ≡ change_first (is_area client number) change s.areas
    → ((other : ℕ) (row : Option AreaRow) → row_after other row call o.reply ≡ row) → ChangesRows s client call o
cursor_changed s client number call o change changes same kept =
    row_changed s client number call o change (λ row. row) changes same
    (λ other. kept other (row_among s.areas client other) ∙ unchanged (number == other) (row_among s.areas client other))
  where
    of_row : (row : Option AreaRow) → row ≡ option_map (λ r. r) row
    of_row None = refl
    of_row (Some row) = refl

    unchanged : (named : Bool) (row : Option AreaRow) → row ≡ changed_where named (λ r. r) row
    unchanged true row = of_row row
    unchanged false row = refl

-- the areas of a log that is sealed, flushed, grown or made ready
pub seal_areas : (s : State) → (seal s).areas ≡ s.areas
seal_areas s = elim (cases_Bool (nat_lt 0 s.place.records)) [ inl some ↦ rw some refl | inr none ↦ rw none refl ]

pub seal_if_areas : (asked : Bool) (s : State) → (seal_if asked s).areas ≡ s.areas
seal_if_areas true s = seal_areas s
seal_if_areas false s = refl

pub flush_if_areas : (asked : Bool) (s : State) → (flush_if asked s).areas ≡ s.areas
flush_if_areas true s = seal_areas s
flush_if_areas false s = refl

grown_if_areas : (test : Bool) (s : State) (wanted : ℕ) → (grown_if test s wanted).areas ≡ s.areas
grown_if_areas true s wanted = refl
grown_if_areas false s wanted = refl

pub grown_areas : (s : State) (need : ℕ) → (grown s need).areas ≡ s.areas
unfolding grown
grown_areas s need = grown_if_areas _ s _

ready_by : (s : State) (a b : Bool) → (if a then s else if b then seal s else flush s).areas ≡ s.areas
ready_by s true b = refl
ready_by s false true = seal_areas s
ready_by s false false = seal_areas s

pub put_areas : (s : State) (entry : LogEntry) → (put s entry).areas ≡ s.areas
put_areas s entry = ready_by s (joins s.shape s.place (length entry.bytes)) (begins_here s.shape s.place (length entry.bytes))

-- what an append and a restart area do to areas
pub joined_areas : (s : State) (need : ℕ) (entry : LogEntry) → (put (grown s need) entry).areas ≡ s.areas
joined_areas s need entry = put_areas (grown s need) entry ∙ grown_areas s need

-- an area that spends so much and holds so much more
abbrev pub with_spent : Bool → ℕ → List ℕ → Area → Area
with_spent false n [] area = area
with_spent true n [] area = with_less_held (own n) area
with_spent false n (size ∷ sizes) area = with_more_held (own_sum (size ∷ sizes)) area
with_spent true n (size ∷ sizes) area = with_more_held (own_sum (size ∷ sizes)) (with_less_held (own n) area)

held_is : (area : Area) (a b : ℕ) → a ≡ b → record (row_of area) { held = a } ≡ record (row_of area) { held = b }
held_is area a b same = ap (λ h. record (row_of area) { held = h }) same

pub spent_changes : (is_reserved : Bool) (n : ℕ) (sizes : List ℕ) → Changes (with_spent is_reserved n sizes) (with_changed_held (spent_of is_reserved n) (own_sum sizes))
spent_changes false n [] = record {
  name = record { client = λ area. refl; number = λ area. refl };
  row = λ area. held_is area area.held (area.held - 0 + 0) (omega arith);
}
spent_changes true n [] = record {
  name = record { client = λ area. refl; number = λ area. refl };
  row = λ area. held_is area (area.held - own n) (area.held - own n + 0) (omega arith);
}
spent_changes false n (size ∷ sizes) = record {
  name = record { client = λ area. refl; number = λ area. refl };
  row = λ area. held_is area (area.held + own_sum (size ∷ sizes)) (area.held - 0 + own_sum (size ∷ sizes)) (omega arith);
}
spent_changes true n (size ∷ sizes) = record {
  name = record { client = λ area. refl; number = λ area. refl };
  row = λ area. refl;
}

-- a change that changes nothing
change_nothing : (p : Area → Bool) (areas : List Area) → change_first p (λ area. area) areas ≡ areas
change_nothing p [] = refl
change_nothing p (area ∷ areas) = elim (cases_Bool (p area)) [
  | inl here ↦ rw here refl
  | inr there ↦ rw there (ap (λ (others : List Area). area ∷ others) (change_nothing p areas))
]

-- one change after another
change_twice : (p : Area → Bool) (first second : Area → Area) → ((area : Area) → p (first area) ≡ p area) → (areas : List Area)
    → change_first p second (change_first p first areas) ≡ change_first p (λ area. second (first area)) areas
change_twice p first second same [] = refl
change_twice p first second same (area ∷ areas) = elim (cases_Bool (p area)) [
  | inl here ↦ rw (here, same area ∙ here) refl
  | inr there ↦ rw there (rw there (ap (λ (others : List Area). area ∷ others) (change_twice p first second same areas)))
]

pub spent_areas : (area : Area) (is_reserved : Bool) (n : ℕ) (sizes : List ℕ) (s : State)
    → (hold_sizes area sizes (spend_if is_reserved area n s)).areas ≡ change_first (is_area area.client area.number) (with_spent is_reserved n sizes) s.areas
spent_areas area false n [] s = sym (change_nothing (is_area area.client area.number) s.areas)
spent_areas area true n [] s = refl
spent_areas area false n (size ∷ sizes) s = refl
spent_areas area true n (size ∷ sizes) s =
    change_twice (is_area area.client area.number) (with_less_held (own n)) (with_more_held (own_sum (size ∷ sizes))) (λ a. refl) s.areas

-- a call in an area that isn't there leaves all as it is, and is refused
no_area : (s : State) (client : ℕ) (call : Call) → ((number : ℕ) (row : Option AreaRow) → row_after number row call (replies.Refused refusals.NoSuchArea) ≡ row)
    → ChangesRows s client call (outcome (replies.Refused refusals.NoSuchArea) s)
no_area s client call kept = rows_kept s client call (outcome (replies.Refused refusals.NoSuchArea) s) refl kept

-- a call in an area
pub in_the_area : (s : State) (client number : ℕ) (call : Call) (rest : Area → Outcome) (found : Option Area) → area_of s client number ≡ found
    → ((given : ℕ) (row : Option AreaRow) → row_after given row call (replies.Refused refusals.NoSuchArea) ≡ row)
    → ((area : Area) → area_of s client number ≡ Some area → ChangesRows s client call (rest area))
    → ChangesRows s client call (option_map_or rest found (outcome (replies.Refused refusals.NoSuchArea) s))
in_the_area s client number call rest None is kept each = no_area s client call kept
in_the_area s client number call rest (Some area) is kept each = each area is

-- a change of the area of a call, named by the area itself
pub named_change : (s : State) (client number : ℕ) (area : Area) (change : Area → Area) → area_of s client number ≡ Some area
    → change_first (is_area area.client area.number) change s.areas ≡ change_first (is_area client number) change s.areas
named_change s client number area change is =
    let name = area_named client number s.areas area is in
    ap (λ c. change_first (is_area c area.number) change s.areas) name.0 ∙ ap (λ n. change_first (is_area client n) change s.areas) name.1

-- a change of cursors alone
pub cursors_change : (change : Area → Area) → ((area : Area) → (change area).client ≡ area.client) → ((area : Area) → (change area).number ≡ area.number)
    → ((area : Area) → row_of (change area) ≡ row_of area) → Changes change (λ row. row)
cursors_change change client number row = record { name = record { client = client; number = number }; row = row }
