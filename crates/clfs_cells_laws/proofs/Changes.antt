-- An open transaction after a further set, and after its newest one that stands is taken back.
use Rattle.clfs_cells_laws.proofs.Words.{◌≡◌, ◌⊎◌, ℕ, ◌+◌, ◌<◌, ◌≤◌, true, false, refl, sym, subst, ap, ◌∙◌, inl, inr, arith, List, [], ◌∷◌, ◌++◌, length}
use Rattle.clfs_cells_laws.proofs.Words.{not, ◌==◌, nat_le, slice_index, slice_set, AllByRecursion, list_any, cases_Bool, eqb-true, eq-eqb, leb-false}
use Rattle.clfs_cells_laws.proofs.Words.{frontier, State, IsValid, Made, Change, change_to, cell_count, Memory, Transaction, is_at, newest_standing, standing}
use Rattle.clfs_cells_laws.proofs.Words.{with_one_undone, AreStacked, IsInLog, IsLiveRecord, IsOpen, is_of_cell, value_before, value_by}
use Rattle.std.proofs.lemmas.List.{get_or-set_same, get_or-set_other}
use Rattle.clfs_cells_laws.proofs.Grown.{Grows, in_log_on, live_below}
use Rattle.clfs_cells_laws.proofs.Stacks.{each, each_held, first_before, first_changed, left_standing, more_before, more_rise, more_standing, none_by}
use Rattle.clfs_cells_laws.proofs.Stacks.{none_held, stacked_as, standing_has, taken_back, taken_before, taken_holds, taken_length, taken_rise, undone}
use Rattle.clfs_cells_laws.proofs.Stacks.{with_last}

-- ---- cells

pub written : (cells : List ℕ) (cell value other : ℕ) → cell < length cells → (cell == other) ≡ true → slice_index (slice_set cells cell value) other ≡ value
written cells cell value other inside same =
    let one : cell ≡ other = eqb-true cell other same in
    subst (λ (n : ℕ). slice_index (slice_set cells cell value) n ≡ value) one (get_or-set_same cells cell value 0 inside)

pub others_stay : (cells : List ℕ) (cell value other : ℕ) → (cell == other) ≡ false → slice_index (slice_set cells cell value) other ≡ slice_index cells other
others_stay cells cell value other differ =
    get_or-set_other cells cell other value 0 (λ e. let same : (cell == other) ≡ true = eq-eqb cell other (sym e) in let both : true ≡ false = sym same ∙ differ in cc both)

-- ---- a further set

abbrev pub new_made : Transaction → Change → ℕ → Made
new_made t change lsn = record { lsn = lsn; undo_next = newest_standing t; change = change; undone = false }

abbrev pub with_made : Transaction → Change → ℕ → Transaction
with_made t change lsn = record t { made = t.made ++ new_made t change lsn ∷ []; last = lsn }

more_held : (made : List Made) (new : Made) (cell : ℕ) → is_of_cell cell new ≡ false → list_any (is_of_cell cell) (made ++ new ∷ []) ≡ true
    → list_any (is_of_cell cell) made ≡ true
more_held [] new cell other some = let none : false ≡ true = rw other at some in absurd (cc none)
more_held (x ∷ made) new cell other some = elim (cases_Bool (is_of_cell cell x)) [
  | inl own ↦ rw own refl
  | inr not ↦ let later : list_any (is_of_cell cell) (made ++ new ∷ []) ≡ true = rw not at some in rw not (more_held made new cell other later)
]

pub made_holds : (made : List Made) (new : Made) (cell : ℕ) → list_any (is_of_cell cell) (made ++ new ∷ []) ≡ true
    → (is_of_cell cell new ≡ true) ⊎ (list_any (is_of_cell cell) made ≡ true)
made_holds made new cell some = elim (cases_Bool (is_of_cell cell new)) [
  | inl own ↦ inl own
  | inr other ↦ inr (more_held made new cell other some)
]

module _ (s u : State) (memory now : Memory) (t : Transaction) (cell value lsn : ℕ) (open_one : IsOpen s memory t) (valid : IsValid s) (grows : Grows s u)
    (room : nat_le t.changes (length t.made) ≡ false) (above : frontier s.place ≤ lsn) (there : cell < cell_count) (long : length memory.cells ≡ cell_count)
    (same_stream : now.stream ≡ memory.stream) (same_last : now.last ≡ memory.last) (cells_are : now.cells ≡ slice_set memory.cells cell value)
    (at : IsLiveRecord u memory.stream lsn) (linked : at.entry.undo_next ≡ newest_standing t) where
  new : Made
  new = new_made t (change_to memory cell value) lsn

  below : AllByRecursion (λ (o : Made). o.lsn < lsn) t.made
  below = each (IsInLog s memory.stream) (λ (o : Made). o.lsn < lsn) t.made
      (λ o is. let low = live_below s memory.stream o.lsn valid is.at in omega (arith, low, above)) open_one.logged

  -- the value that the set found
  found : (change_to memory cell value).old ≡ value_by (value_before (t.made ++ new ∷ []) cell) cell (standing t)
  unfolding new
  found = elim (cases_Bool (list_any (is_of_cell cell) t.made)) [
    | inl held ↦ open_one.values cell held ∙ ap (λ (v : ℕ). value_by v cell (standing t)) (sym (more_before t.made new cell held))
    | inr free ↦
        sym (none_by (value_before (t.made ++ new ∷ []) cell) cell (standing t) (standing_has (λ (o : Made). is_of_cell cell o ≡ false) t (none_held cell t.made free))
        ∙ first_before t.made new free)
  ]

  stack : AreStacked (value_before (t.made ++ new ∷ [])) (new ∷ standing t)
  unfolding new
  stack = (
    refl,
    found,
    stacked_as (value_before t.made) (value_before (t.made ++ new ∷ [])) (standing t)
        (standing_has (λ (o : Made). value_before t.made o.change.cell ≡ value_before (t.made ++ new ∷ []) o.change.cell) t
        (each (λ (o : Made). list_any (is_of_cell o.change.cell) t.made ≡ true)
        (λ (o : Made). value_before t.made o.change.cell ≡ value_before (t.made ++ new ∷ []) o.change.cell) t.made
        (λ o held. sym (more_before t.made new o.change.cell held)) (each_held t.made)))
        open_one.stacked,
  )

  stand : standing (with_made t (change_to memory cell value) lsn) ≡ new ∷ standing t
  unfolding new
  stand = more_standing t new (t.made ++ new ∷ []) refl refl

  of_cell : (other : ℕ) → list_any (is_of_cell other) (t.made ++ new ∷ []) ≡ true
      → slice_index (slice_set memory.cells cell value) other ≡ value_by (value_before (t.made ++ new ∷ []) other) other (new ∷ standing t)
  unfolding new
  of_cell other held = elim (cases_Bool (is_of_cell other new)) [
    | inl own ↦ rw own (written memory.cells cell value other (omega (arith, there, long)) own)
    | inr not ↦
        let before : list_any (is_of_cell other) t.made ≡ true = more_held t.made new other not held in
        rw not (others_stay memory.cells cell value other not ∙ open_one.values other before
        ∙ ap (λ (v : ℕ). value_by v other (standing t)) (sym (more_before t.made new other before)))
  ]

  pub set_open : IsOpen u now (with_made t (change_to memory cell value) lsn)
  unfolding new
  set_open = record {
    numbered = subst (λ (n : ℕ). t.number ≤ n) (sym same_last) open_one.numbered;
    few = let less = leb-false t.changes (length t.made) room in omega (arith, less, length_more t.made new);
    newest = inr (subst (λ (n : ℕ). IsLiveRecord u n lsn) (sym same_stream) at);
    logged = subst (λ (n : ℕ). AllByRecursion (IsInLog u n) (t.made ++ new ∷ [])) (sym same_stream)
        (with_last (IsInLog u memory.stream) t.made new (each (IsInLog s memory.stream) (IsInLog u memory.stream) t.made (λ o is. in_log_on s u memory.stream o grows is) open_one.logged)
        (record { at = at; linked = linked; cell = there }));
    rise = more_rise t.made new open_one.rise below;
    stacked = subst (λ (l : List Made). AreStacked (value_before (t.made ++ new ∷ [])) l) (sym stand) stack;
    values = λ other held.
        ap (λ (l : List ℕ). slice_index l other) cells_are ∙ of_cell other held
        ∙ ap (λ (l : List Made). value_by (value_before (t.made ++ new ∷ []) other) other l) (sym stand);
  }
    where
      length_more : (xs : List Made) (x : Made) → length (xs ++ x ∷ []) ≡ length xs + 1
      length_more [] x = refl
      length_more (y ∷ xs) x = let rest = length_more xs x in omega (arith, rest)

-- ---- the newest set that stands, taken back

module _ (s u : State) (memory now : Memory) (t : Transaction) (made : Made) (older : List Made) (lsn : ℕ) (open_one : IsOpen s memory t) (grows : Grows s u)
    (is_top : standing t ≡ made ∷ older) (cell_there : made.change.cell < cell_count) (long : length memory.cells ≡ cell_count)
    (same_stream : now.stream ≡ memory.stream) (same_last : now.last ≡ memory.last) (cells_are : now.cells ≡ slice_set memory.cells made.change.cell made.change.old)
    (at : IsLiveRecord u memory.stream lsn) where
  stacks : AreStacked (value_before t.made) (made ∷ older)
  stacks = subst (λ (l : List Made). AreStacked (value_before t.made) l) is_top open_one.stacked

  pub undone_standing : standing (with_one_undone made.lsn lsn t) ≡ older
  undone_standing = left_standing t made older open_one.rise is_top

  before_same : (cell : ℕ) → value_before t.made cell ≡ value_before (taken_back made.lsn t.made) cell
  before_same cell = sym (taken_before made.lsn cell t.made)

  all_same : (xs : List Made) → AllByRecursion (λ (o : Made). value_before t.made o.change.cell ≡ value_before (taken_back made.lsn t.made) o.change.cell) xs
  all_same [] = tt
  all_same (x ∷ xs) = (before_same x.change.cell, all_same xs)

  left : (other : ℕ) → list_any (is_of_cell other) t.made ≡ true
      → slice_index (slice_set memory.cells made.change.cell made.change.old) other ≡ value_by (value_before t.made other) other older
  left other held = elim (cases_Bool (is_of_cell other made)) [
    | inl own ↦
        let one : made.change.cell ≡ other = eqb-true made.change.cell other own in
        written memory.cells made.change.cell made.change.old other (omega (arith, cell_there, long)) own ∙ stacks.1
        ∙ ap (λ (c : ℕ). value_by (value_before t.made c) c older) one
    | inr not ↦
        let under : value_by (value_before t.made other) other (made ∷ older) ≡ value_by (value_before t.made other) other older = rw not refl in
        others_stay memory.cells made.change.cell made.change.old other not ∙ open_one.values other held
        ∙ ap (λ (l : List Made). value_by (value_before t.made other) other l) is_top ∙ under
  ]

  pub undone_open : IsOpen u now (with_one_undone made.lsn lsn t)
  undone_open = record {
    numbered = subst (λ (n : ℕ). t.number ≤ n) (sym same_last) open_one.numbered;
    few = let few = open_one.few in let long = taken_length made.lsn t.made in omega (arith, few, long);
    newest = inr (subst (λ (n : ℕ). IsLiveRecord u n lsn) (sym same_stream) at);
    logged = subst (λ (n : ℕ). AllByRecursion (IsInLog u n) (taken_back made.lsn t.made)) (sym same_stream)
        (first_changed (IsInLog u memory.stream) (is_at made.lsn) undone t.made (λ o is. record { at = is.at; linked = is.linked; cell = is.cell })
        (each (IsInLog s memory.stream) (IsInLog u memory.stream) t.made (λ o is. in_log_on s u memory.stream o grows is) open_one.logged));
    rise = taken_rise made.lsn t.made open_one.rise;
    stacked = subst (λ (l : List Made). AreStacked (value_before (taken_back made.lsn t.made)) l) (sym undone_standing)
        (stacked_as (value_before t.made) (value_before (taken_back made.lsn t.made)) older (all_same older) stacks.2);
    values = λ other held.
        ap (λ (l : List ℕ). slice_index l other) cells_are
        ∙ left other (sym (taken_holds made.lsn other t.made) ∙ held)
        ∙ ap (λ (v : ℕ). value_by v other older) (before_same other)
        ∙ ap (λ (l : List Made). value_by (value_before (taken_back made.lsn t.made) other) other l) (sym undone_standing);
  }
