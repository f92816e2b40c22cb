-- The table of a store's log, as the store knows it, and what a commit makes of it.
use Rattle.clfs_cells_laws.proofs.Words.{◌≡◌, ℕ, Bool, true, false, refl, sym, subst, ap, ◌∙◌, inl, inr, List, [], ◌∷◌, ◌++◌, Option, Some, None, find}
use Rattle.clfs_cells_laws.proofs.Words.{slice_index, AllByRecursion, option_map_or, cases_Bool, State, Memory, Store, Transaction, holds, is_numbered}
use Rattle.clfs_cells_laws.proofs.Words.{without_first, changed, committed, first_cells, records_after, table, table_in, IsCommitted, AllApart, AreApart}
use Rattle.clfs_cells_laws.proofs.Words.{IsStore, value_before, IsInTable}
use Rattle.clfs_cells_laws.specs.Tables.{JoinsTable, settled}
use Rattle.clfs_cells_laws.proofs.FromLoading.{table_of}
use Rattle.clfs_cells_laws.proofs.OneOf.{apart_parts, placed, without_at}
use Rattle.clfs_cells_laws.proofs.Stacks.{each, first_has, first_passes}
use Rattle.clfs_cells_laws.proofs.StoreCalls.{found_by_its, number_found}
use Rattle.clfs_cells_laws.proofs.Tabled.{free_cell}

none_found : (cell : ℕ) (ts : List Transaction) → find (holds cell) ts ≡ None → AllByRecursion (λ (u : Transaction). holds cell u ≡ true → ⊥) ts
none_found cell [] none = tt
none_found cell (t ∷ ts) none = elim (cases_Bool (holds cell t)) [
  | inl held ↦ let found : Some t ≡ None = rw held at none in absurd (cc found)
  | inr free ↦ let rest : find (holds cell) ts ≡ None = rw free at none in ((λ held. let no : true ≡ false = sym held ∙ free in cc no), none_found cell ts rest)
]

pub table_settled : (log : State) (memory : Memory) (cell : ℕ) → IsStore true log memory → slice_index (table log) cell ≡ settled memory cell
table_settled log memory cell store = ap (λ (l : List ℕ). slice_index l cell) (table_of log memory store) ∙ go (find (holds cell) memory.transactions) refl
  where
    go : (o : Option Transaction) → find (holds cell) memory.transactions ≡ o
        → slice_index (table_in log memory.stream) cell ≡ option_map_or (λ (t : Transaction). value_before t.made cell) o (slice_index memory.cells cell)
    go None none = sym (free_cell (first_cells log memory.stream) (records_after log memory.stream) memory (store.table refl) cell (none_found cell memory.transactions none))
    go (Some t) is =
        let in_t = first_has (IsInTable (changed (first_cells log memory.stream) (committed (records_after log memory.stream))) (records_after log memory.stream)) (holds cell)
        memory.transactions t is (store.table refl).open_ones in
        in_t.before cell (first_passes (holds cell) memory.transactions t is)

-- ---- without one that is apart from the others

skips : (p : Transaction → Bool) (before after : List Transaction) (t : Transaction) → p t ≡ false → find p (before ++ t ∷ after) ≡ find p (before ++ after)
skips p [] after t not = rw not refl
skips p (u ∷ before) after t not = elim (cases_Bool (p u)) [ inl here ↦ rw here refl | inr further ↦ rw further (skips p before after t not) ]

none_passes : (p : Transaction → Bool) (ts : List Transaction) → AllByRecursion (λ (u : Transaction). p u ≡ true → ⊥) ts → find p ts ≡ None
none_passes p [] none = refl
none_passes p (u ∷ ts) none = elim (cases_Bool (p u)) [ inl passes ↦ absurd (none.0 passes) | inr fails ↦ rw fails (none_passes p ts none.1) ]

pub commit_joins : (s t : Store) (number : ℕ) → IsStore true s.log s.memory → IsStore true t.log t.memory → IsCommitted number s.memory t.memory → JoinsTable number s t
commit_joins s t number store_s store_t is = record {
  was = is.was;
  there = is.there;
  set = λ cell held. table_settled t.log t.memory cell store_t ∙ alone cell held ∙ ap (λ (l : List ℕ). slice_index l cell) is.cells;
  others = λ cell free. table_settled t.log t.memory cell store_t ∙ same cell free ∙ sym (table_settled s.log s.memory cell store_s);
}
  where
    value : ℕ → Option Transaction → ℕ → ℕ
    value cell o present = option_map_or (λ (u : Transaction). value_before u.made cell) o present

    alone : (cell : ℕ) → holds cell is.was ≡ true → settled t.memory cell ≡ slice_index t.memory.cells cell
    alone cell held =
        let at = placed (is_numbered is.was.number) s.memory.transactions is.was (found_by_its s.memory number is.was is.there) in
        let apart = apart_parts at.before at.after is.was (subst AllApart at.is store_s.apart) in
        let named = number_found s.memory number is.was is.there in
        let left : t.memory.transactions ≡ at.before ++ at.after
        = is.without ∙ ap (λ (n : ℕ). without_first (is_numbered n) s.memory.transactions) (sym named)
        ∙ ap (without_first (is_numbered is.was.number)) at.is ∙ without_at (is_numbered is.was.number) at.before at.after is.was at.none at.here in
        let none : find (holds cell) t.memory.transactions ≡ None
        = ap (find (holds cell)) left ∙ none_passes (holds cell) (at.before ++ at.after)
        (each (AreApart is.was) (λ (u : Transaction). holds cell u ≡ true → ⊥) (at.before ++ at.after) (λ u a also. a.cells cell held also) apart.1) in
        ap (λ (o : Option Transaction). option_map_or (λ (u : Transaction). value_before u.made cell) o (slice_index t.memory.cells cell)) none

    same : (cell : ℕ) → holds cell is.was ≡ false → settled t.memory cell ≡ settled s.memory cell
    same cell free =
        let at = placed (is_numbered is.was.number) s.memory.transactions is.was (found_by_its s.memory number is.was is.there) in
        let named = number_found s.memory number is.was is.there in
        let left : t.memory.transactions ≡ at.before ++ at.after
        = is.without ∙ ap (λ (n : ℕ). without_first (is_numbered n) s.memory.transactions) (sym named)
        ∙ ap (without_first (is_numbered is.was.number)) at.is ∙ without_at (is_numbered is.was.number) at.before at.after is.was at.none at.here in
        let found : find (holds cell) t.memory.transactions ≡ find (holds cell) s.memory.transactions
        = ap (find (holds cell)) left ∙ sym (skips (holds cell) at.before at.after is.was free) ∙ ap (find (holds cell)) (sym at.is) in
        ap (λ (o : Option Transaction). option_map_or (λ (u : Transaction). value_before u.made cell) o (slice_index t.memory.cells cell)) found
        ∙ ap (λ (l : List ℕ). option_map_or (λ (u : Transaction). value_before u.made cell) (find (holds cell) s.memory.transactions) (slice_index l cell)) is.cells
