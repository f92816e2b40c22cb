-- A table that was loaded is a store.
use Rattle.clfs_cells_laws.proofs.Words.{◌≡◌, ℕ, Bool, true, refl, sym, subst, ap, ◌∙◌, inl, inr, List, [], ◌∷◌, length, Option, option_map_or}
use Rattle.clfs_cells_laws.proofs.Words.{AllByRecursion, State, area_of, IsValid, Loaded, LoadStep, load_plan, Plan, CarriesOut, calls, ends, never, Memory}
use Rattle.clfs_cells_laws.proofs.Words.{Transaction, IsLoaded, AllApart, IsKeptStore, IsOpen, IsStore, sectors_held, store_area, TxnRecord, blank_cells}
use Rattle.clfs_cells_laws.proofs.Words.{changed, records_after, table, table_in, AreExclusive, IsInTable, IsTabled, done_by, numbers_of}
use Rattle.std.specs.Prelude.{Some}
use Rattle.clfs_cells.specs.Table.{table_with}
use Rattle.clfs_cells_laws.specs.Tables.{HasNumbers}
use Rattle.clfs_cells_laws.proofs.OwnCalls.{Laws}

-- a plan that was carried out leaves a log that can be
pub carries_valid : {A : Type 0} → Laws → (told : Bool) (client : ℕ) (log : State) (plan : Plan A) (result : A) (t : State) → IsValid log
    → CarriesOut told client log plan result t → IsValid t
carries_valid laws told client log (ends value) result t valid ended = subst IsValid (sym ended.1) valid
carries_valid laws told client log (calls call rest) result t valid (happened, reply, mid, (step, behind)) =
    carries_valid laws told client mid (rest reply) result t (laws.keeps told log client call happened reply mid valid step) behind
carries_valid laws told client log never result t valid none = absurd none

none_done : (records : List TxnRecord) → done_by [] records ≡ []
none_done [] = refl
none_done (r ∷ records) = none_done records

none_exclusive : (records : List TxnRecord) → AreExclusive [] records
none_exclusive [] = tt
none_exclusive (r ∷ records) = ((λ some. absurd (cc some)), none_exclusive records)

pub loaded_table : (log : State) (client : ℕ) (memory : Memory) (t : State) → IsLoaded true log client memory t → HasNumbers memory → IsTabled t memory
loaded_table log client memory t is numbers =
    let R : List TxnRecord = records_after t memory.stream in
    let T : List ℕ = table_in t memory.stream in
    let empty : numbers_of memory.transactions ≡ [] = ap numbers_of is.none in
    let table_is : table t ≡ T = ap (λ (o : Option ℕ). option_map_or (table_in t) o blank_cells) is.stream in
    record {
      cells = is.cells refl ∙ sym is.table ∙ table_is ∙ sym (ap (λ (l : List ℕ). changed T (done_by l R)) empty ∙ ap (changed T) (none_done R));
      open_ones = subst (AllByRecursion (IsInTable T R)) (sym is.none) tt;
      exclusive = subst (λ (l : List ℕ). AreExclusive l R) (sym empty) (none_exclusive R);
      below = is.below refl;
      last = numbers.last;
      values = numbers.values;
    }

pub loaded_store : (tabled told : Bool) (log : State) (client : ℕ) (memory : Memory) (t : State) → IsLoaded told log client memory t → IsValid t
    → (tabled ≡ true → IsTabled t memory) → IsStore tabled t memory
loaded_store tabled told log client memory t is valid table = record {
  valid = valid;
  whole = is.whole;
  stream = is.stream;
  some = is.some;
  area = ap (λ (n : ℕ). area_of t n memory.area) is.by ∙ is.area
      ∙ ap (λ (n : ℕ). Some (record (store_area memory []) { client = n; held = 0 })) (sym is.by)
      ∙ ap (λ (l : List Transaction). Some (record (store_area memory []) { held = sectors_held l })) (sym is.none);
  cells = is.long;
  apart = subst AllApart (sym is.none) tt;
  open_ones = subst (AllByRecursion (IsOpen t memory)) (sym is.none) tt;
  table = table;
}

pub load_valid : Laws → (told : Bool) (log : State) (client : ℕ) (loaded : Loaded) (t : State) → IsValid log → LoadStep told log client loaded t → IsValid t
unfolding LoadStep
load_valid laws told log client loaded t valid step = carries_valid laws told client log (load_plan (length log.records) client) loaded t valid step

-- ---- the cells of a store

pub table_of : {tabled : Bool} → (log : State) (memory : Memory) → IsStore tabled log memory → table log ≡ table_in log memory.stream
table_of log memory store = ap (λ (o : Option ℕ). option_map_or (table_in log) o blank_cells) store.stream

pub by_table : (log : State) (memory : Memory) → IsStore true log memory
    → memory.cells ≡ changed (table log) (done_by (numbers_of memory.transactions) (records_after log memory.stream))
by_table log memory store =
    (store.table refl).cells ∙ ap (λ (l : List ℕ). changed l (done_by (numbers_of memory.transactions) (records_after log memory.stream))) (sym (table_of log memory store))

pub by_its_table : (log : State) (memory : Memory) → IsKeptStore true log memory → memory.cells ≡ table_with log memory.stream (numbers_of memory.transactions)
by_its_table log memory (inl broken) = (broken.table refl).cells
by_its_table log memory (inr store) = (store.table refl).cells

pub at_rest : (log : State) (memory : Memory) → IsStore true log memory → memory.transactions ≡ [] → memory.cells ≡ table log
at_rest log memory store none =
    by_table log memory store
    ∙ ap (λ (l : List Transaction). changed (table log) (done_by (numbers_of l) (records_after log memory.stream))) none
    ∙ ap (changed (table log)) (none_done (records_after log memory.stream))
