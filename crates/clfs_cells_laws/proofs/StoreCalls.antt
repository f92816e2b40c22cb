-- What a call of the log leaves of a store.
use Rattle.clfs_cells_laws.proofs.Words.{◌≡◌, ℕ, ◌-◌, ◌<◌, ◌≤◌, Bool, true, false, refl, sym, subst, ap, ◌∙◌, inl, inr, arith, List, [], ◌∷◌, ◌++◌, length}
use Rattle.clfs_cells_laws.proofs.Words.{Some, None, not, ◌^◌, ◌&&◌, ◌==◌, find, nat_le, slice_index, slice_set, AllByRecursion, list_any, cases_Bool}
use Rattle.clfs_cells_laws.proofs.Words.{eqb-true, ne_eqb, append-nil, length-set, own, Cursor, LogEntry, Stream, stream_number_from, Area, State}
use Rattle.clfs_cells_laws.proofs.Words.{stream_number, with_broken, change_area, change_first, IsValid, Made, Set, Change, change_to, compensation}
use Rattle.clfs_cells_laws.proofs.Words.{cell_count, Memory, Transaction, holder, holds, is_holder, is_numbered, newest_standing, standing, transaction}
use Rattle.clfs_cells_laws.proofs.Words.{with_one_undone, with_set, with_undone, table_name, AllApart, AreApart, IsBrokenStore, IsInLog, IsLiveRecord, IsOpen}
use Rattle.clfs_cells_laws.proofs.Words.{IsStoreWith, is_of_cell, records_left, sectors_held, store_area, IsTabled, Keeps, TxnRecord, first_cells}
use Rattle.clfs_cells_laws.proofs.Words.{records_after}
use Rattle.clfs_cells_laws.proofs.Changes.{made_holds, new_made, others_stay, set_open, undone_open, undone_standing, with_made}
use Rattle.clfs_cells_laws.proofs.Grown.{Grows, in_log_on, live_on, still_some}
use Rattle.clfs_cells_laws.proofs.Links.{held_less, made_left, some_left, undone_left}
use Rattle.clfs_cells_laws.proofs.OneOf.{Placed, all_join, all_parts, apart_join, apart_parts, change_at, placed}
use Rattle.clfs_cells_laws.proofs.OwnCalls.{KeepsName, Laws, area_after, joined_live}
use Rattle.clfs_cells_laws.proofs.Stacks.{each, first_has, first_passes, taken_holds}
pub use Rattle.clfs_cells_laws.proofs.Adding.{Added, added, append_came, entry_of, grows_by, now_of}
use Rattle.clfs_cells_laws.proofs.TabledRows.{all_free, row_tabled, set_in_table, undone_in_table}
use Rattle.clfs_cells_laws.proofs.TableLog.{reads_as}

pub stream_same : (s u : State) → u.streams ≡ s.streams → stream_number u table_name ≡ stream_number s table_name
stream_same s u same = ap (λ (streams : List Stream). stream_number_from 1 table_name streams) same

-- ---- a transaction that a call doesn't touch

pub open_on : (s u : State) (memory now : Memory) (t : Transaction) → Grows s u → now.stream ≡ memory.stream → memory.last ≤ now.last
    → ((cell : ℕ) → holds cell t ≡ true → slice_index now.cells cell ≡ slice_index memory.cells cell) → IsOpen s memory t → IsOpen u now t
open_on s u memory now t grows stream last same is = record {
  numbered = let low = is.numbered in omega (arith, low, last);
  few = is.few;
  newest = elim is.newest [
    | inl null ↦ inl null
    | inr live ↦ inr (subst (λ (n : ℕ). IsLiveRecord u n t.last) (sym stream) (live_on s u memory.stream t.last grows live))
  ];
  logged = subst (λ (n : ℕ). AllByRecursion (IsInLog u n) t.made) (sym stream)
      (each (IsInLog s memory.stream) (IsInLog u memory.stream) t.made (λ o at. in_log_on s u memory.stream o grows at) is.logged);
  rise = is.rise;
  stacked = is.stacked;
  values = λ cell held. same cell held ∙ is.values cell held;
}

-- one that made no set of a cell that another one did
pub other_on : (s u : State) (memory now : Memory) (x t : Transaction) → Grows s u → now.stream ≡ memory.stream → memory.last ≤ now.last
    → ((cell : ℕ) → holds cell x ≡ false → slice_index now.cells cell ≡ slice_index memory.cells cell) → AreApart x t → IsOpen s memory t → IsOpen u now t
other_on s u memory now x t grows stream last same apart is =
    open_on s u memory now t grows stream last (λ cell held. elim (cases_Bool (holds cell x)) [
      | inl also ↦ absurd (apart.cells cell also held)
      | inr free ↦ same cell free
    ]) is

pub others_on : (s u : State) (memory now : Memory) (x : Transaction) (ts : List Transaction) → Grows s u → now.stream ≡ memory.stream → memory.last ≤ now.last
    → ((cell : ℕ) → holds cell x ≡ false → slice_index now.cells cell ≡ slice_index memory.cells cell) → AllByRecursion (AreApart x) ts
    → AllByRecursion (IsOpen s memory) ts → AllByRecursion (IsOpen u now) ts
others_on s u memory now x [] grows stream last same apart are = tt
others_on s u memory now x (t ∷ ts) grows stream last same apart are =
    (other_on s u memory now x t grows stream last same apart.0 are.0, others_on s u memory now x ts grows stream last same apart.1 are.1)

-- ---- one transaction changed by a record of it

changed_store : {tabled : Bool} → (s u : State) (memory : Memory) (cursors : List Cursor) (entry : LogEntry) (t x : Transaction) (transactions : List Transaction) (cells : List ℕ)
    (at : Placed (is_numbered t.number) memory.transactions t) → IsStoreWith tabled cursors s memory → Added s u memory cursors entry
    → transactions ≡ at.before ++ x ∷ at.after → length cells ≡ cell_count → 1 ≤ records_left t → records_left x ≡ records_left t - 1
    → IsOpen u (now_of memory transactions cells) x → AllByRecursion (AreApart x) (at.before ++ at.after)
    → ((cell : ℕ) → holds cell x ≡ false → slice_index cells cell ≡ slice_index memory.cells cell)
    → (tabled ≡ true → IsTabled u (now_of memory transactions cells)) → IsStoreWith tabled cursors u (now_of memory transactions cells)
changed_store {tabled = tabled} s u memory cursors entry t x transactions cells at store add are long some less open_x apart same table =
    let now : Memory = now_of memory transactions cells in
    let all_open = all_parts (IsOpen s memory) at.before at.after t (subst (AllByRecursion (IsOpen s memory)) at.is store.open_ones) in
    let all_apart = apart_parts at.before at.after t (subst AllApart at.is store.apart) in
    let held : sectors_held transactions ≡ sectors_held memory.transactions - 1
    = ap sectors_held are ∙ held_less at.before at.after t x some less ∙ ap (λ (l : List Transaction). sectors_held l - 1) (sym at.is) in
    record {
      valid = add.valid;
      whole = add.whole;
      stream = stream_same s u add.streams ∙ store.stream;
      some = still_some s u memory.stream (grows_by s u memory cursors entry add) store.some;
      area = add.area ∙ ap (λ (n : ℕ). Some (record (store_area memory cursors) { held = n })) (sym held);
      cells = long;
      table = table;
      apart = subst AllApart (sym are) (apart_join at.before at.after x all_apart.0 apart);
      open_ones = subst (AllByRecursion (IsOpen u now)) (sym are) (all_join (IsOpen u now) at.before at.after x
          (others_on s u memory now x (at.before ++ at.after) (grows_by s u memory cursors entry add) refl (omega arith) same apart all_open.0) open_x);
    }

-- the one that is found is open
pub open_found : {tabled : Bool} → (cursors : List Cursor) (s : State) (memory : Memory) (number : ℕ) (t : Transaction) → IsStoreWith tabled cursors s memory → transaction memory number ≡ Some t
    → IsOpen s memory t
open_found {tabled = tabled} cursors s memory number t store is = first_has (IsOpen s memory) (is_numbered number) memory.transactions t is store.open_ones

pub number_found : (memory : Memory) (number : ℕ) (t : Transaction) → transaction memory number ≡ Some t → t.number ≡ number
number_found memory number t is = eqb-true t.number number (first_passes (is_numbered number) memory.transactions t is)

pub found_by_its : (memory : Memory) (number : ℕ) (t : Transaction) → transaction memory number ≡ Some t → transaction memory t.number ≡ Some t
found_by_its memory number t is = ap (λ (n : ℕ). transaction memory n) (number_found memory number t is) ∙ is

-- ---- a set

none_passes : {X : Type 0} (p : X → Bool) (xs : List X) → find p xs ≡ None → AllByRecursion (λ (x : X). p x ≡ false) xs
none_passes p [] none = tt
none_passes {X = X} p (x ∷ xs) none = elim (cases_Bool (p x)) [
  | inl passes ↦ let found : Some x ≡ None = rw passes at none in absurd (cc found)
  | inr fails ↦ let rest : find p xs ≡ None = rw fails at none in (fails, none_passes p xs rest)
]

-- no other one made a set of the cell
not_holder : (number cell : ℕ) (x : Transaction) → is_holder number cell x ≡ false → (x.number ≡ number → ⊥) → holds cell x ≡ false
not_holder number cell x is other =
    let differ : (x.number == number) ≡ false = ne_eqb x.number number other in
    let so : (not (x.number == number) && holds cell x) ≡ false = is in
    rw differ at so

apart_more : (t : Transaction) (change : Change) (lsn number : ℕ) (xs : List Transaction) → t.number ≡ number → AllByRecursion (AreApart t) xs
    → AllByRecursion (λ (x : Transaction). is_holder number change.cell x ≡ false) xs → AllByRecursion (AreApart (with_made t change lsn)) xs
apart_more t change lsn number [] named apart none = tt
apart_more t change lsn number (x ∷ xs) named apart none = (
  record {
    numbers = apart.0.numbers;
    cells = λ cell held also. elim (made_holds t.made (new_made t change lsn) cell held) [
      | inl own ↦
          let one : change.cell ≡ cell = eqb-true change.cell cell own in
          let free : holds change.cell x ≡ false = not_holder number change.cell x none.0 (λ e. apart.0.numbers (named ∙ sym e)) in
          let both : true ≡ false = sym also ∙ ap (λ (c : ℕ). holds c x) (sym one) ∙ free in cc both
      | inr before ↦ apart.0.cells cell before also
    ];
  },
  apart_more t change lsn number xs named apart.1 none.1,
)

pub set_store : {tabled : Bool} → Laws → (s u : State) (memory : Memory) (cursors : List Cursor) (t : Transaction) (number cell value lsn : ℕ) (flush : Bool) → IsStoreWith tabled cursors s memory
    → transaction memory number ≡ Some t → holder memory number cell ≡ None → nat_le t.changes (length t.made) ≡ false → cell < cell_count → value < 2 ^ 64
    → Added s u memory cursors (entry_of memory cursors t (Set (change_to memory cell value)) (newest_standing t) flush lsn)
    → IsStoreWith tabled cursors u (with_set t (change_to memory cell value) lsn memory)
set_store {tabled = tabled} laws s u memory cursors t number cell value lsn flush store there free room inside fits add =
    let change : Change = change_to memory cell value in
    let x : Transaction = with_made t change lsn in
    let made : Made = new_made t change lsn in
    let entry : LogEntry = entry_of memory cursors t (Set change) (newest_standing t) flush lsn in
    let at = placed (is_numbered t.number) memory.transactions t (found_by_its memory number t there) in
    let f : Transaction → Transaction = λ (y : Transaction). record y { made = y.made ++ made ∷ []; last = lsn } in
    let are : change_first (is_numbered t.number) f memory.transactions ≡ at.before ++ x ∷ at.after
    = ap (λ (l : List Transaction). change_first (is_numbered t.number) f l) at.is ∙ change_at (is_numbered t.number) f at.before at.after t at.none at.here in
    let is_open = open_found cursors s memory number t store there in
    let live = joined_live s u entry store.valid add.above add.records add.streams in
    let apart = apart_parts at.before at.after t (subst AllApart at.is store.apart) in
    let none = all_parts (λ (y : Transaction). is_holder number cell y ≡ false) at.before at.after t
    (subst (AllByRecursion (λ (y : Transaction). is_holder number cell y ≡ false)) at.is (none_passes (is_holder number cell) memory.transactions free)) in
    changed_store s u memory cursors entry t x (change_first (is_numbered t.number) f memory.transactions) (slice_set memory.cells cell value) at store add are
    (length-set memory.cells cell value ∙ store.cells) (some_left t is_open.few) (made_left t change lsn)
    (set_open s u memory (with_set t change lsn memory) t cell value lsn is_open store.valid (grows_by s u memory cursors entry add) room add.above inside store.cells refl refl refl
    live.0 (ap (λ (e : LogEntry). e.undo_next) live.1))
    (apart_more t change lsn number (at.before ++ at.after) (number_found memory number t there) apart.1 none.0)
    (λ other not. others_stay memory.cells cell value other (not_own other not))
    (λ so. row_tabled laws s u memory cursors (newest_standing t) flush lsn t x (change_first (is_numbered t.number) f memory.transactions) (slice_set memory.cells cell value) (Set change) at store.valid add
    (store.table so) are refl refl is_open.numbered
    (apart_more t change lsn number (at.before ++ at.after) (number_found memory number t there) apart.1 none.0)
    (set_in_table s memory t cell value lsn at (store.table so) inside store.cells fits (all_free at.before at.after number cell t (number_found memory number t there) apart.1 none.0)) live.0)
  where
    free_last : (made : List Made) (new : Made) (other : ℕ) → list_any (is_of_cell other) (made ++ new ∷ []) ≡ false → is_of_cell other new ≡ false
    free_last [] new other not = elim (cases_Bool (is_of_cell other new)) [
      | inl own ↦ let some : true ≡ false = rw own at not in absurd (cc some)
      | inr differ ↦ differ
    ]
    free_last (y ∷ made) new other not = elim (cases_Bool (is_of_cell other y)) [
      | inl own ↦ let some : true ≡ false = rw own at not in absurd (cc some)
      | inr differ ↦ let rest : list_any (is_of_cell other) (made ++ new ∷ []) ≡ false = rw differ at not in free_last made new other rest
    ]

    not_own : (other : ℕ) → holds other (with_made t (change_to memory cell value) lsn) ≡ false → (cell == other) ≡ false
    not_own other not = free_last t.made (new_made t (change_to memory cell value) lsn) other not

-- ---- a set taken back

apart_same : (t : Transaction) (lsn at : ℕ) (xs : List Transaction) → AllByRecursion (AreApart t) xs → AllByRecursion (AreApart (with_one_undone lsn at t)) xs
apart_same t lsn at xs all =
    each (AreApart t) (AreApart (with_one_undone lsn at t)) xs
    (λ x apart. record { numbers = apart.numbers; cells = λ cell held also. apart.cells cell (sym (taken_holds lsn cell t.made) ∙ held) also }) all

pub undo_store : {tabled : Bool} → Laws → (s u : State) (memory : Memory) (cursors : List Cursor) (t : Transaction) (made : Made) (older : List Made) (number lsn : ℕ) (flush : Bool)
    → IsStoreWith tabled cursors s memory → transaction memory number ≡ Some t → standing t ≡ made ∷ older → made.change.cell < cell_count → holds made.change.cell t ≡ true
    → Added s u memory cursors (entry_of memory cursors t (compensation made) made.undo_next flush lsn)
    → IsStoreWith tabled cursors u (with_undone t made lsn memory)
undo_store {tabled = tabled} laws s u memory cursors t made older number lsn flush store there is_top inside held add =
    let x : Transaction = with_one_undone made.lsn lsn t in
    let entry : LogEntry = entry_of memory cursors t (compensation made) made.undo_next flush lsn in
    let at = placed (is_numbered t.number) memory.transactions t (found_by_its memory number t there) in
    let are : change_first (is_numbered t.number) (with_one_undone made.lsn lsn) memory.transactions ≡ at.before ++ x ∷ at.after
    = ap (λ (l : List Transaction). change_first (is_numbered t.number) (with_one_undone made.lsn lsn) l) at.is
    ∙ change_at (is_numbered t.number) (with_one_undone made.lsn lsn) at.before at.after t at.none at.here in
    let is_open = open_found cursors s memory number t store there in
    let live = joined_live s u entry store.valid add.above add.records add.streams in
    let apart = apart_parts at.before at.after t (subst AllApart at.is store.apart) in
    let grows = grows_by s u memory cursors entry add in
    let left = undone_standing s u memory (with_undone t made lsn memory) t made older lsn is_open grows is_top inside store.cells refl refl refl live.0 in
    changed_store s u memory cursors entry t x (change_first (is_numbered t.number) (with_one_undone made.lsn lsn) memory.transactions)
    (slice_set memory.cells made.change.cell made.change.old) at store add are
    (length-set memory.cells made.change.cell made.change.old ∙ store.cells) (some_left t is_open.few) (undone_left t made older lsn is_top left)
    (undone_open s u memory (with_undone t made lsn memory) t made older lsn is_open grows is_top inside store.cells refl refl refl live.0)
    (apart_same t made.lsn lsn (at.before ++ at.after) apart.1)
    (λ other not. others_stay memory.cells made.change.cell made.change.old other (not_own other not))
    (λ so. row_tabled laws s u memory cursors made.undo_next flush lsn t x (change_first (is_numbered t.number) (with_one_undone made.lsn lsn) memory.transactions)
    (slice_set memory.cells made.change.cell made.change.old) (compensation made) at store.valid add (store.table so) are refl refl is_open.numbered
    (apart_same t made.lsn lsn (at.before ++ at.after) apart.1)
    (undone_in_table s memory t made older lsn at (store.table so) store.cells is_top held) live.0)
  where
    not_own : (other : ℕ) → holds other (with_one_undone made.lsn lsn t) ≡ false → (made.change.cell == other) ≡ false
    not_own other not = elim (cases_Bool (made.change.cell == other)) [
      | inl own ↦
          let one : made.change.cell ≡ other = eqb-true made.change.cell other own in
          let both : true ≡ false = sym held ∙ sym (taken_holds made.lsn made.change.cell t.made) ∙ ap (λ (c : ℕ). holds c (with_one_undone made.lsn lsn t)) one ∙ not in
          absurd (cc both)
      | inr differ ↦ differ
    ]

-- ---- a call that changes the area alone

pub tabled_on : (s u : State) (memory : Memory) → u.streams ≡ s.streams → u.records ≡ s.records → IsTabled s memory → IsTabled u memory
tabled_on s u memory streams records is =
    let same = reads_as s u memory.stream streams records in
    subst (λ (l : List ℕ). Keeps l (records_after u memory.stream) memory) (sym same.first)
    (subst (λ (l : List TxnRecord). Keeps (first_cells s memory.stream) l memory) (sym same.records) is)

-- the log broke in a call, and neither its records nor its streams have changed
pub broken_store : {tabled : Bool} → (s u : State) (memory : Memory) (cursors : List Cursor) → IsStoreWith tabled cursors s memory → u ≡ with_broken s → IsBrokenStore tabled u memory
broken_store {tabled = tabled} s u memory cursors store is = record {
  broken = ap (λ (x : State). x.broken) is;
  table = λ so. tabled_on s u memory (ap (λ (x : State). x.streams) is) (ap (λ (x : State). x.records) is) (store.table so);
}

pub moved_store : {tabled : Bool} → (s u : State) (memory : Memory) (cursors others : List Cursor) (change : Area → Area) → IsStoreWith tabled cursors s memory → IsValid u → KeepsName change
    → change (store_area memory cursors) ≡ store_area memory others → u ≡ change_area change memory.client memory.area s → IsStoreWith tabled others u memory
moved_store {tabled = tabled} s u memory cursors others change store valid keeps changed is =
    let grows : Grows s u = record { streams = ap (λ (x : State). x.streams) is; more = []; records = ap (λ (x : State). x.records) is ∙ sym (append-nil s.records) } in
    record {
      valid = valid;
      whole = ap (λ (x : State). x.broken) is ∙ store.whole;
      stream = stream_same s u grows.streams ∙ store.stream;
      some = still_some s u memory.stream grows store.some;
      area = area_after s u memory.client memory.area (store_area memory cursors) change keeps store.area (ap (λ (x : State). x.areas) is)
          ∙ ap (λ (a : Area). Some a) changed;
      cells = store.cells;
      table = λ so. tabled_on s u memory grows.streams (ap (λ (x : State). x.records) is) (store.table so);
      apart = store.apart;
      open_ones = each (IsOpen s memory) (IsOpen u memory) memory.transactions (λ t is_open. open_on s u memory memory t grows refl (omega arith) (λ cell held. refl) is_open)
          store.open_ones;
    }
