-- A record of an open transaction that joins its table.
use Rattle.clfs_cells_laws.proofs.Words.{◌≡◌, ℕ, ◌<◌, ◌≤◌, Bool, true, false, refl, sym, subst, ap, ◌∙◌, inl, inr, arith, List, [], ◌∷◌, ◌++◌, length, not}
use Rattle.clfs_cells_laws.proofs.Words.{◌&&◌, ◌==◌, slice_index, slice_set, AllByRecursion, list_any, cases_Bool, eq-eqb, eqb-true, ne_eqb, LogEntry, State}
use Rattle.clfs_cells_laws.proofs.Words.{IsValid, Cursor, Made, Action, Set, Change, TxnRecord, change_to, compensation, IsAction, IsChange, cell_count}
use Rattle.clfs_cells_laws.proofs.Words.{txn_record, Memory, Transaction, holds, is_at, is_holder, is_numbered, standing, with_one_undone, after_action}
use Rattle.clfs_cells_laws.proofs.Words.{changed, committed, first_cells, records_after, AreApart, IsLiveRecord, is_of_cell, value_before, IsInTable, IsOwn}
use Rattle.clfs_cells_laws.proofs.Words.{IsTabled, Keeps}
use Rattle.std.proofs.Common.{◌^◌}
use Rattle.clfs_cells_laws.proofs.Adding.{Added, entry_of, now_of}
use Rattle.clfs_cells_laws.proofs.Changes.{made_holds, new_made, others_stay, with_made, written}
use Rattle.clfs_cells_laws.proofs.Grown.{live_named}
use Rattle.clfs_cells_laws.proofs.OneOf.{Placed, all_join}
use Rattle.clfs_cells_laws.proofs.OwnCalls.{Laws}
use Rattle.clfs_cells_laws.proofs.Stacks.{each, first_before, first_changed, more_before, standing_has, taken_before, taken_holds, undone, with_last}
use Rattle.clfs_cells_laws.proofs.Tabled.{all_in, free_cell, own_as, row_added}
use Rattle.clfs_cells_laws.proofs.TableLog.{row_joins}

-- what is known of the transaction and of the cells once the record is there
pub record Joins (first : List ℕ) (records : List TxnRecord) (t x : Transaction) (action : Action) (cells : List ℕ) : Type 0 where
  pub own : IsOwn x action
  pub fits : IsAction action
  pub is_in : IsInTable (changed first (committed records)) (records ++ txn_record t.number action ∷ []) x
  pub values : (cell : ℕ) → slice_index cells cell < 2 ^ 64

pub keeps_as : (s u : State) (memory now : Memory) (first : List ℕ) (records : List TxnRecord) → first_cells u now.stream ≡ first → records_after u now.stream ≡ records
    → Keeps first records now → IsTabled u now
keeps_as s u memory now first records p q keeps =
    subst (λ (l : List ℕ). Keeps l (records_after u now.stream) now) (sym p) (subst (λ (l : List TxnRecord). Keeps first l now) (sym q) keeps)

pub row_tabled : Laws → (s u : State) (memory : Memory) (cursors : List Cursor) (undo_next : ℕ) (flush : Bool) (lsn : ℕ) (t x : Transaction)
    (transactions : List Transaction) (cells : List ℕ) (action : Action) (at : Placed (is_numbered t.number) memory.transactions t) → IsValid s
    → Added s u memory cursors (entry_of memory cursors t action undo_next flush lsn) → IsTabled s memory → transactions ≡ at.before ++ x ∷ at.after
    → x.number ≡ t.number → cells ≡ after_action memory.cells action → t.number ≤ memory.last → AllByRecursion (AreApart x) (at.before ++ at.after)
    → Joins (first_cells s memory.stream) (records_after s memory.stream) t x action cells → IsLiveRecord u memory.stream lsn
    → IsTabled u (now_of memory transactions cells)
row_tabled laws s u memory cursors undo_next flush lsn t x transactions cells action at valid add keeps are named cells_are low apart joins live =
    let r : TxnRecord = txn_record t.number action in
    let entry : LogEntry = entry_of memory cursors t action undo_next flush lsn in
    let some : 1 ≤ t.number = subst (λ (n : ℕ). 1 ≤ n) named joins.is_in.some in
    let joined = row_joins s u memory.stream entry r valid add.above (live_named u memory.stream lsn add.valid live) add.streams add.records refl refl
    (laws.spelled_row r (record { some = some; txn = let high = keeps.last in omega (arith, low, high); action = joins.fits })) in
    keeps_as s u memory (now_of memory transactions cells) (first_cells s memory.stream) (records_after s memory.stream ++ r ∷ []) joined.0 joined.1
    (row_added (first_cells s memory.stream) (records_after s memory.stream) memory keeps at.before at.after t at.is x r transactions cells are named refl joins.own cells_are low
    joins.values apart joins.is_in)

-- ---- a set

last_holds : (made : List Made) (new : Made) → list_any (is_of_cell new.change.cell) (made ++ new ∷ []) ≡ true
last_holds [] new = rw (eq-eqb new.change.cell new.change.cell refl) refl
last_holds (x ∷ made) new = elim (cases_Bool (is_of_cell new.change.cell x)) [ inl own ↦ rw own refl | inr other ↦ rw other (last_holds made new) ]

still_holds : (made : List Made) (new : Made) (cell : ℕ) → list_any (is_of_cell cell) made ≡ true → list_any (is_of_cell cell) (made ++ new ∷ []) ≡ true
still_holds [] new cell some = absurd (cc some)
still_holds (x ∷ made) new cell some = elim (cases_Bool (is_of_cell cell x)) [
  | inl own ↦ rw own refl
  | inr other ↦ let later : list_any (is_of_cell cell) made ≡ true = rw other at some in rw other (still_holds made new cell later)
]

pub all_free : (before after : List Transaction) (number cell : ℕ) (t : Transaction) → t.number ≡ number → AllByRecursion (AreApart t) (before ++ after)
    → AllByRecursion (λ (x : Transaction). is_holder number cell x ≡ false) (before ++ after) → AllByRecursion (λ (u : Transaction). holds cell u ≡ true → ⊥) (before ++ after)
all_free before after number cell t named apart none = go (before ++ after) apart none
  where
    one : (x : Transaction) → AreApart t x → is_holder number cell x ≡ false → holds cell x ≡ true → ⊥
    one x apart_x is held =
        let differ : (x.number == number) ≡ false = ne_eqb x.number number (λ e. apart_x.numbers (named ∙ sym e)) in
        let so : (not (x.number == number) && holds cell x) ≡ false = is in
        let free : holds cell x ≡ false = rw differ at so in
        let no : true ≡ false = sym held ∙ free in
        cc no

    go : (xs : List Transaction) → AllByRecursion (AreApart t) xs → AllByRecursion (λ (x : Transaction). is_holder number cell x ≡ false) xs
        → AllByRecursion (λ (u : Transaction). holds cell u ≡ true → ⊥) xs
    go [] apart_xs none_xs = tt
    go (x ∷ xs) apart_xs none_xs = (one x apart_xs.0 none_xs.0, go xs apart_xs.1 none_xs.1)

pub set_in_table : (s : State) (memory : Memory) (t : Transaction) (cell value lsn : ℕ) (at : Placed (is_numbered t.number) memory.transactions t) → IsTabled s memory
    → cell < cell_count → length memory.cells ≡ cell_count → value < 2 ^ 64 → AllByRecursion (λ (u : Transaction). holds cell u ≡ true → ⊥) (at.before ++ at.after)
    → Joins (first_cells s memory.stream) (records_after s memory.stream) t (with_made t (change_to memory cell value) lsn) (Set (change_to memory cell value))
    (slice_set memory.cells cell value)
set_in_table s memory t cell value lsn at keeps inside long fits free =
    let first : List ℕ = first_cells s memory.stream in
    let records : List TxnRecord = records_after s memory.stream in
    let in_t = (all_in first records memory keeps at.before at.after t at.is).1 in
    let change : Change = change_to memory cell value in
    let new : Made = new_made t change lsn in
    let is_change : IsChange change = record { cell = inside; old = keeps.values cell; new = fits } in
    let own : holds cell (with_made t change lsn) ≡ true = last_holds t.made new in
    record {
      own = own;
      fits = is_change;
      is_in = record {
        some = in_t.some;
        before = λ other held. before_it in_t other held;
        own = with_last (λ (y : TxnRecord). y.txn ≡ t.number → IsOwn (with_made t change lsn) y.action) records (txn_record t.number (Set change))
            (each (λ (y : TxnRecord). y.txn ≡ t.number → IsOwn t y.action) (λ (y : TxnRecord). y.txn ≡ t.number → IsOwn (with_made t change lsn) y.action) records
            (λ y its e. own_as t (with_made t change lsn) y.action (λ c held. still_holds t.made new c held) (its e)) in_t.own)
            (λ e. own);
        fits = with_last (λ (m : Made). IsChange m.change) t.made new in_t.fits is_change;
      };
      values = λ other. elim (cases_Bool (cell == other)) [
        | inl same ↦ subst (λ (n : ℕ). n < 2 ^ 64) (sym (written memory.cells cell value other (omega (arith, long, inside)) same)) fits
        | inr differ ↦ subst (λ (n : ℕ). n < 2 ^ 64) (sym (others_stay memory.cells cell value other differ)) (keeps.values other)
      ];
    }
  where
    first : List ℕ
    first = first_cells s memory.stream

    -- a cell that the transaction holds only now had the table's value
    newly : (other : ℕ) → cell ≡ other → holds cell t ≡ false
        → slice_index (changed (first_cells s memory.stream) (committed (records_after s memory.stream))) other
        ≡ value_before (t.made ++ new_made t (change_to memory cell value) lsn ∷ []) other
    newly other same not =
        let none = all_join (λ (u : Transaction). holds cell u ≡ true → ⊥) at.before at.after t free (λ held. let no : true ≡ false = sym held ∙ not in cc no) in
        let is = free_cell (first_cells s memory.stream) (records_after s memory.stream) memory keeps cell
        (subst (AllByRecursion (λ (u : Transaction). holds cell u ≡ true → ⊥)) (sym at.is) none) in
        subst (λ (c : ℕ). slice_index (changed (first_cells s memory.stream) (committed (records_after s memory.stream))) c
        ≡ value_before (t.made ++ new_made t (change_to memory cell value) lsn ∷ []) c) same
        (sym is ∙ sym (first_before t.made (new_made t (change_to memory cell value) lsn) not))

    before_it : IsInTable (changed (first_cells s memory.stream) (committed (records_after s memory.stream))) (records_after s memory.stream) t → (other : ℕ)
        → list_any (is_of_cell other) (t.made ++ new_made t (change_to memory cell value) lsn ∷ []) ≡ true
        → slice_index (changed (first_cells s memory.stream) (committed (records_after s memory.stream))) other
        ≡ value_before (t.made ++ new_made t (change_to memory cell value) lsn ∷ []) other
    before_it in_t other held = elim (cases_Bool (list_any (is_of_cell other) t.made)) [
      | inl before ↦ in_t.before other before ∙ sym (more_before t.made (new_made t (change_to memory cell value) lsn) other before)
      | inr not ↦ elim (made_holds t.made (new_made t (change_to memory cell value) lsn) other held) [
        | inl own ↦
            let same : cell ≡ other = eqb-true cell other own in
            newly other same (ap (λ (c : ℕ). list_any (is_of_cell c) t.made) same ∙ not)
        | inr before ↦ let no : true ≡ false = sym before ∙ not in absurd (cc no)
      ]
    ]

-- ---- a set taken back

pub undone_in_table : (s : State) (memory : Memory) (t : Transaction) (made : Made) (older : List Made) (lsn : ℕ) (at : Placed (is_numbered t.number) memory.transactions t)
    → IsTabled s memory → length memory.cells ≡ cell_count → standing t ≡ made ∷ older → holds made.change.cell t ≡ true
    → Joins (first_cells s memory.stream) (records_after s memory.stream) t (with_one_undone made.lsn lsn t) (compensation made)
    (slice_set memory.cells made.change.cell made.change.old)
undone_in_table s memory t made older lsn at keeps long is_top held =
    let first : List ℕ = first_cells s memory.stream in
    let records : List TxnRecord = records_after s memory.stream in
    let in_t = (all_in first records memory keeps at.before at.after t at.is).1 in
    let x : Transaction = with_one_undone made.lsn lsn t in
    let all_fit : AllByRecursion (λ (m : Made). IsChange m.change) (made ∷ older)
    = subst (AllByRecursion (λ (m : Made). IsChange m.change)) is_top (standing_has (λ (m : Made). IsChange m.change) t in_t.fits) in
    let one : IsChange made.change = all_fit.0 in
    let own : holds made.change.cell x ≡ true = taken_holds made.lsn made.change.cell t.made ∙ held in
    record {
      own = own;
      fits = record { cell = one.cell; old = one.new; new = one.old };
      is_in = record {
        some = in_t.some;
        before = λ cell held_x. in_t.before cell (sym (taken_holds made.lsn cell t.made) ∙ held_x) ∙ sym (taken_before made.lsn cell t.made);
        own = with_last (λ (y : TxnRecord). y.txn ≡ t.number → IsOwn x y.action) records (txn_record t.number (compensation made))
            (each (λ (y : TxnRecord). y.txn ≡ t.number → IsOwn t y.action) (λ (y : TxnRecord). y.txn ≡ t.number → IsOwn x y.action) records
            (λ y its e. own_as t x y.action (λ c held_t. taken_holds made.lsn c t.made ∙ held_t) (its e)) in_t.own)
            (λ e. own);
        fits = first_changed (λ (m : Made). IsChange m.change) (is_at made.lsn) undone t.made (λ m fits_m. fits_m) in_t.fits;
      };
      values = λ other. elim (cases_Bool (made.change.cell == other)) [
        | inl same ↦ subst (λ (n : ℕ). n < 2 ^ 64) (sym (written memory.cells made.change.cell made.change.old other (let there = one.cell in omega (arith, long, there)) same)) one.old
        | inr differ ↦ subst (λ (n : ℕ). n < 2 ^ 64) (sym (others_stay memory.cells made.change.cell made.change.old other differ)) (keeps.values other)
      ];
    }
