-- A store's table where a transaction ends: what was committed joins it, and what was rolled back leaves no trace.
use Rattle.clfs_cells_laws.proofs.Words.{◌≡◌, ℕ, ◌≤◌, Bool, true, false, refl, sym, subst, ap, ◌∙◌, inl, inr, List, [], ◌∷◌, ◌++◌, ◌&&◌, ◌||◌, ◌==◌, filter}
use Rattle.clfs_cells_laws.proofs.Words.{slice_index, AllByRecursion, cases_Bool, eq-eqb, eqb-true, filter-append, Action, Set, Compensation, Commit}
use Rattle.clfs_cells_laws.proofs.Words.{RolledBack, TxnRecord, txn_record, Memory, Transaction, holds, changed, committed, is_committed, AreApart}
use Rattle.clfs_cells_laws.proofs.Words.{value_before, AreExclusive, AreOwn, IsInTable, IsOwn, Keeps, changes, done_by, is_among, numbers_of}
use Rattle.std.proofs.lemmas.List.{ext_get_or}
use Rattle.clfs_cells_laws.proofs.OneOf.{all_parts}
use Rattle.clfs_cells_laws.proofs.Records.{changed_long}
use Rattle.clfs_cells_laws.proofs.Rows.{ComeAfter, changed_then, for_all, one_more_commit, same_committed, same_test, split, untouched}
use Rattle.clfs_cells_laws.proofs.Stacks.{each, with_last}
use Rattle.clfs_cells_laws.proofs.Tabled.{among_split, both, come_after, done_same, exclusive_for, exclusive_more, filtered, free_of, is_false}
use Rattle.clfs_cells_laws.proofs.Tabled.{never_committed, not_among, own_holds}

-- ---- what one transaction did

abbrev is_of : ℕ → TxnRecord → Bool
is_of number r = number == r.txn

abbrev is_end : Action → Bool
is_end (Set change) = false
is_end (Compensation change) = false
is_end Commit = true
is_end RolledBack = true

pub or_true : (a : Bool) → (a || true) ≡ true
or_true true = refl
or_true false = refl

pub false_end : (a b : Bool) → (a || ((b && true) || false)) ≡ (a || b)
false_end a true = refl
false_end a false = refl

first_part : (a b : Bool) → (a || b) ≡ true → b ≡ false → a ≡ true
first_part true b is none = refl
first_part false b is none = sym none ∙ is

module _ (first : List ℕ) (records : List TxnRecord) (memory : Memory) (keeps : Keeps first records memory) (before after : List Transaction) (t : Transaction)
    (is : memory.transactions ≡ before ++ t ∷ after) (apart : AllByRecursion (AreApart t) (before ++ after)) where
  abbrev its_test : TxnRecord → Bool
  its_test r = is_of t.number r

  all_in : AllByRecursion (IsInTable (changed first (committed records)) records) (before ++ after) × IsInTable (changed first (committed records)) records t
  all_in = all_parts (IsInTable (changed first (committed records)) records) before after t
      (subst (AllByRecursion (IsInTable (changed first (committed records)) records)) is keeps.open_ones)

  not_its : is_among (numbers_of (before ++ after)) t.number ≡ false
  not_its = not_among t.number (before ++ after) (each (AreApart t) (λ (u : Transaction). t.number ≡ u.number → ⊥) (before ++ after) (λ u a. a.numbers) apart)

  exclusive_all : AreExclusive (numbers_of (before ++ t ∷ after)) records
  exclusive_all = subst (λ (l : List Transaction). AreExclusive (numbers_of l) records) is keeps.exclusive

  among_all : (n : ℕ) → is_among (numbers_of (before ++ after)) n ≡ true → is_among (numbers_of (before ++ t ∷ after)) n ≡ true
  among_all n some = among_split before after t n ∙ ap (λ (b : Bool). (t.number == n) || b) some ∙ or_true (t.number == n)

  -- what all open ones did is what it did and then what the others did
  pub all_done : changed (changed (changed first (committed records)) (filter (is_of t.number) records)) (done_by (numbers_of (before ++ after)) records)
      ≡ memory.cells
  unfolding not_its exclusive_all among_all
  all_done =
      let T : List ℕ = changed first (committed records) in
      let rest : TxnRecord → Bool = λ r. is_among (numbers_of (before ++ after)) r.txn in
      let other : (r : TxnRecord) → is_of t.number r ≡ true → rest r ≡ false
      = λ r own. ap (is_among (numbers_of (before ++ after))) (sym (eqb-true t.number r.txn own)) ∙ not_its in
      let later : ComeAfter (is_of t.number) rest records
      = come_after (numbers_of (before ++ t ∷ after)) (is_of t.number) rest (λ r some. among_all r.txn some)
      (λ r x some own same. let no : true ≡ false = sym some ∙ ap (is_among (numbers_of (before ++ after))) (sym (eqb-true t.number x.txn own ∙ same)) ∙ not_its in cc no)
      records exclusive_all in
      split (is_of t.number) rest records T other later
      ∙ ap (changed T) (same_test (λ (r : TxnRecord). is_of t.number r || rest r) (λ (r : TxnRecord). is_among (numbers_of (before ++ t ∷ after)) r.txn) records
      (for_all (λ (r : TxnRecord). (is_of t.number r || rest r) ≡ is_among (numbers_of (before ++ t ∷ after)) r.txn) records (λ r. sym (among_split before after t r.txn))))
      ∙ ap (λ (l : List Transaction). changed T (done_by (numbers_of l) records)) (sym is) ∙ sym keeps.cells

  -- a cell of which it made no set isn't changed by what it did
  pub its_alone : (cell : ℕ) → (holds cell t ≡ true → ⊥)
      → slice_index (changed (changed first (committed records)) (filter (is_of t.number) records)) cell ≡ slice_index (changed first (committed records)) cell
  unfolding all_in
  its_alone cell free =
      untouched (filter (is_of t.number) records) (changed first (committed records)) cell
      (filtered (λ (r : TxnRecord). changes cell r.action ≡ false) (is_of t.number) records
      (each (λ (r : TxnRecord). r.txn ≡ t.number → IsOwn t r.action) (λ (r : TxnRecord). is_of t.number r ≡ true → changes cell r.action ≡ false) records
      (λ r own its. is_false (changes cell r.action) (λ changed_it. free (own_holds t r.action cell (own (sym (eqb-true t.number r.txn its))) changed_it))) all_in.1.own))

  -- nor one that it holds by what the others did
  pub others_alone : (cells : List ℕ) (cell : ℕ) → holds cell t ≡ true → slice_index (changed cells (done_by (numbers_of (before ++ after)) records)) cell ≡ slice_index cells cell
  unfolding all_in
  others_alone cells cell held =
      untouched (done_by (numbers_of (before ++ after)) records) cells cell
      (free_of (before ++ after) records cell (both (λ (u : Transaction). AreOwn u records) (λ (u : Transaction). holds cell u ≡ true → ⊥) (before ++ after)
      (each (IsInTable (changed first (committed records)) records) (λ (u : Transaction). AreOwn u records) (before ++ after) (λ u in_u. in_u.own) all_in.0)
      (each (AreApart t) (λ (u : Transaction). holds cell u ≡ true → ⊥) (before ++ after) (λ u a also. a.cells cell held also) apart)))

  -- ---- the record of its end

  abbrev end_record : Action → TxnRecord
  end_record action = txn_record t.number action

  others_in : (cells : List ℕ) (r : TxnRecord) → r.txn ≡ t.number → ((cell : ℕ) → (holds cell t ≡ true → ⊥) → slice_index cells cell ≡ slice_index (changed first (committed records)) cell)
      → (us : List Transaction) → AllByRecursion (AreApart t) us → AllByRecursion (IsInTable (changed first (committed records)) records) us
      → AllByRecursion (IsInTable cells (records ++ r ∷ [])) us
  others_in cells r its same [] apart_us in_us = tt
  others_in cells r its same (u ∷ us) apart_us in_us = (
    record {
      some = in_us.0.some;
      before = λ cell held. same cell (λ also. apart_us.0.cells cell also held) ∙ in_us.0.before cell held;
      own = with_last (λ (y : TxnRecord). y.txn ≡ u.number → IsOwn u y.action) records r in_us.0.own (λ e. absurd (apart_us.0.numbers (sym its ∙ e)));
      fits = in_us.0.fits;
    },
    others_in cells r its same us apart_us.1 in_us.1,
  )

  nothing_changed : (action : Action) (cell : ℕ) → is_end action ≡ true → changes cell action ≡ true → ⊥
  nothing_changed (Set change) cell ends is_changed = cc ends
  nothing_changed (Compensation change) cell ends is_changed = cc ends
  nothing_changed Commit cell ends is_changed = cc is_changed
  nothing_changed RolledBack cell ends is_changed = cc is_changed

  still_exclusive : (r : TxnRecord) → is_end r.action ≡ true → AreExclusive (numbers_of (before ++ after)) (records ++ r ∷ [])
  unfolding exclusive_all among_all
  still_exclusive r ends =
      exclusive_more (numbers_of (before ++ after)) records r
      (for_all (λ (x : TxnRecord). is_among (numbers_of (before ++ after)) x.txn ≡ true → (cell : ℕ) → changes cell x.action ≡ true → changes cell r.action ≡ true → r.txn ≡ x.txn)
      records (λ x some cell a b. absurd (nothing_changed r.action cell ends b)))
      (exclusive_for (numbers_of (before ++ t ∷ after)) (numbers_of (before ++ after)) records
      (for_all (λ (x : TxnRecord). is_among (numbers_of (before ++ after)) x.txn ≡ true → is_among (numbers_of (before ++ t ∷ after)) x.txn ≡ true) records
      (λ x some. among_all x.txn some)) exclusive_all)

  -- committed: the table is the cells, changed by what the others did
  pub commit_keeps : (transactions : List Transaction) → transactions ≡ before ++ after → t.number ≤ memory.last
      → Keeps first (records ++ txn_record t.number Commit ∷ []) (record memory { transactions = transactions })
  unfolding not_its exclusive_all all_in all_done
  commit_keeps transactions are low =
      let r : TxnRecord = txn_record t.number Commit in
      let T : List ℕ = changed first (committed records) in
      let was : TxnRecord → Bool = λ x. is_committed records x.txn in
      let now : TxnRecord → Bool = λ x. is_committed (records ++ r ∷ []) x.txn in
      let never : is_committed records t.number ≡ false = never_committed t records all_in.1.own in
      let other : (x : TxnRecord) → was x ≡ true → is_of t.number x ≡ false
      = λ x committed_it. is_false (is_of t.number x) (λ own. let no : true ≡ false = sym committed_it ∙ ap (is_committed records) (sym (eqb-true t.number x.txn own)) ∙ never in cc no) in
      let later : ComeAfter was (is_of t.number) records
      = come_after (numbers_of (before ++ t ∷ after)) was (is_of t.number)
      (λ x own. among_split before after t x.txn ∙ ap (λ (b : Bool). b || is_among (numbers_of (before ++ after)) x.txn) own)
      (λ x y own committed_it same. let no : true ≡ false = sym committed_it ∙ ap (is_committed records) (same ∙ sym (eqb-true t.number x.txn own)) ∙ never in cc no)
      records exclusive_all in
      let both_tests : (x : TxnRecord) → now x ≡ (was x || is_of t.number x)
      = λ x. one_more_commit records r x.txn ∙ false_end (was x) (t.number == x.txn) in
      let committed_is : committed (records ++ r ∷ []) ≡ filter (λ (x : TxnRecord). was x || is_of t.number x) records ++ r ∷ []
      = same_test now (λ (x : TxnRecord). was x || is_of t.number x) (records ++ r ∷ [])
      (for_all (λ (x : TxnRecord). now x ≡ (was x || is_of t.number x)) (records ++ r ∷ []) both_tests)
      ∙ filter-append (λ (x : TxnRecord). was x || is_of t.number x) records (r ∷ [])
      ∙ ap (λ (l : List TxnRecord). filter (λ (x : TxnRecord). was x || is_of t.number x) records ++ l)
      (let last : filter (λ (x : TxnRecord). was x || is_of t.number x) (r ∷ []) ≡ r ∷ [] = rw (eq-eqb t.number t.number refl) (rw (or_true (was r)) refl) in last) in
      let table : changed first (committed (records ++ r ∷ [])) ≡ changed T (filter (is_of t.number) records)
      = ap (changed first) committed_is ∙ changed_then first (filter (λ (x : TxnRecord). was x || is_of t.number x) records) (r ∷ [])
      ∙ sym (split was (is_of t.number) records first other later) in
      let done_is : done_by (numbers_of (before ++ after)) (records ++ r ∷ []) ≡ done_by (numbers_of (before ++ after)) records
      = done_same (numbers_of (before ++ after)) records r not_its in
      record {
        cells = sym (ap (λ (l : List Transaction). changed (changed first (committed (records ++ r ∷ []))) (done_by (numbers_of l) (records ++ r ∷ []))) are
            ∙ ap (λ (l : List ℕ). changed l (done_by (numbers_of (before ++ after)) (records ++ r ∷ []))) table
            ∙ ap (changed (changed T (filter (is_of t.number) records))) done_is ∙ all_done);
        open_ones = subst (AllByRecursion (IsInTable (changed first (committed (records ++ r ∷ []))) (records ++ r ∷ []))) (sym are)
            (others_in (changed first (committed (records ++ r ∷ []))) r refl (λ cell free. ap (λ (l : List ℕ). slice_index l cell) table ∙ its_alone cell free)
            (before ++ after) apart all_in.0);
        exclusive = subst (λ (l : List Transaction). AreExclusive (numbers_of l) (records ++ r ∷ [])) (sym are) (still_exclusive r refl);
        below = with_last (λ (y : TxnRecord). y.txn ≤ memory.last) records r keeps.below low;
        last = keeps.last;
        values = keeps.values;
      }

  -- rolled back: the table is as it was, and so are its cells
  pub rollback_keeps : (transactions : List Transaction) → transactions ≡ before ++ after → t.number ≤ memory.last
      → ((cell : ℕ) → holds cell t ≡ true → slice_index memory.cells cell ≡ value_before t.made cell)
      → Keeps first (records ++ txn_record t.number RolledBack ∷ []) (record memory { transactions = transactions })
  unfolding not_its exclusive_all all_in all_done
  rollback_keeps transactions are low undone =
      let r : TxnRecord = txn_record t.number RolledBack in
      let T : List ℕ = changed first (committed records) in
      let X : List ℕ = changed T (filter (is_of t.number) records) in
      let never : is_committed records t.number ≡ false = never_committed t records all_in.1.own in
      let same : committed (records ++ r ∷ []) ≡ committed records = same_committed records r refl never in
      let table : changed first (committed (records ++ r ∷ [])) ≡ T = ap (changed first) same in
      let done_is : done_by (numbers_of (before ++ after)) (records ++ r ∷ []) ≡ done_by (numbers_of (before ++ after)) records
      = done_same (numbers_of (before ++ after)) records r not_its in
      let no_trace : X ≡ T
      = ext_get_or 0 X T (changed_long (filter (is_of t.number) records) T)
      (λ cell within. elim (cases_Bool (holds cell t)) [
        | inl held ↦ sym (others_alone X cell held) ∙ ap (λ (l : List ℕ). slice_index l cell) all_done ∙ undone cell held ∙ sym (all_in.1.before cell held)
        | inr free ↦ its_alone cell (λ held. let no : true ≡ false = sym held ∙ free in cc no)
      ]) in
      record {
        cells = sym (ap (λ (l : List Transaction). changed (changed first (committed (records ++ r ∷ []))) (done_by (numbers_of l) (records ++ r ∷ []))) are
            ∙ ap (λ (l : List ℕ). changed l (done_by (numbers_of (before ++ after)) (records ++ r ∷ []))) (table ∙ sym no_trace)
            ∙ ap (changed X) done_is ∙ all_done);
        open_ones = subst (AllByRecursion (IsInTable (changed first (committed (records ++ r ∷ []))) (records ++ r ∷ []))) (sym are)
            (others_in (changed first (committed (records ++ r ∷ []))) r refl (λ cell free. ap (λ (l : List ℕ). slice_index l cell) table) (before ++ after) apart all_in.0);
        exclusive = subst (λ (l : List Transaction). AreExclusive (numbers_of l) (records ++ r ∷ [])) (sym are) (still_exclusive r refl);
        below = with_last (λ (y : TxnRecord). y.txn ≤ memory.last) records r keeps.below low;
        last = keeps.last;
        values = keeps.values;
      }
