-- The cells after records, and records taken out of their order.
use Rattle.clfs_cells_laws.proofs.Words.{◌≡◌, ℕ, Bool, true, false, refl, sym, ap, ◌∙◌, inl, inr, List, [], ◌∷◌, ◌++◌, not, ◌&&◌, ◌||◌, ◌==◌, filter}
use Rattle.clfs_cells_laws.proofs.Words.{slice_index, AllByRecursion, cases_Bool, eq-eqb, append-nil, filter-append, Action, Set, Compensation, Commit}
use Rattle.clfs_cells_laws.proofs.Words.{RolledBack, TxnRecord, after_action, changed, committed, is_commit, is_committed, changes}
use Rattle.std.proofs.Common.{◌≢◌}
use Rattle.std.proofs.lemmas.List.{set_comm}
use Rattle.std.proofs.lemmas.List.Folds.{list_any-append}
use Rattle.clfs_cells_laws.proofs.Changes.{others_stay}

-- ---- one after the other

pub changed_then : (cells : List ℕ) (xs ys : List TxnRecord) → changed cells (xs ++ ys) ≡ changed (changed cells xs) ys
changed_then cells [] ys = refl
changed_then cells (r ∷ xs) ys = changed_then (after_action cells r.action) xs ys

-- a cell that none of them changes
act_leaves : (cells : List ℕ) (action : Action) (cell : ℕ) → changes cell action ≡ false → slice_index (after_action cells action) cell ≡ slice_index cells cell
act_leaves cells (Set change) cell not = others_stay cells change.cell change.new cell not
act_leaves cells (Compensation change) cell not = others_stay cells change.cell change.new cell not
act_leaves cells Commit cell not = refl
act_leaves cells RolledBack cell not = refl

pub untouched : (records : List TxnRecord) (cells : List ℕ) (cell : ℕ) → AllByRecursion (λ (r : TxnRecord). changes cell r.action ≡ false) records
    → slice_index (changed cells records) cell ≡ slice_index cells cell
untouched [] cells cell none = refl
untouched (r ∷ records) cells cell none = untouched records (after_action cells r.action) cell none.1 ∙ act_leaves cells r.action cell none.0

-- ---- two records of different cells, in either order

pub record AreSeparate (a b : Action) : Type 0 where
  pub none : (cell : ℕ) → changes cell a ≡ true → changes cell b ≡ true → ⊥

differ : (c d : ℕ) → ((cell : ℕ) → (c == cell) ≡ true → (d == cell) ≡ true → ⊥) → c ≢ d
differ c d none same = none c (eq-eqb c c refl) (eq-eqb d c (sym same))

swapped : (cells : List ℕ) (a b : Action) → AreSeparate a b → after_action (after_action cells b) a ≡ after_action (after_action cells a) b
swapped cells (Set x) (Set y) apart = set_comm cells y.cell x.cell y.new x.new (λ e. differ x.cell y.cell apart.none (sym e))
swapped cells (Set x) (Compensation y) apart = set_comm cells y.cell x.cell y.new x.new (λ e. differ x.cell y.cell apart.none (sym e))
swapped cells (Compensation x) (Set y) apart = set_comm cells y.cell x.cell y.new x.new (λ e. differ x.cell y.cell apart.none (sym e))
swapped cells (Compensation x) (Compensation y) apart = set_comm cells y.cell x.cell y.new x.new (λ e. differ x.cell y.cell apart.none (sym e))
swapped cells Commit b apart = refl
swapped cells RolledBack b apart = refl
swapped cells a Commit apart = refl
swapped cells a RolledBack apart = refl

-- one before others of which none changes its cell
moved : (cells : List ℕ) (a : Action) (xs : List TxnRecord) → AllByRecursion (λ (x : TxnRecord). AreSeparate a x.action) xs
    → after_action (changed cells xs) a ≡ changed (after_action cells a) xs
moved cells a [] apart = refl
moved cells a (x ∷ xs) apart =
    moved (after_action cells x.action) a xs apart.1 ∙ ap (λ (l : List ℕ). changed l xs) (swapped cells a x.action apart.0)

-- ---- records by tests

abbrev pub Test : Type 0
Test = TxnRecord → Bool

-- no record that passes the second test comes before one of the same cell that passes the first
abbrev pub ComeAfter : (TxnRecord → Bool) → (TxnRecord → Bool) → List TxnRecord → Type 0
ComeAfter p q [] = Unit {0}
ComeAfter p q (r ∷ later) =
    (q r ≡ true → AllByRecursion (λ (x : TxnRecord). p x ≡ true → AreSeparate r.action x.action) later) × ComeAfter p q later

passing : (P : TxnRecord → Type 0) (p : TxnRecord → Bool) (xs : List TxnRecord) → AllByRecursion (λ (x : TxnRecord). p x ≡ true → P x) xs → AllByRecursion P (filter p xs)
passing P p [] all = tt
passing P p (x ∷ xs) all = elim (cases_Bool (p x)) [
  | inl passes ↦ rw passes (all.0 passes, passing P p xs all.1)
  | inr fails ↦ rw fails (passing P p xs all.1)
]

-- those that pass the first test and then those that pass the second do what all of them do in their order
pub split : (p q : TxnRecord → Bool) (records : List TxnRecord) (cells : List ℕ) → ((r : TxnRecord) → p r ≡ true → q r ≡ false) → ComeAfter p q records
    → changed (changed cells (filter p records)) (filter q records) ≡ changed cells (filter (λ (r : TxnRecord). p r || q r) records)
split p q [] cells apart after = refl
split p q (r ∷ records) cells apart after = elim (cases_Bool (p r)) [
  | inl first ↦ let not : q r ≡ false = apart r first in rw (first, not) (split p q records (after_action cells r.action) apart after.1)
  | inr not ↦ elim (cases_Bool (q r)) [
    | inl second ↦
        let free = passing (λ (x : TxnRecord). AreSeparate r.action x.action) p records (after.0 second) in
        rw (not, second)
        (ap (λ (l : List ℕ). changed l (filter q records)) (moved cells r.action (filter p records) free)
        ∙ split p q records (after_action cells r.action) apart after.1)
    | inr neither ↦ rw (not, neither) (split p q records cells apart after.1)
  ]
]

pub same_test : (p q : TxnRecord → Bool) (records : List TxnRecord) → AllByRecursion (λ (r : TxnRecord). p r ≡ q r) records → filter p records ≡ filter q records
same_test p q [] same = refl
same_test p q (r ∷ records) same = elim (cases_Bool (q r)) [
  | inl passes ↦ rw (same.0 ∙ passes, passes) (ap (λ (l : List TxnRecord). r ∷ l) (same_test p q records same.1))
  | inr fails ↦ rw (same.0 ∙ fails, fails) (same_test p q records same.1)
]

pub for_all : (P : TxnRecord → Type 0) (records : List TxnRecord) → ((r : TxnRecord) → P r) → AllByRecursion P records
for_all P [] all = tt
for_all P (r ∷ records) all = (all r, for_all P records all)

-- ---- commits

pub one_more_commit : (records : List TxnRecord) (r : TxnRecord) (txn : ℕ)
    → is_committed (records ++ r ∷ []) txn ≡ (is_committed records txn || (((r.txn == txn) && is_commit r.action) || false))
one_more_commit records r txn = list_any-append (λ (x : TxnRecord). (x.txn == txn) && is_commit x.action) records (r ∷ [])

or_none : (a b : Bool) → b ≡ false → (a || (b || false)) ≡ a
or_none true b none = refl
or_none false b none = rw none refl

no_commit_and : (b : Bool) (action : Action) → is_commit action ≡ false → (b && is_commit action) ≡ false
no_commit_and true action none = none
no_commit_and false action none = refl

-- a record that is no commit
pub same_commits : (records : List TxnRecord) (r : TxnRecord) (txn : ℕ) → is_commit r.action ≡ false → is_committed (records ++ r ∷ []) txn ≡ is_committed records txn
same_commits records r txn none =
    one_more_commit records r txn ∙ or_none (is_committed records txn) ((r.txn == txn) && is_commit r.action) (no_commit_and (r.txn == txn) r.action none)

-- and isn't of a committed transaction
pub same_committed : (records : List TxnRecord) (r : TxnRecord) → is_commit r.action ≡ false → is_committed records r.txn ≡ false
    → committed (records ++ r ∷ []) ≡ committed records
same_committed records r none not =
    let was : TxnRecord → Bool = λ x. is_committed records x.txn in
    let is : TxnRecord → Bool = λ x. is_committed (records ++ r ∷ []) x.txn in
    let last : filter was (r ∷ []) ≡ [] = rw not refl in
    same_test is was (records ++ r ∷ []) (for_all (λ (x : TxnRecord). is x ≡ was x) (records ++ r ∷ []) (λ x. same_commits records r x.txn none))
    ∙ filter-append was records (r ∷ []) ∙ ap (λ (l : List TxnRecord). filter was records ++ l) last ∙ append-nil (filter was records)
